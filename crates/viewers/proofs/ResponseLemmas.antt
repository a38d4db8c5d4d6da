-- A whole answer, as written, is read back as one response.
use Rattle.std.proofs.Common.{◌≡◌, ℕ, ◌<◌, ◌^◌, List, [], ◌∷◌, ◌++◌, length, Result, Ok, Err, None, sym, refl, ap, ◌∙◌, subst}
use Rattle.std.proofs.lemmas.List.{append-nil, append_assoc}
use Rattle.http1.specs.declared.framing.Framing.{Framing}
use Rattle.http1.specs.declared.framing.Framing.TheVariants as Framed
use Rattle.http1.specs.declared.error.WriteError.{WriteError}
use Rattle.http1.specs.declared.conn.BodySize.{BodySize}
use Rattle.http1.specs.declared.server.Server.{Server}
use Rattle.http1.specs.Body.{body_of}
use Rattle.http1.specs.Fields.{Header}
use Rattle.http1.specs.Head.{is_status_line, response_head, response_text}
use Rattle.http1.specs.Message.{ReadsResponseMessage}
use Rattle.http1.specs.Conn.{Plan, after_data, data_refusal, data_text, finish_refusal, finish_text, plan_refusal, planned_headers}
use Rattle.http1.specs.Server.{after_response, planned_response, responding, response_plan, response_refusal, writing}
use Rattle.http1.proofs.BodyRoundTrip.{MayFollow}
use Rattle.http1.proofs.MessageRoundTrip.{response_round_trip}
use Rattle.viewers.specs.Responses.{IsResponse}

nothing_follows : (framing : Framing) → MayFollow framing []
nothing_follows Framed.NoBody = tt
nothing_follows (Framed.Length n) = tt
nothing_follows Framed.Chunked = tt
nothing_follows Framed.UntilClose = refl

module _ (s : Server) (status : ℕ) (reason : List ℕ) (size : BodySize) (fields : List Header) (text : List ℕ) where
  -- by the plan of its head
  pub reads_back :
      (plan : Result Plan WriteError)
      → response_plan s status size fields ≡ plan
      → plan_refusal plan (is_status_line s.request.minor status reason) fields ≡ None
      → data_refusal (writing (responding s plan)) (length text) ≡ None
      → finish_refusal (after_data (writing (responding s plan)) (length text)) [] ≡ None
      → length text < 2 ^ 64
      → IsResponse s status reason fields text
      (response_text s.request.minor status reason (planned_headers plan fields)
      ++ data_text (writing (responding s plan)) text
      ++ finish_text (after_data (writing (responding s plan)) (length text)) [])
  reads_back (Ok p) planned valid fits ends short = record {
    added = p.extra;
    reads = λ limits heads trailers.
        let front = response_text s.request.minor status reason (fields ++ p.extra) in
        let head = response_head s.request.minor status reason (fields ++ p.extra) in
        let piece = data_text (writing (responding s (Ok p))) text in
        let ending = finish_text (after_data (writing (responding s (Ok p))) (length text)) [] in
        let follows = nothing_follows p.framing in
        let back =
        response_round_trip limits size fields p (text ∷ []) [] [] (short, fits, ends) trailers follows s status reason planned
        valid heads in
        let bytes : front ++ (piece ++ ending ++ []) ≡ front ++ piece ++ ending =
        ap (λ x. front ++ x) (append-nil (piece ++ ending)) ∙ sym (append_assoc front piece ending) in
        let body : body_of (text ++ []) [] ≡ body_of text [] = ap (λ x. body_of x []) (append-nil text) in
        subst (λ x. ReadsResponseMessage limits s.request.method x (record { head = head; body = body_of text [] }) []) bytes
        (subst (λ x. ReadsResponseMessage limits s.request.method (front ++ (piece ++ ending ++ [])) (record { head = head; body = x })
        []) body back);
  }
  reads_back (Err e) planned valid fits ends short = cc

-- a head followed by its text, as they were written
pub is_response :
    (s after : Server) (status : ℕ) (reason : List ℕ) (size : BodySize) (fields : List Header) (text sent front bytes : List ℕ)
    → front ≡ planned_response s status reason size fields
    → after ≡ after_response s status size fields
    → response_refusal s status reason size fields ≡ None
    → sent ≡ text
    → bytes ≡ front ++ data_text (writing after) sent ++ finish_text (after_data (writing after) (length sent)) []
    → data_refusal (writing after) (length sent) ≡ None
    → finish_refusal (after_data (writing after) (length sent)) [] ≡ None
    → length sent < 2 ^ 64
    → IsResponse s status reason fields text bytes
is_response s after status reason size fields text sent front bytes front_is after_is accepted sent_is bytes_are fits ends short =
    let fits_then = subst (λ a. data_refusal (writing a) (length sent) ≡ None) after_is fits in
    let ends_then = subst (λ a. finish_refusal (after_data (writing a) (length sent)) [] ≡ None) after_is ends in
    let read = reads_back s status reason size fields sent (response_plan s status size fields) refl accepted fits_then ends_then short in
    let by_front = ap (λ f. f ++ data_text (writing after) sent ++ finish_text (after_data (writing after) (length sent)) []) front_is in
    let head = planned_response s status reason size fields in
    let by_after = ap (λ a. head ++ data_text (writing a) sent ++ finish_text (after_data (writing a) (length sent)) []) after_is in
    let whole = subst (λ b. IsResponse s status reason fields sent b) (sym (bytes_are ∙ by_front ∙ by_after)) read in
    subst (λ t. IsResponse s status reason fields t bytes) sent_is whole
