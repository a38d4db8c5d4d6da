-- The parts of a message's bytes, and that no other message has the same bytes.
use Rattle.std.proofs.Common.{◌≡◌, ◌∙◌, ◌<◌, ℕ, List, ◌++◌, drop, length, replicate, Option, Some, None, arith, refl, sym, ap, slice_index, Bool, false, true≢false, IsTrue, ◌↔◌}
use Rattle.std.specs.Option.{option_map}
use Rattle.std.proofs.lemmas.Nat.{from_be_bytes-to_be_bytes_2, from_be_bytes-to_be_bytes_4}
use Rattle.std.proofs.lemmas.List.{length-drop, take-append-le, take_all}
use Rattle.notation.specs.declared.entry.{Entry.Entry, Out.Out, Plain.Plain}
use Rattle.notation.specs.declared.entry.Entry.TheVariants.{Write, Fix, Late}
use Rattle.notation.specs.Code.{code, body as plain_body, out_code, spare_bytes}
use Rattle.notation.proofs.Decoded.{code_once}
use Rattle.agree_core.specs.declared.messages.{Ask.Ask as AnAsk, Asker.Asker, DeskId.DeskId, Message.Message, Vote.Vote as AVote}
use Rattle.agree_core.specs.declared.position.{Position.Position}
use Rattle.agree_core.specs.declared.messages.DeskId.TheVariants.{A}
use Rattle.agree_core.specs.declared.messages.Message.TheVariants.{Vote, Ask}
use Rattle.agree_core.specs.Positions.{InRange, IsFull}
use Rattle.agree_core.specs.Ballots.{desk_number}
use Rattle.wire.specs.Layout.{IsMessage, Says, asker_number, body, body_in, is_at, written}
use Rattle.wire.specs.inner.Fields.{asker_numbered, desk_numbered, place_in, round_in}

out_length : (o : Option Out) → length (out_code o ++ spare_bytes) ≡ 12
out_length None = refl
out_length (Some o) = refl

body_length : (p : Plain) → length (plain_body p ++ spare_bytes) ≡ 18
body_length (Plain.Ball b) = let o = out_length b.out in omega (arith, o)
body_length _ = refl

pub code_length : (e : Entry) → length (code e) ≡ 24
code_length (Write p) = let b = body_length p in omega (arith, b)
code_length (Fix place p) = let b = body_length p in omega (arith, b)
code_length (Late place p) = let b = body_length p in omega (arith, b)

pub message_body_length : (m : Message) → length (body m) ≡ 24
message_body_length (Vote v) = code_length v.entry
message_body_length (Ask q) = refl

-- after a message's head come the body and zeros
pub body_part : (game : ℕ) (m : Message) → body_in (written game m) ≡ body m
body_part game m =
    let long = message_body_length m in
    take-append-le 24 (body m) (replicate 5 0) (omega (arith, long)) ∙ take_all 24 (body m) (omega (arith, long))

-- bytes too short for a body have no entry's code there
pub short_body : (bytes : List ℕ) (e : Entry) → length bytes < 43 → body_in bytes ≡ code e → ⊥
short_body bytes e short same =
    let rest = length-drop 19 bytes in
    let all = take_all 24 (drop 19 bytes) (omega (arith, rest, short)) in
    let long = ap (λ (xs : List ℕ). length xs) (sym all ∙ same) ∙ code_length e in
    omega (arith, rest, long, short)

pub place_part : (game : ℕ) (m : Message) → InRange (is_at m) → place_in (written game m) ≡ (is_at m).place
place_part game m range = from_be_bytes-to_be_bytes_4 (is_at m).place (omega (arith, range.0))

pub round_part : (game : ℕ) (m : Message) → InRange (is_at m) → round_in (written game m) ≡ (is_at m).round
round_part game m range = from_be_bytes-to_be_bytes_2 (is_at m).round (omega (arith, range.1))

pub desk_back : (d : DeskId) → desk_numbered (desk_number d) ≡ Some d
desk_back A = refl
desk_back _ = refl

pub asker_back : (a : Asker) → asker_numbered (asker_number a) ≡ Some a
asker_back Asker.A = refl
asker_back _ = refl

-- the fields of bytes that say a message
pub voter_of : (game : ℕ) (bytes : List ℕ) (v : AVote) → Says game bytes (Vote v) → desk_numbered (slice_index bytes 12) ≡ Some v.desk
voter_of game bytes v s = rw s.1 (desk_back v.desk)

pub asker_of : (game : ℕ) (bytes : List ℕ) (q : AnAsk) → Says game bytes (Ask q) → asker_numbered (slice_index bytes 12) ≡ Some q.from
asker_of game bytes q s = rw s.1 (asker_back q.from)

pub in_range : (m : Message) → IsMessage m → InRange (is_at m)
in_range (Vote v) h = h.0
in_range (Ask q) h = h

pub place_of : (game : ℕ) (bytes : List ℕ) (m : Message) → Says game bytes m → place_in bytes ≡ (is_at m).place
place_of game bytes m s = ap place_in s.1 ∙ place_part game m (in_range m s.0)

pub round_of : (game : ℕ) (bytes : List ℕ) (m : Message) → Says game bytes m → round_in bytes ≡ (is_at m).round
round_of game bytes m s = ap round_in s.1 ∙ round_part game m (in_range m s.0)

pub code_in : (game : ℕ) (bytes : List ℕ) (v : AVote) → Says game bytes (Vote v) → body_in bytes ≡ code v.entry
code_in game bytes v s = ap body_in s.1 ∙ body_part game (Vote v)

same_desk : (d e : DeskId) → desk_number d ≡ desk_number e → d ≡ e
same_desk d e h = let both = sym (desk_back d) ∙ ap desk_numbered h ∙ desk_back e in cc

same_asker : (d e : Asker) → asker_number d ≡ asker_number e → d ≡ e
same_asker d e h = let both = sym (asker_back d) ∙ ap asker_numbered h ∙ asker_back e in cc

-- None isn't Some
pub not_none : {X : Type 0} {x : X} → None ≡ Some x → ⊥
not_none h = cc

-- a reader of every vote reads every message of that kind, and so for asks
pub vote_by_kind : (bytes : List ℕ) (o : Option AVote) → slice_index bytes 3 ≡ 1
    → ((game : ℕ) (v : AVote) → Says game bytes (Vote v) → o ≡ Some v)
    → (game : ℕ) (m : Message) → Says game bytes m → option_map Vote o ≡ Some m
vote_by_kind bytes o k again game (Vote v) s = ap (option_map Vote) (again game v s)
vote_by_kind bytes o k again game (Ask q) s =
    let other : 1 ≡ 2 = sym k ∙ ap (λ (l : List ℕ). slice_index l 3) s.1 in absurd (cc)

pub ask_by_kind : (bytes : List ℕ) (o : Option AnAsk) → slice_index bytes 3 ≡ 2
    → ((game : ℕ) (q : AnAsk) → Says game bytes (Ask q) → o ≡ Some q)
    → (game : ℕ) (m : Message) → Says game bytes m → option_map Ask o ≡ Some m
ask_by_kind bytes o k again game (Ask q) s = ap (option_map Ask) (again game q s)
ask_by_kind bytes o k again game (Vote v) s =
    let other : 2 ≡ 1 = sym k ∙ ap (λ (l : List ℕ). slice_index l 3) s.1 in absurd (cc)

-- no two messages share bytes
pub message_once : (g h : ℕ) (m n : Message) → IsMessage m → IsMessage n → written g m ≡ written h n → m ≡ n
message_once g h (Vote v) (Vote w) a b e =
    let desk = same_desk v.desk w.desk (ap (λ (l : List ℕ). slice_index l 12) e) in
    let place = sym (place_part g (Vote v) a.0) ∙ ap place_in e ∙ place_part h (Vote w) b.0 in
    let round = sym (round_part g (Vote v) a.0) ∙ ap round_in e ∙ round_part h (Vote w) b.0 in
    let codes_are = sym (body_part g (Vote v)) ∙ ap body_in e ∙ body_part h (Vote w) in
    let entry = code_once v.entry w.entry a.1 b.1 codes_are in
    λ i. Vote (record { desk = desk i; place = place i; round = round i; entry = entry i })
message_once g h (Ask p) (Ask q) a b e =
    let from = same_asker p.from q.from (ap (λ (l : List ℕ). slice_index l 12) e) in
    let place = sym (place_part g (Ask p) a) ∙ ap place_in e ∙ place_part h (Ask q) b in
    let round = sym (round_part g (Ask p) a) ∙ ap round_in e ∙ round_part h (Ask q) b in
    λ i. Ask (record { from = from i; place = place i; round = round i })
message_once g h (Vote v) (Ask q) a b e = let k : 1 ≡ 2 = ap (λ (l : List ℕ). slice_index l 3) e in absurd (cc)
message_once g h (Ask p) (Vote w) a b e = let k : 2 ≡ 1 = ap (λ (l : List ℕ). slice_index l 3) e in absurd (cc)

-- bytes say one message
pub says_once : (game : ℕ) (bytes : List ℕ) (m n : Message) → Says game bytes m → Says game bytes n → m ≡ n
says_once game bytes m n s t = message_once game game m n s.0 t.0 (sym s.1 ∙ t.1)

-- a position that isn't full is in range
pub not_full : (p : Position) → (IsFull p → ⊥) → InRange p
not_full p h = grind arith

pub tested_free : (p : Position) (full : Bool) → (IsTrue full ↔ IsFull p) → full ≡ false → InRange p
tested_free p full t is_no = not_full p (λ f. true≢false (sym (t.1 f) ∙ is_no))
