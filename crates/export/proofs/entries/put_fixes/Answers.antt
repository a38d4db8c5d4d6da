use Rattle.std.proofs.Common.{◌≡◌, ◌∙◌, ◌++◌, ◌<◌, ℕ, zero, suc, List, [], ap, append-nil, arith, length, refl, slice_index_or, subst, sym}
use Rattle.std.specs.Prelude.{All, flat_map, slice_get}
use Rattle.std.proofs.lemmas.List.Concat.{flat_map-append}
use Rattle.std.proofs.lemmas.List.Elements.{All-append, All-cons, All-get_or, All-nil, All-weaker}
use Rattle.std.proofs.lemmas.Option.{slice_get-get_or}
use Rattle.notation.specs.declared.entry.Entry.{Entry}
use Rattle.json.specs.Json.{Json}
use Rattle.json_fields.specs.Values.{up_to, values_tokens}
use Rattle.json_fields.proofs.Putting.{adds_each, ends_each}
use Rattle.export.specs.Entries.{fix_at}
use Rattle.export.specs.inner.Corrections.{fix_places}
use Rattle.export.proofs.entries.put_fixes.Goals as goal

each-places : (p : ℕ) (book : List Entry) (n : ℕ) →
    flat_map (λ k. fix_at p k (slice_get book k)) (fix_places book n) ≡ up_to (λ k. fix_at p k (slice_get book k)) n
unfolding up_to
each-places p book zero = refl
each-places p book (suc n) =
    let f : ℕ → List Json = λ k. fix_at p k (slice_get book k) in
    rw (flat_map-append f (fix_places book n), each-places p book n) (grind (arith, append-nil))

places-below : (book : List Entry) (n : ℕ) → All (λ k. k < n) (fix_places book n)
places-below book zero = All-nil (λ k. k < 0)
places-below book (suc n) =
    let before = All-weaker (λ k. k < n) (λ k. k < suc n) (λ k h. omega (arith, h)) (fix_places book n) (places-below book n) in
    All-append (λ k. k < suc n) (fix_places book n) _ before
    (grind (arith, All-cons (λ k. k < suc n) n [], All-nil (λ k. k < suc n)))

pub entry-requires : goal.entry-requires
entry-requires g c =
    let book = g.B.BookOf.content c.args.book.now in
    All-get_or (λ k. k < length book) c.args.corrections.now c.loop-at.at-index 0 c.loop-at-test.true
    (subst (All (λ k. k < length book)) (sym c.requires.all) (places-below book (length book)))

pub loop-at-preserved : goal.loop-at-preserved
loop-at-preserved g c =
    let f : ℕ → List Json = λ k. fix_at c.args.place k (slice_get (g.B.BookOf.content c.args.book.now) k) in
    adds_each _ _ _ f c.args.corrections.now c.loop-at.at-index (slice_index_or c.args.corrections.now c.loop-at.at-index 0) c.loop-at.invariant
    (slice_get-get_or c.args.corrections.now c.loop-at.at-index 0 c.loop-at-test.true) (rw c.entry.ensures.value c.in_ok-put_fix.ensures)

pub returns : goal.returns
returns g c =
    let book = g.B.BookOf.content c.args.book.now in
    let f : ℕ → List Json = λ k. fix_at c.args.place k (slice_get book k) in
    ends_each _ _ f c.args.corrections.now c.loop-at.at-index c.loop-at.invariant (omega (arith, c.loop-at-test.false))
    ∙ ap (λ xs. c.args.out.now ++ values_tokens xs) (ap (flat_map f) c.requires.all ∙ each-places c.args.place book (length book))
