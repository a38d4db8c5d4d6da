use Rattle.std.proofs.Common.{◌≡◌, List, [], ◌∷◌, ◌++◌, map, reverse, refl, sym, ap, ◌∙◌, append_assoc, append-nil}
use Rattle.std.specs.List.{flat_map}
use Rattle.std.proofs.lemmas.List.{map_push, reverse-append}
use Rattle.std.proofs.lemmas.Option.{slice_get_read}
use Rattle.notation.specs.declared.entry.{Ball.Ball, Plain.Plain}
use Rattle.corrections.specs.declared.placed.Placed.{Placed}
use Rattle.corrections.specs.Overs.{bowled, with_balls}
use Rattle.json.specs.Json.{Json, string}
use Rattle.json_fields.proofs.Putting.{adds_each, ends_each, no_values}
use Rattle.cards.specs.Marks.{mark_of}
use Rattle.scoreboard.specs.inner.Marks.{item_values}
use Rattle.scoreboard.proofs.marks.put_marks.Goals as goal

-- the marks of an over, the oldest delivery first
abbrev over_values : List Ball → List Json
over_values over = map (λ b. string (mark_of b)) (reverse over)

one_more : (x : Plain) (over : List Ball) → over_values (bowled x over) ≡ over_values over ++ item_values x
one_more (Plain.Ball b) over =
    ap (map (λ c. string (mark_of c))) (reverse-append (b ∷ []) over) ∙ map_push (λ c. string (mark_of c)) (reverse over) b
one_more x over = sym (append-nil (over_values over))

all_values : (over : List Ball) (xs : List Placed) → over_values (with_balls over xs) ≡ over_values over ++ flat_map (λ x. item_values x.item) xs
all_values over [] = sym (append-nil (over_values over))
all_values over (x ∷ xs) =
    all_values (bowled x.item over) xs
    ∙ (ap (λ vs. vs ++ flat_map (λ y. item_values y.item) xs) (one_more x.item over)
    ∙ append_assoc (over_values over) (item_values x.item) (flat_map (λ y. item_values y.item) xs))

pub loop-placed-init : goal.loop-placed-init
loop-placed-init c = no_values _

pub loop-placed-preserved : goal.loop-placed-preserved
loop-placed-preserved c =
    let here = slice_get_read c.args.over.now _ c.loop-placed.placed-index _ refl c.loop-placed-test.true c.placed-item.is in
    adds_each _ _ _ (λ x. item_values x.item) c.args.over.now c.loop-placed.placed-index _ c.loop-placed.invariant here c.in_ok-put_item.ensures

pub returns : goal.returns
returns c =
    rw all_values (ends_each _ _ (λ x. item_values x.item) c.args.over.now c.loop-placed.placed-index c.loop-placed.invariant c.loop-placed-test.false)
