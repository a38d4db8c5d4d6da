-- The rows of an innings are its deliveries in the export.
use Rattle.std.proofs.Common.{◌≡◌, ℕ, ◌+◌, ◌≤◌, ◌==◌, cond, Bool, true, false, List, [], ◌∷◌, ◌++◌, Option, Some, None, codes, map, refl, sym, ap, ◌∙◌, arith, eqb-true}
use Rattle.std.specs.Prelude.{decimal}
use Rattle.std.specs.List.{flat_map}
use Rattle.std.specs.Fmt.{digits}
use Rattle.std.proofs.lemmas.List.{map-append}
use Rattle.notation.specs.declared.entry.{Side.Side, Ball.Ball, Plain.Plain, Entry.Entry}
use Rattle.notation.specs.declared.entry.Plain.TheVariants.{Ball as Bowl}
use Rattle.ball_laws.specs.declared.{ends.Ends.Ends}
use Rattle.ball_laws.specs.Runs.{split_of_ball}
use Rattle.match_laws.specs.History.{side_of}
use Rattle.corrections.specs.CleanList.{history_of}
use Rattle.corrections.specs.Legal.{IsLegalBook}
use Rattle.cards.specs.Sheet.{Sheet}
use Rattle.json.specs.Json.{Json, null, Members}
use Rattle.json_fields.specs.Values.{members_of, number_value}
use Rattle.archive_deliveries.specs.declared.{begun.Begun.Begun, notes.Noted.Noted}
use Rattle.archive_deliveries.specs.Notes.{begun_of, carried, is_ball, items_in}
use Rattle.archive_deliveries.specs.Deliveries.{delivery_of, extra_runs, extras_field, listed_of, penalties}
use Rattle.export.specs.Innings.{overs_of, runs_after, runs_before}
use Rattle.export.specs.Laws.{at, deliveries_in, innings_at, member_at, noted_items}
use Rattle.archive_deliveries.specs.Wickets.{batter_value, has_wickets}
use Rattle.export.proofs.LawLemmas.{total_added}
use Rattle.export.proofs.ReadLemmas.{all_listed, elements-of, in_over, overs_all, own_total, totals_of}
use Rattle.delivery_rows.specs.declared.standing.Standing.{Standing}
use Rattle.delivery_rows.specs.Standing.{beginning}
use Rattle.delivery_rows.specs.Deliveries.{batter_cell, delivery_row, next, rows_from, rows_of_item}
use Rattle.delivery_rows.specs.Laws.{RowsAddUp, RowsAreDeliveries, figure_in, name_in, told_by, told_in, total_by}

cons_same : {X : Type 0} {a b : X} {xs ys : List X} → a ≡ b → xs ≡ ys → (a ∷ xs) ≡ (b ∷ ys)
cons_same e f = rw (e, f) refl

map_both : {X Y Z : Type 0} (f : X → Z) (g : Y → Z) (xs more : List X) (ys others : List Y) → map f xs ≡ map g ys → map f more ≡ map g others →
    map f (xs ++ more) ≡ map g (ys ++ others)
map_both f g xs more ys others p q = map-append f xs more ∙ (rw (p, q) (sym (map-append g ys others)))

map_if : {X Y Z : Type 0} (f : X → Z) (g : Y → Z) (b : Bool) (xs more : List X) (ys others : List Y) → map f xs ≡ map g ys → map f more ≡ map g others →
    map f (cond b xs more) ≡ map g (cond b ys others)
map_if f g true xs more ys others p q = p
map_if f g false xs more ys others p q = q

-- ---- the facts of an exported delivery

batter_told : (s : Sheet) (side : Side) (o : Option ℕ) → batter_cell s side o ≡ name_in (batter_value s side o)
batter_told s side None = refl
batter_told s side (Some p) = refl

-- the value of a kind of extras, or null if the delivery has no extras at all
extras_read : (key : List ℕ) (w e : Bool) (v x : Json) →
    at key (member_at (codes "extras") (members_of (cond w ((codes "wickets", v) ∷ []) [] ++ cond e [] ((codes "extras", x) ∷ [])))) ≡ cond e null (at key x)
extras_read key w e v x = grind arith

-- each kind of extras is found, whatever other kinds the delivery has
module _ (w n b l p : Bool) (ws ns bs ls ps : Json) where
  abbrev kinds : Members
  kinds =
      members_of ((((cond w [] ((codes "wides", ws) ∷ []) ++ cond n [] ((codes "noballs", ns) ∷ []))
      ++ cond b [] ((codes "byes", bs) ∷ [])) ++ cond l [] ((codes "legbyes", ls) ∷ [])) ++ cond p [] ((codes "penalty", ps) ∷ []))

  wides_there : member_at (codes "wides") kinds ≡ cond w null ws
  wides_there = grind arith

  noballs_there : member_at (codes "noballs") kinds ≡ cond n null ns
  noballs_there = grind arith

  byes_there : member_at (codes "byes") kinds ≡ cond b null bs
  byes_there = grind arith

  legs_there : member_at (codes "legbyes") kinds ≡ cond l null ls
  legs_there = grind arith

  penalty_there : member_at (codes "penalty") kinds ≡ cond p null ps
  penalty_there = grind arith

figure_told : (n : ℕ) (none : Bool) → (n == 0) ≡ none → figure_in (cond none null (number_value n)) ≡ decimal n
unfolding digits
figure_told n true e = rw (eqb-true n 0 e) refl
figure_told n false e = refl

any_told : (e : Bool) (value : Json) (n : ℕ) → (e ≡ true → n ≡ 0) → figure_in value ≡ decimal n → figure_in (cond e null value) ≡ decimal n
unfolding digits
any_told true value n none is = rw (none refl) refl
any_told false value n none is = is

module _ (s : Sheet) (day : List ℕ) (side : Side) (i penalty : ℕ) (early late : List Noted) (ends : Ends) (b : Ball) where
  abbrev delivery : Json
  delivery = delivery_of s side penalty early ends b late

  -- a kind of extras with n runs
  kind_told : (key : List ℕ) (n : ℕ) → ((extra_runs (split_of_ball b) + penalty == 0) ≡ true → n ≡ 0)
      → at key ((extras_field (split_of_ball b) penalty).1) ≡ cond (n == 0) null (number_value n)
      → figure_in (at key (at (codes "extras") delivery)) ≡ decimal n
  kind_told key n none there =
      let e = extra_runs (split_of_ball b) + penalty == 0 in
      ap figure_in (extras_read key (has_wickets early b late) e _ ((extras_field (split_of_ball b) penalty).1))
      ∙ any_told e _ n none (ap figure_in there ∙ figure_told n (n == 0) refl)

  -- each kind has 0 runs if all extras together have 0
  none_of : (n : ℕ) → n ≤ extra_runs (split_of_ball b) + penalty → (extra_runs (split_of_ball b) + penalty == 0) ≡ true → n ≡ 0
  none_of n part e = let all = eqb-true (extra_runs (split_of_ball b) + penalty) 0 e in omega (arith, part, all)

  told_same : (now : Standing) (place : ℕ) → told_by (delivery_row s day side i now penalty early place ends b late) ≡ told_in delivery
  told_same now place =
      let x = split_of_ball b in
      let w = x.wides == 0 in
      let n = x.noballs == 0 in
      let y = x.byes == 0 in
      let l = x.legs == 0 in
      let p = penalty == 0 in
      cons_same (batter_told s side ends.striker)
      (cons_same (batter_told s side ends.other)
      (cons_same refl (cons_same refl (cons_same refl (cons_same refl
      (cons_same (sym (kind_told (codes "wides") x.wides (none_of x.wides (omega arith)) (wides_there w n y l p _ _ _ _ _)))
      (cons_same (sym (kind_told (codes "noballs") x.noballs (none_of x.noballs (omega arith)) (noballs_there w n y l p _ _ _ _ _)))
      (cons_same (sym (kind_told (codes "byes") x.byes (none_of x.byes (omega arith)) (byes_there w n y l p _ _ _ _ _)))
      (cons_same (sym (kind_told (codes "legbyes") x.legs (none_of x.legs (omega arith)) (legs_there w n y l p _ _ _ _ _)))
      (cons_same (sym (kind_told (codes "penalty") penalty (none_of penalty (omega arith)) (penalty_there w n y l p _ _ _ _ _))) refl))))))))))

-- ---- all rows of an innings

abbrev figure : ℕ → List (List ℕ)
figure k = decimal k ∷ []

module _ (s : Sheet) (day : List ℕ) (side : Side) (f : Begun) (i : ℕ) where
  told_one : (now : Standing) (early : List Noted) (place : ℕ) (p : Plain) (ends : Ends) (late : List Noted) →
      map told_by (rows_of_item s day side f i now early place p ends late) ≡ map told_in (listed_of s side f i early p ends late)
  told_one now early place (Bowl b) ends late = ap (λ c. c ∷ []) (told_same s day side i (penalties f i late) early late ends b now place)
  told_one now early place p ends late = refl

  told_all : (now : Standing) (early xs : List Noted) → map told_by (rows_from s day side f i now early xs) ≡ map told_in (all_listed s side f i early xs)
  told_all now early [] = refl
  told_all now early (x ∷ xs) =
      let then_so = next f i now early x (carried xs) in
      map_if told_by told_in (is_ball x.item) _ _ _ _
      (map_both told_by told_in _ _ _ _ (told_one then_so early x.place x.item x.ends (carried xs)) (told_all then_so [] xs)) (told_all now early xs)

  total_step : (now : Standing) (early : List Noted) (place : ℕ) (p : Plain) (ends : Ends) (late : List Noted)
      (rest other : List (List (List ℕ))) (ts : List ℕ) → map total_by rest ≡ map figure ts → map total_by other ≡ map figure ts →
      map total_by (cond (is_ball p) (rows_of_item s day side f i now early place p ends late ++ rest) other)
      ≡ map figure (own_total f i p late ++ ts)
  total_step now early place (Bowl b) ends late rest other ts e o = cons_same refl e
  total_step now early place p ends late rest other ts e o = o

  total_all : (now : Standing) (early xs : List Noted) → map total_by (rows_from s day side f i now early xs) ≡ map figure (totals_of f i xs)
  total_all now early [] = refl
  total_all now early (x ∷ xs) =
      let then_so = next f i now early x (carried xs) in
      total_step then_so early x.place x.item x.ends (carried xs) (rows_from s day side f i then_so [] xs) (rows_from s day side f i now early xs)
      (totals_of f i xs) (total_all then_so [] xs) (total_all now early xs)

pub rows_are_deliveries : (s : Sheet) (day : List ℕ) (book : List Entry) → RowsAreDeliveries s day book
rows_are_deliveries s day book i =
    let h = history_of book in
    let f = begun_of h in
    let side = side_of h i in
    let xs = noted_items book in
    let ys = items_in i xs in
    let same : deliveries_in (innings_at s book i) ≡ all_listed s side f i (carried ys) ys =
    ap (flat_map in_over) (elements-of (overs_of s side f i ys)) ∙ overs_all s side f i (carried ys) ys in
    told_all s day side f i (beginning (runs_before f i xs)) (carried ys) ys ∙ ap (map told_in) (sym same)

pub rows_add_up : (s : Sheet) (day : List ℕ) (n : ℕ) (book : List Entry) → IsLegalBook n book → RowsAddUp s day book
rows_add_up s day n book legal i =
    let h = history_of book in
    let f = begun_of h in
    let xs = noted_items book in
    let ys = items_in i xs in record {
      totals = totals_of f i ys;
      before = runs_before f i xs;
      after = runs_after f i xs;
      each = total_all s day (side_of h i) f i (beginning (runs_before f i xs)) (carried ys) ys;
      awards = refl;
      sum = total_added n book legal i;
    }
