-- The wickets that a reader finds in an export.
use Rattle.std.proofs.Common.{◌≡◌, ℕ, ◌+◌, ◌&&◌, ◌||◌, cond, Bool, false, List, [], ◌∷◌, ◌++◌, Option, refl, ap, ◌∙◌, arith}
use Rattle.std.specs.Prelude.{is_some}
use Rattle.std.specs.List.{flat_map}
use Rattle.notation.specs.declared.entry.{Side.Side, Ball.Ball, Entry.Entry, Out.Out, Plain.Plain}
use Rattle.ball_laws.specs.declared.ends.Ends.{Ends}
use Rattle.ball_laws.specs.History.{is_wicket}
use Rattle.ball_laws.specs.Sums.{count_of, tally}
use Rattle.match_laws.specs.History.{side_of}
use Rattle.corrections.specs.CleanList.{history_of}
use Rattle.corrections.specs.Legal.{IsLegalBook}
use Rattle.cards.specs.Sheet.{Sheet}
use Rattle.json.specs.Json.{Json}
use Rattle.archive_deliveries.specs.declared.{begun.Begun.Begun, notes.Noted.Noted}
use Rattle.archive_deliveries.specs.Notes.{begun_of, carried, is_ball, items_in}
use Rattle.archive_deliveries.specs.Wickets as listing
use Rattle.archive_deliveries.specs.Wickets.{departures, gone_of, has_gone, is_gone, own_wickets}
use Rattle.archive_deliveries.specs.Deliveries.{delivery_of, penalties}
use Rattle.export.specs.Innings.{overs_of}
use Rattle.export.specs.Laws.{WicketsAddUp, deliveries_in, has_fallen, innings_at, noted_items, wickets_of}
use Rattle.export.proofs.ReadLemmas.{all_listed, elements-of, in_over, overs_all}
use Rattle.export.proofs.LawLemmas.{wickets_added, wickets_listed}

-- an item is a departure at which a wicket falls
abbrev gone_fell : Plain → Bool
gone_fell p = is_gone p && is_wicket p

abbrev gone : List Noted → ℕ
gone xs = count_of (λ x. gone_fell x.item) xs

abbrev fell : List Noted → ℕ
fell xs = count_of (λ x. is_wicket x.item) xs

abbrev fallen : List Json → ℕ
fallen ds = tally (λ d. count_of has_fallen (wickets_of d)) ds

has_ball : List Noted → Bool
has_ball [] = false
has_ball (x ∷ xs) = is_ball x.item || has_ball xs

pub count_append : {X : Type 0} (p : X → Bool) (xs ys : List X) → count_of p (xs ++ ys) ≡ count_of p xs + count_of p ys
count_append p [] ys = omega arith
count_append p (x ∷ xs) ys = grind (arith, count_append p xs ys)

-- ---- the wickets of a delivery that pass a test: departures before or after it, and its own wicket

module _ (takes : Json → Bool) (s : Sheet) (side : Side) (goes : Plain → Bool) (own : Option Out → ℕ)
    (one_gone : (p : Plain) → count_of takes (gone_of s side p) ≡ cond (is_gone p && goes p) 1 0)
    (one_out : (ends : Ends) (bowler : ℕ) (out : Option Out) → count_of takes (own_wickets s side ends bowler out) ≡ own out)
    (none_out : (out : Option Out) → is_some out ≡ false → own out ≡ 0) where
  abbrev went : List Noted → ℕ
  went xs = count_of (λ x. is_gone x.item && goes x.item) xs

  all_gone : (xs : List Noted) → count_of takes (departures s side xs) ≡ went xs
  all_gone [] = refl
  all_gone (x ∷ xs) = grind (arith, count_append takes (gone_of s side x.item) (departures s side xs), one_gone x.item, all_gone xs)

  none_gone : (xs : List Noted) → has_gone xs ≡ false → went xs ≡ 0
  none_gone [] e = refl
  none_gone (x ∷ xs) e = grind (arith, none_gone xs)

  pub delivered : (penalty : ℕ) (early late : List Noted) (ends : Ends) (b : Ball) →
      count_of takes (wickets_of (delivery_of s side penalty early ends b late)) ≡ went early + own b.out + went late
  delivered penalty early late ends b =
      let first = departures s side early in
      let out = own_wickets s side ends b.bowler b.out in
      let ws = listing.wickets_of s side early ends b late in
      grind (
        arith,
        count_append takes (first ++ out) (departures s side late),
        count_append takes first out,
        all_gone early,
        one_out ends b.bowler b.out,
        all_gone late,
        none_gone early,
        none_out b.out,
        none_gone late,
        elements-of ws,
      )

-- ---- the wickets that have fallen

module _ (s : Sheet) (side : Side) where
  all_fell : (penalty : ℕ) (early late : List Noted) (ends : Ends) (b : Ball)
      → count_of has_fallen (wickets_of (delivery_of s side penalty early ends b late)) ≡ gone early + cond (is_some b.out) 1 0 + gone late
  all_fell penalty early late ends b =
      delivered has_fallen s side is_wicket (λ out. cond (is_some out) 1 0) (λ p. grind arith)
      (λ ends bowler out. grind arith) (λ out none. grind (arith, none)) penalty early late ends b

-- ---- all deliveries of an innings

module _ (s : Sheet) (side : Side) (f : Begun) (i : ℕ) where
  all_fallen : (early xs : List Noted) → fallen (all_listed s side f i early xs) + gone (carried xs) ≡ fell xs + cond (has_ball xs) (gone early) 0
  unfolding has_ball
  all_fallen early [] = omega arith
  all_fallen early (x ∷ xs) = grind (arith, all_fallen [] xs, all_fallen early xs, all_fell s side (penalties f i (carried xs)) early (carried xs) x.ends)

  none_listed : (early xs : List Noted) → has_ball xs ≡ false → all_listed s side f i early xs ≡ []
  unfolding has_ball
  none_listed early [] e = refl
  none_listed early (x ∷ xs) e = grind (arith, none_listed early xs)

own_wickets_here : (i : ℕ) (xs : List Noted) → fell (items_in i xs) ≡ wickets_listed xs i
own_wickets_here i [] = refl
own_wickets_here i (x ∷ xs) = grind (arith, own_wickets_here i xs)

pub wickets_add_up : (s : Sheet) (n : ℕ) (book : List Entry) → IsLegalBook n book → WicketsAddUp s book
wickets_add_up s n book legal i some =
    let h = history_of book in
    let f = begun_of h in
    let ys = items_in i (noted_items book) in
    let side = side_of h i in
    let listed = all_listed s side f i (carried ys) ys in
    let same : deliveries_in (innings_at s book i) ≡ listed =
    ap (flat_map in_over) (elements-of (overs_of s side f i ys)) ∙ overs_all s side f i (carried ys) ys in
    let counted = all_fallen s side f i (carried ys) ys in
    ap fallen same
    ∙ grind (arith, counted, none_listed s side f i (carried ys) ys, λ (e : listed ≡ []). some (same ∙ e), own_wickets_here i (noted_items book), wickets_added n book legal i)
