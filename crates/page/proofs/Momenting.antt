-- The clean list of a book, moment by moment.
use Rattle.std.proofs.Common.{◌≡◌, ℕ, List, [], ◌∷◌, ◌++◌, None, refl, sym, ◌∙◌, append-nil, append_assoc}
use Rattle.std.specs.Prelude.{Result, Ok, Err}
use Rattle.notation.specs.declared.entry.Plain.{Plain}
use Rattle.ball_laws.specs.History.{History}
use Rattle.match_laws.specs.declared.{standing.Standing.Standing, refusals.LawRefusal.LawRefusal}
use Rattle.match_laws.specs.Refusals.{refusal}
use Rattle.match_laws.specs.Stands.{StandsFor, IsStep, answer_with}
use Rattle.corrections.specs.declared.placed.Placed.{Placed}
use Rattle.corrections.specs.Refusal.{first_refused}
use Rattle.corrections.proofs.ScoringLemmas.{first_refused-cons}
use Rattle.page.specs.declared.{moments.OverSoFar.OverSoFar, moments.Moment.Moment}
use Rattle.page.specs.Moments.{last, moment, moments, over_so_far}

-- the moments of the items before those left, none of which is refused, with the match and the over at that point
pub record Telling (all left : List Placed) (n : ℕ) (score : Standing) (over : OverSoFar) (told : List Moment) : Type 0 where
  pub history : History
  pub stands : StandsFor score n history
  pub over_there : over ≡ over_so_far history
  pub taken : first_refused n history left ≡ None
  pub whole : told ++ moments history left ≡ moments [] all

pub tells_none : {all : List Placed} {n : ℕ} {score : Standing} {over : OverSoFar} → first_refused n [] all ≡ None → StandsFor score n [] →
    over ≡ over_so_far [] → Telling all all n score over []
tells_none taken s o = record { history = []; stands = s; over_there = o; taken = taken; whole = refl }

-- an item that isn't refused is taken
pub stepped : {T : Type 0} (r : Result T LawRefusal) (n : ℕ) (h : History) (x : Plain) (later : Standing) → refusal n h x ≡ None →
    IsStep (answer_with r later) n h x → StandsFor later n (x ∷ h)
stepped (Ok _) n h x later none s = s.1
stepped (Err why) n h x later none s = absurd cc

module _ {T : Type 0} {all left : List Placed} {n : ℕ} {score later : Standing} {over : OverSoFar} {told : List Moment} {x : Placed}
    (r : Result T LawRefusal) (m : Telling all (x ∷ left) n score over told) (step : IsStep (answer_with r later) n m.history x.item)
  where
    pub taken_one : StandsFor later n (x.item ∷ m.history)
    taken_one = stepped r n m.history x.item later (first_refused-cons n m.history x left m.taken).0 step

    -- one more item
    pub tells_one : {over_now : OverSoFar} {more : List Moment} {y : Moment} → y ≡ moment m.history x.item → over_now ≡ over_so_far (x.item ∷ m.history) →
        more ≡ told ++ y ∷ [] → Telling all left n later over_now more
    tells_one y_so over_now_so added = record {
      history = x.item ∷ m.history;
      stands = taken_one;
      over_there = over_now_so;
      taken = (first_refused-cons n m.history x left m.taken).1;
      whole = rw added (rw y_so (rw (append_assoc told) m.whole));
    }

-- only the end is left
pub tells_all : {all : List Placed} {n : ℕ} {score : Standing} {over : OverSoFar} {told more : List Moment} {y : Moment} (m : Telling all [] n score over told) →
    y ≡ last m.history → more ≡ told ++ y ∷ [] → more ≡ moments [] all
tells_all m y_so added = added ∙ rw y_so m.whole
