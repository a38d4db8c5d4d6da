-- The clean list of a book, item by item.
use Rattle.std.proofs.Common.{◌≡◌, ℕ, List, [], ◌∷◌, ◌++◌, None, refl, sym, ap, ◌∙◌, append-nil, append_assoc}
use Rattle.std.specs.Prelude.{Result, Ok, Err}
use Rattle.notation.specs.declared.{entry.Plain.Plain, entry.Entry.Entry}
use Rattle.ball_laws.specs.History.{History}
use Rattle.match_laws.specs.declared.{standing.Standing.Standing, refusals.LawRefusal.LawRefusal}
use Rattle.match_laws.specs.Refusals.{refusal}
use Rattle.match_laws.specs.Stands.{StandsFor, IsStep, answer_with}
use Rattle.corrections.specs.declared.placed.Placed.{Placed}
use Rattle.corrections.specs.CleanList.{clean, history_of}
use Rattle.corrections.specs.inner.Scoring.{history_after}
use Rattle.corrections.specs.Refusal.{first_refused}
use Rattle.corrections.proofs.LegalLemmas.{history_after-clean}
use Rattle.corrections.proofs.ScoringLemmas.{first_refused-cons}
use Rattle.archive_deliveries.specs.declared.{notes.Noted.Noted, begun.Begun.Begun}
use Rattle.archive_deliveries.specs.Notes.{note, notes, begun_of}

-- the notes of the items taken so far, the items left, none of which is refused, and the match between them
pub record Noting (all left : List Placed) (n : ℕ) (score : Standing) (begun : Begun) (noted : List Noted) : Type 0 where
  pub history : History
  pub stands : StandsFor score n history
  pub counted : begun ≡ begun_of history
  pub ends : history_after history left ≡ history_after [] all
  pub taken : first_refused n history left ≡ None
  pub whole : noted ++ notes history left ≡ notes [] all

pub notes_none : {all : List Placed} {n : ℕ} {score : Standing} {begun : Begun} → first_refused n [] all ≡ None → StandsFor score n [] → begun ≡ begun_of [] →
    Noting all all n score begun []
notes_none taken s b = record { history = []; stands = s; counted = b; ends = refl; taken = taken; whole = refl }

-- an item that isn't refused is taken
stepped : {T : Type 0} (r : Result T LawRefusal) (n : ℕ) (h : History) (x : Plain) (later : Standing) → refusal n h x ≡ None →
    IsStep (answer_with r later) n h x → StandsFor later n (x ∷ h)
stepped (Ok _) n h x later none s = s.1
stepped (Err why) n h x later none s = absurd cc

-- one more item noted
pub notes_one : {T : Type 0} {all left : List Placed} {n : ℕ} {score later : Standing} {begun begun_now : Begun} {noted more : List Noted} {x : Placed} {y : Noted}
    (r : Result T LawRefusal) (m : Noting all (x ∷ left) n score begun noted) → y ≡ note m.history x → begun_now ≡ begun_of (x.item ∷ m.history) →
    more ≡ noted ++ y ∷ [] → IsStep (answer_with r later) n m.history x.item → Noting all left n later begun_now more
notes_one {left = left} {n = n} {later = later} {noted = noted} {x = x} r m noted_so begun_so added step =
    let both = first_refused-cons n m.history x left m.taken in record {
      history = x.item ∷ m.history;
      stands = stepped r n m.history x.item later both.0 step;
      counted = begun_so;
      ends = m.ends;
      taken = both.1;
      whole = rw added (rw noted_so (rw (append_assoc noted) m.whole));
    }

module _ (book : List Entry) {n : ℕ} {score : Standing} {begun : Begun} {noted : List Noted} (m : Noting (clean book) [] n score begun noted) where
  pub notes_all : noted ≡ notes [] (clean book)
  notes_all = sym (append-nil noted) ∙ m.whole

  pub begun_all : begun ≡ begun_of (history_of book)
  begun_all = m.counted ∙ ap begun_of (m.ends ∙ history_after-clean book)
