-- No item that stands in a legal book was refused.
use Rattle.std.proofs.Common.{◌≡◌, ℕ, List, [], ◌∷◌, None, true, refl, sym, ap, ◌∙◌, subst, inl, inr}
use Rattle.std.proofs.lemmas.Bool.{cases_Bool}
use Rattle.notation.specs.declared.{entry.Plain.Plain, entry.Entry.Entry}
use Rattle.notation.specs.declared.entry.Plain.TheVariants.{Void}
use Rattle.ball_laws.specs.History.{History}
use Rattle.ball_laws.specs.Laws.{IsPlayed, after, refusal, state_after}
use Rattle.match_laws.specs.History.{is_void}
use Rattle.match_laws.specs.Refusals.{IsLegal}
use Rattle.match_laws.proofs.LegalLemmas.{taken}
use Rattle.corrections.specs.declared.placed.Placed.{Placed}
use Rattle.corrections.specs.CleanList.{clean_items_of, history_of, kept}
use Rattle.corrections.specs.inner.Scoring.{history_after}
use Rattle.corrections.proofs.LegalLemmas.{history_of-clean_items}
use Rattle.corrections.proofs.ScoringLemmas.{kept_first, kept_not}

played : (n : ℕ) (h : History) → IsLegal n h → IsPlayed h
played n [] legal = tt
played n (Void ∷ h) legal = (played n h legal.0, refl)
played n (x ∷ h) legal = (played n h legal.0, (taken n h x refl legal.1).ball)

-- if no item of a longer history was refused, none of the history it began with was
pub played_before : (h : History) (xs : List Placed) → IsPlayed (history_after h xs) → IsPlayed h
played_before h [] all = all
played_before h (x ∷ xs) all = (played_before (x.item ∷ h) xs all).0

-- history g was played, and has the same state as history h
record IsLike (g h : History) : Type 0 where
  pub state : state_after g ≡ state_after h
  pub played : IsPlayed g

like_void : (g h : History) (x : Plain) → is_void x ≡ true → IsLike g h → IsLike (x ∷ g) h
like_void g h Void v e = record { state = e.state; played = (e.played, refl) }
like_void g h x v e = absurd cc

like_more : (g h : History) (x : Plain) → refusal (state_after h) x ≡ None → IsLike g h → IsLike (x ∷ g) (x ∷ h)
like_more g h x taken e = record {
  state = ap (λ s. after s x) e.state;
  played = (e.played, ap (λ s. refusal s x) e.state ∙ taken);
}

-- `void`s among the items that follow change nothing
like_behind : (g h : History) (xs : List Placed) → IsLike g h → IsPlayed (history_after h (kept xs)) → IsPlayed (history_after g xs)
like_behind g h [] e all = e.played
like_behind g h (x ∷ xs) e all = elim (cases_Bool (is_void x.item)) [
  | inl v ↦ like_behind (x.item ∷ g) h xs (like_void g h x.item v e) (rw (kept_not x xs v) at all)
  | inr v ↦
      let rest = rw (kept_first x xs v) at all in
      like_behind (x.item ∷ g) (x.item ∷ h) xs (like_more g h x.item (played_before (x.item ∷ h) (kept xs) rest).1 e) rest
]

pub stands_played : (n : ℕ) (book : List Entry) → IsLegal n (history_of book) → IsPlayed (history_after [] (clean_items_of book))
stands_played n book legal =
    like_behind [] [] (clean_items_of book) (record { state = refl; played = tt })
    (subst IsPlayed (sym (history_of-clean_items book)) (played n (history_of book) legal))
