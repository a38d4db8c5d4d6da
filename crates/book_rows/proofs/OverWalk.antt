-- The entries of an over, item by item.
use Rattle.std.proofs.Common.{◌≡◌, ℕ, ◌+◌, ◌≤◌, List, [], ◌∷◌, ◌++◌, length, drop, Option, None, Some, true, refl, sym, ap, ◌∙◌, subst, inl, inr, append-nil, append_assoc}
use Rattle.std.specs.Prelude.{slice_get}
use Rattle.std.specs.Io.KnownBytes.{Appends}
use Rattle.std.proofs.lemmas.Bool.{cases_Bool}
use Rattle.std.proofs.lemmas.List.{drop_all}
use Rattle.notation.specs.declared.entry.{Plain.Plain, Entry.Entry}
use Rattle.notation.specs.declared.entry.Plain.TheVariants.{Void}
use Rattle.ball_laws.specs.History.{History}
use Rattle.ball_laws.specs.Crease.{standing_of}
use Rattle.ball_laws.specs.Laws.{IsPlayed, after, refusal, start, state_after}
use Rattle.ball_laws.specs.Standing.{Standing}
use Rattle.match_laws.specs.History.{is_void}
use Rattle.match_laws.specs.Refusals.{IsLegal}
use Rattle.match_laws.proofs.LegalLemmas.{taken}
use Rattle.corrections.specs.declared.placed.Placed.{Placed}
use Rattle.corrections.specs.CleanList.{clean_items_of, history_of, kept}
use Rattle.corrections.specs.inner.Scoring.{history_after}
use Rattle.corrections.proofs.LegalLemmas.{history_of-clean_items}
use Rattle.corrections.proofs.ScoringLemmas.{kept_first, kept_not}
use Rattle.corrections.proofs.ListLemmas.{next}
use Rattle.corrections.proofs.PlayedLemmas.{played_before}
use Rattle.streams.proofs.Appending.{appends_none, appends_both}
use Rattle.over_numbers.specs.declared.count.Count.{Count}
use Rattle.over_numbers.specs.Counts.{counted}
use Rattle.book_rows.specs.OverEntries.{lines_behind}

-- the text written so far, with the rows of the items left, is the rows of all; and the crease and the count after k items
pub record Telling (line : History → Placed → List ℕ) (items : List Placed) (k : ℕ) (there : Standing) (come : Count) (before behind : Option (List ℕ)) : Type 0 where
  pub history : History
  pub ends : history_after history (drop k items) ≡ history_after [] items
  pub crease : there ≡ standing_of (state_after history)
  pub count : come ≡ counted history
  pub text : List ℕ
  pub written : Appends before behind text
  pub whole : text ++ lines_behind line history (drop k items) ≡ lines_behind line [] items

pub tells_none : (line : History → Placed → List ℕ) (items : List Placed) (there : Standing) (come : Count) (o : Option (List ℕ))
    → there ≡ standing_of start → come ≡ counted [] → Telling line items 0 there come o o
tells_none line items there come o crease count =
    record { history = []; ends = refl; crease = crease; count = count; text = []; written = appends_none o; whole = refl }

module _ {line : History → Placed → List ℕ} {items : List Placed} {k : ℕ} {there : Standing} {come : Count} {o p : Option (List ℕ)}
    (m : Telling line items k there come o p) where
  pub tells_taken : (x : Placed) → slice_get items k ≡ Some x → IsPlayed (history_after [] items) → refusal (state_after m.history) x.item ≡ None
  tells_taken x here all =
      (played_before (x.item ∷ m.history) (drop (k + 1) items) (subst IsPlayed (sym (rw (next items k x here) at m.ends)) all)).1

  pub tells_one : {later : Standing} {more : Count} {q : Option (List ℕ)} (x : Placed) → slice_get items k ≡ Some x → Appends p q (line m.history x)
      → later ≡ standing_of (after (state_after m.history) x.item) → more ≡ counted (x.item ∷ m.history) → Telling line items (k + 1) later more o q
  tells_one {q = q} x here wrote crease count = record {
    history = x.item ∷ m.history;
    ends = rw (next items k x here) at m.ends;
    crease = crease;
    count = count;
    text = m.text ++ line m.history x;
    written = appends_both o p q m.text (line m.history x) m.written wrote;
    whole = rw (append_assoc m.text (line m.history x)) (rw (next items k x here) at m.whole);
  }

  pub tells_all : length items ≤ k → Appends o p (lines_behind line [] items)
  tells_all end = rw (← rw (drop_all k items end, append-nil) at m.whole) m.written
