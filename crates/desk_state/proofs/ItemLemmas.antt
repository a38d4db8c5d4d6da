-- The items of a book, put one by one for a page.
use Rattle.std.proofs.Common.{◌≡◌, ℕ, suc, ◌+◌, ◌-◌, ◌≤◌, List, [], ◌∷◌, ◌++◌, Option, None, Some, nat_le, length, drop, refl, sym, ap, ◌∙◌, subst, inl, inr, arith}
use Rattle.std.specs.Prelude.{if◌then◌else◌, slice_get}
use Rattle.std.proofs.lemmas.Bool.{cases_Bool}
use Rattle.std.proofs.lemmas.Bool.Decides.{nat_tests}
use Rattle.std.proofs.lemmas.List.{drop_all}
use Rattle.notation.specs.declared.entry.Entry.{Entry}
use Rattle.ball_laws.specs.History.{History}
use Rattle.ball_laws.specs.Laws.{IsPlayed, refusal, state_after}
use Rattle.corrections.specs.declared.placed.Placed.{Placed}
use Rattle.corrections.specs.inner.Scoring.{history_after}
use Rattle.corrections.proofs.ListLemmas.{next}
use Rattle.json.specs.Json.{Json}
use Rattle.json.specs.Token.{Token}
use Rattle.json_fields.specs.Values.{values_tokens}
use Rattle.json_fields.proofs.Putting.{no_values, values_due}
use Rattle.corrections.specs.Corrected.{corrected_at}
use Rattle.over_numbers.specs.declared.count.Count.{Count}
use Rattle.over_numbers.specs.Counts.{counted}
use Rattle.desk_state.specs.declared.before.Before.{Before}
use Rattle.desk_state.specs.Book.{item_value, value_in, values_behind}
use Rattle.desk_state.specs.inner.Before.{HasCome, IsWithin}

pub within_more : {k m : ℕ} {b : Before} → k ≤ m → IsWithin k b → IsWithin m b
within_more less within =
    record { begun = omega (arith, less, within.begun); overs = omega (arith, less, within.overs); balls = omega (arith, less, within.balls) }

-- no item of the history that it extends was refused
played_before : (h : History) (xs : List Placed) → IsPlayed (history_after h xs) → IsPlayed h
played_before h [] all = all
played_before h (x ∷ xs) all = (played_before (x.item ∷ h) xs all).0

-- one more item, which is put from this index on
due_more : (from k : ℕ) (v : Json) (vs : List Json) (mid new all : List Token) → mid ++ values_tokens (drop (from - k) (v ∷ vs)) ≡ all
    → new ≡ mid ++ values_tokens (if nat_le from k then v ∷ [] else []) → new ++ values_tokens (drop (from - (k + 1)) vs) ≡ all
due_more from k v vs mid new all e put = elim (cases_Bool (nat_le from k)) [
  | inl due ↦
      let here : from - k ≡ 0 = grind (arith, nat_tests, due) in
      let there : from - (k + 1) ≡ 0 = grind (arith, nat_tests, due) in
      rw there (values_due mid new all (v ∷ []) vs (rw due at put) (rw here at e))
  | inr early ↦
      let more : from - k ≡ suc (from - (k + 1)) = grind (arith, nat_tests, early) in
      values_due mid new all [] (drop (from - (k + 1)) vs) (rw early at put) (rw more at e)
]

-- the items put so far and those still due from the k-th on together are all that are due
pub record Putting (value : History → Placed → Json) (items : List Placed) (from k : ℕ) (b : Before) (old new : List Token) : Type 0 where
  pub history : History
  pub ends : history_after history (drop k items) ≡ history_after [] items
  pub come : HasCome history b
  pub due : new ++ values_tokens (drop (from - k) (values_behind value history (drop k items))) ≡ old ++ values_tokens (drop from (values_behind value [] items))

pub puts_none : (value : History → Placed → Json) (items : List Placed) (from : ℕ) (b : Before) (old : List Token) → HasCome [] b → Putting value items from 0 b old old
puts_none value items from b old come =
    let all : from - 0 ≡ from = omega arith in
    record { history = []; ends = refl; come = come; due = ap (λ n. old ++ values_tokens (drop n (values_behind value [] items))) all }

module _ {value : History → Placed → Json} {items : List Placed} {from k : ℕ} {b : Before} {old mid : List Token} (m : Putting value items from k b old mid) where
  pub takes : (x : Placed) → slice_get items k ≡ Some x → IsPlayed (history_after [] items) → refusal (state_after m.history) x.item ≡ None
  takes x here all =
      (played_before (x.item ∷ m.history) (drop (k + 1) items) (subst IsPlayed (sym (rw (next items k x here) at m.ends)) all)).1

  pub puts_one : {c : Before} {new : List Token} (x : Placed) → slice_get items k ≡ Some x
      → new ≡ mid ++ values_tokens (if nat_le from k then value m.history x ∷ [] else []) → HasCome (x.item ∷ m.history) c → Putting value items from (k + 1) c old new
  puts_one {new = new} x here put come = record {
    history = x.item ∷ m.history;
    ends = rw (next items k x here) at m.ends;
    come = come;
    due = due_more from k _ _ mid new _ (rw (next items k x here) at m.due) put;
  }

  pub puts_all : length items ≤ k → mid ≡ old ++ values_tokens (drop from (values_behind value [] items))
  puts_all end = no_values mid ∙ (rw (drop_all k items end, drop_all {X = Json} (from - k) [] (omega arith)) at m.due)

pub same_value : (book : List Entry) (h : History) (x : Placed) (c : Count) (striker by : Option ℕ) → c ≡ counted h → striker ≡ (state_after h).ends.striker
    → by ≡ corrected_at book x.place → item_value c striker by x.place x.item ≡ value_in book h x
same_value book h x c striker by count is corrected =
    ap (λ n. item_value n striker by x.place x.item) count
    ∙ ap (λ o. item_value (counted h) o by x.place x.item) is
    ∙ ap (λ o. item_value (counted h) (state_after h).ends.striker o x.place x.item) corrected
