-- What the check of a plain entry says about its refusal.
use Rattle.std.proofs.Common.{◌≡◌, ℕ, List, Some, None, Result, arith}
use Rattle.std.specs.Prelude.{is_none, is_ok}
use Rattle.notation.specs.declared.entry.{Plain.Plain, Entry.Entry}
use Rattle.match_laws.specs.declared.{standing.Standing.Standing}
use Rattle.match_laws.specs.Refusals.{refusal}
use Rattle.corrections.specs.declared.refusal.Refusal.{Refusal}
use Rattle.corrections.specs.CleanList.{history_of}
use Rattle.corrections.specs.Legal.{IsCheckOf}
use Rattle.corrections.specs.Refusal.{book_refusal}
use Rattle.desk_state.specs.Players.{is_playable}
use Rattle.desk_state.specs.inner.Items.{is_vacancy}

pub taken : (n : ℕ) (book : List Entry) (x : Plain) → book_refusal n book (Entry.Write x) ≡ None → refusal n (history_of book) x ≡ None
unfolding book_refusal
taken n book x e = grind arith

pub refused : (n : ℕ) (book : List Entry) (x : Plain) (why : Refusal) → book_refusal n book (Entry.Write x) ≡ Some why
    → is_vacancy why ≡ is_playable (refusal n (history_of book) x)
unfolding book_refusal
refused n book x why e = grind arith

pub checked : (r : Result Standing Refusal) (n : ℕ) (book : List Entry) (x : Plain) → IsCheckOf r n book (Entry.Write x)
    → is_ok r ≡ is_none (refusal n (history_of book) x)
unfolding book_refusal
checked r n book x is = grind arith
