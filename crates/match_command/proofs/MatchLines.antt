-- The lines of a match: the first line that isn't agreed ends it.
use Rattle.std.proofs.Common.{◌≡◌, ◌+◌, ℕ, List, ◌∷◌, [], ◌++◌, length, refl, arith, drop, suc, ◌∙◌}
use Rattle.std.specs.Prelude.{take}
use Rattle.corrections.specs.declared.book_of.BookOf.{Ghosts as Books}
use Rattle.entry_log.specs.declared.{disk.Disk.Ghosts as Disks, slots_of.SlotsOf.Ghosts as Files}
use Rattle.desk.specs.declared.desk.Desk.{Desk}
use Rattle.notation.specs.Lines.{lines_of}
use Rattle.books.specs.Taking.{answer_to, book_after, with_taken}
use Rattle.notation.specs.declared.entry.Entry.{Entry}
use Rattle.match_command.specs.declared.match_run.fault.MatchFault.{MatchFault}
use Rattle.books.proofs.TakenLines.{Midway, first_refused}
use Rattle.match_command.specs.MatchRun.{WhyNoMatch, entries_of_first}
use Rattle.match_command.specs.inner.Turns.{LineLeaves, LinesLeave, WhyNotAgreed}

module _ (innings : ℕ) (input line : List ℕ) (rest : List (List ℕ)) (number : ℕ) (book : List Entry) (m : Midway innings input (line ∷ rest) number book) where
  pub refused : (n k : ℕ) (fault : MatchFault) → n ≡ innings → k ≡ number + 1 → WhyNotAgreed (answer_to n book line) book k fault → WhyNoMatch innings input [] [] fault
  refused n k fault same numbered w = grind (arith, m, first_refused innings input line rest number book m n)

-- the lines from this number on are left, and those before it gave this book
pub record Reached (innings : ℕ) (input : List ℕ) (lines : List (List ℕ)) (number : ℕ) (book : List Entry) : Type 0 where
  pub left : drop number (lines_of input) ≡ lines
  pub is : entries_of_first number innings input ≡ book

one_more : {X : Type 0} (n : ℕ) (xs : List X) (x : X) (rest : List X) → drop n xs ≡ x ∷ rest → (drop (n + 1) xs ≡ rest) × (take (n + 1) xs ≡ take n xs ++ x ∷ [])
one_more (suc n) (y ∷ ys) x rest e = grind (arith, one_more n ys x rest e)
one_more n xs x rest e = grind arith

after_last : (innings : ℕ) (book : List Entry) (before : List (List ℕ)) (line : List ℕ)
    → book_after innings book (before ++ line ∷ []) ≡ with_taken (answer_to innings (book_after innings book before) line) (book_after innings book before)
after_last innings book [] line = refl
after_last innings book (x ∷ xs) line = after_last innings (with_taken (answer_to innings book x) book) xs line

module _ (innings : ℕ) (input line : List ℕ) (rest : List (List ℕ)) (number : ℕ) (book : List Entry) (r : Reached innings input (line ∷ rest) number book) where
  pub one_reached : (new : List Entry) → new ≡ with_taken (answer_to innings book line) book → Reached innings input rest (number + 1) new
  one_reached new e = grind (arith, r.left, r.is, one_more number (lines_of input) line rest, after_last innings [] (take number (lines_of input)) line)

  -- what both disks hold if the next line isn't agreed
  pub line_left : {S B D : Type 0} {g : Files S D} {h : Disks D} {b : Books B} (x y : Desk S B D g h b) (k n : ℕ) (fault : MatchFault) → n ≡ innings → length book ≡ number → k ≡ number + 1
      → WhyNotAgreed (answer_to n book line) book k fault → LineLeaves book (with_taken (answer_to n book line) book) fault x y → LinesLeave innings input fault x y
  line_left x y k n (MatchFault.Line at why) same long e w l = (number, w.0 ∙ e, rw r.is l)
  line_left x y k n (MatchFault.NotAgreed place) same long e w l =
      let new = one_reached (with_taken (answer_to innings book line) book) refl in
      (number, w ∙ long, rw (new.is, ← same) l)
  line_left x y k n MatchFault.Device same long e w l =
      let new = one_reached (with_taken (answer_to innings book line) book) refl in
      (number, tt, rw (r.is, new.is, ← same) l)
  line_left x y k n _ same long e w l = absurd w
