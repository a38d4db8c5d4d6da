-- The lines of a book, read again.
use Rattle.std.proofs.Common.{◌≡◌, ℕ, ◌+◌, ◌<◌, ◌≤◌, ◌==◌, List, [], ◌∷◌, ◌++◌, Bool, true, not, arith, refl, sym, map, take, Some, None, Result, Ok, Err, length, length-append, append-nil, append_assoc}
use Rattle.std.specs.Prelude.{codes, slice_get}
use Rattle.std.specs.List.{All, list_all}
use Rattle.std.proofs.lemmas.List.{take_all}
use Rattle.std.proofs.lemmas.List.Elements.{All-head, All-more, All-tail}
use Rattle.std.proofs.lemmas.Option.{get_or_from_slice_get, slice_get_within}
use Rattle.notation.specs.declared.{entry.Entry.Entry, entry.TheConstants.PLACES}
use Rattle.notation.specs.Lines.{lines_of}
use Rattle.notation.specs.Reading.{line_answer}
use Rattle.notation.specs.Written.{IsEntry, text_of, tokens, is_visible, is_token, is_spaced}
use Rattle.notation.proofs.Texts.{line_again}
use Rattle.corrections.specs.Refusal.{book_refusal}
use Rattle.agree_core.specs.Ballots.{Ballot}
use Rattle.agree_core.specs.Books.{AllTaken, Rules, book_of, voted_list}
use Rattle.agree_core.proofs.Taken.{taken_push}
use Rattle.vote_store.specs.declared.refusal.Refusal.{Refusal}
use Rattle.cards.specs.Columns.{lines_from}
use Rattle.cards.specs.Sheet.{Sheet}
use Rattle.books.specs.CardBook.{IsBookFrom, IsBookOfLines, IsBookOfVotes, first_rejected, votes_in_file}
use Rattle.books.specs.Taking.{answer_to, book_after, with_taken}
use Rattle.books.specs.declared.rejected.Rejected.{Rejected}
use Rattle.books.specs.declared.source.Source.{Source}
use Rattle.books.specs.declared.source.Source.TheVariants.{Lines}
use Rattle.commands.specs.Lines.{AreReadAgain, full_line, lines_text}

-- if the first k entries of a book can be written and the next one too, the first k + 1 can
pub one_more : (book : List Entry) (k : ℕ) (e : Entry) → All IsEntry (take k book) → slice_get book k ≡ Some e → IsEntry e → All IsEntry (take (k + 1) book)
one_more book k e h is in_range = All-more IsEntry book k e (slice_get_within book k e is) h (rw (get_or_from_slice_get book k e e is) in_range)

-- no byte of a line is a newline
abbrev pub is_one_line : List ℕ → Bool
is_one_line bs = list_all (λ b. not (b == 10)) bs

-- the first line of a text ends at its newline
cut : (line rest : List ℕ) → is_one_line line ≡ true → lines_of (line ++ (10 ∷ rest)) ≡ line ∷ lines_of rest
cut [] rest h = refl
cut (b ∷ bs) rest h = grind (arith, cut bs rest)

-- a line whose pieces between spaces are visible has no newline
visible_line : (bs : List ℕ) → list_all (list_all is_visible) (tokens bs) ≡ true → is_one_line bs ≡ true
visible_line [] h = refl
visible_line (b ∷ bs) h = grind (arith, visible_line bs)

spaced : (pieces : List (List ℕ)) → list_all is_token pieces ≡ true → list_all (list_all is_visible) pieces ≡ true
spaced [] h = refl
spaced (w ∷ ws) h = grind (arith, spaced ws)

-- a line that is read as an entry is spaced
read_is_spaced : (line : List ℕ) (e : Entry) → line_answer line ≡ Ok e → is_spaced line ≡ true
unfolding line_answer
read_is_spaced line e h = grind arith

text_is_one_line : (e : Entry) → IsEntry e → is_one_line (text_of e) ≡ true
text_is_one_line e h = visible_line (text_of e) (spaced (tokens (text_of e)) (read_is_spaced (text_of e) e (line_again e h)))

-- splitting the printed lines of these entries gives their texts
lines_of-lines_from : (n : ℕ) (book : List Entry) → All IsEntry book → lines_of (lines_from full_line n book) ≡ map text_of book
lines_of-lines_from n [] h = refl
lines_of-lines_from n (e ∷ es) h =
    rw (
      append_assoc (text_of e) (codes "\n"),
      cut (text_of e) (lines_from full_line (n + 1) es) (text_is_one_line e (All-head IsEntry e es h)),
      lines_of-lines_from (n + 1) es (All-tail IsEntry e es h),
    ) refl

texts_again : (book : List Entry) → All IsEntry book → map line_answer (map text_of book) ≡ map Ok book
texts_again [] h = refl
texts_again (e ∷ es) h = rw (line_again e (All-head IsEntry e es h), texts_again es (All-tail IsEntry e es h)) refl

-- a book of n entries, at most PLACES, is read again if all its entries can be written
pub all_read : (book : List Entry) (k n : ℕ) → n ≤ k → n ≡ length book → n ≤ PLACES → All IsEntry (take k book) → AreReadAgain book
all_read book k n end long few h =
    let all = rw (take_all k book (omega (arith, end, long))) at h in
    record { said = rw (lines_of-lines_from 0 book all) (texts_again book all); places = omega (arith, long, few) }

-- ---- the lines as a book

module _ (innings : ℕ) where
  -- a line is taken if its entry may come next
  taken_next : (book : List Entry) (line : List ℕ) (e : Entry) → line_answer line ≡ Ok e → length book < PLACES → book_refusal innings book e ≡ None → answer_to innings book line ≡ Ok e
  taken_next book line e says few may = grind (arith, says, few, may)

  -- lines are all taken if each one's entry may come next
  all_taken : (n : ℕ) (book : List Entry) (lines : List (List ℕ)) (es : List Entry) → map line_answer lines ≡ map Ok es →
      AllTaken (book_refusal innings) book es → length book + length es ≤ PLACES →
      (first_rejected innings n book lines ≡ None) × (book_after innings book lines ≡ book ++ es)
  all_taken n book [] [] same may few = (refl, sym (append-nil book))
  all_taken n book [] (e ∷ es) same may few = absurd (cc)
  all_taken n book (line ∷ lines) [] same may few = absurd (cc)
  all_taken n book (line ∷ lines) (e ∷ es) same may few =
      let says : line_answer line ≡ Ok e = cc in
      let rest : map line_answer lines ≡ map Ok es = cc in
      let next = taken_next book line e says (omega (arith, few)) may.0 in
      let later = all_taken (n + 1) (book ++ e ∷ []) lines es rest may.1 (omega (arith, few, length-append book (e ∷ []))) in
      (rw (first_rejected, next) later.0, rw next (rw (append_assoc book (e ∷ [])) at later.1))

  -- the lines of a legal book, read again, make that book
  pub again : (book : List Entry) → AreReadAgain book → AllTaken (book_refusal innings) [] book → IsBookOfLines innings (lines_text book) book
  again book m may = let all = all_taken 1 [] (lines_of (lines_text book)) book m.said may (omega (arith, m.places)) in record { taken = all.0; entries = sym all.1 }

  -- an entry that was taken from a line was one that may come next
  was_allowed : (book : List Entry) (line : List ℕ) (e : Entry) → answer_to innings book line ≡ Ok e → book_refusal innings book e ≡ None
  was_allowed book line e taken = grind (arith, taken)

  one_line_more : (book : List Entry) (line : List ℕ) (answer : Result Entry Rejected) → answer_to innings book line ≡ answer → AllTaken (book_refusal innings) [] book →
      AllTaken (book_refusal innings) [] (with_taken answer book)
  one_line_more book line (Ok e) is may = taken_push (book_refusal innings) [] book e may (was_allowed book line e is)
  one_line_more book line (Err why) is may = may

  lines_allowed : (book : List Entry) (lines : List (List ℕ)) → AllTaken (book_refusal innings) [] book → AllTaken (book_refusal innings) [] (book_after innings book lines)
  lines_allowed book [] may = may
  lines_allowed book (line ∷ lines) may =
      lines_allowed (with_taken (answer_to innings book line) book) lines (one_line_more book line (answer_to innings book line) refl may)

front_allowed : {Why : Type 0} (rules : Rules Why) (book xs ys : List Entry) → AllTaken rules book (xs ++ ys) → AllTaken rules book xs
front_allowed rules book [] ys may = tt
front_allowed rules book (x ∷ xs) ys may = (may.0, front_allowed rules (book ++ x ∷ []) xs ys may.1)

votes_allowed : (innings : ℕ) (votes : List Ballot) → AllTaken (book_refusal innings) [] (voted_list votes) → AllTaken (book_refusal innings) [] (book_of votes)
votes_allowed innings [] may = tt
votes_allowed innings (b ∷ rest) may = front_allowed (book_refusal innings) [] (book_of (b ∷ rest)) (b.entry ∷ []) may

file_allowed : (innings : ℕ) (shown : Result (List Ballot) Refusal) (book : List Entry) → IsBookOfVotes innings shown book → AllTaken (book_refusal innings) [] book
file_allowed innings (Ok votes) book made = rw (made.entries) (votes_allowed innings votes made.taken)
file_allowed innings (Err why) book made = absurd made

-- each entry of an input's book may come next after those before it
pub input_allowed : (source : Source) (s : Sheet) (input : List ℕ) (book : List Entry) → IsBookFrom source s input book → AllTaken (book_refusal s.innings) [] book
input_allowed Lines s input book made = rw (made.entries) (lines_allowed s.innings [] (lines_of input) tt)
input_allowed (Source.Votes desk) s input book made = file_allowed s.innings (votes_in_file desk s.game input) book made
