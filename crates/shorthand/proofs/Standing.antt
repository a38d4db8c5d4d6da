-- The full forms of lines, as the reader of lines judges them.
use Rattle.std.proofs.lemmas.Grind.{common_steps}
use Rattle.std.proofs.Common.{◌≡◌, ℕ, ◌≤◌, List, [], ◌∷◌, length, true, false}
use Rattle.std.proofs.Common.{Result, Ok, Err, refl, inl, inr, arith, IfOk, lit≤}
use Rattle.std.proofs.lemmas.Bool.Decides.{nat_tests}
use Rattle.notation.specs.declared.{fault.LineFault.LineFault, entry.Entry.Entry}
use Rattle.std.specs.Str.{str_to_ascii_lowercase}
use Rattle.notation.specs.Written.{Token, tokens, is_spaced}
use Rattle.notation.specs.Reading.{line_answer}
use Rattle.notation.proofs.Found.{chosen}
use Rattle.notation.proofs.Texts.{length-text, line_again, line_found}
use Rattle.cards.specs.Sheet.{Sheet}
use Rattle.shorthand.specs.Lines.{Reason, Fault, Word, joined, plus, plus_all}
use Rattle.shorthand.specs.Full.{by_tokens, by_word, in_full, is_of_line, or_lower, or_unknown, put_in_full, with_words, words_in_full}
use Rattle.shorthand.specs.Laws.{FullLinesStand, IsReadOrRefused, TakenLinesAreRead}
use Rattle.shorthand.specs.Words.{trimmed}
use Rattle.shorthand.proofs.Blanks.{untrimmed}

-- an entry's line is tokens with single spaces between them
entry_apart : (line : List ℕ) (e : Entry) → line_answer line ≡ Ok e → is_spaced line ≡ true
unfolding line_answer
entry_apart line e h = grind arith

pub full_lines_stand : FullLinesStand
unfolding in_full
full_lines_stand = grind (arith, common_steps, line_again, untrimmed, entry_apart)

-- ---- 96 bytes

abbrev Fits : Result (List ℕ) Reason → Type 0
Fits line = IfOk line (λ text. length text ≤ 96)

plus_all_fits : (line : Result (List ℕ) Reason) (ws : List Word) → Fits line → Fits (plus_all line ws)
plus_all_fits line [] h = h
plus_all_fits line (w ∷ ws) h = plus_all_fits (plus line w) ws (grind (arith, nat_tests))

with_words_fits : (line : Result (List ℕ) Reason) → Fits line → Fits (with_words line)
with_words_fits line h = grind (arith, common_steps)

tokens_fit : (s : Sheet) (book : List Entry) (line : List ℕ) → Fits (by_tokens s book line)
tokens_fit s book line =
    with_words_fits (joined (words_in_full s book (tokens line))) (plus_all_fits (Ok []) (words_in_full s book (tokens line)) (lit≤ tt))

or_unknown_fits : (t : Token) (lower : Result (List ℕ) Reason) → Fits lower → Fits (or_unknown t lower)
or_unknown_fits t lower h = grind (arith, common_steps)

or_lower_fits : (full lower : Result (List ℕ) Reason) → Fits full → Fits lower → Fits (or_lower full lower)
or_lower_fits full lower h k = grind (arith, common_steps, or_unknown_fits)

words_fit : (s : Sheet) (book : List Entry) (line text : List ℕ) → by_word s book line ≡ Ok text → length text ≤ 96
words_fit s book line text e =
    let lower = str_to_ascii_lowercase line in
    rw e at (or_lower_fits (by_tokens s book line) (by_tokens s book lower) (tokens_fit s book line) (tokens_fit s book lower))

put_fits : (s : Sheet) (book : List Entry) (line text : List ℕ) (read : Result Entry LineFault) → line_answer line ≡ read
    → put_in_full s book line read ≡ Ok text → length text ≤ 96
put_fits s book line text (Ok e) r h =
    let found = line_found line e r in grind (arith, found, length-text e found.0)
put_fits s book line text (Err f) r h = elim (chosen (is_of_line f) (Err (Fault f)) (by_word s book line) (Ok text) h) [
  | inl p ↦ let e = p.1 in absurd (cc)
  | inr p ↦ words_fit s book line text p.1
]

full_fits : (s : Sheet) (book : List Entry) (line text : List ℕ) → in_full s book line ≡ Ok text → length text ≤ 96
unfolding in_full
full_fits s book line text h = put_fits s book (trimmed line) text (line_answer (trimmed line)) refl h

read_or_refused : (text : List ℕ) (read : Result Entry LineFault) → line_answer text ≡ read → IsReadOrRefused text
read_or_refused text (Ok e) r = let found = line_found text e r in inl (e, found.0, found.1)
read_or_refused text (Err f) r = inr (f, r)

pub taken_lines_are_read : TakenLinesAreRead
taken_lines_are_read = record {
  fits = full_fits;
  read = λ s book line text h. read_or_refused text (line_answer text) refl;
}

-- a line that isn't tokens with single spaces between them has a fault of the line as a whole
pub other_fault : (line : List ℕ) (f : LineFault) → line_answer line ≡ Err f → is_spaced line ≡ false → is_of_line f ≡ true
unfolding line_answer
other_fault line f h apart = grind arith

-- any other line is tokens with single spaces between them, in at most 96 bytes
pub is_tokens : (line : List ℕ) (f : LineFault) → line_answer line ≡ Err f → is_of_line f ≡ false → (length line ≤ 96) × (is_spaced line ≡ true)
unfolding line_answer
is_tokens line f h other = grind (arith, nat_tests)
