-- The full form of a line of one mark.
use Rattle.std.proofs.lemmas.Grind.{common_steps}
use Rattle.std.proofs.Common.{◌≡◌, ℕ, ◌+◌, ◌≤◌, ◌<◌, List, [], ◌∷◌, ◌++◌, length, Option, Some, None, Ok, Err, refl, sym, ap, ◌∙◌, codes, decimal, arith, append_assoc, length-append}
use Rattle.std.proofs.lemmas.Bool.Decides.{nat_tests}
use Rattle.std.proofs.lemmas.Slice.Eq.{bytes_eq-Decides}
use Rattle.notation.specs.declared.{entry.Ball.Ball, entry.Plain.Plain, entry.Entry.Entry}
use Rattle.notation.specs.declared.fault.LineFault.TheVariants.{UnknownWord}
use Rattle.notation.specs.Written.{IsBall, Token, text_of, tokens}
use Rattle.notation.specs.Reading.{line_answer}
use Rattle.notation.specs.inner.TokenReading.{all_of, entry_at, placed_at, plain_at, skip, word_at}
use Rattle.notation.proofs.Texts.{length-text, line_again}
use Rattle.match_laws.specs.History.{or_else}
use Rattle.cards.specs.Sheet.{Sheet}
use Rattle.shorthand.specs.declared.full.Belongs.TheVariants.{Last}
use Rattle.shorthand.specs.Words.{among_words, in_row, run_words, said_runs, trimmed}
use Rattle.shorthand.specs.Marks.{both, cut, figures, letters, mark, written_mark}
use Rattle.shorthand.specs.Points.{point_at}
use Rattle.shorthand.specs.Lines.{joined, plus}
use Rattle.shorthand.specs.Full.{begins_delivery, by_answer, by_letter, by_same_bowler, in_full, item_from, runs_from, same_bowler, unnamed, words_in_full}
use Rattle.shorthand.specs.inner.Marking.{ball_line}

-- ---- a claim P of a token, its kind and its runs, that holds of each row of the tables

abbrev EachRow : (Token → Token → Type 0) → List (Token × Token) → Type 0
EachRow P [] = Unit {0}
EachRow P (row ∷ rows) = P row.0 row.1 × EachRow P rows

abbrev EachWord : (Token → Token → Token → Type 0) → List (Token × Token × Token) → Type 0
EachWord P [] = Unit {0}
EachWord P (row ∷ rows) = P row.0 row.1 row.2 × EachWord P rows

pub record EachMark (P : Token → Token → Token → Type 0) : Type 0 where
  pub said : EachWord P run_words
  pub written : EachRow (λ l kind. EachRow (λ f runs. P (l ++ f) kind runs) figures) letters

-- P holds of a token in a row
of_row : (P : Token → Token → Type 0) (rows : List (Token × Token)) (t v : Token) → EachRow P rows → in_row rows t ≡ Some v → P t v
of_row P [] t v each is = absurd (cc)
of_row P (row ∷ rows) t v each is = grind (arith, bytes_eq-Decides t row.0, of_row P rows t v)

of_word : (P : Token → Token → Token → Type 0) (rows : List (Token × Token × Token)) (t : Token) (m : Token × Token)
    → EachWord P rows → among_words rows t ≡ Some m → P t m.0 m.1
of_word P [] t m each is = absurd (cc)
of_word P (row ∷ rows) t m each is = grind (arith, bytes_eq-Decides t row.0, of_word P rows t m)

cut_whole : (t : Token) → (cut t).0 ++ (cut t).1 ≡ t
cut_whole [] = refl
cut_whole (b ∷ []) = refl
cut_whole (b ∷ c ∷ bs) = ap (λ u. b ∷ u) (cut_whole (c ∷ bs))

-- so P holds of each mark
module _ (P : Token → Token → Token → Type 0) (each : EachMark P) (t : Token) (m : Token × Token) where
  of_both : (kind runs : Option Token) → in_row letters (cut t).0 ≡ kind → in_row figures (cut t).1 ≡ runs → both kind runs ≡ Some m → P t m.0 m.1
  of_both (Some kind) (Some runs) k r is =
      let at_letters = of_row (λ l k. EachRow (λ f r. P (l ++ f) k r) figures) letters (cut t).0 kind each.written k in
      let at_figure = of_row (λ f r. P ((cut t).0 ++ f) kind r) figures (cut t).1 runs at_letters r in
      let parts : m ≡ (kind, runs) = cc is in
      rw parts (rw (cut_whole t) at at_figure)
  of_both _ _ k r is = absurd (cc)

  of_either : (said : Option (Token × Token)) → said_runs t ≡ said → or_else said (written_mark t) ≡ Some m → P t m.0 m.1
  of_either (Some n) s is = of_word P run_words t m each.said (s ∙ is)
  of_either None s is = of_both (in_row letters (cut t).0) (in_row figures (cut t).1) refl refl is

  pub of_mark : mark t ≡ Some m → P t m.0 m.1
  of_mark is = of_either (said_runs t) refl is

-- ---- a mark is no full line, and word by word it is a delivery of the last delivery's bowler

abbrev IsRead : Token → Token → Token → Type 0
IsRead t kind runs =
    (line_answer t ≡ Err UnknownWord)
    × ((s : Sheet) (book : List Entry) → words_in_full s book (tokens t)
    ≡ Ok (codes "ball") ∷ same_bowler (point_at book Last).bowler ∷ Ok kind ∷ Ok runs ∷ [])

each_read : EachMark IsRead
unfolding line_answer all_of entry_at placed_at plain_at skip word_at begins_delivery by_letter by_same_bowler item_from runs_from unnamed
each_read = assumption

-- ---- the text of a mark's full form

plus_more : (text w : List ℕ) → 0 < length text → length text + 1 + length w ≤ 96 → plus (Ok text) (Ok w) ≡ Ok (text ++ 32 ∷ w)
plus_more text w h h2 = grind (arith, common_steps, nat_tests, length-append)

joined_ball : (n : ℕ) (kind runs : Token) → length (ball_line n kind runs) ≤ 96
    → joined (Ok (codes "ball") ∷ Ok (decimal n) ∷ Ok kind ∷ Ok runs ∷ []) ≡ Ok (ball_line n kind runs)
joined_ball n kind runs h = grind (arith, common_steps, length-append, plus_more, append_assoc)

pub marked_line : (s : Sheet) (book : List Entry) (line : List ℕ) (m : Token × Token) (n : ℕ) (b : Ball)
    → mark (trimmed line) ≡ Some m → (point_at book Last).bowler ≡ Some n → IsBall b
    → text_of (Entry.Write (Plain.Ball b)) ≡ ball_line n m.0 m.1 → in_full s book line ≡ Ok (text_of (Entry.Write (Plain.Ball b)))
unfolding in_full
marked_line s book line m n b is who h text =
    let e = Entry.Write (Plain.Ball b) in
    let read = of_mark IsRead each_read (trimmed line) m is in
    let fits : length (ball_line n m.0 m.1) ≤ 96 = (let most = length-text e h in let same_length = ap length text in omega (arith, most, same_length)) in
    let again = ap line_answer (sym text) ∙ line_again e h in
    let full : by_answer s book (trimmed line) ≡ Ok (ball_line n m.0 m.1) =
    rw (read.0, read.1 s book, who, joined_ball n m.0 m.1 fits, again) in
    full ∙ ap Ok (sym text)
