-- Reading tokens from the left: gives a value and the tokens after it, or the first fault.
use Rattle.std.specs.Prelude.{◌≡◌, ℕ, List, [], ◌∷◌, codes, Bool, true, false, if◌then◌else◌, Option, Some, None, Result, Ok, Err}
use Rattle.std.specs.Str.{bytes_eq}
use Rattle.std.specs.Str.Parse.{digits_value}
use Rattle.notation.specs.declared.{fault.LineFault.LineFault, entry.Bound.Bound, entry.Out.Out, entry.Ball.Ball, entry.Plain.Plain, entry.Entry.Entry, words.First.First}
use Rattle.notation.specs.declared.fault.LineFault.TheVariants.{UnknownWord, BadNumber, Missing, Extra}
use Rattle.notation.specs.Written.{Token, side_text, kind_text, how_text, who_text, leave_text, cause_text, all_sides, all_kinds, all_hows, all_whos, all_leaves, all_causes, is_number}

infixl 10 ◌>>=◌
abbrev pub ◌>>=◌ : {A B : Type 0} → Result A LineFault → (A → Result B LineFault) → Result B LineFault
(Ok x) >>= f = f x
(Err e) >>= f = Err e

abbrev pub first_text : First → Token
first_text First.Innings = codes "innings"
first_text First.Come = codes "in"
first_text First.Ball = codes "ball"
first_text First.Gone = codes "gone"
first_text First.Over = codes "over"
first_text First.Penalty = codes "penalty"
first_text First.Swap = codes "swap"
first_text First.End = codes "end"
first_text First.Close = codes "close"
first_text First.Void = codes "void"

-- all first words of plain entries
abbrev pub all_firsts : List First
all_firsts =
    First.Innings ∷ First.Come ∷ First.Ball ∷ First.Gone ∷ First.Over ∷ First.Penalty
    ∷ First.Swap ∷ First.End ∷ First.Close ∷ First.Void ∷ []

-- the first of these values whose word is the token
abbrev pub find_word : {W : Type 0} → (W → Token) → List W → Token → Option W
find_word text [] t = None
find_word text (w ∷ ws) t = if bytes_eq t (text w) then Some w else find_word text ws t

abbrev pub found_word : {W : Type 0} → Option W → List Token → Result (W × List Token) LineFault
found_word None ts = Err UnknownWord
found_word (Some w) ts = Ok (w, ts)

unfoldable pub word_at :
    {W : Type 0} → (W → Token) → List W → List Token → Result (W × List Token) LineFault
word_at text all [] = Err Missing
word_at text all (t ∷ ts) = found_word (find_word text all t) ts

unfoldable pub number_at : ℕ → ℕ → List Token → Result (ℕ × List Token) LineFault
number_at low high [] = Err Missing
number_at low high (t ∷ ts) = if is_number low high t then Ok (digits_value 10 t, ts) else Err BadNumber

-- whether the next token is this word, and the tokens left once the word is skipped
unfoldable pub skip : Token → List Token → Bool × List Token
skip word [] = (false, [])
skip word (t ∷ ts) = if bytes_eq t word then (true, ts) else (false, t ∷ ts)

unfoldable pub short_at : List Token → Result (ℕ × List Token) LineFault
short_at ts = let next = skip (codes "short") ts in if next.0 then number_at 1 20 next.1 else Ok (0, next.1)

unfoldable pub bound_at : List Token → Bound × List Token
bound_at ts =
    let four = skip (codes "four") ts in
    let six = skip (codes "six") four.1 in
    let over = skip (codes "overthrow") six.1 in
    if four.0 then (Bound.Four, four.1)
    else if six.0 then (Bound.Six, six.1)
    else if over.0 then (Bound.Overthrow, over.1)
    else (Bound.Run, over.1)

unfoldable pub dismissal_at : List Token → Result (Out × List Token) LineFault
dismissal_at ts = do
  how ← word_at how_text all_hows ts
  who ← word_at who_text all_whos how.1
  fielder ← number_at 0 12 who.1
  let crossed = skip (codes "crossed") fielder.1 in
      Ok (record { how = how.0; who = who.0; fielder = fielder.0; crossed = crossed.0 }, crossed.1)

unfoldable pub out_at : List Token → Result (Option Out × List Token) LineFault
out_at ts =
    let next = skip (codes "out") ts in
    if next.0 then (dismissal_at next.1 >>= λ o. Ok (Some o.0, o.1)) else Ok (None, next.1)

unfoldable pub ball_at : List Token → Result (Ball × List Token) LineFault
ball_at ts = do
  bowler ← number_at 1 11 ts
  kind ← word_at kind_text all_kinds bowler.1
  ran ← number_at 0 20 kind.1
  short ← short_at ran.1
  out ← out_at (skip (codes "dead") (bound_at short.1).1).1
  Ok (
    record {
      bowler = bowler.0;
      kind = kind.0;
      ran = ran.0;
      short = short.0;
      bound = (bound_at short.1).0;
      dead = (skip (codes "dead") (bound_at short.1).1).0;
      out = out.0;
    },
    out.1,
  )

-- reads what follows the first word of a plain entry
unfoldable pub after_first : First → List Token → Result (Plain × List Token) LineFault
after_first First.Innings ts = do
  side ← word_at side_text all_sides ts
  Ok (Plain.Innings side.0, side.1)
after_first First.Come ts = do
  n ← number_at 1 11 ts
  Ok (Plain.Come n.0, n.1)
after_first First.Ball ts = do
  b ← ball_at ts
  Ok (Plain.Ball b.0, b.1)
after_first First.Gone ts = do
  leave ← word_at leave_text all_leaves ts
  n ← number_at 1 11 leave.1
  Ok (Plain.Gone leave.0 n.0, n.1)
after_first First.Over ts = Ok (Plain.Over, ts)
after_first First.Penalty ts = do
  side ← word_at side_text all_sides ts
  x ← number_at 1 42 side.1
  y ← number_at 0 99 x.1
  Ok (Plain.Penalty side.0 x.0 y.0, y.1)
after_first First.Swap ts = Ok (Plain.Swap, ts)
after_first First.End ts = do
  cause ← word_at cause_text all_causes ts
  Ok (Plain.End cause.0, cause.1)
after_first First.Close ts = Ok (Plain.Close, ts)
after_first First.Void ts = Ok (Plain.Void, ts)

unfoldable pub plain_at : List Token → Result (Plain × List Token) LineFault
plain_at ts = do
  first ← word_at first_text all_firsts ts
  after_first first.0 first.1

-- reads a place, and the plain entry for it
unfoldable pub placed_at : List Token → Result ((ℕ × Plain) × List Token) LineFault
placed_at ts = do
  place ← number_at 0 8191 ts
  plain ← plain_at place.1
  Ok ((place.0, plain.0), plain.1)

unfoldable pub entry_at : List Token → Result (Entry × List Token) LineFault
entry_at ts =
    let fix = skip (codes "fix") ts in
    let late = skip (codes "late") fix.1 in
    if fix.0
    then (placed_at fix.1 >>= λ x. Ok (Entry.Fix (x.0).0 (x.0).1, x.1))
    else if late.0
    then (placed_at late.1 >>= λ x. Ok (Entry.Late (x.0).0 (x.0).1, x.1))
    else (plain_at late.1 >>= λ p. Ok (Entry.Write p.0, p.1))

-- nothing may stand after an entry
abbrev pub ends : Entry → List Token → Result Entry LineFault
ends e [] = Ok e
ends e (t ∷ ts) = Err Extra

abbrev pub alone : Entry × List Token → Result Entry LineFault
alone e = ends e.0 e.1

unfoldable pub all_of : List Token → Result Entry LineFault
all_of ts = entry_at ts >>= alone

-- the function's result, and the tokens that it left, are what this reading gives
abbrev pub Reads :
    {X : Type 0} → Result X LineFault → List Token → Result (X × List Token) LineFault → Type 0
Reads (Ok x) left read = read ≡ Ok (x, left)
Reads (Err f) left read = read ≡ Err f
