-- Decoding 24 bytes. They may be no entry's code: then the code of the decoded entry, if any, differs from them.
use Rattle.std.specs.Prelude.{ℕ, ◌==◌, ◌&&◌, nat_le, List, [], ◌∷◌, if◌then◌else◌, Option, Some, None, slice_index}
use Rattle.std.specs.Int.{w32, from_be_bytes}
use Rattle.notation.specs.declared.{entry.Bound.Bound, entry.Out.Out, entry.Ball.Ball, entry.Plain.Plain, entry.Entry.Entry, words.First.First}
use Rattle.notation.specs.inner.TokenReading.{all_firsts}
use Rattle.notation.specs.Written.{all_sides, all_kinds, all_hows, all_whos, all_leaves, all_causes}
use Rattle.notation.specs.Code.{side_code, kind_code, bound_code, how_code, who_code, leave_code, cause_code}

infixl 10 ◌>>=◌
abbrev pub ◌>>=◌ : {A B : Type 0} → Option A → (A → Option B) → Option B
(Some x) >>= f = f x
None >>= f = None

-- the first of these values with this code
abbrev pub find_code : {W : Type 0} → (W → ℕ) → List W → ℕ → Option W
find_code code [] n = None
find_code code (w ∷ ws) n = if n == code w then Some w else find_code code ws n

abbrev pub first_code : First → ℕ
first_code First.Innings = 1
first_code First.Come = 2
first_code First.Ball = 3
first_code First.Gone = 4
first_code First.Over = 5
first_code First.Penalty = 6
first_code First.Swap = 7
first_code First.End = 8
first_code First.Close = 9
first_code First.Void = 10

abbrev pub all_bounds : List Bound
all_bounds = Bound.Run ∷ Bound.Four ∷ Bound.Six ∷ Bound.Overthrow ∷ []

abbrev pub in_range : ℕ → ℕ → ℕ → Option ℕ
in_range low high n = if nat_le low n && nat_le n high then Some n else None

unfoldable pub out_from : ℕ → ℕ → ℕ → ℕ → Option (Option Out)
out_from how who fielder crossed = if how == 0 then Some None else do
  h ← find_code how_code all_hows how
  w ← find_code who_code all_whos who
  f ← in_range 0 12 fielder
  Some (Some (record { how = h; who = w; fielder = f; crossed = crossed == 1 }))

-- the byte at this index of the code
abbrev pub at : List ℕ → ℕ → ℕ
at bytes i = slice_index bytes i

unfoldable pub ball_from : List ℕ → Option Ball
ball_from bytes = do
  bowler ← in_range 1 11 (at bytes 6)
  kind ← find_code kind_code all_kinds (at bytes 7)
  ran ← in_range 0 20 (at bytes 8)
  short ← in_range 0 20 (at bytes 9)
  bound ← find_code bound_code all_bounds (at bytes 10)
  out ← out_from (at bytes 12) (at bytes 13) (at bytes 14) (at bytes 15)
  Some (record {
    bowler = bowler;
    kind = kind;
    ran = ran;
    short = short;
    bound = bound;
    dead = at bytes 11 == 1;
    out = out;
  })

unfoldable pub body_from : First → List ℕ → Option Plain
body_from First.Innings bytes = do
  side ← find_code side_code all_sides (at bytes 6)
  Some (Plain.Innings side)
body_from First.Come bytes = do
  n ← in_range 1 11 (at bytes 6)
  Some (Plain.Come n)
body_from First.Ball bytes = do
  b ← ball_from bytes
  Some (Plain.Ball b)
body_from First.Gone bytes = do
  leave ← find_code leave_code all_leaves (at bytes 6)
  n ← in_range 1 11 (at bytes 7)
  Some (Plain.Gone leave n)
body_from First.Over bytes = Some Plain.Over
body_from First.Penalty bytes = do
  side ← find_code side_code all_sides (at bytes 6)
  x ← in_range 1 42 (at bytes 7)
  y ← in_range 0 99 (at bytes 8)
  Some (Plain.Penalty side x y)
body_from First.Swap bytes = Some Plain.Swap
body_from First.End bytes = do
  cause ← find_code cause_code all_causes (at bytes 6)
  Some (Plain.End cause)
body_from First.Close bytes = Some Plain.Close
body_from First.Void bytes = Some Plain.Void

-- the place in bytes 2 to 5
abbrev pub place_from : List ℕ → ℕ
place_from bytes = from_be_bytes w32 (at bytes 2 ∷ at bytes 3 ∷ at bytes 4 ∷ at bytes 5 ∷ [])

unfoldable pub decode : List ℕ → Option Entry
decode bytes = do
  first ← find_code first_code all_firsts (at bytes 0)
  p ← body_from first bytes
  if at bytes 1 == 0 then Some (Entry.Write p)
      else (in_range 0 8191 (place_from bytes) >>= λ place.
      if at bytes 1 == 1 then Some (Entry.Fix place p) else Some (Entry.Late place p))
