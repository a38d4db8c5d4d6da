-- A line that is written word by word: its text, or what isn't clear in it.
use Rattle.std.specs.Prelude.{ℕ, nat_le, length, if◌then◌else◌, List, [], ◌∷◌, ◌++◌, map, codes, Result, Ok, Err}
use Rattle.notation.specs.Written.{Token}
use Rattle.notation.specs.declared.{fault.LineFault.LineFault, entry.Side.Side}
use Rattle.notation.specs.declared.fault.LineFault.TheVariants.{TooLong}
use Rattle.shorthand.specs.declared.unclear.{Letter.Letter, Unaided.Unaided, Unclear.Unclear}

-- what isn't clear in a line: its words, who bowls, who is out, which player of a side a name means, what `undo` undoes, which
-- of its two meanings a letter has, what a fielder has to do with a way of being out, an unknown word, or a delivery that doesn't exist
pub data Reason : Type 0 where
  Fault : LineFault → Reason
  WhoBowls : Reason
  WhoIsOut : Reason
  NoSuchPlayer : Token → Reason
  WhichPlayer : Side → Token → Reason
  NothingStands : Reason
  TwoMeanings : Letter → Reason
  NoFielder : Unaided → Token → Reason
  UnknownWord : Token → Reason
  NoSuchBall : Token → Reason

abbrev pub reason_of : Unclear → Reason
reason_of (Unclear.Fault f) = Fault f
reason_of Unclear.WhoBowls = WhoBowls
reason_of Unclear.WhoIsOut = WhoIsOut
reason_of (Unclear.NoSuchPlayer t) = NoSuchPlayer t.bytes
reason_of (Unclear.WhichPlayer side t) = WhichPlayer side t.bytes
reason_of Unclear.NothingStands = NothingStands
reason_of (Unclear.TwoMeanings letter) = TwoMeanings letter
reason_of (Unclear.NoFielder how t) = NoFielder how t.bytes
reason_of (Unclear.UnknownWord t) = UnknownWord t.bytes
reason_of (Unclear.NoSuchBall t) = NoSuchBall t.bytes

-- a word of the line, or why there is none
abbrev pub Word : Type 0
Word = Result Token Reason

-- the token of a word, or 0 if there is none
abbrev pub known : Word → Token
known (Ok t) = t
known (Err reason) = codes "0"

-- the tokens as typed
abbrev pub as_typed : List Token → List Word
as_typed ts = map Ok ts

-- a text with one word more, after a space unless it is the first
abbrev pub spaced : List ℕ → Token → List ℕ
spaced [] w = w
spaced (b ∷ bs) w = (b ∷ bs) ++ 32 ∷ w

-- a text of at most 96 bytes, or that it is too long
abbrev pub within : List ℕ → Result (List ℕ) Reason
within text = if nat_le (length text) 96 then Ok text else Err (Fault TooLong)

-- a line with one word more; the first reason stays
abbrev pub plus : Result (List ℕ) Reason → Word → Result (List ℕ) Reason
plus (Ok text) (Ok w) = within (spaced text w)
plus (Ok text) (Err reason) = Err reason
plus (Err reason) w = Err reason

abbrev pub plus_all : Result (List ℕ) Reason → List Word → Result (List ℕ) Reason
plus_all line [] = line
plus_all line (w ∷ ws) = plus_all (plus line w) ws

-- the words with single spaces between them, in at most 96 bytes; or the first reason against them
abbrev pub joined : List Word → Result (List ℕ) Reason
joined ws = plus_all (Ok []) ws
