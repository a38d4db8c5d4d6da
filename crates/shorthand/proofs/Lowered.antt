-- A line in lower case, and the word for which it is refused.
use Rattle.std.proofs.lemmas.Str.{IsUtf8-from_ascii}
use Rattle.std.proofs.lemmas.Bool.Decides.{nat_tests}
use Rattle.std.proofs.Common.{◌≡◌, ℕ, zero, suc, ◌<◌, List, [], ◌∷◌, true, Result, Ok, Err, arith, lit<}
use Rattle.std.specs.Char.{to_ascii_lowercase}
use Rattle.std.specs.Str.{IsAscii, IsUtf8, str_to_ascii_lowercase}
use Rattle.notation.specs.declared.{fault.LineFault.LineFault, entry.Entry.Entry}
use Rattle.notation.specs.Written.{Token, is_spaced}
use Rattle.notation.specs.Reading.{line_answer}
use Rattle.notation.proofs.SpacedLines.{spaced_is_ascii}
use Rattle.shorthand.specs.Lines.{Reason, UnknownWord}
use Rattle.shorthand.specs.Full.{or_fault, read_full}

lower_byte : (b : ℕ) → b < 128 → to_ascii_lowercase b < 128
lower_byte b h = grind (arith, nat_tests)

lower_ascii : (bs : List ℕ) → IsAscii bs → IsAscii (str_to_ascii_lowercase bs)
lower_ascii [] h i = lit< tt
lower_ascii (b ∷ bs) h zero = lower_byte b (h zero)
lower_ascii (b ∷ bs) h (suc i) = lower_ascii bs (λ j. h (suc j)) i

-- tokens in lower case are text
pub lower_is_text : (line : List ℕ) → is_spaced line ≡ true → IsUtf8 (str_to_ascii_lowercase line)
lower_is_text line h = IsUtf8-from_ascii (str_to_ascii_lowercase line) (lower_ascii line (spaced_is_ascii line h))

no_word : (read : Result Entry LineFault) (t : Token) → or_fault read ≡ Err (UnknownWord t) → ⊥
no_word (Ok e) t h = absurd (cc)
no_word (Err f) t h = absurd (cc)

-- a line that is refused for an unknown word has no full form
pub unknown_stays : (full : Result (List ℕ) Reason) (t : Token) → read_full full ≡ Err (UnknownWord t) → full ≡ Err (UnknownWord t)
unknown_stays (Ok text) t h = absurd (no_word (line_answer text) t h)
unknown_stays (Err reason) t h = grind arith
