-- What the scorer is told, and how the process goes on then.
use Rattle.std.proofs.Common.{arith, ◌≡◌, ℕ, List, [], Result, Option, append-nil}
use Rattle.std.specs.Prelude.{OnOk}
use Rattle.std.specs.Io.KnownBytes.{Appends}
use Rattle.streams.specs.declared.watched.WriteFailed.{WriteFailed}
use Rattle.live.specs.Ends.{Course, course_of, further, known_at, written}
use Rattle.live.specs.Runs.{with_text}

-- a text is told, or a write failed
pub tells_same : (answer : Result (Unit {0}) WriteFailed) (r : Course) (s t : Option (List ℕ)) {text other : List ℕ} → r ≡ written answer → text ≡ other
    → OnOk answer (Appends s t text) → Appends (known_at r s) (known_at r t) other
tells_same answer r s t e same a = grind arith

pub goes_further : (answer : Result (Unit {0}) WriteFailed) (r : Course) → r ≡ written answer → course_of r ≡ further
goes_further answer r e = grind arith

-- the text that was told first
pub told_first : (s t : Option (List ℕ)) (text : List ℕ) → Appends s t text → Appends (with_text s text) t []
told_first s t text a = grind (arith, append-nil)
