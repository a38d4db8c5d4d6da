use Rattle.std.proofs.Common.{◌≡◌, ◌≤◌, ℕ, Bool, true, false, List, length, slice_index, nat_lt, sym, subst, arith}
use Rattle.std.specs.Prelude.{IsAscii}
use Rattle.std.specs.Bool.{MatchBool}
use Rattle.std.specs.List.{list_all}
use Rattle.std.specs.Str.{IsNotAscii}
use Rattle.std.proofs.lemmas.Bool.{cases_lt}
use Rattle.std.proofs.lemmas.Bool.Decides.{nat_tests}
use Rattle.std.proofs.lemmas.List.{get_or_past}
use Rattle.std.proofs.lemmas.List.Elements.{All-from_get_or}
use Rattle.std.proofs.lemmas.List.Folds.{list_all_at}
use Rattle.std.proofs.lemmas.List.Sums.{list_all-from_AllPass}
use Rattle.memchr.specs.Find.{NoneBefore, Nowhere, Passes, is_byte}
use Rattle.export.proofs.escapes.is_below_del.Goals as goal

abbrev is_below : ℕ → Bool
is_below byte = nat_lt byte 0x7f

abbrev IsDel : List ℕ → ℕ → Type 0
IsDel bytes = Passes (is_byte 0x7f) bytes

from_del : (bytes : List ℕ) (i : ℕ) → 0x7f ≤ slice_index bytes i → list_all is_below bytes ≡ false
from_del bytes i high = grind (arith, nat_tests, cases_lt i (length bytes), list_all_at is_below bytes i 0, get_or_past bytes i 0)

-- where DEL is found, not every byte is below DEL
found : (bytes : List ℕ) (i : ℕ) → NoneBefore (IsDel bytes) 0 (length bytes) i × IsDel bytes i → false ≡ list_all is_below bytes
found bytes i del =
    let is = del.1 in
    sym (from_del bytes i (grind (arith, nat_tests, is)))

-- where DEL isn't found, every byte is below DEL just where the text is ASCII
tested : (bytes : List ℕ) (r : Bool) → Nowhere (IsDel bytes) 0 (length bytes) → MatchBool r (IsAscii bytes) (IsNotAscii bytes)
    → r ≡ list_all is_below bytes
tested bytes true none ascii =
    sym (list_all-from_AllPass is_below bytes (All-from_get_or (λ byte. is_below byte ≡ true) bytes 0 (λ i less.
    let low = ascii i in
    let other = none i (omega arith) less in
    grind (arith, nat_tests, low, other))))
tested bytes false none high = let beyond = high.1 in sym (from_del bytes high.0 (omega (arith, beyond)))

pub returns-in-Some : goal.returns-in-Some
returns-in-Some c =
    subst (λ (bytes : List ℕ). false ≡ list_all is_below bytes) c.as_bytes-bytes.ensures.value
    (found c.as_bytes-bytes.result.now c.in-Some.field-0 c.in-Some.ensures)

pub returns-in-None : goal.returns-in-None
returns-in-None c =
    subst (λ (bytes : List ℕ). c.is_ascii.result ≡ list_all is_below bytes) c.as_bytes-bytes.ensures.value
    (tested c.as_bytes-bytes.result.now c.is_ascii.result c.in-None.ensures c.is_ascii.ensures.cases)
