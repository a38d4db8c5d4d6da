-- The fields of a message, read one by one.
use Rattle.std.specs.Prelude.{◌==◌, if◌then◌else◌, ℕ, List, take, drop, Option, Some, None}
use Rattle.std.specs.Int.{w16, w32, from_be_bytes}
use Rattle.agree_core.specs.declared.messages.{Asker.Asker, DeskId.DeskId}
use Rattle.agree_core.specs.declared.messages.DeskId.TheVariants.{A, B}

abbrev pub desk_numbered : ℕ → Option DeskId
desk_numbered n = if n == 1 then Some A else (if n == 2 then Some B else None)

abbrev pub asker_numbered : ℕ → Option Asker
asker_numbered n =
    if n == 1 then Some Asker.A else (if n == 2 then Some Asker.B else (if n == 3 then Some Asker.Board else None))

abbrev pub place_in : List ℕ → ℕ
place_in bytes = from_be_bytes w32 (take 4 (drop 13 bytes))

abbrev pub round_in : List ℕ → ℕ
round_in bytes = from_be_bytes w16 (take 2 (drop 17 bytes))
