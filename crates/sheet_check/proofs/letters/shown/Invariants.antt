use Rattle.std.proofs.Common.{◌≡◌, flat_map, string_bytes}
use Rattle.sheet_check.specs.Letters.{shown_letter}
use Rattle.sheet_check.proofs.letters.shown.Given as goal

abbrev pub invariant-loop-letter : goal.invariant-loop-letter
invariant-loop-letter l = string_bytes l.out ≡ flat_map shown_letter l.yielded
