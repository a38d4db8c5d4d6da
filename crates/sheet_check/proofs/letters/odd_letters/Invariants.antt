use Rattle.std.proofs.Common.{◌≡◌, flat_map, string_bytes}
use Rattle.sheet_check.specs.Letters.{odd_letter}
use Rattle.sheet_check.proofs.letters.odd_letters.Given as goal

abbrev pub invariant-loop-letter : goal.invariant-loop-letter
invariant-loop-letter l = string_bytes l.out ≡ flat_map odd_letter l.yielded
