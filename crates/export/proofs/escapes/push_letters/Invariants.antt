use Rattle.std.proofs.Common.{◌≡◌, ◌++◌, flat_map, string_bytes}
use Rattle.export.specs.Escapes.{shown_char}
use Rattle.export.proofs.escapes.push_letters.Given as goal

abbrev pub invariant-loop-letter : goal.invariant-loop-letter
invariant-loop-letter l = string_bytes l.out ≡ string_bytes l.fn.out ++ flat_map shown_char l.yielded
