use Rattle.std.proofs.Common.{◌≡◌, ◌++◌, flat_map, string_bytes}
use Rattle.page.specs.Escapes.{escaped_char}
use Rattle.page.proofs.escapes.put_escaped.Given as goal

abbrev pub invariant-loop-letter : goal.invariant-loop-letter
invariant-loop-letter l = string_bytes l.out ≡ string_bytes l.fn.out ++ flat_map escaped_char l.yielded
