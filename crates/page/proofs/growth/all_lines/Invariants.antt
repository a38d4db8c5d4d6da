use Rattle.std.proofs.Common.{◌≡◌}
use Rattle.std.specs.Prelude.{string_bytes}
use Rattle.match_laws.specs.Stands.{ForEachHistory}
use Rattle.json_fields.specs.Values.{up_to}
use Rattle.page.specs.Growth.{line_of}
use Rattle.page.proofs.growth.all_lines.Given as goal

abbrev pub invariant-loop-innings : goal.invariant-loop-innings
invariant-loop-innings l = ForEachHistory l.score (λ n h. string_bytes l.out ≡ up_to (line_of h l.moments) l.innings)
