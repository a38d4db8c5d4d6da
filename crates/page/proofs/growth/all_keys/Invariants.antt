use Rattle.std.proofs.Common.{◌≡◌}
use Rattle.std.specs.Prelude.{string_bytes}
use Rattle.match_laws.specs.Stands.{ForEachHistory}
use Rattle.json_fields.specs.Values.{up_to}
use Rattle.page.specs.Growth.{key_html}
use Rattle.page.specs.Innings.{title_html}
use Rattle.page.proofs.growth.all_keys.Given as goal

abbrev pub invariant-loop-innings : goal.invariant-loop-innings
invariant-loop-innings l = ForEachHistory l.score (λ n h. string_bytes l.out ≡ up_to (λ i. key_html h i (title_html l.sheet l.sheet.innings h i)) l.innings)
