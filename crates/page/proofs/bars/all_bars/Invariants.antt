use Rattle.std.proofs.Common.{◌≡◌}
use Rattle.std.specs.Prelude.{string_bytes}
use Rattle.match_laws.specs.Stands.{ForEachHistory}
use Rattle.json_fields.specs.Values.{up_to}
use Rattle.page.specs.Bars.{bars_html}
use Rattle.page.proofs.bars.all_bars.Given as goal

abbrev pub invariant-loop-innings : goal.invariant-loop-innings
invariant-loop-innings l = ForEachHistory l.score (λ n h. string_bytes l.out ≡ up_to (bars_html l.sheet l.sheet.innings h l.moments) l.innings)
