use Rattle.std.proofs.Common.{◌≡◌}
use Rattle.std.specs.Prelude.{string_bytes}
use Rattle.match_laws.specs.Stands.{ForEachHistory}
use Rattle.json_fields.specs.Values.{up_to}
use Rattle.falls.specs.Falls.{falls_at}
use Rattle.page.specs.Innings.{innings_html}
use Rattle.page.proofs.printing.innings_of.Given as goal

abbrev pub invariant-loop-innings : goal.invariant-loop-innings
invariant-loop-innings l = ForEachHistory l.score (λ n h. l.falls ≡ falls_at h → n ≡ l.sheet.innings →
    string_bytes l.out ≡ up_to (innings_html l.sheet n h l.moments) l.innings)
