use Rattle.std.proofs.Common.{◌≡◌, ◌++◌}
use Rattle.std.specs.Prelude.{string_bytes}
use Rattle.json_fields.specs.Values.{up_to}
use Rattle.page.specs.Bars.{wicket_svg}
use Rattle.page.proofs.bars.put_wickets.Given as goal

abbrev pub invariant-loop-others : goal.invariant-loop-others
invariant-loop-others l = string_bytes l.out ≡ string_bytes l.initial.out ++ up_to (wicket_svg l.overs l.runs) l.others
