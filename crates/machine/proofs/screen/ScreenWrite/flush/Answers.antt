use Rattle.std.proofs.Common.{◌≡◌, drop, length, map, rules}
use Rattle.machine.specs.Rows.{plain}
use Rattle.machine.proofs.ScreenLemmas.{front_is_plain, pending_few, with_waits}
use Rattle.machine.proofs.screen.ScreenWrite.flush.Goals as goal

pub returns-clause-held : goal.returns-clause-held
returns-clause-held g c =
    let screen = c.put.new.self in
    let rest = drop screen.done screen.begun.items in
    let begun_is : length screen.begun.items ≡ screen.begun.len = search rules in
    let waits_is : length screen.waits.items ≡ screen.waits.len = search rules in
    record {
      shown = with_waits (g.O.Outlet.taken screen.outlet) rest (map plain screen.waits.items) _ screen.shown;
      plain_alone = front_is_plain (g.O.Outlet.taken screen.outlet) rest screen.log screen.shown;
      whole = screen.whole;
      few = pending_few screen.lacks screen.done screen.begun.len screen.waits.len screen.begun.items screen.waits.items begun_is waits_is
          screen.few_begun screen.few_wait;
    }
