use Rattle.vote_store.specs.View.{file_view}
use Rattle.live.specs.Desks.{FitsLongest}
use Rattle.live.proofs.DeskLifeLemmas.{begun_ran, begun_shown, none_begun, not_begun}
use Rattle.live.proofs.desk_life.keep_desk.Goals as goal

pub returns-in-Ok-run_desk-clause-lives : goal.returns-in-Ok-run_desk-clause-lives
returns-in-Ok-run_desk-clause-lives g c =
    let e = c.in-Ok.ensures in
    begun_ran c.args.sheet.now c.game.ensures e.creates e.opens e.owner e.cap c.in-Ok-run_desk.ensures.runs

pub returns-in-Ok-run_desk-clause-shown : goal.returns-in-Ok-run_desk-clause-shown
returns-in-Ok-run_desk-clause-shown g c =
    let e = c.in-Ok.ensures in
    begun_shown c.args.sheet.now c.game.ensures e.creates e.opens e.owner e.cap c.in-Ok-run_desk.ensures.shown

pub returns-in-Ok-clause-lives : goal.returns-in-Ok-clause-lives
returns-in-Ok-clause-lives g c =
    let e = c.in-Ok.ensures in
    begun_ran c.args.sheet.now c.game.ensures e.creates e.opens e.owner e.cap c.in-Err-run_desk.ensures.runs

pub returns-in-Ok-clause-shown : goal.returns-in-Ok-clause-shown
returns-in-Ok-clause-shown g c =
    let e = c.in-Ok.ensures in
    begun_shown c.args.sheet.now c.game.ensures e.creates e.opens e.owner e.cap c.in-Err-run_desk.ensures.shown

pub returns-clause-lives : goal.returns-clause-lives
returns-clause-lives g c =
    let disks = g.S.Disk.Disk in
    not_begun (file_view g.S.SlotsOf.contents disks.seen disks.images c.args.beginning.desk) disks.seen _ c.in-Err.why c.in-Err._disk c.args.sheet.now c.args.beginning.desk _ c.args.beginning.disk c.game.ensures c.in-Err.ensures.opens

pub returns-clause-shown : goal.returns-clause-shown
returns-clause-shown g c =
    let disks = g.S.Disk.Disk in
    none_begun (file_view g.S.SlotsOf.contents disks.seen disks.images c.args.beginning.desk) disks.seen
    (record { faults = disks.faults; FitsLongest = FitsLongest g.S.SlotsOf.room (disks.cap c.args.beginning.disk) }) c.in-Err.why c.in-Err._disk c.args.sheet.now c.args.beginning.desk _ c.args.beginning.disk c.game.ensures
    c.in-Err.ensures.opens {goes_on = g.P.ShowsDesk.goes_on}
