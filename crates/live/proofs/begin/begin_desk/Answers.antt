use Rattle.vote_store.specs.View.{file_view}
use Rattle.corrections.specs.Refusal.{book_refusal}
use Rattle.desk.specs.Desk.{opening}
use Rattle.desk.proofs.ViewLemmas.{stays}
use Rattle.live.proofs.BeginLemmas.{opens_before}
use Rattle.live.proofs.begin.begin_desk.Goals as goal

pub returns-in-Ok-clause-opens : goal.returns-in-Ok-clause-opens
returns-in-Ok-clause-opens g c =
    let file = g.S.SlotsOf in
    let disks = g.S.Disk.Disk in
    let view = file_view file.contents disks.seen disks.images c.args.desk c.args.game in
    λ some. opens_before view c.args.disk c.len.new.self (stays file.contents disks.seen disks.images c.args.desk c.args.game c.args.disk c.len.new.self c.len.ensures.seen c.len.ensures.images)
    (book_refusal (g.B.BookOf.innings_a_side c.args.book)) c.args.desk (opening c.open.result) c.open.ensures.opens
