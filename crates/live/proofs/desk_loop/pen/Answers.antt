use Rattle.desk.specs.Desk.{state_of}
use Rattle.station_texts.specs.Saying.{SaysEntry}
use Rattle.live.proofs.DeskLemmas.{may_come, penned, refused, unpenned, withheld}
use Rattle.live.proofs.desk_loop.pen.Given.{Over}
use Rattle.live.proofs.desk_loop.pen.Goals as goal
use Rattle.live.proofs.desk_loop.pen.Goals.{In-Ok}

pub returns-in-Err-clause-calls : goal.returns-in-Err-clause-calls
returns-in-Err-clause-calls g c =
    let none = c.in-Err.ensures.none (state_of c.args.desk.now).votes c.last_entry-last.ensures.last in
    unpenned c.args.sheet.now c.args.desk.now c.args.line.now c.in-Err.said _
    (rw (c.book.ensures, c.stand_of-at.ensures.vote, c.stand_of-at.ensures.round) at none)

pub returns-in-Err-clause-may : goal.returns-in-Err-clause-may
returns-in-Err-clause-may g c =
    may_come _ _ _ _ _ _ c.in-Err.said _ (c.in-Err.ensures.none (state_of c.args.desk.now).votes c.last_entry-last.ensures.last)

-- the entry that is penned is what the line says
says : (g : Over) (c : In-Ok g)
    → SaysEntry c.args.sheet.now (state_of c.args.desk.now).book (state_of c.args.desk.now).votes (state_of c.args.desk.now).seat.position.round
    c.args.line.now c.in-Ok.entry
says g c = rw (c.book.ensures, c.stand_of-at.ensures.round) at (c.in-Ok.ensures.said (state_of c.args.desk.now).votes c.last_entry-last.ensures.last)

pub returns-then-holds_up-clause-calls : goal.returns-then-holds_up-clause-calls
returns-then-holds_up-clause-calls g c =
    withheld c.args.sheet.now c.args.desk.now c.args.line.now c.in-Ok.entry _ (says g (goal.at.returns-then-holds_up-clause-calls g c).In-Ok)

pub returns-in-Ok-pen-clause-calls : goal.returns-in-Ok-pen-clause-calls
returns-in-Ok-pen-clause-calls g c =
    let answer = c.in-Ok-pen.ensures in
    penned c.args.sheet.now c.args.desk.now c.pen.new.self c.args.line.now c.in-Ok.entry c.in-Ok-pen.penned _ _ answer.owner
    (says g (goal.at.returns-in-Ok-pen-clause-calls g c).In-Ok) answer.step answer.blame c.send_message.ensures

pub returns-in-Err-pen-clause-calls : goal.returns-in-Err-pen-clause-calls
returns-in-Err-pen-clause-calls g c =
    let answer = c.in-Err-pen.ensures in
    refused c.args.sheet.now c.args.desk.now c.pen.new.self c.args.line.now c.in-Ok.entry c.in-Err-pen.why _ answer.owner
    (says g (goal.at.returns-in-Err-pen-clause-calls g c).In-Ok) answer.step answer.blame
