use Rattle.live.proofs.DeskLemmas.{taken}
use Rattle.live.proofs.hearing.give.Goals as goal

pub returns-clause-calls : goal.returns-clause-calls
returns-clause-calls g c = λ sheet.
    let answer = c.receive-received.ensures in
    taken sheet c.args.desk.now c.receive-received.new.self c.args.bytes.now c.receive-received.result.what c.receive-received.result.reply _ _
    answer.owner answer.step answer.blame c.hand_back.ensures
