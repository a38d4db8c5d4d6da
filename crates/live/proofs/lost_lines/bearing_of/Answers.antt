use Rattle.std.proofs.Common.{◌&&◌, ◌∙◌}
use Rattle.agree_core.specs.LostLines as votes
use Rattle.agree_core.specs.declared.messages.Message.{Message}
use Rattle.desk.specs.Desk.{state_of}
use Rattle.live.specs.LostLines as lost
use Rattle.live.proofs.lost_lines.bearing_of.Goals as goal

pub returns-clause-level : goal.returns-clause-level
returns-clause-level g c = λ q is.
    let s = (state_of c.args.desk.now).seat in
    let at = c.position_in-at.ensures (Message.Ask q) is in
    let asker = c.asker_in-asker.ensures q is in
    c.is_level.ensures ∙ (λ i. votes.is_at (at i) s.position && lost.is_other s.desk (asker i))

pub returns-clause-passed_over : goal.returns-clause-passed_over
returns-clause-passed_over g c = λ q is.
    let s = (state_of c.args.desk.now).seat in
    let at = c.position_in-at.ensures (Message.Ask q) is in
    let asker = c.asker_in-asker.ensures q is in
    c.is_earlier.ensures ∙ (λ i. votes.is_before (at i) s.position && lost.is_other s.desk (asker i))
