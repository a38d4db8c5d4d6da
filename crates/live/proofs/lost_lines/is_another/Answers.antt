use Rattle.std.proofs.Common.{◌≡◌, ◌∙◌, ap}
use Rattle.notation.specs.Code.{code}
use Rattle.agree_core.specs.declared.messages.Vote.{Vote}
use Rattle.agree_core.specs.LostLines.{is_another}
use Rattle.agree_core.specs.Positions.{position_of}
use Rattle.desk.specs.Desk.{state_of}
use Rattle.live.proofs.lost_lines.is_another.Goals as goal

pub is_another_vote-requires : goal.is_another_vote-requires
is_another_vote-requires g c = (rw c.in-Ok-Vote.field-0-is at (c.requires c.in-Ok-Vote.field-0 c.in-Ok-Vote.is)).1

pub returns-in-Ok-Vote : goal.returns-in-Ok-Vote
returns-in-Ok-Vote g c = λ v is.
    let same : c.in-Ok-Vote.vote ≡ v = cc in
    let k = state_of c.args.desk.now in
    (rw c.position.ensures at c.is_another_vote.ensures) ∙ ap (λ (w : Vote). is_another k.seat k.votes (position_of w) (code w.entry)) same
