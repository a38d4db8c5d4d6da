use Rattle.std.proofs.Common.{◌≡◌, List, ℕ, arith, subst}
use Rattle.agree_core.specs.Positions.{position_of}
use Rattle.agree_core.specs.declared.messages.Message.{Message}
use Rattle.wire.specs.Layout.{Says}
use Rattle.links.proofs.KeptVotes.{is_one}
use Rattle.links.proofs.early.EarlyVotes.has_vote.Goals as goal

pub returns-then-eq : goal.returns-then-eq
returns-then-eq c e =
    let vote = c.in-Ok-Vote.vote in
    let read = subst (λ (m : Message). Says c.args.game c.as_slice.result.now m) c.in-Ok-Vote.field-0-is c.in-Ok-Vote.ensures.reads in
    let says = subst (λ (l : List ℕ). Says c.args.game l (Message.Vote vote)) c.as_slice.ensures read in
    let desk : vote.desk ≡ c.args.desk = grind arith in
    let at : position_of vote ≡ c.args.at = grind arith in
    (c.in-Some.bytes.now, is_one _ _ c.in-Some.ensures.member, (vote, says, desk, at))
