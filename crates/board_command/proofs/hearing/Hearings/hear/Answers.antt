use Rattle.std.proofs.Common.{◌∙◌, ap}
use Rattle.live.specs.HearingLogs.{hearings_of}
use Rattle.board_command.specs.Hearing.{heard_from}
use Rattle.board_command.proofs.HeardLemmas.{follows_more, times_more}
use Rattle.board_command.proofs.hearing.Hearings.hear.Goals as goal

pub invariant_of-self : goal.invariant_of-self
invariant_of-self c =
    let old = c.args.self.now in
    let heard = c.heard_from-self.ensures ∙ ap (λ (desk : _). heard_from desk old.at c.args.now) c.desk_of.ensures in
    record { follows = follows_more c.args.message.now c.args.now old.at (hearings_of old.log) old.follows heard c.heard.ensures }

pub returns-clause-times : goal.returns-clause-times
returns-clause-times c =
    let old = c.args.self.now in
    let heard = c.heard_from-self.ensures ∙ ap (λ (desk : _). heard_from desk old.at c.args.now) c.desk_of.ensures in
    times_more c.args.message.now c.args.now old.at (hearings_of old.log) heard c.heard.ensures
