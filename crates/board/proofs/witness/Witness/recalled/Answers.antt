use Rattle.std.proofs.Common.{◌∙◌, ap, sym}
use Rattle.board.specs.Rounds as laws
use Rattle.board.proofs.Recalling.{recalled_range}
use Rattle.board.proofs.witness.Witness.recalled.Goals as goal

pub returns-in-Vote-clause-range : goal.returns-in-Vote-clause-range
returns-in-Vote-clause-range c =
    recalled_range c.args.self.now c.args.message.now c.recalled_by_vote.result (c.recalled_by_vote.ensures ∙ ap (laws.recalled c.args.self.now) (sym c.in-Vote.is))

pub returns-in-Ask-clause-range : goal.returns-in-Ask-clause-range
returns-in-Ask-clause-range c =
    recalled_range c.args.self.now c.args.message.now c.recalled_by_ask.result (c.recalled_by_ask.ensures ∙ ap (laws.recalled c.args.self.now) (sym c.in-Ask.is))
