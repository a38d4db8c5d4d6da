use Rattle.std.proofs.Common.{◌∙◌}
use Rattle.links.proofs.WindowLemmas.{asked_more, grown_twice}
use Rattle.links.proofs.window.Window.ask_what_is_due.Goals as goal

pub returns-clause-quiet : goal.returns-clause-quiet
returns-clause-quiet g c =
    asked_more c.args.now c.args.self.now c.ask_again-wait.new.self c.break_silence.new.self c.ask_again-wait.ensures.quiet
    (c.break_silence.ensures.still.3 ∙ c.ask_ahead.ensures.still.3) (grown_twice c.ask_ahead.ensures.grown c.break_silence.ensures.grown)
