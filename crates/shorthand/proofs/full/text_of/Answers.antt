use Rattle.std.proofs.lemmas.Bool.{false_from_ne_true}
use Rattle.std.proofs.lemmas.Str.{IsUtf8-from_ascii}
use Rattle.notation.proofs.SpacedLines.{spaced_is_ascii}
use Rattle.shorthand.proofs.full.text_of.Goals as goal

pub returns-in-Err-clause-none : goal.returns-in-Err-clause-none
returns-in-Err-clause-none c = false_from_ne_true _ (λ spaced. c.in-Err.ensures.cases.0 (IsUtf8-from_ascii _ (spaced_is_ascii c.args.line.now spaced)))
