use Rattle.std.proofs.Common.{sym}
use Rattle.std.proofs.lemmas.Str.{IsUtf8-from_ascii}
use Rattle.screen.proofs.Plain.{printable_is_ascii}
use Rattle.screen.proofs.word.plain.Goals as goal

pub returns-in-Err : goal.returns-in-Err
returns-in-Err c = absurd (c.in-Err.ensures.cases.0 (IsUtf8-from_ascii c.args.text.now (printable_is_ascii c.args.text.now (sym c.if-not-is_plain.ensures))))
