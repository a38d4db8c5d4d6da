use Rattle.std.proofs.Common.{rules}
use Rattle.sheet_check.proofs.report.toml_line.Goals as goal

pub returns : goal.returns
returns c = (c.args.line, c.args.why.now, search rules)
