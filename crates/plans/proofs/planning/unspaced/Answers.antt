use Rattle.std.proofs.lemmas.Str.Ascii.{trim_ascii_start_is}
use Rattle.plans.proofs.planning.unspaced.Goals as goal

pub returns : goal.returns
returns c = trim_ascii_start_is c.args.text.now _ c.trim_ascii_start.ensures.value
