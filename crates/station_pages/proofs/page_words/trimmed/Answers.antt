use Rattle.std.proofs.lemmas.Str.Ascii.{trim_ascii_end_is}
use Rattle.station_pages.proofs.page_words.trimmed.Goals as goal

pub returns : goal.returns
returns c = trim_ascii_end_is c.args.line.now _ c.trim_ascii_end.ensures.value
