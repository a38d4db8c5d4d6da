use Rattle.std.proofs.Common.{flat_map, sym, ap, ◌∙◌, map-id}
use Rattle.std.proofs.lemmas.Iterator.{YieldsList-from_chars}
use Rattle.std.proofs.lemmas.Iterator.Consumers.{YieldsList-end}
use Rattle.sheet_check.specs.Letters.{odd_letter}
use Rattle.sheet_check.proofs.letters.odd_letters.Goals as goal

pub returns : goal.returns
returns c =
    let end = YieldsList-end (YieldsList-from_chars c.args.text.now c.utf8.text cc) c.loop-letter.yielded _ c.loop-letter.yielded_by _ _ c.in-None.is c.next.ensures.steps in
    c.loop-letter.invariant ∙ ap (flat_map odd_letter) (sym (map-id c.loop-letter.yielded) ∙ end.0)
