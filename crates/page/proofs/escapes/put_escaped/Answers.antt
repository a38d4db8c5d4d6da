use Rattle.std.proofs.Common.{◌++◌, List, ℕ, flat_map, string_bytes, sym, ap, ◌∙◌, map-id}
use Rattle.std.proofs.lemmas.Iterator.{YieldsList-from_chars}
use Rattle.std.proofs.lemmas.Iterator.Consumers.{YieldsList-end}
use Rattle.page.specs.Escapes.{escaped_char}
use Rattle.page.proofs.escapes.put_escaped.Goals as goal

pub returns : goal.returns
returns c =
    let end = YieldsList-end (YieldsList-from_chars c.args.text.now c.utf8.text cc) c.loop-letter.yielded _ c.loop-letter.yielded_by _ _ c.in-None.is c.next.ensures.steps in
    c.loop-letter.invariant ∙ ap (λ (l : List ℕ). string_bytes c.args.out.now ++ flat_map escaped_char l) (sym (map-id c.loop-letter.yielded) ∙ end.0)
