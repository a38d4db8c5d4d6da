use Rattle.std.proofs.Common.{ap, arith, length, ◌≡◌, ◌∙◌}
use Rattle.std.proofs.lemmas.List.{take_at}
use Rattle.links.proofs.window.put.Goals as goal

pub returns : goal.returns
returns c =
    let copied = c.copy_from_slice.ensures.after ∙ c.as_slice.ensures in
    let size : length c.copy_from_slice.new.self ≡ 48 = ap length copied ∙ omega arith in
    take_at c.copy_from_slice.new.self _ 48 size ∙ copied
