use Rattle.std.specs.Prelude.{codes}
use Rattle.std.proofs.Common.{◌+◌, ◌*◌}
use Rattle.page.specs.Bars.{group_front, picture_front, width_of}
use Rattle.page.proofs.Chains.{puts_four, puts_last}
use Rattle.page.proofs.bars.put_bars_picture.Goals as goal

pub returns : goal.returns
returns c =
    let picture = rw (c.width_of.ensures, c.from.ensures) at c.in_ok-put_picture.ensures in
    puts_four c.push_str-2.result c.args.out.now c.put_picture.new.out c.put_group.new.out c.push_str.new.self _
    (picture_front c.args.number (width_of c.args.overs) (c.args.most * 6 + 20)) (group_front c.args.class.now) c.args.bars.now _
    picture c.in_ok-put_group.ensures c.in_ok-push_str.ensures.bytes
    (puts_last c.push_str-2.result c.push_str.new.self _ (codes "</g></g></svg></figure>\n") c.push_str-2.ensures.bytes)
