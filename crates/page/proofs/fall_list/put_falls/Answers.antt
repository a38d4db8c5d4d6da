use Rattle.std.specs.Prelude.{codes}
use Rattle.std.proofs.Common.{◌+◌, ◌∙◌, ap}
use Rattle.std.proofs.lemmas.Bool.{ne_eqb}
use Rattle.falls.specs.Falls.{falls_in}
use Rattle.page.specs.Falls.{each_fall}
use Rattle.page.proofs.Chains.{puts_three, puts_last}
use Rattle.page.proofs.fall_list.put_falls.Goals as goal

pub returns : goal.returns
returns c = λ n h s fell.
    let i = c.args.innings in
    let there = c.as_slice.ensures.value ∙ (c.in_ok-there.ensures ∙ ap (falls_in (i + 1)) fell) in
    rw (← c.wickets.ensures.value n h s, ne_eqb _ _ c.if-wickets-eq0.false) (
    puts_three c.push_str-2.result c.args.out.now c.push_str.new.self c.put_each_fall.new.out _
    (codes "<p class='falls'><b>Fall of wickets, with the over: </b>") (each_fall c.args.sheet.now h i) _
    c.in_ok-push_str.ensures.bytes (c.in_ok-put_each_fall.ensures n h s there)
    (puts_last c.push_str-2.result c.put_each_fall.new.out _ (codes "</p>\n") c.push_str-2.ensures.bytes))
