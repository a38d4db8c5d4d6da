use Rattle.std.proofs.Common.{rules, sym, ◌∙◌}
use Rattle.export.proofs.EscapedStrings.{shown_whole}
use Rattle.export.proofs.escapes.push_text.Goals as goal

pub returns-then-is_below_del : goal.returns-then-is_below_del
returns-then-is_below_del c =
    let stays = shown_whole c.args.text.now (sym c.is_below_del.ensures ∙ c.if-is_below_del.true) in search rules
