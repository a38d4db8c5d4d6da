use Rattle.std.proofs.Common.{◌∷◌, [], codes, subst, sym}
use Rattle.board.specs.declared.trouble.Why.{Why}
use Rattle.json_fields.specs.Values.{PutsFields, text_field}
use Rattle.scoreboard.specs.Value.{why_text}
use Rattle.scoreboard.proofs.value.put_why.Goals as goal

pub returns-in-Apart : goal.returns-in-Apart
returns-in-Apart c =
    subst (λ (why : Why). PutsFields c.put_text-in-Apart.result c.args.out.now c.put_text-in-Apart.new.out (text_field (codes "why") (why_text why) ∷ []))
    (sym c.in-Apart.is) c.put_text-in-Apart.ensures
