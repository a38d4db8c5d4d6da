use Rattle.std.proofs.Common.{◌∷◌, [], codes, subst, sym}
use Rattle.board.specs.declared.trouble.Why.{Why}
use Rattle.json_fields.specs.Values.{PutsFields, text_field}
use Rattle.scoreboard.specs.Value.{why_words}
use Rattle.scoreboard.proofs.value.put_words.Goals as goal

pub returns-in-Refused : goal.returns-in-Refused
returns-in-Refused c =
    subst (λ (why : Why). PutsFields c.put_text.result c.args.out.now c.put_text.new.out (text_field (codes "text") (why_words why) ∷ []))
    (sym c.in-Refused.is) c.put_text.ensures

pub returns-in-Anew : goal.returns-in-Anew
returns-in-Anew c =
    subst (λ (why : Why). PutsFields c.put_text-in-Anew.result c.args.out.now c.put_text-in-Anew.new.out (text_field (codes "text") (why_words why) ∷ []))
    (sym c.in-Anew.is) c.put_text-in-Anew.ensures
