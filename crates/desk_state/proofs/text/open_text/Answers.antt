use Rattle.std.proofs.Common.{◌∙◌, ◌++◌, ◌∷◌, [], ap}
use Rattle.std.specs.Prelude.{codes}
use Rattle.json.specs.Print.{print}
use Rattle.json_fields.specs.Values.{values_tokens}
use Rattle.json_fields.proofs.Putting.{one_value}
use Rattle.desk_state.specs.Value.{open_value}
use Rattle.desk_state.proofs.text.open_text.Goals as goal

pub returns : goal.returns
returns g c =
    let a = c.args in
    let value = open_value a.sheet.now (g.B.BookOf.innings_a_side a.book.now) (g.B.BookOf.content a.book.now) a.desk a.at in
    let tokens = c.in_ok-put_open.ensures ∙ (ap (λ ts. ts ++ values_tokens (value ∷ [])) c.new-out.ensures ∙ one_value value) in
    c.in_ok-push.ensures.items ∙ ap (λ text. text ++ codes "\n") (c.into_inner-text.ensures ∙ ap print tokens)
