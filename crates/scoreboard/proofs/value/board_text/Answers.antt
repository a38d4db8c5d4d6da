use Rattle.std.proofs.Common.{◌∙◌, ◌++◌, ◌∷◌, [], ap}
use Rattle.std.specs.Prelude.{codes}
use Rattle.json.specs.Print.{print}
use Rattle.json_fields.specs.Values.{values_tokens}
use Rattle.json_fields.proofs.Putting.{one_value}
use Rattle.scoreboard.specs.Value.{told_value}
use Rattle.scoreboard.proofs.value.board_text.Goals as goal

pub returns : goal.returns
returns g c =
    let value = told_value c.args.sheet.now (g.B.BookOf.innings_a_side c.args.book.now) (g.B.BookOf.content c.args.book.now) c.args.heard c.args.trouble in
    let tokens = c.in_ok-put_told.ensures ∙ (ap (λ ts. ts ++ values_tokens (value ∷ [])) c.new-out.ensures ∙ one_value value) in
    c.in_ok-push.ensures.items ∙ ap (λ text. text ++ codes "\n") (c.into_inner-text.ensures ∙ ap print tokens)
