use Rattle.std.proofs.Common.{◌∙◌, ◌++◌, ◌∷◌, [], ap}
use Rattle.std.specs.Prelude.{codes}
use Rattle.json.specs.Print.{print}
use Rattle.json_fields.specs.Values.{values_tokens}
use Rattle.json_fields.proofs.Putting.{one_value}
use Rattle.desk_state.specs.Book.{book_value}
use Rattle.desk_state.proofs.text.book_text.Goals as goal

pub returns : goal.returns
returns g c =
    let value = book_value (g.B.BookOf.content c.args.book.now) in
    let tokens = c.in_ok-put_all.ensures ∙ (ap (λ ts. ts ++ values_tokens (value ∷ [])) c.new-out.ensures ∙ one_value value) in
    c.in_ok-push.ensures.items ∙ ap (λ text. text ++ codes "\n") (c.into_inner-text.ensures ∙ ap print tokens)
