use Rattle.std.proofs.Common.{◌≡◌, ℕ, List, [], ◌++◌, ap, string_bytes, ◌∙◌}
use Rattle.toml.specs.View.{table_view}
use Rattle.page.specs.Page.{main_html, top_html}
use Rattle.page.proofs.printing.named_page.Goals as goal

-- two texts after an empty one
both_texts : (o p q ts us : List ℕ) → o ≡ [] → p ≡ o ++ ts → q ≡ p ++ us → q ≡ ts ++ us
both_texts o p q ts us none first more = more ∙ ap (λ u. u ++ us) (first ∙ ap (λ u. u ++ ts) none)

pub returns : goal.returns
returns g c =
    let sheet = c.args.sheet.now in
    let book = g.B.BookOf.content c.args.book.now in
    both_texts (string_bytes c.new-out.result) (string_bytes c.put_top.new.out) (string_bytes c.put_main.new.out)
    (top_html sheet (table_view c.args.document.now) book) (main_html sheet sheet.innings book)
    c.new-out.ensures.bytes c.in_ok-put_top.ensures c.in_ok-put_main.ensures
