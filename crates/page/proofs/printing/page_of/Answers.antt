use Rattle.std.proofs.Common.{◌≡◌, IfOk, string_bytes, subst}
use Rattle.toml.specs.View.{table_view}
use Rattle.page.specs.Page.{page_text}
use Rattle.page.proofs.printing.page_of.Goals as goal

pub returns : goal.returns
returns g c =
    subst
    (λ sheet. IfOk c.named_page.result
    (λ text. string_bytes text ≡ page_text sheet (table_view c.args.document.now) (g.B.BookOf.content c.args.book.now)))
    c.in_ok-named.ensures c.named_page.ensures
