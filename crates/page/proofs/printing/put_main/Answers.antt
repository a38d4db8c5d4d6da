use Rattle.std.specs.Prelude.{[]}
use Rattle.corrections.specs.CleanList.{clean, history_of}
use Rattle.page.specs.Book.{book_html}
use Rattle.page.specs.Moments.{moments}
use Rattle.page.specs.Charts.{course_html}
use Rattle.page.specs.Page.{cards_html}
use Rattle.page.specs.declared.template.TheConstants.{END}
use Rattle.page.proofs.Chains.{puts_four, puts_last}
use Rattle.page.proofs.printing.put_main.Goals as goal

pub returns : goal.returns
returns g c =
    let book = g.B.BookOf.content c.args.book.now in
    let sheet = c.args.sheet.now in
    let items = moments [] (clean book) in
    puts_four c.push_str.result c.args.out.now c.put_cards_of.new.out c.put_overs_of.new.out c.put_book.new.out _
    (cards_html sheet sheet.innings (history_of book) items) (course_html sheet sheet.innings (history_of book) items) (book_html book) _
    c.in_ok-put_cards_of.ensures c.in_ok-put_overs_of.ensures c.in_ok-put_book.ensures
    (puts_last c.push_str.result c.put_book.new.out _ END.now c.push_str.ensures.bytes)
