use Rattle.std.proofs.Common.{inl, refl, subst}
use Rattle.station_pages.specs.declared.sight.TextLog.{TextLog}
use Rattle.agree_core.specs.declared.messages.DeskId.{DeskId}
use Rattle.screen.specs.Sights.{sight_at}
use Rattle.station_pages.specs.Sights.{ServesState, ShowsState, texts_in}
use Rattle.station_pages.proofs.sight.PageSight.put.Goals as goal

pub returns-then-put_book-clause-others : goal.returns-then-put_book-clause-others
returns-then-put_book-clause-others g c =
    let shown = c.put_book.new.page.viewers.shown in
    let sight = sight_at c.args.sheet.now (g.B.BookOf.innings_a_side c.args.book.now) (g.B.BookOf.content c.args.book.now) c.args.at c.args.own in
    (shown, c.put_book.ensures.others, subst (λ (desk : DeskId). ServesState desk shown c.put_state.new.page.viewers.shown sight) c.put_book.ensures.desk c.put_state.ensures.others)

pub returns-else-put_book-clause-others : goal.returns-else-put_book-clause-others
returns-else-put_book-clause-others g c =
    (c.put_book.new.page.viewers.shown, c.put_book.ensures.others, inl (record { station = refl; lines = refl; state = refl; book = refl; number = refl }))

pub returns-then-put_book-clause-shows : goal.returns-then-put_book-clause-shows
returns-then-put_book-clause-shows g c =
    let sight = sight_at c.args.sheet.now (g.B.BookOf.innings_a_side c.args.book.now) (g.B.BookOf.content c.args.book.now) c.args.at c.args.own in
    let after = texts_in c.put_state.new.self.log in
    let here = subst (λ (log : TextLog). ShowsState c.put_book.new.self.desk (texts_in log) after sight) c.put_book.ensures.log c.put_state.ensures.shows in
    subst (λ (desk : DeskId). ShowsState desk (texts_in c.args.self.now.log) after sight) c.put_book.ensures.desk here
