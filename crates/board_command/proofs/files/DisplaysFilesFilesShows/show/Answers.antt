use Rattle.std.proofs.Common.{subst}
use Rattle.live.specs.Sights.{sight_of}
use Rattle.board_command.specs.Files.{FilesGoOn}
use Rattle.board_command.specs.declared.hearing.HeardAt.{HeardAt}
use Rattle.board_command.proofs.files.DisplaysFilesFilesShows.show.Goals as goal

pub returns-clause-goes_on : goal.returns-clause-goes_on
returns-clause-goes_on g c =
    let old = c.args.self.now in
    let sight = sight_of c.args.sheet.now (g.B.BookOf.innings_a_side c.args.book.now) (g.B.BookOf.content c.args.book.now) c.args.trouble in (
      subst (λ (heard : HeardAt). FilesGoOn g.T.Replaces.given heard old.files sight c.args.now c.show-2.new.self) c.at-heard.ensures c.show-2.ensures.goes_on,
      subst (λ (heard : HeardAt). FilesGoOn g.P.Replaces.given heard old.page sight c.args.now c.show.new.self) c.at-heard.ensures c.show.ensures.goes_on,
    )
