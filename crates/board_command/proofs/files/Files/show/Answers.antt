use Rattle.std.proofs.Common.{◌≡◌, subst}
use Rattle.board_command.specs.Files.{AreKept, FilesGoOn, lines_of, moment_of, script_of, state_of}
use Rattle.board_command.specs.declared.files.Moment.{Moment}
use Rattle.board_command.specs.declared.files.TheConstants.{FOREVER}
use Rattle.board_command.specs.declared.times.TheConstants.{LONGEST_STATE_AGE}
use Rattle.live.specs.Sights.{sight_of}
use Rattle.board_command.proofs.files.Files.show.Goals as goal

pub returns-clause-goes_on : goal.returns-clause-goes_on
returns-clause-goes_on g c =
    let m = c.args.moment in
    let sight = sight_of c.args.sheet.now (g.B.BookOf.innings_a_side c.args.book.now) (g.B.BookOf.content c.args.book.now) m.trouble in
    let same : m ≡ moment_of sight m.heard m.now = λ i. record { entries = c.requires.entries i; trouble = m.trouble; heard = m.heard; now = m.now } in
    let old = c.args.self.now in
    record {
      lines = subst (λ (n : Moment). AreKept g.T.Replaces.given FOREVER n (lines_of sight) old.text c.put.new.file) same (c.put.ensures _ c.requires.made.lines);
      state = subst (λ (n : Moment). AreKept g.T.Replaces.given LONGEST_STATE_AGE n (state_of sight m.heard m.now) old.state c.put-2.new.file) same (c.put-2.ensures _ c.requires.made.state);
      script = subst (λ (n : Moment). AreKept g.T.Replaces.given LONGEST_STATE_AGE n (script_of sight m.heard m.now) old.script c.put-3.new.file) same (c.put-3.ensures _ c.requires.made.script);
    }
