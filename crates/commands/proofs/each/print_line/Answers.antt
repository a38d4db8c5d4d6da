use Rattle.std.proofs.Common.{refl, inr}
use Rattle.streams.specs.Watched.{stream_of}
use Rattle.streams.proofs.Appending.{appends_none}
use Rattle.commands.specs.Each.{Outcome, no_folder_line}
use Rattle.commands.proofs.each.print_line.Goals as goal

pub returns-in-None-clause-does : goal.returns-in-None-clause-does
returns-in-None-clause-does g c = record {
  outcome = Outcome.Told (no_folder_line c.args.number);
  is = inr (c.in-None.ensures, refl);
  printed = appends_none (g.W.Sink.contents (stream_of c.args.out.now));
  told = c.tell_no_folder.ensures;
  answer = refl;
}
