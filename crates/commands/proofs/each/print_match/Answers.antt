use Rattle.std.proofs.Common.{refl, inl}
use Rattle.streams.specs.Watched.{stream_of}
use Rattle.streams.proofs.Appending.{appends_none}
use Rattle.commands.specs.Each.{Outcome}
use Rattle.commands.specs.Frames.{frame_bytes}
use Rattle.commands.proofs.EachLemmas.{tells_none}
use Rattle.commands.proofs.each.print_match.Goals as goal

pub returns-in_ok-print_frame-in-Ok-clause-does : goal.returns-in_ok-print_frame-in-Ok-clause-does
returns-in_ok-print_frame-in-Ok-clause-does g c = λ n. record {
  outcome = Outcome.Framed (frame_bytes c.args.folder.now c.in-Ok.frame);
  is = (c.requires, record { frame = c.in-Ok.frame; is = c.in-Ok.ensures.frame; are = refl });
  printed = c.in_ok-print_frame-in-Ok.ensures.text;
  told = tells_none g.E.Sink.contents c.args.errors.now;
  answer = refl;
}

pub returns-in-Err-clause-does : goal.returns-in-Err-clause-does
returns-in-Err-clause-does g c = λ n. record {
  outcome = Outcome.Told c.tell_refusal.ensures.line;
  is = inl (c.requires, c.tell_refusal.ensures.is);
  printed = appends_none (g.W.Sink.contents (stream_of c.args.out.now));
  told = c.tell_refusal.ensures.told;
  answer = refl;
}
