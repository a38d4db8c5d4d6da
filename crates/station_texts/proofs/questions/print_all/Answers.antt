use Rattle.std.proofs.Common.{List, ℕ, refl, subst, true}
use Rattle.std.specs.Prelude.{OnOk}
use Rattle.std.specs.Io.KnownBytes.{Appends}
use Rattle.cards.specs.Sheet.{team_of}
use Rattle.streams.specs.Watched.{stream_of}
use Rattle.shorthand.proofs.Meant.{of_all}
use Rattle.screen.specs.Sides.{listed}
use Rattle.station_texts.proofs.questions.print_all.Goals as goal

pub returns-clause-text : goal.returns-clause-text
returns-clause-text g c =
    let team = team_of c.args.sheet.now c.args.side in
    subst (λ (ns : List ℕ). OnOk c.print_those.result (Appends (g.W.Sink.contents (stream_of c.args.out.now)) (g.W.Sink.contents (stream_of c.print_those.new.out)) (listed team true ns)))
    (of_all team c.args.name.now _ refl) c.print_those.ensures.text
