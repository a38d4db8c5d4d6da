use Rattle.std.proofs.Common.{◌≡◌, length, subst, arith}
use Rattle.std.specs.Prelude.{filter}
use Rattle.std.specs.Io.KnownBytes.{Appends}
use Rattle.streams.specs.Watched.{stream_of}
use Rattle.streams.proofs.Appending.{appends_last}
use Rattle.changes.specs.Changes.{all_changes, changes, differs}
use Rattle.changes.specs.Rows.{row}
use Rattle.changes.specs.Stage.{Stage}
use Rattle.changes.specs.Text.{changes_text}
use Rattle.changes.proofs.TellingLemmas.{number-filter, rows-filter}
use Rattle.changes.proofs.telling.print_changes.Goals as goal

pub returns-clause-text : goal.returns-clause-text
unfolding changes changes_text
returns-clause-text g c = λ m old was n new now.
    let w : Stage = record { innings_a_side = m; history = old } in
    let v : Stage = record { innings_a_side = n; history = new } in
    let told = c.in_ok-count.ensures.text m old was n new now in
    let text = subst (Appends (g.W.Sink.contents (stream_of c.args.out.now)) (g.W.Sink.contents (stream_of c.tell_all.new.out)))
    (rows-filter (differs w v) (row c.args.stages.sheet.now w v) 0 all_changes) told.1 in
    let count : c.in_ok-count.count ≡ length (filter (differs w v) all_changes) =
    (let same = number-filter (differs w v) all_changes in omega (arith, told.0, same)) in
    appends_last c.print_more.result _ _ _ _ _ text (rw (← count) c.print_more.ensures.text)
