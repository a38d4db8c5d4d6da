-- The logs of what a desk's process works with, each by the log of its trait.
use Rattle.std.specs.Prelude.{ℕ, List, Option}
use Rattle.links.specs.Passed.{Passed}
use Rattle.links.specs.Typing.{Input}
use Rattle.screen.specs.declared.told.Told.{Told}
use Rattle.streams.specs.Watched.{stream_of}
use Rattle.live.specs.declared.outside.Outside.{Outside}
use Rattle.live.specs.Runs.{Logs}

abbrev pub logs_of :
    {L K C W T : Type 0} → (L → List Passed) → (K → List Input) → (C → List ℕ) → (W → Option (List ℕ)) → (T → List Told)
    → Outside L K C W T → Logs
logs_of log inputs readings contents tellings outside = record {
  passed = log outside.link;
  typed = inputs outside.keys;
  readings = readings outside.clock;
  told = contents (stream_of outside.out);
  tellings = tellings outside.teller;
}
