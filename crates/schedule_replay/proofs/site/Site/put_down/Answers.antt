use Rattle.std.proofs.Common.{◌≡◌, ◌∙◌, Some, None, arith, refl, sym}
use Rattle.world_desks.specs.WorldDesks.{disk_of}
use Rattle.schedule_replay.proofs.site.Site.put_down.Goals as goal

pub returns-in-Some-clause-down : goal.returns-in-Some-clause-down
returns-in-Some-clause-down c =
    let there : c.args.self.now.desk ≡ Some c.in-Some.desk = sym c.take.ensures.value ∙ c.in-Some.is in
    record {
      disk = (disk_of c.in-Some.desk, c.kill.new.self, rw there refl, refl, rw c.into_disk-disk.ensures at c.kill.ensures);
      counted = rw there c.votes-self.ensures;
      desk = c.take.ensures.after;
      due = refl;
      version = refl;
      same = record { name = refl; same_game = refl; innings = refl };
    }

pub returns-in-Some-disk-clause-down : goal.returns-in-Some-disk-clause-down
returns-in-Some-disk-clause-down c =
    let none : c.args.self.now.desk ≡ None = sym c.take.ensures.value ∙ c.in-None.is in
    record {
      disk = (c.in-Some-disk.disk, c.kill-in-Some-disk.new.self, rw (none, c.in-Some-disk.is) refl, refl, c.kill-in-Some-disk.ensures);
      counted = rw none refl;
      desk = c.take.ensures.after;
      due = refl;
      version = refl;
      same = record { name = refl; same_game = refl; innings = refl };
    }

pub returns-in_default-clause-down : goal.returns-in_default-clause-down
returns-in_default-clause-down c = grind (arith, c.take.ensures, c.in-None.is, c.in_default.is, c.requires.whole.0)
