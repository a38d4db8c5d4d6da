-- The votes of a desk's processes are for lines that were typed.
use Rattle.std.proofs.Common.{◌≡◌, ℕ, List, [], ◌∷◌, Result, refl, subst, sym}
use Rattle.std.specs.Prelude.{flat_map}
use Rattle.agree_core.specs.declared.messages.DeskId.{DeskId}
use Rattle.agree_core.specs.FileView.{FileView}
use Rattle.agree_core.specs.Openings.{NotOpened, Opened, Opening}
use Rattle.cards.specs.Sheet.{Sheet}
use Rattle.links.specs.Typing.{Input}
use Rattle.ahead.specs.declared.log.AheadLog.{AheadLog}
use Rattle.ahead.specs.Ahead.{given_of, kept_of}
use Rattle.ahead.specs.Order.{AreAmong, CastsInOrder, lines_of}
use Rattle.ahead.proofs.OrderLemmas.{among_joined}
use Rattle.live.specs.declared.desk_life.LifeEnd.{LifeEnd}
use Rattle.live.specs.Before.{lines_said}
use Rattle.live.specs.DeskLife.{BeginsOn, DeskLives, Follows, fresh}
use Rattle.live.specs.Desks.{DiskView}
use Rattle.live.specs.Runs.{Logs}
use Rattle.live.proofs.BeforeLemmas.{votes_typed}
use Rattle.desk_command.specs.Typed.{Process, VotesWereTyped, calls_of, kept_in, said_in, typed_in}

module _
    {Disk : Type 0} {view : FileView Disk} {seen : Disk → List ℕ} {disks : DiskView Disk} {sheet : Sheet} {innings : ℕ} {d : DeskId} {disk : Disk}
    {before after : Logs} {turns : ℕ} {result : Result (Unit {0}) LifeEnd} (log : AheadLog) (order : CastsInOrder log)
    (none : before.typed ≡ []) (given : after.typed ≡ given_of log) where
  -- the votes of one process are for lines that its log keeps
  lived_typed : (lives : DeskLives view seen disks sheet innings d disk before after turns result) → AreAmong (lines_said (calls_of lives)) (kept_of log)
  lived_typed lives = of lives.opening lives.begins lives.follows
    where
      of : (opening : Opening Disk) (begins : BeginsOn view seen innings d disk opening)
          (follows : Follows sheet view disks innings opening before after turns result)
          → let these : DeskLives view seen disks sheet innings d disk before after turns result =
          record { opening = opening; begins = begins; follows = follows } in AreAmong (lines_said (calls_of these)) (kept_of log)
      of (Opened k) begins run =
          let goes = run.3 in
          votes_typed view disks sheet sheet.game innings (fresh k) goes.moments log goes.run (sym (rw (given, none) at goes.logs.inputs)) order
      of (NotOpened cause left) begins follows = tt

-- what holds of each process holds of all, one after the other
all_among : {X : Type 0} (f g : X → List (List ℕ)) → ((x : X) → AreAmong (f x) (g x)) → (xs : List X) → AreAmong (flat_map f xs) (flat_map g xs)
all_among f g each [] = tt
all_among f g each (x ∷ xs) = among_joined (f x) (g x) (flat_map f xs) (flat_map g xs) (each x) (all_among f g each xs)

pub were_typed : (desk : DeskId) (life : List (Process desk)) → VotesWereTyped life
were_typed desk life = record {
  said = all_among said_in kept_in (λ p. lived_typed (p.kept).log (p.kept).in_order refl refl ((p.kept).lives).lives) life;
  kept = all_among kept_in typed_in
      (λ p. subst (λ (inputs : List Input). AreAmong (kept_of (p.kept).log) (lines_of inputs)) (sym (p.kept).of_typed) ((p.kept).in_order).kept) life;
}
