-- While no scorer types, what happens to processes is a calm run.
use Rattle.std.proofs.Common.{◌≡◌, ℕ, Some, List, [], ◌∷◌, ◌++◌, refl, subst}
use Rattle.notation.specs.declared.entry.Entry.{Entry}
use Rattle.entry_log.specs.Disk.{Images}
use Rattle.agree_core.specs.declared.{messages.DeskId.DeskId, position.Position.Position}
use Rattle.agree_core.specs.Boards.{BoardState}
use Rattle.agree_core.specs.FileView.{FileView}
use Rattle.headline.specs.declared.version.FileVersion.{FileVersion}
use Rattle.headline.specs.Configurations.{Configuration, board_at}
use Rattle.headline.specs.Match.{setting_of}
use Rattle.progress.specs.InStep.{InStep}
use Rattle.processes.specs.Happenings.{Flow, Happening, Happens, after}
use Rattle.processes.specs.Progress.{ProcessesGoOn}
use Rattle.processes.proofs.Exchanged.{after_both, board_exchange, exchange}
use Rattle.processes.proofs.Flowing.{begins_calm, flow_runs, stands, stays_calm}

module _ {Disk : Type 0} (w : Configuration Disk) (earlier : List (Happening Disk)) where
  module _ (view : DeskId → FileVersion → FileView Disk) (game innings : ℕ) where
    flow_before : (later : List (Happening Disk)) → Flow view game innings w (later ++ earlier) → Flow view game innings w earlier
    flow_before [] f = f
    flow_before (h ∷ hs) f = flow_before hs f.0

    flow_after : (later : List (Happening Disk)) → Flow view game innings w (later ++ earlier) → Flow view game innings (after w earlier) later
    flow_after [] f = tt
    flow_after (h ∷ hs) f = (flow_after hs f.0, subst (λ (z : Configuration Disk). Happens view game innings z h) (after_both w earlier hs) f.1)

pub processes_go_on : {Disk : Type 0} (seen : Disk → List ℕ) (images : Disk → Images) → ProcessesGoOn seen images
processes_go_on {Disk} seen images contents game innings version boards w earlier later f quiet =
    let s = setting_of contents seen images game innings in
    let v = after w earlier in
    let holds = stands s game innings refl version boards w f.0 earlier (flow_before w earlier s.view game innings later f.1) in
    let calm = stays_calm s game innings refl w (begins_calm s game innings refl version boards w f.0) earlier in
    let p = flow_runs s game innings refl v calm later (flow_after w earlier s.view game innings later f.1) in
    let now = p.plays quiet in
    record {
      moments = p.moments;
      run = p.run;
      ends = p.ends;
      calm = now.0;
      played = now.1;
      exchanges = exchange game v later p.moments now.1;
      board_exchanges = board_exchange game v later p.moments now.1;
      holds = holds;
      settle = λ up exchanges. subst (λ (z : Configuration Disk). (p : Position) × (book : List Entry) × InStep z p book) p.ends
          (holds.progress.settles p.moments up (record { run = p.run; calm = now.0; exchanges = exchanges }));
      boards = λ up n k at.
          let b = holds.progress.boards n k up at in
          let Have : Configuration Disk → Type 0 = λ z.
          (l : BoardState) × (board_at z.boards n ≡ Some l) × ((p : Position) (book : List Entry) → InStep z p book → l.book ≡ book) in
          (b.0, b.1, λ exchanges. let r = b.2 p.moments p.run now.0 exchanges in subst Have p.ends (r.0, r.1, r.3));
    }
