use Rattle.std.proofs.Common.{◌≡◌, ◌∙◌, List, length, subst, sym}
use Rattle.entry_log.specs.declared.mem_disk.MemDisk.{MemDisk}
use Rattle.agree_core.specs.Agreed.{IsAgreedList}
use Rattle.agree_core.specs.Books.{IsAgreedByFiles}
use Rattle.headline.specs.Configurations.{Configuration, all_votes}
use Rattle.replay_command.proofs.WorldRuns.{all_holds}
use Rattle.replay_command.proofs.replay.print_run.Goals as goal

pub agreed-requires : goal.agreed-requires
agreed-requires g c =
    let stepped = rw c.in-Whole.is at c.in_ok-outcomes.ensures.stepped in
    record { read = (stepped.0, stepped.2, stepped.3) }

pub returns-in-Ok-clause-written : goal.returns-in-Ok-clause-written
returns-in-Ok-clause-written g c =
    let stepped = rw c.in-Whole.is at c.in_ok-outcomes.ensures.stepped in
    let takes = stepped.1 in
    let holds = all_holds takes in
    let list = c.in_ok-agreed-in-Whole.agreed in
    let counted : c.len.result ≡ length list.items = c.len.ensures ∙ list.ok.0 in
    let files = c.in_ok-agreed-in-Whole.ensures stepped.0 stepped.2 stepped.3 in
    record {
      outcomes = c.in-Whole.outcomes.items;
      last = stepped.0;
      takes = takes;
      holds = holds;
      agreed = list.items;
      is_agreed = subst (λ (v : Configuration MemDisk). IsAgreedList (all_votes v) list.items) (sym takes.ends)
          (holds.by_files list.items (subst (λ (v : Configuration MemDisk). IsAgreedByFiles (all_votes v).a (all_votes v).b list.items) takes.ends files));
      written = rw (c.as_slice.ensures.value, counted, c.as_str.ensures.value, c.in_ok-stations-in-Whole.ensures stepped.0 stepped.2) at c.in-Ok.ensures.text;
    }
