use Rattle.std.proofs.Common.{refl, inl, inr, codes}
use Rattle.commands.specs.Frames.{refusal_line}
use Rattle.commands.specs.declared.frames.MatchFault.TheVariants.{NoMemory}
use Rattle.commands.specs.declared.match_files.MatchFile.TheVariants.{Sheet}
use Rattle.commands.proofs.EachLemmas.{tells_written}
use Rattle.commands.proofs.each.tell_refusal.Goals as goal

-- without memory for the path, that is told
pub returns-in-Err : goal.returns-in-Err
returns-in-Err g c =
    let shown = c.printable-shown.result.now in
    let write = c.print_refusal-in-Err in
    record {
      line = refusal_line shown (codes "?") NoMemory;
      is = record {
        fault = NoMemory;
        why = inl (record { file = Sheet; why = tt });
        shown = shown;
        is_shown = c.printable-shown.ensures;
        path = codes "?";
        is_path = inr refl;
        is = refl;
      };
      told = tells_written g.E.Sink.contents c.args.errors.now write.new.out (refusal_line shown (codes "?") NoMemory) write.result write.ensures.failed write.ensures.text;
    }
