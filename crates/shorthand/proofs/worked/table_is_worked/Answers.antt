use Rattle.std.specs.Fmt.{digits}
use Rattle.corrections.specs.CleanList.{clean, clean_items_of, history_of}
use Rattle.shorthand.specs.Full.{begins_delivery, by_bowler, by_letter, by_same_bowler, colon_delivery, item_from, runs_from, unnamed}
use Rattle.shorthand.proofs.Cased.{worked_cases}
use Rattle.shorthand.proofs.worked.table_is_worked.Goals as goal

pub returns : goal.returns
unfolding clean_items_of clean history_of digits begins_delivery by_bowler by_letter by_same_bowler colon_delivery item_from runs_from unnamed
returns c = record {
  marks = assumption;
  outs = assumption;
  words = assumption;
  names = assumption;
  several = assumption;
  places = assumption;
  cases = worked_cases;
}
