use Rattle.std.proofs.Common.{refl}
use Rattle.std.specs.Fmt.{digits}
use Rattle.json.specs.Print.{escape_byte, print_from}
use Rattle.corrections.specs.CleanList.{clean_items_of}
use Rattle.desk_state.proofs.worked.worked_book.Goals as goal

pub returns : goal.returns
unfolding clean_items_of digits escape_byte print_from
returns c = record { text = refl; empty = refl; news = refl }
