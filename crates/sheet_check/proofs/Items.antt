-- The number of items of a list of values.
use Rattle.std.proofs.Common.{◌≡◌, List, length}
use Rattle.toml.specs.declared.value.Value.{Value}
use Rattle.toml.specs.View.{items_view}
use Rattle.cards.specs.Reading.{count_of}
use Rattle.cards.proofs.TextItems.{count_of-items_view}

pub count_items : (vs : List Value) → count_of (items_view vs) ≡ length vs
count_items vs = count_of-items_view vs
