use Rattle.std.proofs.Common.{◌∙◌}
use Rattle.json_fields.proofs.Putting.{begins, is_array_field}
use Rattle.scoreboard.proofs.CountLemmas.{counted_book}
use Rattle.scoreboard.proofs.value.put_over_runs.Goals as goal

pub returns : goal.returns
returns g c =
    let runs = c.as_slice.ensures.value ∙ (c.in_ok-overs.ensures ∙ counted_book _ _ c.clean_items.ensures.value) in
    is_array_field c.end_array.result _ _ (begins c.in_ok-begin_array.ensures) (rw runs at c.in_ok-put_each.ensures) c.end_array.ensures
