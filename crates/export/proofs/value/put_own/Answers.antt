use Rattle.std.proofs.Common.{◌∙◌}
use Rattle.std.proofs.lemmas.Result.{on_ok_weaker}
use Rattle.json_fields.proofs.Putting.{◌▸◌, begins, is_object_field}
use Rattle.export.proofs.value.put_own.Goals as goal

pub returns : goal.returns
returns g c = λ given are.
    let ruled = c.in_ok-put_ruled.ensures in
    on_ok_weaker c.end_object.result (λ put. (ruled.0, ruled.1, put)) (is_object_field c.end_object.result _
    (begins c.in_ok-begin_field.ensures ▸ c.in_ok-put_text.ensures ▸ (c.in_ok-put_sheet.ensures given are)
    ▸ ruled.2 ▸ (c.in_ok-put_falls.ensures _ _ c.requires (c.as_slice.ensures.value ∙ c.in_ok-falls.ensures)) ▸ c.in_ok-put_entries.ensures) c.end_object.ensures)
