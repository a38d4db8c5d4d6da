use Rattle.std.proofs.Common.{refl, inr}
use Rattle.std.proofs.lemmas.Result.{IfErr-weaker}
use Rattle.toml.specs.View.{table_view}
use Rattle.commands.proofs.frames.frame_of.Goals as goal

pub returns-clause-why : goal.returns-clause-why
returns-clause-why g c =
    let text = c.in_ok-text.ensures.bytes in
    let sheet = rw c.as_slice.ensures.value at c.in_ok-sheet.ensures.sheet in
    let document = rw c.as_slice-2.ensures.value at c.in_ok-document.ensures.document in
    let why = rw (c.as_slice-3.ensures.value, c.as_slice-4.ensures.value) at c.framed.ensures.why in
    IfErr-weaker c.framed.result _ _ (λ fault refused. inr (inr (record {
      sheet = _;
      document = table_view c.in_ok-document.document;
      has_sheet = record { bytes = _; has = text; read = sheet; table = c.in_ok-document.document; handed_on = document; is_document = refl };
      a = _;
      b = _;
      has_votes = record { first = c.in_ok-a.ensures.bytes; second = c.in_ok-b.ensures.bytes };
      why = refused;
    }))) why
