use Rattle.std.proofs.lemmas.Result.{IfOk-weaker}
use Rattle.export.proofs.text.text_of.Goals as goal

pub returns : goal.returns
returns g c =
    IfOk-weaker c.shown.result _ _
    (λ text is. record { laid = c.as_str.result.now; laid_out = rw c.as_str.ensures.value c.in_ok-laid.ensures; written = is })
    c.shown.ensures
