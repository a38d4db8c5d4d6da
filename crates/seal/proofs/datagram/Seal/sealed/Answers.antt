use Rattle.std.proofs.Common.{ap, arith, refl, ◌∙◌}
use Rattle.seal.specs.Sealed.{tag}
use Rattle.seal.proofs.SealedForms.{pasted}
use Rattle.seal.proofs.datagram.Seal.sealed.Goals as goal

pub returns : goal.returns
returns c =
    pasted 48 c.args.message.now (tag c.args.self.now c.args.message.now) c.copy_from_slice.new.self c.copy_from_slice-2.new.self _
    (c.copy_from_slice.ensures.after ∙ c.as_slice.ensures)
    (c.copy_from_slice-2.ensures.after ∙ c.as_slice-3.ensures ∙ c.tag.ensures ∙ ap (tag c.args.self.now) c.as_slice-2.ensures) (omega arith) refl
