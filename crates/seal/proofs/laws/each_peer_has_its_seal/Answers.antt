use Rattle.seal.proofs.SealedForms.{each_has_its_form, handed_back_is_the_desks}
use Rattle.seal.proofs.laws.each_peer_has_its_seal.Goals as goal

pub returns-clause-form : goal.returns-clause-form
returns-clause-form c = each_has_its_form

pub returns-clause-back : goal.returns-clause-back
returns-clause-back c = handed_back_is_the_desks
