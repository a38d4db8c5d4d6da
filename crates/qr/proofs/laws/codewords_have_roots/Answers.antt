use Rattle.qr.proofs.RootLemmas.{make_roots}
use Rattle.qr.proofs.TextLemmas.{texts_make_roots}
use Rattle.qr.proofs.laws.codewords_have_roots.Goals as goal

pub returns-clause-check : goal.returns-clause-check
returns-clause-check c = make_roots

pub returns-clause-text : goal.returns-clause-text
returns-clause-text c = texts_make_roots
