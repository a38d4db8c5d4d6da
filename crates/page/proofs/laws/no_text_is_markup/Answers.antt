use Rattle.page.proofs.Escaping.{no_markup}
use Rattle.page.proofs.laws.no_text_is_markup.Goals as goal

pub returns : goal.returns
returns c text = no_markup text
