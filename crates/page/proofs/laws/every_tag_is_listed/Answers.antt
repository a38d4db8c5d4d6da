use Rattle.page.proofs.MarkedPage.{page_marked}
use Rattle.page.proofs.laws.every_tag_is_listed.Goals as goal

pub returns : goal.returns
returns c s document book = page_marked s document book
