use Rattle.agree_core.proofs.Settling.{agreed_begins, agreed_once, one_book}
use Rattle.agree_core.proofs.laws.agreed_list_grows.Goals as goal

pub returns : goal.returns
returns c = record { grows = λ v w xs ys g j s t. agreed_begins v w g j xs ys s.0 t; one = λ v xs ys j s t. agreed_once v j xs ys s t; one_book = one_book }
