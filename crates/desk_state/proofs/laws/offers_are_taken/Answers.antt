use Rattle.desk_state.proofs.OfferLemmas.{begin_taken, call_taken, come_taken, delivery_of_taken}
use Rattle.desk_state.proofs.laws.offers_are_taken.Goals as goal

pub returns : goal.returns
returns c = λ s n h. record {
  batter = come_taken n h;
  delivery = delivery_of_taken s n h;
  over = call_taken n h;
  innings = begin_taken n h;
}
