-- Where both desks' votes aren't of one history.
use Rattle.std.proofs.Common.{◌≡◌, ℕ, false, arith}
use Rattle.std.proofs.lemmas.Bool.{cases_lt}
use Rattle.notation.specs.declared.entry.TheConstants.{PLACES}
use Rattle.agree_core.specs.declared.position.TheConstants.{ROUNDS}
use Rattle.agree_core.specs.Ballots.{AllVotes, IsSequence}
use Rattle.books.specs.OneHistory.{IsWholeAt, IsWholeBelow, has_vote}
use Rattle.books.proofs.EntriesAt.{none_after, none_from}

module _ (v : AllVotes) where
  pub none_more : (place n : ℕ) → IsSequence v.a → IsWholeAt v place n → has_vote v.a place n ≡ false → IsWholeAt v place ROUNDS
  none_more place n sequence whole none round less = grind (arith, cases_lt round n, whole round, none_from v.a sequence place n round)

  -- after a place without a vote of A no place is torn
  pub none_torn : (n : ℕ) → IsSequence v.a → IsWholeBelow v n → has_vote v.a n 0 ≡ false → IsWholeBelow v PLACES
  none_torn n sequence whole none place less round r =
      grind (arith, cases_lt place n, whole place, none_after v.a sequence n place, none_from v.a sequence place 0 round)
