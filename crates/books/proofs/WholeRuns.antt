-- Votes that rightly follow one another, given the other desk's votes, are of one history.
use Rattle.std.proofs.Common.{◌≡◌, ◌≢◌, ℕ, ◌+◌, Bool, true, false, List, Option, Some, None, refl, sym, arith}
use Rattle.notation.specs.declared.entry.Entry.{Entry}
use Rattle.agree_core.specs.Ballots.{AllJustified, AllVotes, Ballot, In, Justified, ballot_at}
use Rattle.agree_core.proofs.Order.{in_sequence, one_vote, place_closed}
use Rattle.agree_core.proofs.Settling.{none_later}
use Rattle.vote_store.specs.Laws.{IsVotes}
use Rattle.books.specs.DeskVotes.{entry_at, is_alike}
use Rattle.books.specs.OneHistory.{IsWholeBelow, goes_wrong, is_torn}
use Rattle.books.proofs.EntriesAt.{found_in, none_at, none_from, some_at}
use Rattle.books.proofs.SameVotes.{alike_here, entries_at, same_entry}

module _ (own theirs : List Ballot) (jo : Justified theirs own) (jt : Justified own theirs) (place round : ℕ) (e f : Entry)
    (mine : In (ballot_at place round e) own) (other : In (ballot_at place round f) theirs) where
  -- after equal votes there is no vote in the next round
  none_next : e ≡ f → entry_at own place (round + 1) ≡ None
  none_next same = none_at own place (round + 1) (λ g i. none_later own theirs jo jt place round (round + 1) e g (mine, rw same other) i (omega arith))

  -- after different votes there is no vote at the next place, if there is none in the next round
  none_there : e ≢ f → entry_at own place (round + 1) ≡ None → entry_at own (place + 1) 0 ≡ None
  none_there differ last = none_at own (place + 1) 0 λ g i.
      let closed = place_closed theirs own jo place g i in
      let sequence = in_sequence theirs own jo in
      grind (
        arith,
        none_later own theirs jo jt place closed.0 round closed.1 e (closed.2, closed.3) mine,
        one_vote theirs own jo (ballot_at place closed.0 closed.1) (ballot_at place round e) closed.2 mine,
        one_vote own theirs jt (ballot_at place closed.0 closed.1) (ballot_at place round f) closed.3 other,
        none_from own sequence place (round + 1) closed.0,
        some_at own sequence place closed.0 closed.1 closed.2,
      )

  right : (alike : Bool) → (alike ≡ true → e ≡ f) → (e ≡ f → alike ≡ true) → goes_wrong alike own place round ≡ false
  right alike same back = grind (arith, same, back, none_next, none_there)

module _ (v : AllVotes) (a : IsVotes v.a) (b : IsVotes v.b) (j : AllJustified v) (place round : ℕ) where
  both_right : (x y : Option Entry) → entry_at v.a place round ≡ x → entry_at v.b place round ≡ y → is_torn v place round ≡ false
  both_right None y at_a at_b = rw at_a refl
  both_right (Some e) None at_a at_b = rw (at_a, at_b) refl
  both_right (Some e) (Some f) at_a at_b =
      let mine = found_in v.a place round e at_a in
      let other = found_in v.b place round f at_b in
      let same : is_alike (Some e) (Some f) ≡ true → e ≡ f = λ is.
      (let both = same_entry (Some e) (Some f) (rw at_a at (entries_at v.a a.entries place round)) (rw at_b at (entries_at v.b b.entries place round)) is in cc) in
      let back : e ≡ f → is_alike (Some e) (Some f) ≡ true = λ eq. rw eq (alike_here (Some f)) in
      let first = right v.a v.b j.0 j.1 place round e f mine other (is_alike (Some e) (Some f)) same back in
      let second = right v.b v.a j.1 j.0 place round f e other mine (is_alike (Some e) (Some f)) (λ is. sym (same is)) (λ eq. back (sym eq)) in
      rw (at_a, at_b, first, second) refl

pub whole_runs : (v : AllVotes) → IsVotes v.a → IsVotes v.b → AllJustified v → (n : ℕ) → IsWholeBelow v n
whole_runs v a b j n place p round r = both_right v a b j place round (entry_at v.a place round) (entry_at v.b place round) refl refl
