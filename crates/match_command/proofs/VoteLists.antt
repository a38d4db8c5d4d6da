-- The votes for a list of entries, one for each.
use Rattle.std.proofs.Common.{◌≡◌, ◌+◌, Some, List, [], ◌∷◌, ◌++◌, length, refl, arith, append-nil, append_assoc, length-append}
use Rattle.std.specs.Prelude.{slice_get}
use Rattle.std.proofs.lemmas.Bool.Decides.{nat_tests}
use Rattle.std.proofs.lemmas.Option.{slice_get_within}
use Rattle.notation.specs.declared.entry.Entry.{Entry}
use Rattle.corrections.proofs.LegalLemmas.{slice_get-append_left, slice_get-last}
use Rattle.agree_core.specs.Ballots.{Ballot, In, ballot_at}
use Rattle.agree_core.specs.Books.{voted_list}
use Rattle.match_command.specs.MatchRun.{votes_for, with_votes_for}

-- these votes are one for each of these entries, in the first round of its place
pub record AreFor (es : List Entry) (votes : List Ballot) : Type 0 where
  pub long : length votes ≡ length es
  pub voted : voted_list votes ≡ es
  pub each : (b : Ballot) → In b votes → (b.at.round ≡ 0) × (slice_get es b.at.place ≡ Some b.entry)

-- a vote for the next place settles the one before
closes : (es : List Entry) (e : Entry) (vs : List Ballot) → AreFor es vs → voted_list (ballot_at (length vs) 0 e ∷ vs) ≡ es ++ e ∷ []
closes es e [] a = grind (arith, a.voted)
closes es e (c ∷ vs) a = grind (arith, a.voted, nat_tests, a.each c, slice_get_within {A = Entry})

one_more : (es : List Entry) (e : Entry) (vs : List Ballot) → AreFor es vs → AreFor (es ++ e ∷ []) (ballot_at (length vs) 0 e ∷ vs)
one_more es e vs a = record {
  long = grind (arith, a.long, length-append {A = Entry});
  voted = closes es e vs a;
  each = λ b i. grind (arith, a.long, a.each b, slice_get-last es e, slice_get-append_left es (e ∷ []) b.at.place, slice_get_within es b.at.place b.entry);
}

all_more : (new es : List Entry) (vs : List Ballot) → AreFor es vs → AreFor (es ++ new) (with_votes_for new vs)
all_more [] es vs a = rw append-nil a
all_more (e ∷ new) es vs a = rw (← append_assoc es (e ∷ []) new) (all_more new (es ++ e ∷ []) (ballot_at (length vs) 0 e ∷ vs) (one_more es e vs a))

pub are_for : (es : List Entry) → AreFor es (votes_for es)
are_for es = all_more es [] [] (record { long = refl; voted = refl; each = λ b none. absurd none })

with_last : (es : List Entry) (e : Entry) (vs : List Ballot) → with_votes_for (es ++ e ∷ []) vs ≡ ballot_at (length (with_votes_for es vs)) 0 e ∷ with_votes_for es vs
with_last [] e vs = refl
with_last (x ∷ es) e vs = with_last es e (ballot_at (length vs) 0 x ∷ vs)

-- the vote for one entry more
pub votes_last : (es : List Entry) (e : Entry) → votes_for (es ++ e ∷ []) ≡ ballot_at (length es) 0 e ∷ votes_for es
votes_last es e = rw (with_last es e [], (are_for es).long) refl
