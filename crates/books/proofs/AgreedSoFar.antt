-- The agreed list of a desk's first votes and all of the other desk's, one more vote at a time.
use Rattle.std.proofs.Common.{◌≡◌, ℕ, ◌+◌, ◌-◌, ◌≤◌, List, [], ◌∷◌, ◌++◌, length, inl, inr, arith, length-append}
use Rattle.std.specs.List.{All}
use Rattle.std.proofs.lemmas.List.{drop_all}
use Rattle.std.proofs.lemmas.List.Elements.{All-append, All-cons, All-nil}
use Rattle.notation.specs.declared.entry.Entry.{Entry}
use Rattle.notation.specs.Written.{IsEntry}
use Rattle.agree_core.specs.declared.messages.Vote.{Vote}
use Rattle.agree_core.specs.Agreed.{AllSettled, IsAgreedList, SettledAt}
use Rattle.agree_core.specs.Ballots.{AllVotes, Ballot, In, IsSequence, ballot_at, ballot_of, oldest}
use Rattle.agree_core.specs.Positions.{InRange, position_of}
use Rattle.vote_store.specs.Laws.{IsVotes}
use Rattle.vote_store.proofs.SequenceLemmas.{earlier, fewer}

abbrev pub both : List Ballot → List Ballot → AllVotes
both own theirs = record { a = own; b = theirs }

-- a sequence has at most one vote at a position
pub one_vote : (votes : List Ballot) → IsSequence votes → (b c : Ballot) → In b votes → In c votes → b.at ≡ c.at → b ≡ c
one_vote [] s b c i k e = absurd i
one_vote (x ∷ xs) s b c i k e = grind (arith, earlier, one_vote xs s.2 b c)

all_settled_push : (v : AllVotes) (place next : ℕ) (es : List Entry) (e : Entry) → next ≡ place + length es → AllSettled v place es → SettledAt v next e →
    AllSettled v place (es ++ e ∷ [])
all_settled_push v place next [] e n a s = let same : next ≡ place = omega arith in (rw same at s, tt)
all_settled_push v place next (x ∷ xs) e n a s = (a.0, all_settled_push v (place + 1) next xs e (omega arith) a.1 s)

module _ (own theirs : List Ballot) (b : Ballot) (s : IsSequence (b ∷ own)) where
  -- a settled place stays settled
  still_settled : (place : ℕ) (e : Entry) → SettledAt (both own theirs) place e → SettledAt (both (b ∷ own) theirs) place e
  still_settled place e (round, (equal, least)) = (
    round,
    ((inr equal.0, equal.1), λ r f less k. grind (arith, earlier b own s.1 s.2 (ballot_at place round e) equal.0, least r f less)),
  )

  all_still_settled : (place : ℕ) (es : List Entry) → AllSettled (both own theirs) place es → AllSettled (both (b ∷ own) theirs) place es
  all_still_settled place [] a = tt
  all_still_settled place (e ∷ es) a = (still_settled place e a.0, all_still_settled (place + 1) es a.1)

  -- a vote that the other desk lacks, or that is for another place, settles nothing
  settles_nothing : (xs : List Entry) → IsAgreedList (both own theirs) xs → (b.at.place ≡ length xs → In b theirs → ⊥) →
      IsAgreedList (both (b ∷ own) theirs) xs
  settles_nothing xs a other = (all_still_settled 0 xs a.0, λ r e k. grind (arith, other, a.1 r e))

  -- a vote for the next place that the other desk also has settles that place
  settles_next : (xs : List Entry) → IsAgreedList (both own theirs) xs → b.at.place ≡ length xs → In b theirs →
      IsAgreedList (both (b ∷ own) theirs) (xs ++ b.entry ∷ [])
  settles_next xs a here i =
      let is : ballot_at (length xs) b.at.round b.entry ≡ b = grind arith in
      let settled : SettledAt (both (b ∷ own) theirs) (length xs) b.entry =
      (b.at.round, ((inl is, rw is i), λ r f less k. grind (arith, a.1 r f))) in (
        all_settled_push (both (b ∷ own) theirs) 0 (length xs) xs b.entry (omega arith) (all_still_settled 0 xs a.0) settled,
        λ r e k. grind (arith, length-append xs (b.entry ∷ []), earlier b own s.1 s.2 (ballot_at (length (xs ++ b.entry ∷ [])) r e)),
      )

-- the agreed list of the first votes of one desk and all of the other's
pub record AgreedSoFar (votes theirs : List Ballot) (i : ℕ) (xs : List Entry) : Type 0 where
  pub agreed : IsAgreedList (both (oldest i votes) theirs) xs
  pub entries : All IsEntry xs
  pub places : length xs ≤ 8192

pub begun : (votes theirs : List Ballot) → AgreedSoFar votes theirs 0 []
begun votes theirs = record {
  agreed = rw (drop_all (length votes - 0) votes (omega arith)) (tt, λ r e h. h.0);
  entries = All-nil IsEntry;
  places = omega arith;
}

module _
    {votes theirs : List Ballot} {i : ℕ} (vote : Vote) {xs : List Entry} (sound : IsVotes votes)
    (next : oldest (i + 1) votes ≡ ballot_of vote ∷ oldest i votes) (a : AgreedSoFar votes theirs i xs)
  where
    sequence : IsSequence (ballot_of vote ∷ oldest i votes)
    sequence = rw next at (fewer (length votes - (i + 1)) votes sound).sequence

    pub passed : (vote.place ≡ length xs → In (ballot_of vote) theirs → ⊥) → AgreedSoFar votes theirs (i + 1) xs
    passed other = record {
      agreed = rw next (settles_nothing (oldest i votes) theirs (ballot_of vote) sequence xs a.agreed other);
      entries = a.entries;
      places = a.places;
    }

    pub taken : IsEntry vote.entry → InRange (position_of vote) → vote.place ≡ length xs → In (ballot_of vote) theirs →
        AgreedSoFar votes theirs (i + 1) (xs ++ vote.entry ∷ [])
    taken e r here h = record {
      agreed = rw next (settles_next (oldest i votes) theirs (ballot_of vote) sequence xs a.agreed here h);
      entries = All-append IsEntry xs (vote.entry ∷ []) a.entries (All-cons IsEntry vote.entry [] e (All-nil IsEntry));
      places = omega (arith, length-append xs (vote.entry ∷ []), here, r.0);
    }
