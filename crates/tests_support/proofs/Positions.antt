-- The position of the next vote.
use Rattle.std.proofs.Common.{◌≡◌, Bool, true, false, List, [], ◌∷◌, inl, inr}
use Rattle.std.specs.Prelude.{MatchOption}
use Rattle.notation.specs.declared.entry.Entry.{Entry}
use Rattle.agree_core.specs.declared.{messages.DeskId.DeskId, position.Position.Position}
use Rattle.agree_core.specs.Ballots.{Ballot, ComesNext}
use Rattle.agree_core.specs.Positions.{first, next_position, position_of}
use Rattle.vote_store.specs.VoteList.{last_vote}

-- a vote at this position comes next after the votes that end with the last one
pub comes_next : (agreed : Bool) (at : Position) (desk : DeskId) (votes : List Ballot)
    → MatchOption (last_vote desk votes) (at ≡ first) (λ vote. at ≡ next_position agreed (position_of vote))
    → (e : Entry) → ComesNext (record { at = at; entry = e }) votes
comes_next agreed at desk [] h e = h
comes_next true at desk (b ∷ bs) h e = inr h
comes_next false at desk (b ∷ bs) h e = inl h
