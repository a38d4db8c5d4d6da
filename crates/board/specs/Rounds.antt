-- The rounds that a board has heard in full, and the votes that no desk casts if its file has all its lines.
use Rattle.std.specs.Prelude.{◌≡◌, ◌≢◌, ◌<◌, ◌⊎◌, ℕ, Bool, true, ◌==◌, ◌&&◌, ◌||◌, not, nat_lt, if◌then◌else◌, List, [], ◌∷◌, ◌++◌, find, length, Option, Some, None, option_map}
use Rattle.std.specs.List.{list_any}
use Rattle.std.specs.Str.{bytes_eq}
use Rattle.notation.specs.Code.{code}
use Rattle.notation.specs.Written.{IsEntry}
use Rattle.notation.specs.declared.entry.Entry.{Entry}
use Rattle.agree_core.specs.declared.messages.{Asker.Asker, DeskId.DeskId, Message.Message, Vote.Vote}
use Rattle.agree_core.specs.declared.position.Position.{Position}
use Rattle.agree_core.specs.declared.messages.DeskId.TheVariants.{A, B}
use Rattle.agree_core.specs.LostLines.{is_at}
use Rattle.agree_core.specs.Positions.{position_of}
use Rattle.agree_core.specs.Readers.{ReaderState}
use Rattle.board.specs.declared.witness.Round.{Round}
use Rattle.board.specs.declared.witness.TheConstants.{MOST_ROUNDS}

-- what a desk voted for in this round
abbrev pub cast_by : DeskId → Round → Entry
cast_by A round = round.a
cast_by B round = round.b

-- two entries are equal if their codes are equal
abbrev pub is_alike : Entry → Entry → Bool
is_alike one other = bytes_eq (code one) (code other)

-- A desk votes once at a position. Once both desks have voted alike, neither votes in a later round of that
-- place. This vote breaks one of these rules, given a round that was heard.
abbrev pub is_another : Vote → Round → Bool
is_another v round = is_at round.at (position_of v) && not (is_alike (cast_by v.desk round) v.entry)

abbrev pub is_later : Vote → Round → Bool
is_later v round = ((round.at.place == v.place) && nat_lt round.at.round v.round) && is_alike round.a round.b

abbrev pub is_against : Vote → Round → Bool
is_against v round = is_another v round || is_later v round

-- This vote shows that a desk's file lacks lines that this board has heard.
abbrev pub parts : List Round → Vote → Bool
parts rounds v = list_any (is_against v) rounds

-- the round that is complete with this entry as the missing desk's vote
abbrev pub whole_with : ReaderState → Option Entry → Option Entry → Entry → Option Round
whole_with r (Some a) None e = Some (record { at = r.position; a = a; b = e })
whole_with r None (Some b) e = Some (record { at = r.position; a = e; b = b })
whole_with r a b e = None

abbrev pub whole_round : ReaderState → Option Entry → Option Round
whole_round r None = None
whole_round r (Some e) = whole_with r r.a r.b e

-- the rounds with this one added, at most MOST_ROUNDS: a desk's file has no more votes
abbrev pub with_round : List Round → Option Round → List Round
with_round rounds None = rounds
with_round rounds (Some round) = if nat_lt (length rounds) MOST_ROUNDS then rounds ++ round ∷ [] else rounds

-- ---- a desk's own vote is sent back to it

-- a desk's vote in a round
abbrev pub vote_in : DeskId → Round → Vote
vote_in d round = record { desk = d; place = round.at.place; round = round.at.round; entry = cast_by d round }

abbrev pub is_of : Position → Round → Bool
is_of at round = is_at round.at at

-- the desk that asks, if a desk asks
abbrev pub desk_asking : Asker → Option DeskId
desk_asking Asker.A = Some A
desk_asking Asker.B = Some B
desk_asking Asker.Board = None

abbrev pub recalled_at : List Round → Option DeskId → Position → Option Vote
recalled_at rounds None at = None
recalled_at rounds (Some d) at = option_map (vote_in d) (find (is_of at) rounds)

-- A desk whose vote is against a round that was heard lacks its own vote there. A desk that asks for the votes
-- of a position at which it has voted may lack its vote: its file tells it.
abbrev pub recalled : List Round → Message → Option Vote
recalled rounds (Message.Vote v) = option_map (vote_in v.desk) (find (is_against v) rounds)
recalled rounds (Message.Ask q) = recalled_at rounds (desk_asking q.from) (record { place = q.place; round = q.round })

-- ---- a split is seen

-- this round is in the list
abbrev pub IsOneOf : Round → List Round → Type 0
IsOneOf round [] = ⊥
IsOneOf round (r ∷ rs) = (round ≡ r) ⊎ IsOneOf round rs

-- both desks were heard to vote for this entry in this round of the place, and differently in each earlier round
-- of it
pub record HeardAgreed (rounds : List Round) (place round : ℕ) (e : Entry) : Type 0 where
  pub agreed : IsOneOf (record { at = record { place = place; round = round }; a = e; b = e }) rounds
  pub differed : (r : ℕ) → r < round → (x : Round) × IsOneOf x rounds × (x.at ≡ record { place = place; round = r }) × (x.a ≢ x.b)
  pub entries : (x : Round) → IsOneOf x rounds → IsEntry x.a × IsEntry x.b

-- If the desks then agree on another entry for that place, in any round, one of their votes shows it.
abbrev pub SplitsAreSeen : Type 0
SplitsAreSeen =
    (rounds : List Round) (place round other : ℕ) (e f : Entry) → HeardAgreed rounds place round e → IsEntry f → e ≢ f
    → (parts rounds (record { desk = A; place = place; round = other; entry = f }) ≡ true)
    ⊎ (parts rounds (record { desk = B; place = place; round = other; entry = f }) ≡ true)
