-- A vote sends the desk's own vote back exactly if it parts, and that vote's position is in range.
use Rattle.std.proofs.Common.{arith, ◌≡◌, ◌≤◌, ℕ, Bool, true, false, ◌&&◌, ◌||◌, nat_lt, List, [], ◌∷◌, Option, Some, None, refl, sym, ◌∙◌}
use Rattle.std.specs.Prelude.{◌==◌, IfSome, find, if◌then◌else◌, is_some, option_map}
use Rattle.std.proofs.lemmas.Bool.Decides.{nat_tests}
use Rattle.agree_core.specs.declared.messages.{Ask.Ask, DeskId.DeskId, Message.Message, Vote.Vote}
use Rattle.agree_core.specs.declared.position.Position.{Position}
use Rattle.agree_core.specs.Positions.{InRange, position_of}
use Rattle.board.specs.declared.witness.Round.{Round}
use Rattle.board.specs.Rounds.{desk_asking, is_against, is_of, parts, recalled, recalled_at, vote_in}
use Rattle.wire.specs.Layout.{is_at}

-- the found round passes the test
found : (test : Round → Bool) (rounds : List Round) (r : Round) → find test rounds ≡ Some r → test r ≡ true
found test [] r e = absurd (cc)
found test (x ∷ xs) r e = grind (arith, found test xs r)

-- a vote is recalled exactly if some round is against it
pub parts_recalled : (v : Vote) (rounds : List Round) → is_some (recalled rounds (Message.Vote v)) ≡ parts rounds v
parts_recalled v [] = refl
parts_recalled v (r ∷ rs) = turn (is_against v r) (parts_recalled v rs)
  where
    turn : (b : Bool) → is_some (option_map (vote_in v.desk) (find (is_against v) rs)) ≡ parts rs v
        → is_some (option_map (vote_in v.desk) (if b then Some r else find (is_against v) rs)) ≡ (b || parts rs v)
    turn true e = refl
    turn false e = e

-- a vote that is against a round is for the round's place, in no earlier round
in_place : (v : Vote) (r : Round) → is_against v r ≡ true → (r.at.place ≡ v.place) × (r.at.round ≤ v.round)
in_place v r e = grind (arith, nat_tests)

at_once : (at : Position) (r : Round) → is_of at r ≡ true → r.at ≡ at
at_once at r e = grind (arith, nat_tests)

vote_range : (v : Vote) (o : Option Round) → ((r : Round) → o ≡ Some r → is_against v r ≡ true) → InRange (position_of v) → (w : Vote)
    → option_map (vote_in v.desk) o ≡ Some w → InRange (position_of w)
vote_range v None h i w e = absurd (cc)
vote_range v (Some r) h i w e = let there = in_place v r (h r refl) in grind (arith, e, there)

ask_range : (at : Position) (d : DeskId) (o : Option Round) → ((r : Round) → o ≡ Some r → is_of at r ≡ true) → InRange at → (w : Vote)
    → option_map (vote_in d) o ≡ Some w → InRange (position_of w)
ask_range at d None h i w e = absurd (cc)
ask_range at d (Some r) h i w e = let there = at_once at r (h r refl) in grind (arith, e, there)

asked_range : (rounds : List Round) (asks : Option DeskId) (at : Position) → InRange at → (w : Vote) → recalled_at rounds asks at ≡ Some w → InRange (position_of w)
asked_range rounds None at i w e = absurd (cc)
asked_range rounds (Some d) at i w e = ask_range at d (find (is_of at) rounds) (found (is_of at) rounds) i w e

ranged : (rounds : List Round) (m : Message) → InRange (is_at m) → (w : Vote) → recalled rounds m ≡ Some w → InRange (position_of w)
ranged rounds (Message.Vote v) i w e = vote_range v (find (is_against v) rounds) (found (is_against v) rounds) i w e
ranged rounds (Message.Ask q) i w e = asked_range rounds (desk_asking q.from) (record { place = q.place; round = q.round }) i w e

-- a recalled vote's position is in range
pub recalled_range : (rounds : List Round) (m : Message) (o : Option Vote) → o ≡ recalled rounds m → InRange (is_at m) → IfSome o (λ v. InRange (position_of v))
recalled_range rounds m None e i = tt
recalled_range rounds m (Some w) e i = ranged rounds m i w (sym e)
