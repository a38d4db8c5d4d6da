-- Lives that meet the premise of the law on all matches: a life of desk A that hears no vote, and then one of desk B that hears
-- only votes that desk A's life sent.
use Rattle.std.specs.Prelude.{ℕ, List, [], ◌∷◌, ◌++◌}
use Rattle.agree_core.specs.declared.messages.{DeskId.DeskId, Message.Message, Vote.Vote}
use Rattle.agree_core.specs.declared.messages.DeskId.TheVariants.{A, B}
use Rattle.agree_core.specs.Desks.{DeskState}
use Rattle.wire.specs.Layout.{Says}
use Rattle.links.specs.Windows.{Has}
use Rattle.live.specs.Desks as desks
use Rattle.live.specs.Desks.{DeskCall, DeskProcess}
use Rattle.live.specs.Runs.{Moment}
use Rattle.desk_command.specs.declared.desk_disk.DeskDisk.{DeskDisk}
use Rattle.processes.specs.Happenings.{Happening}
use Rattle.processes.specs.Lives.{life_happens}
use Rattle.sheet_stations.specs.Lives.{LifeOfDesk, LivesOfDesk, IsOfMatch, OpensFirst, all_stages, calls_of, opening_of, sheet_of}
use Rattle.sheet_stations.specs.Matches.{IsWoven, Match}

-- what these calls sent
abbrev pub sent_in : List (Moment (DeskProcess DeskDisk) DeskCall) → List Message
sent_in [] = []
sent_in (m ∷ ms) = sent_in ms ++ m.out

module _ (game : ℕ) (said : List Message) where
  -- a vote of the match that a call is given is one of these messages
  abbrev pub IsOfSaid : DeskCall → Type 0
  IsOfSaid (desks.Given message what) = (v : Vote) → Says game message (Message.Vote v) → Has said (Message.Vote v)
  IsOfSaid call = Unit {0}

  abbrev pub HearsOnly : List (Moment (DeskProcess DeskDisk) DeskCall) → Type 0
  HearsOnly [] = Unit {0}
  HearsOnly (m ∷ ms) = HearsOnly ms × IsOfSaid m.call

-- one life is all lives of its desk
abbrev pub only_life : {desk : DeskId} → LifeOfDesk desk → DeskState DeskDisk → LivesOfDesk desk
only_life l begun = record { first = l; begun = begun; later = [] }

abbrev pub of_each : LivesOfDesk A → LivesOfDesk B → (desk : DeskId) → LivesOfDesk desk
of_each a b A = a
of_each a b B = b

-- a match of these two desks, without boards
abbrev pub match_of : ℕ → ℕ → LivesOfDesk A → LivesOfDesk B → Match
match_of game innings a b = record { game = game; innings = innings; count = 0; desks = of_each a b; boards = λ n. [] }

-- all that happened: first at desk A, then at desk B
abbrev pub in_turn : ℕ → LivesOfDesk A → LivesOfDesk B → List (Happening DeskDisk)
in_turn innings a b = life_happens innings B (all_stages b) ++ life_happens innings A (all_stages a)

-- such lives are woven
abbrev pub LivesInTurnAreWoven : Type 0
LivesInTurnAreWoven =
    (game innings : ℕ) (a : LifeOfDesk A) (b : LifeOfDesk B) (k l : DeskState DeskDisk)
    → IsOfMatch game innings (sheet_of a) → IsOfMatch game innings (sheet_of b)
    → OpensFirst k (opening_of a) → OpensFirst l (opening_of b)
    → HearsOnly game [] (calls_of a) → HearsOnly game (sent_in (calls_of a)) (calls_of b)
    → IsWoven (match_of game innings (only_life a k) (only_life b l)) (in_turn innings (only_life a k) (only_life b l))
