-- Worked corrections: the printed rows, computed. The sides are the plain sheet's, with one innings a side.
-- Away's player 10 bowls.
--
--   place 3  one run off the bat, so that 2 has the strike; place 4  bowled. 1 not out 1 (1), 2 b 10 0 (1), 1 for 1
--   so corrected that place 3 is two runs: 1 faces place 4 as well, and is out. 1 b 10 2 (2), 2 not out 0 (0), 2 for 1
use Rattle.std.specs.Prelude.{◌≡◌, ℕ, false, Some, List, [], ◌∷◌, ◌++◌, codes}
use Rattle.notation.specs.declared.entry.Side.TheVariants.{Home, Away}
use Rattle.notation.specs.declared.entry.Kind.TheVariants.{Bat, Nb, Wide}
use Rattle.notation.specs.declared.entry.How.TheVariants.{Bowled}
use Rattle.notation.specs.declared.entry.Who.TheVariants.{Striker}
use Rattle.notation.specs.declared.entry.{Plain.Plain, Entry.Entry}
use Rattle.notation.specs.declared.entry.Plain.TheVariants.{Innings, Come, Ball as Bowl, Void}
use Rattle.notation.specs.declared.entry.Entry.TheVariants.{Write, Fix, Late}
use Rattle.ball_laws.specs.Worked.{ball}
use Rattle.cards.specs.Sheet.{plain_sheet}
use Rattle.changes.specs.Text.{last_changes}

abbrev pub runs : ℕ → Plain
runs n = Bowl (ball 10 Bat n)

abbrev pub bowled : Plain
bowled = Bowl (record (ball 10 Bat 0) { out = Some (record { how = Bowled; who = Striker; fielder = 0; crossed = false }) })

-- the places 0 to 2
abbrev pub opened : List Entry
opened = Write (Innings Home) ∷ Write (Come 1) ∷ Write (Come 2) ∷ []

abbrev pub one_ball : List Entry
one_ball = opened ++ Write (runs 1) ∷ []

abbrev pub two_balls : List Entry
two_balls = one_ball ++ Write bowled ∷ []

abbrev pub told : List Entry → List ℕ
told book = last_changes (plain_sheet 0 1) 1 book

-- a correction that gives the wicket to the other batter
abbrev pub WorkedWicket : Type 0
WorkedWicket =
    told (two_balls ++ Fix 3 (runs 2) ∷ []) ≡
    codes "now: 1 b 10 2 (2), was not out 1 (1)\n"
    ++ (codes "now: 2 not out 0 (0), was b 10 0 (1)\n"
    ++ (codes "now: home 2 for 1 (0.2), was 1 for 1 (0.2)\n"
    ++ codes "now: 10 0.2-0-2-1, was 0.2-0-1-1\n"))

-- two more runs leave the strike unchanged; one more changes it
abbrev pub WorkedRuns : Type 0
WorkedRuns =
    (told (one_ball ++ Fix 3 (runs 3) ∷ []) ≡
    codes "now: home 3 for 0 (0.1), was 1 for 0 (0.1)\n"
    ++ (codes "now: 1 3 (1), was 1 (1)\n"
    ++ codes "now: 10 0.1-0-3-0, was 0.1-0-1-0\n"))
    × (told (one_ball ++ Fix 3 (runs 2) ∷ []) ≡
    codes "now: home 2 for 0 (0.1), was 1 for 0 (0.1)\n"
    ++ (codes "now: 1 on strike, was 2\n"
    ++ (codes "now: 1 2 (1), was 1 (1)\n"
    ++ codes "now: 10 0.1-0-2-0, was 0.1-0-1-0\n")))

-- a late ball without a run, and a late ball that is made void again
abbrev pub WorkedLate : Type 0
WorkedLate =
    (told (one_ball ++ Late 3 (runs 0) ∷ []) ≡
    codes "now: home 1 for 0 (0.2), was 1 for 0 (0.1)\n"
    ++ (codes "now: 2 0 (1), was 0 (0)\n"
    ++ codes "now: 10 0.2-0-1-0, was 0.1-0-1-0\n"))
    × (told (one_ball ++ Late 3 (runs 0) ∷ Fix 4 Void ∷ []) ≡
    codes "now: home 1 for 0 (0.1), was 1 for 0 (0.2)\n"
    ++ (codes "now: 2 0 (0), was 0 (1)\n"
    ++ codes "now: 10 0.1-0-1-0, was 0.2-0-1-0\n"))

-- a Wide that was in fact a No ball: player 1 has faced it
abbrev pub WorkedWides : Type 0
WorkedWides =
    told (opened ++ Write (Bowl (ball 10 Wide 0)) ∷ Fix 3 (Bowl (ball 10 Nb 0)) ∷ []) ≡
    codes "now: 1 0 (1), was 0 (0)\n"
    ++ codes "now: 10 0.0-0-1-0, w 0, nb 1,\n  was 0.0-0-1-0, w 1, nb 0\n"

-- a correction that changes nothing, and a last entry that is no correction
abbrev pub WorkedNothing : Type 0
WorkedNothing = (told (two_balls ++ Fix 3 (runs 1) ∷ []) ≡ []) × (told two_balls ≡ [])

-- nine changes, as the other side bats
abbrev pub WorkedMore : Type 0
WorkedMore =
    told (one_ball ++ Fix 0 (Innings Away) ∷ []) ≡
    codes "now: 1 not in, was not out 1 (1)\n"
    ++ (codes "now: 2 not in, was not out 0 (0)\n"
    ++ (codes "now: 1 not out 1 (1), was not in\n"
    ++ (codes "now: 2 not out 0 (0), was not in\n"
    ++ (codes "now: home not begun, was 1 for 0 (0.1)\n"
    ++ (codes "now: away 1 for 0 (0.1), was not begun\n"
    ++ codes ".. and 3 more: card\n")))))
