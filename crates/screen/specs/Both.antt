-- Both cards of an innings. s is the sheet and h the history.
use Rattle.std.specs.Prelude.{ℕ, ◌-◌, ◌==◌, nat_le, ◌&&◌, if◌then◌else◌, List, ◌++◌, codes}
use Rattle.ball_laws.specs.History.{History}
use Rattle.match_laws.specs.History.{begun}
use Rattle.match_laws.specs.Result.{current}
use Rattle.cards.specs.Sheet.{Sheet}
use Rattle.cards.specs.Batting.{batting_card}
use Rattle.cards.specs.Bowling.{bowling_card}

-- both cards of innings i
abbrev pub cards_of : Sheet → History → ℕ → List ℕ
cards_of s h i = batting_card s h i ++ bowling_card s h i

-- the headers of both cards' columns
abbrev pub batting_head : List ℕ
batting_head = codes "batting                                                    R    B  4s  6s\n"

abbrev pub bowling_head : List ℕ
bowling_head = codes "bowling               O   M    R   W  Wd  Nb\n"

abbrev pub headed_cards : Sheet → History → ℕ → List ℕ
headed_cards s h i = batting_head ++ batting_card s h i ++ bowling_head ++ bowling_card s h i

-- both cards of the innings with this number, from 1, if it has begun
abbrev pub cards_number : Sheet → History → ℕ → List ℕ
cards_number s h k =
    if nat_le 1 k && nat_le k (begun h) then headed_cards s h (k - 1) else codes "no such innings yet\n"

abbrev pub both_cards : Sheet → History → List ℕ
both_cards s h = if begun h == 0 then codes "No play\n" else cards_of s h (current h)
