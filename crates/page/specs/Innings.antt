-- An innings with its cards: s is the sheet, n the innings a side, h the history, i the innings, numbered from 0, and xs the
-- items of the match.
use Rattle.std.specs.Prelude.{ℕ, ◌+◌, ◌*◌, ◌==◌, Bool, if◌then◌else◌, List, [], ◌∷◌, ◌++◌, Option, Some, None, codes, decimal}
use Rattle.notation.specs.declared.entry.{Side.Side, Cause.Cause, Plain.Plain}
use Rattle.notation.specs.declared.entry.Side.TheVariants.{Home, Away}
use Rattle.ball_laws.specs.History.{History}
use Rattle.match_laws.specs.History.{side_of, or_else}
use Rattle.match_laws.specs.Figures.{total, wickets, overs, balls}
use Rattle.cards.specs.Sheet.{Sheet, name_of}
use Rattle.cards.specs.Batting.{earlier_innings}
use Rattle.export.specs.Innings.{needed_in}
use Rattle.page.specs.Escapes.{escaped}
use Rattle.page.specs.Batting.{batting_html}
use Rattle.page.specs.Bowling.{bowling_html}
use Rattle.page.specs.Falls.{falls_html}
use Rattle.page.specs.Idle.{idle_html}
use Rattle.page.specs.Stands.{partnerships_html}
use Rattle.page.specs.declared.moments.Moment.{Moment}

-- why an item ends an innings
abbrev pub end_of : Plain → Option Cause
end_of (Plain.End cause) = Some cause
end_of _ = None

abbrev pub end_in : ℕ → Moment → Option Cause
end_in i x = if x.innings == i then end_of x.item else None

-- why innings i ended, if it has
abbrev pub cause_in : ℕ → List Moment → Option Cause
cause_in i [] = None
cause_in i (x ∷ xs) = or_else (end_in i x) (cause_in i xs)

-- the runs for the wickets, and then these words
abbrev pub runs_for : ℕ → ℕ → List ℕ → List ℕ
runs_for runs down words = decimal runs ++ (codes " for " ++ (decimal down ++ words))

-- a score, with how the innings ended
abbrev pub score_text : Option Cause → ℕ → ℕ → List ℕ
score_text (Some Cause.AllOut) runs down = decimal runs ++ codes " all out"
score_text (Some Cause.NoBatter) runs down = decimal runs ++ codes " all out"
score_text (Some Cause.Declared) runs down = runs_for runs down (codes " declared")
score_text (Some Cause.Forfeited) runs down = runs_for runs down (codes " forfeited")
score_text (Some Cause.Overs) runs down = runs_for runs down []
score_text None runs down = runs_for runs down []

abbrev pub overs_text : ℕ → ℕ → List ℕ
overs_text called since = codes " (" ++ (decimal called ++ (codes "." ++ (decimal since ++ codes " overs)")))

-- which of the side's innings it is, if each side has two
abbrev pub nth_text : ℕ → ℕ → List ℕ
nth_text n earlier = if n == 1 then [] else codes ", innings " ++ decimal (1 + earlier)

-- the name of the side that bats, and which of its innings it is
abbrev pub title_html : Sheet → ℕ → History → ℕ → List ℕ
title_html s n h i =
    codes "<span class='name'>" ++ escaped (name_of s (side_of h i)) ++ nth_text n (earlier_innings h (side_of h i) i) ++ codes "</span>"

abbrev pub score_html : History → ℕ → Option Cause → List ℕ
score_html h i cause =
    codes "<span>" ++ score_text cause (total h i) (wickets h i) ++ overs_text (overs h i) (balls h i) ++ codes "</span></h2>\n"

abbrev pub side_word : Side → List ℕ
side_word Home = codes "home"
side_word Away = codes "away"

-- the front of an innings' section, with its number from 1
abbrev pub section_front : ℕ → List ℕ → List ℕ
section_front number side =
    codes "<section class='innings " ++ (side ++ (codes "' aria-labelledby='innings-" ++ (decimal number ++ (codes "'>\n<h2 id='innings-"
    ++ (decimal number ++ codes "'>")))))

abbrev pub heading_html : Sheet → ℕ → History → ℕ → List Moment → List ℕ
heading_html s n h i xs =
    section_front (i + 1) (side_word (side_of h i)) ++ title_html s n h i ++ codes " " ++ score_html h i (cause_in i xs)

-- the last innings that the match can have
abbrev pub is_last : Sheet → ℕ → Bool
is_last s i = i + 1 == 2 * s.innings

abbrev pub needed_html : Bool → ℕ → List ℕ
needed_html last needed = if last then codes "<p class='target'><b>Target: </b>" ++ (decimal needed ++ codes "</p>\n") else []

-- the target, in the last innings only
abbrev pub target_html : Sheet → History → ℕ → List ℕ
target_html s h i = needed_html (is_last s i) (needed_in h i)

-- the batting side's part: the target, the card, who didn't bat, and the falls
abbrev pub batting_part : Sheet → ℕ → History → ℕ → List ℕ
batting_part s n h i = target_html s h i ++ batting_html s h i ++ idle_html s n h i ++ falls_html s h i

-- the bowling card and the partnerships
abbrev pub bowling_part : Sheet → History → List Moment → ℕ → List ℕ
bowling_part s h xs i = codes "</div><div>\n" ++ bowling_html s h i ++ partnerships_html i xs ++ codes "</div></div></section>\n"

abbrev pub innings_html : Sheet → ℕ → History → List Moment → ℕ → List ℕ
innings_html s n h xs i =
    heading_html s n h i xs
    ++ codes "<div class='both'><div>\n"
    ++ batting_part s n h i
    ++ bowling_part s h xs i
