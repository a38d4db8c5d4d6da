-- The mark of a delivery in the row of an over: its runs, its kind, and `W` if a wicket fell.
use Rattle.std.specs.Prelude.{ℕ, ◌==◌, if◌then◌else◌, Bool, List, [], ◌++◌, is_some, codes, decimal}
use Rattle.notation.specs.declared.entry.{Ball.Ball, Kind.Kind}
use Rattle.notation.specs.declared.entry.Kind.TheVariants.{Bat, Bye, Leg, Wide, Nb, NbBye, NbLeg}
use Rattle.match_laws.specs.Figures.{runs_of}
use Rattle.cards.specs.declared.mark.Mark.{Mark}

-- the marks of byes, leg byes, Wides and No balls (Laws 21 to 23)
abbrev pub kind_mark : Kind → List ℕ
kind_mark Bat = []
kind_mark Bye = codes "b"
kind_mark Leg = codes "lb"
kind_mark Wide = codes "wd"
kind_mark Nb = codes "nb"
kind_mark NbBye = codes "nb"
kind_mark NbLeg = codes "nb"

abbrev pub wicket_mark : Bool → List ℕ
wicket_mark is_out = if is_out then codes "W" else []

-- a delivery with no runs
abbrev pub dot_mark : Bool → List ℕ
dot_mark is_out = if is_out then codes "W" else codes "."

-- a delivery of this kind with these runs, with a wicket or without
abbrev pub mark : ℕ → Kind → Bool → List ℕ
mark runs kind is_out =
    if runs == 0 then dot_mark is_out else decimal runs ++ kind_mark kind ++ wicket_mark is_out

-- the mark shows all runs of the delivery, with the penalty of a Wide or a No ball
abbrev pub mark_of : Ball → List ℕ
mark_of b = mark (runs_of b) b.kind (is_some b.out)

abbrev pub dead_mark : Bool → List ℕ
dead_mark is_dead = if is_dead then codes "d" else []

-- a space and then the mark of a delivery, with `d` if it was ruled dead
abbrev pub spaced_mark : Ball → List ℕ
spaced_mark b = codes " " ++ mark_of b ++ dead_mark b.dead

-- the text of a mark
abbrev pub mark_text : Mark → List ℕ
mark_text (Mark.Dot text) = text.now
mark_text (Mark.Runs count kind wicket) = decimal count ++ kind.now ++ wicket.now
