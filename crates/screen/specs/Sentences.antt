-- The sentences that a desk prints after the name of a fault or a refusal: one for each.
use Rattle.std.specs.Prelude.{ℕ, List, codes}
use Rattle.notation.specs.declared.fault.LineFault.{LineFault}
use Rattle.notation.specs.declared.fault.LineFault.TheVariants.{TooLong, UnknownWord, BadNumber, Missing, Extra, Spaces}
use Rattle.ball_laws.specs.declared.refusals.BallRefusal.{BallRefusal}
use Rattle.ball_laws.specs.declared.refusals.BallRefusal.TheVariants.{NoBatter, BowlerTwoOvers, NotOutSoHere, WrongBatter, RunsWithOut, BoundaryAndOut}
use Rattle.ball_laws.specs.declared.refusals.BallRefusal.TheVariants.{SixNotStruck, CrossedNotHere, OverLong, NoBall, NoVacancy, NotAvailable, NotIn}
use Rattle.match_laws.specs.declared.refusals.LawRefusal.{LawRefusal}
use Rattle.match_laws.specs.declared.refusals.LawRefusal.TheVariants.{Ball, NotInPlay, WrongSide, InningsOpen, MatchWon, MatchClosed, EndNotSo, TooMany}
use Rattle.corrections.specs.declared.refusal.Refusal.{Refusal as BookRefusal}
use Rattle.corrections.specs.declared.refusal.Refusal.TheVariants.{Law, NoSuchPlace, NotFixable, Later, NotAnchor}
use Rattle.desk.specs.declared.refusal.Refusal.{Refusal}
use Rattle.desk.specs.declared.refusal.Refusal.TheVariants.{Book, SlotsFull, Failed, Waiting, PlacesFull, RoundsFull, Device}

abbrev pub of_fault : LineFault → List ℕ
of_fault TooLong = codes "a line has at most 96 bytes"
of_fault UnknownWord = codes "another word belongs here"
of_fault BadNumber = codes "a number is missing, or out of its range"
of_fault Missing = codes "the line ends too early"
of_fault Extra = codes "the line has more words than belong to it"
of_fault Spaces = codes "one space between words, and none at the ends"

abbrev pub of_ball : BallRefusal → List ℕ
of_ball NoBatter = codes "an end is vacant: enter who came in"
of_ball BowlerTwoOvers = codes "he bowled in the last over"
of_ball NotOutSoHere = codes "nobody can be out that way off this delivery"
of_ball WrongBatter = codes "this way of being out is the other batter's"
of_ball RunsWithOut = codes "no run is scored if a batter is out that way"
of_ball BoundaryAndOut = codes "a boundary and a dismissal don't go together"
of_ball SixNotStruck = codes "only the bat makes a six"
of_ball CrossedNotHere = codes "crossed goes only with runout and obstructing"
of_ball OverLong = codes "the over has 60 deliveries: call over"
of_ball NoBall = codes "no delivery of this over counts yet"
of_ball NoVacancy = codes "there is a batter at each end"
of_ball NotAvailable = codes "this player can't come in"
of_ball NotIn = codes "this player isn't at that end"

abbrev pub of_law : LawRefusal → List ℕ
of_law (Ball why) = of_ball why
of_law NotInPlay = codes "no innings is open, or ten wickets are down"
of_law WrongSide = codes "it isn't this side's turn to bat"
of_law InningsOpen = codes "an innings is open: end it first"
of_law MatchWon = codes "the match is won"
of_law MatchClosed = codes "the match was closed"
of_law EndNotSo = codes "the innings can't end for this cause now"
of_law TooMany = codes "the match takes no more entries"

abbrev pub of_book : BookRefusal → List ℕ
of_book (Law why) = of_law why
of_book NoSuchPlace = codes "the book has no such place yet"
of_book NotFixable = codes "a correction stands there: name the place of the entry itself"
of_book (Later place why) = codes "then the entry at that place would be refused"
of_book NotAnchor = codes "name the place of an entry of play"

abbrev pub of_desk : Refusal → List ℕ
of_desk (Book why) = of_book why
of_desk SlotsFull = codes "the votes file is full"
of_desk Failed = codes "the disk failed: open the desk again"
of_desk Waiting = codes "your line is cast: wait for the other scorer"
of_desk PlacesFull = codes "the book is full"
of_desk RoundsFull = codes "you two differed 256 times at this place"
of_desk Device = codes "a call on the disk failed"
