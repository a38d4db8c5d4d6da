-- A worked exchange: A's vote was lost on its way; both desks tick, and each is given the other's messages.
use Rattle.std.specs.Prelude.{false, true, None, List, [], ◌∷◌}
use Rattle.notation.specs.declared.entry.Entry.{Entry}
use Rattle.agree_core.specs.declared.{messages.Asker.Asker, messages.Message.Message, seat.Heard.Heard}
use Rattle.agree_core.specs.declared.messages.DeskId.TheVariants.{A, B}
use Rattle.agree_core.specs.Books.{Rules}
use Rattle.agree_core.specs.Desks.{DeskState, ask_for}
use Rattle.agree_core.specs.Positions.{first}
use Rattle.agree_core.specs.Seats.{noting, waiting}
use Rattle.agree_core.specs.WorkedSteps.{Shown, says, shows, synced, waits}
use Rattle.headline.specs.declared.{event.Event.Event, event.Station.Station}
use Rattle.headline.specs.declared.version.FileVersion.TheVariants.{New}
use Rattle.headline.specs.Answers.{Answer, Asked, Ticked, Told}
use Rattle.headline.specs.Configurations.{Configuration, Node, Running}
use Rattle.headline.specs.Runs.{Moment}
use Rattle.headline.specs.Setting.{Setting}
use Rattle.progress.specs.InStep.{EachKnows, InStep}
use Rattle.progress.specs.Progress.{Hear}

abbrev pub worked : {Why : Type 0} → Rules Why → Setting Shown Why
worked rules = record { view = λ d version. shows; rules = rules; shows = λ book score. Unit {0} }

abbrev pub up : DeskState Shown → Node Shown
up k = record { version = New; process = Running k; due = None }

-- desk B, which has cast nothing, before and after it hears A's vote
abbrev pub unheard : DeskState Shown
unheard = record { seat = waiting B first; book = []; failed = false; votes = []; disk = synced [] }

abbrev pub heard : Entry → DeskState Shown
heard e = record unheard { seat = noting (waiting B first) e }

abbrev pub at : Entry → DeskState Shown → List Message → Configuration Shown
at e b sent = record { a = up (waits e); b = up b; boards = []; sent = sent }

abbrev pub both_said : Entry → List Message
both_said e = says A 0 e ∷ ask_for Asker.A first ∷ ask_for Asker.B first ∷ []

abbrev pub all_said : Entry → List Message
all_said e = says A 0 e ∷ ask_for Asker.A first ∷ ask_for Asker.B first ∷ says A 0 e ∷ []

abbrev pub moment : {Why : Type 0} → Event → Answer Why → Configuration Shown → Moment Shown Why
moment event answer after = record { event = event; answer = answer; after = after }

-- both tick; B is given A's vote and A's ask, A is given B's ask, and B the vote with which A answers it
module _ {Why : Type 0} (e : Entry) where
  abbrev pub a_ticks : Moment Shown Why
  a_ticks = moment (Event.Tick (Station.Desk A)) (Ticked 2) (at e unheard (says A 0 e ∷ ask_for Asker.A first ∷ []))

  abbrev pub b_ticks : Moment Shown Why
  b_ticks = moment (Event.Tick (Station.Desk B)) (Ticked 1) (at e unheard (both_said e))

  abbrev pub vote_given : Moment Shown Why
  vote_given = moment (Event.Give 0 (Station.Desk B)) (Told Heard.Noted) (at e (heard e) (both_said e))

  abbrev pub ask_given : Moment Shown Why
  ask_given = moment (Event.Give 1 (Station.Desk B)) (Asked false) (at e (heard e) (both_said e))

  abbrev pub a_answers : Moment Shown Why
  a_answers = moment (Event.Give 2 (Station.Desk A)) (Asked true) (at e (heard e) (all_said e))

  abbrev pub answer_given : Moment Shown Why
  answer_given = moment (Event.Give 3 (Station.Desk B)) (Told Heard.Again) (at e (heard e) (all_said e))

  abbrev pub exchanged : List (Moment Shown Why)
  exchanged = answer_given ∷ a_answers ∷ ask_given ∷ vote_given ∷ b_ticks ∷ a_ticks ∷ []

-- each desk has an exchange with the other; then they are in step at the first position, and B has noted A's vote
abbrev pub WorkedExchange : {Why : Type 0} → Rules Why → Entry → Type 0
WorkedExchange rules e =
    Hear (worked rules) (at e unheard []) (exchanged e) × InStep (at e (heard e) (all_said e)) first []
    × EachKnows (at e (heard e) (all_said e))
