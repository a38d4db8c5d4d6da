-- The worked exchange is an exchange of both desks.
use Rattle.std.proofs.Common.{◌≡◌, ◌≢◌, ◌≤◌, ℕ, zero, suc, Some, [], ◌∷◌, refl, inl, inr, arith}
use Rattle.std.specs.Prelude.{slice_get}
use Rattle.notation.specs.declared.entry.Entry.{Entry}
use Rattle.agree_core.specs.declared.messages.{DeskId.DeskId, Message.Message}
use Rattle.agree_core.specs.declared.messages.DeskId.TheVariants.{A, B}
use Rattle.agree_core.specs.declared.seat.Heard.{Heard}
use Rattle.agree_core.specs.Books.{Rules}
use Rattle.agree_core.specs.declared.messages.Asker.{Asker}
use Rattle.agree_core.specs.Desks.{DeskState, ReceiveAnswer, ask_for}
use Rattle.agree_core.specs.Readers.{other}
use Rattle.headline.specs.Configurations.{node}
use Rattle.progress.proofs.CalmSteps.{one_process}
use Rattle.progress.proofs.Possible.{stays}
use Rattle.agree_core.specs.Positions.{first}
use Rattle.agree_core.specs.WorkedSteps.{Shown, says, shows, waits}
use Rattle.headline.specs.declared.event.{Station.Station}
use Rattle.headline.specs.Runs.{Run}
use Rattle.progress.specs.Exchange.{Exchange, HandsOut, IsAnswered, Reaches}
use Rattle.progress.specs.CalmMoments.{IsUp}
use Rattle.progress.specs.InStep.{EachKnows}
use Rattle.progress.specs.WorkedExchange.{WorkedExchange, a_answers, a_ticks, all_said, answer_given, ask_given, at, b_ticks, both_said, exchanged, heard, unheard, up, vote_given, worked}

differ : A ≢ B
differ e = cc

module _ {Why : Type 0} (rules : Rules Why) (e : Entry) where
  ran : Run (worked rules) (at e unheard []) (exchanged e)
  ran = (
    (
      (
        (
          (
            (tt, (up (waits e), _, (waits e, refl, inl (refl, (omega arith, omega arith), refl), refl, refl), refl)),
            (up unheard, _, (unheard, refl, inl (refl, (omega arith, omega arith), refl), refl, refl), refl),
          ),
          (up (heard e), [], (unheard, heard e, _, ReceiveAnswer.Told Heard.Noted, refl, inl refl, (refl, ((differ, refl), refl, refl, refl), stays shows _, refl, refl), (refl, refl)), refl),
        ),
        (up (heard e), [], (heard e, heard e, _, ReceiveAnswer.Asked, refl, inl refl, (refl, (stays shows _, refl), inr (λ f i. i, refl)), (refl, refl)), refl),
      ),
      (up (waits e), _, (waits e, waits e, _, ReceiveAnswer.Asked, refl, inl refl, (refl, (stays shows _, refl), inl (e, inl refl, refl)), (refl, refl)), refl),
    ),
    (up (heard e), [], (heard e, heard e, _, ReceiveAnswer.Told Heard.Again, refl, inl refl, (refl, ((differ, refl), refl, refl), stays shows _, refl, refl), (refl, refl)), refl),
  )

  none : (reply : Message) (n : ℕ) → 3 ≤ n → slice_get (both_said e) n ≡ Some reply → {Z : Type 0} → Z
  none reply (suc (suc (suc n))) low get = absurd (cc)
  none reply n low get = absurd (omega (arith, low))

  answer : (reply : Message) (n : ℕ) → 3 ≤ n → slice_get (all_said e) n ≡ Some reply
      → Reaches (at e (heard e) (all_said e)) (Station.Desk B) reply (answer_given {Why = Why} e ∷ [])
  answer reply (suc (suc (suc zero))) low get = inl (3, refl, get)
  answer reply (suc (suc (suc (suc n)))) low get = absurd (cc)
  answer reply n low get = absurd (omega (arith, low))

  -- each message of A's tick is given to B, which answers none
  told_b : (message : Message) → HandsOut (at e unheard []) (a_ticks {Why = Why} e) message
      → IsAnswered (at e unheard (says A 0 e ∷ ask_for Asker.A first ∷ [])) (Station.Desk A) B message (answer_given {Why = Why} e ∷ a_answers e ∷ ask_given e ∷ vote_given e ∷ b_ticks e ∷ [])
  told_b message (zero, low, get) = record {
    at = record { later = answer_given e ∷ a_answers e ∷ ask_given e ∷ []; moment = vote_given e; earlier = b_ticks e ∷ []; whole = refl };
    given = (0, refl, get);
    heard = λ reply h. none reply h.0 h.1 h.2;
  }
  told_b message (suc zero, low, get) = record {
    at = record { later = answer_given e ∷ a_answers e ∷ []; moment = ask_given e; earlier = vote_given e ∷ b_ticks e ∷ []; whole = refl };
    given = (1, refl, get);
    heard = λ reply h. none reply h.0 h.1 h.2;
  }
  told_b message (suc (suc n), low, get) = absurd (cc)

  -- the ask of B's tick is given to A, and A's answer to B
  told_a : (message : Message) → HandsOut (at e unheard (says A 0 e ∷ ask_for Asker.A first ∷ [])) (b_ticks {Why = Why} e) message
      → IsAnswered (at e unheard (both_said e)) (Station.Desk B) A message (answer_given {Why = Why} e ∷ a_answers e ∷ ask_given e ∷ vote_given e ∷ [])
  told_a message (suc (suc zero), low, get) = record {
    at = record { later = answer_given e ∷ []; moment = a_answers e; earlier = ask_given e ∷ vote_given e ∷ []; whole = refl };
    given = (2, refl, get);
    heard = λ reply h. answer reply h.0 h.1 h.2;
  }
  told_a message h1 = grind arith

  of_a : Exchange (at e unheard []) (Station.Desk A) B (exchanged {Why = Why} e)
  of_a = record {
    at = record { later = answer_given e ∷ a_answers e ∷ ask_given e ∷ vote_given e ∷ b_ticks e ∷ []; moment = a_ticks e; earlier = []; whole = refl };
    ticks = refl;
    answered = told_b;
  }

  of_b : Exchange (at e unheard []) (Station.Desk B) A (exchanged {Why = Why} e)
  of_b = record {
    at = record { later = answer_given e ∷ a_answers e ∷ ask_given e ∷ vote_given e ∷ []; moment = b_ticks e; earlier = a_ticks e ∷ []; whole = refl };
    ticks = refl;
    answered = told_a;
  }

  exchanges : (d : DeskId) → Exchange (at e unheard []) (Station.Desk d) (other d) (exchanged {Why = Why} e)
  exchanges h0 = grind (arith, of_a, of_b)

  up_at : (d : DeskId) → (k : DeskState Shown) × IsUp (node (at e (heard e) (all_said e)) d) k × (k.seat.position ≡ first) × (k.book ≡ [])
  up_at A = (waits e, record { runs = refl; sound = refl; no_fault = refl }, refl, refl)
  up_at B = (heard e, record { runs = refl; sound = refl; no_fault = refl }, refl, refl)

  knows : EachKnows (at e (heard e) (all_said e))
  knows h0 k f u i = grind (arith, one_process)

  pub worked_exchange : WorkedExchange rules e
  worked_exchange = (
    record { run = ran; calm = ((((((tt, tt), tt), tt), tt), tt), tt); exchanges = exchanges },
    record { up = up_at; agreed = (tt, λ round f h. h.1); one_waits = λ h. (h B).1 },
    knows,
  )
