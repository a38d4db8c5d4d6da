-- What is told of whom a board heard, from one moment to the next.
use Rattle.std.proofs.Common.{◌≡◌, ◌⊎◌, ℕ, List, [], ◌∷◌, ◌++◌, Result, Ok, Err, inl, inr, refl, append-nil, append_assoc, subst}
use Rattle.agree_core.specs.declared.messages.Message.{Message}
use Rattle.links.specs.Passed.{IsRead, Passed, Came, Opened, Sent, sends}
use Rattle.links.specs.declared.link.{Arrival.Arrival, Receivers.Receivers}
use Rattle.live.specs.Hearings.{AreHeard, Hearing, Hears, heard_at, hearing_of}
use Rattle.wire.specs.Reading.{Reads}
use Rattle.wire.specs.declared.fault.WireFault.{WireFault}
use Rattle.wire.proofs.FaultLemmas.{no_fault}

-- no datagram came, or one was lost
pub none_came : (game : ℕ) (arrival : Arrival) (buffer : List ℕ) {before after : List Passed} → (arrival ≡ Arrival.Nothing) ⊎ (arrival ≡ Arrival.Lost)
    → IsRead game arrival buffer before after → after ≡ before
none_came game arrival buffer {before = before} {after = after} (inl is) reads = subst (λ (a : Arrival). IsRead game a buffer before after) is reads
none_came game arrival buffer {before = before} {after = after} (inr is) reads = subst (λ (a : Arrival). IsRead game a buffer before after) is reads

module _ (game : ℕ) where
  -- the clock may have shown more times before
  more_times : (passed : List Passed) (before times : List ℕ) (heard : List Hearing) → AreHeard game passed times heard
      → AreHeard game passed (before ++ times) heard
  more_times [] before times heard none = none
  more_times (Opened station seals is_of_pairs ∷ passed) before times heard rest = more_times passed before times heard rest
  more_times (Sent to bytes ∷ passed) before times heard rest = more_times passed before times heard rest
  more_times (Came bytes ∷ passed) before times heard (inl said) = inl (said.0, more_times passed before times heard said.1)
  more_times (Came bytes ∷ passed) before times heard (inr (h, later, earlier, after, is, shown, says, rest)) =
      inr (h, later, before ++ earlier, after, is, rw (shown, append_assoc), says, rest)

  -- what passed, was shown and was heard first, and what was then
  both_heard : (p q : List Passed) (s t : List ℕ) (h k : List Hearing) → AreHeard game p s h → AreHeard game q t k
      → AreHeard game (p ++ q) (s ++ t) (h ++ k)
  both_heard [] q s t h k none then = rw none (more_times q s t k then)
  both_heard (Opened station seals is_of_pairs ∷ p) q s t h k first then = both_heard p q s t h k first then
  both_heard (Sent to bytes ∷ p) q s t h k first then = both_heard p q s t h k first then
  both_heard (Came bytes ∷ p) q s t h k (inl said) then = inl (said.0, both_heard p q s t h k said.1 then)
  both_heard (Came bytes ∷ p) q s t h k (inr (one, later, earlier, after, is, shown, says, rest)) then =
      inr (one, later ++ k, earlier, after ++ t, rw is, rw (shown, append_assoc), says, both_heard p q after t later k rest then)

  -- nothing is heard of what is sent
  sends_unheard : (to : Receivers) (out : List Message) (times : List ℕ) → AreHeard game (sends to game out) times []
  sends_unheard to [] times = refl
  sends_unheard to (m ∷ out) times = sends_unheard to out times

  module _ {before after : List Passed} {read reads : List ℕ} {told tells : List Hearing} where
    pub then_hears : {last : List Passed} {shown : List ℕ} {ends : List Hearing} → Hears game before after read reads told tells
        → Hears game after last reads shown tells ends → Hears game before last read shown told ends
    then_hears v w = record {
      passed = v.passed ++ w.passed;
      times = v.times ++ w.times;
      heard = v.heard ++ w.heard;
      link = rw (w.link, v.link, append_assoc);
      clock = rw (w.clock, v.clock, append_assoc);
      display = rw (w.display, v.display, append_assoc);
      are = both_heard v.passed w.passed v.times w.times v.heard w.heard v.are w.are;
    }

    -- likewise if the match has another name then
    pub go_on_hearing : {game' : ℕ} {last : List Passed} {shown : List ℕ} {ends : List Hearing} → game' ≡ game
        → Hears game before after read reads told tells → Hears game' after last reads shown tells ends → Hears game before last read shown told ends
    go_on_hearing same v w = then_hears v (rw same at w)

    -- a datagram comes, and then the clock shows this time
    pub hears_one : (bytes : List ℕ) (message : Result Message WireFault) (now : ℕ) → Reads game bytes message → after ≡ before ++ Came bytes ∷ []
        → reads ≡ read ++ now ∷ [] → tells ≡ told ++ heard_at message now → Hears game before after read reads told tells
    hears_one bytes (Ok message) now says came shown is = record {
      passed = Came bytes ∷ [];
      times = now ∷ [];
      heard = hearing_of message now ∷ [];
      link = came;
      clock = shown;
      display = is;
      are = inr (hearing_of message now, [], [], [], refl, refl, says, refl);
    }
    hears_one bytes (Err fault) now is_fault came shown is = record {
      passed = Came bytes ∷ [];
      times = now ∷ [];
      heard = [];
      link = came;
      clock = shown;
      display = is;
      are = inl (λ m says. no_fault game bytes m says fault is_fault, refl);
    }

  module _ {before after : List Passed} {read reads : List ℕ} {told : List Hearing} where
    -- messages are sent, and the clock shows some times
    pub hears_none : (to : Receivers) (out : List Message) (times : List ℕ) → after ≡ before ++ sends to game out → reads ≡ read ++ times
        → Hears game before after read reads told told
    hears_none to out times sent shown = record {
      passed = sends to game out;
      times = times;
      heard = [];
      link = sent;
      clock = shown;
      display = rw append-nil;
      are = sends_unheard to out times;
    }

    -- nothing happens at the link and at what shows the book, but the clock shows some times
    pub hears_nothing : {tells : List Hearing} (times : List ℕ) → after ≡ before → reads ≡ read ++ times → tells ≡ told
        → Hears game before after read reads told tells
    hears_nothing times stays shown same = record {
      passed = [];
      times = times;
      heard = [];
      link = rw (stays, append-nil);
      clock = shown;
      display = rw (same, append-nil);
      are = refl;
    }
