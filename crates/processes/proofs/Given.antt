-- The number by which a received message is given: one under which it was sent, if it was sent.
use Rattle.std.proofs.Common.{arith, ◌≡◌, ◌≢◌, ◌⊎◌, ℕ, zero, suc, Some, List, [], ◌∷◌, sym, ap, ◌∙◌, inl, inr}
use Rattle.std.specs.Prelude.{slice_get}
use Rattle.agree_core.specs.declared.messages.{Ask.Ask, Asker.Asker, Message.Message}
use Rattle.headline.specs.Given.{IsGiven}
use Rattle.progress.proofs.BoardTrips.{same_or_other}
use Rattle.processes.specs.Progress.{IsGivenAsSent}

same_asker : (a b : Asker) → (a ≡ b) ⊎ (a ≢ b)
same_asker a b = grind arith

same_ask : (m : Message) (q : Ask) → (m ≡ Message.Ask q) ⊎ (m ≢ Message.Ask q)
same_ask m q = grind (arith, same_asker, same_or_other)

abbrev WasSent : List Message → Ask → Type 0
WasSent sent q = (n : ℕ) × (slice_get sent n ≡ Some (Message.Ask q))

sent_or_not : (sent : List Message) (q : Ask) → WasSent sent q ⊎ (WasSent sent q → ⊥)
sent_or_not [] q = inr (λ h. absurd (cc (h.1)))
sent_or_not (m ∷ ms) q = elim (same_ask m q) [
  | inl e ↦ inl (0, ap Some e)
  | inr d ↦ elim (sent_or_not ms q) [
    | inl h ↦ inl (suc h.0, h.1)
    | inr none ↦ inr (never d none)
  ]
]
  where
    never : (m ≢ Message.Ask q) → (WasSent ms q → ⊥) → WasSent (m ∷ ms) q → ⊥
    never d none (zero, e) = d (cc)
    never d none (suc n, e) = none (n, e)

pub as_sent : (sent : List Message) (m : Message) → (i : ℕ) × IsGiven sent i m → (n : ℕ) × IsGivenAsSent sent n m
as_sent sent m (i, inl e) = (i, (inl e, λ j h. e))
as_sent sent m (i, inr (free, ask)) = elim (sent_or_not sent ask.0) [
  | inl h ↦ let e : slice_get sent h.0 ≡ Some m = h.1 ∙ ap Some (sym ask.1) in (h.0, (inl e, λ j k. e))
  | inr none ↦ (i, (inr (free, ask), λ j k. absurd (none (j, k ∙ ap Some ask.1))))
]
