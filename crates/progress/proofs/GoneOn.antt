-- What becomes of a position at which the desks were in step, whatever happens.
use Rattle.std.proofs.Common.{◌≡◌, ◌⊎◌, ◌≤◌, ◌+◌, ℕ, List, [], ◌∷◌, ◌++◌, length, length-append, append_assoc, sym, ap, ◌∙◌, subst, inl, inr, arith, ◌<◌}
use Rattle.notation.specs.declared.entry.Entry.{Entry}
use Rattle.agree_core.specs.declared.{messages.DeskId.DeskId, position.Position.Position}
use Rattle.agree_core.specs.declared.messages.DeskId.TheVariants.{A, B}
use Rattle.agree_core.specs.Agreed.{AllBoth, BeginsWith, EqualVotes}
use Rattle.agree_core.specs.Ballots.{AllJustified, AllVotes, In, VotesGrow, ballot_at, votes_by}
use Rattle.agree_core.specs.Positions.{Before}
use Rattle.agree_core.proofs.Both.{both_grow, both_push, both_settled, same}
use Rattle.agree_core.proofs.Settling.{agreed_begins}
use Rattle.headline.specs.Configurations.{Configuration, all_votes}
use Rattle.headline.specs.Events.{station_of}
use Rattle.headline.specs.Runs.{Moment, Run, last_of}
use Rattle.headline.specs.Setting.{Setting}
use Rattle.headline.proofs.Sound.{same_length}
use Rattle.headline.proofs.Keeping.{Fine, all_justified, run_keeps, step_at_keeps}
use Rattle.progress.specs.InStep.{BothVoted, HasVoted, InStep}
use Rattle.progress.specs.Progress.{AlikeIsTaken, GoesOn, GoneOn, HearAgain, CanPen}
use Rattle.progress.proofs.Near.{ordered}
use Rattle.progress.proofs.Rounds.{RoundsFine, both_voted, passed, rounds_grow, rounds_of_seat, same_entry}
use Rattle.progress.proofs.Settled.{fine_seat, hearing_settles, can_pen_in_step}

module _ {Disk Why : Type 0} (s : Setting Disk Why) where
  pub run_grows : (w : Configuration Disk) (ms : List (Moment Disk Why)) → Fine s w → Run s w ms → VotesGrow (all_votes w) (all_votes (last_of w ms))
  run_grows w [] f r = (same (all_votes w).a, same (all_votes w).b)
  run_grows w (m ∷ ms) f r =
      let g = run_grows w ms f r.0 in
      let h = (step_at_keeps s (last_of w ms) m.event (station_of m.event) m.answer m.after (run_keeps s w ms f r.0) r.1).1 in
      (λ b i. h.0 b (g.0 b i), λ b i. h.1 b (g.1 b i))

  -- what the votes say of a position and the book at it
  pub record Stands (v : AllVotes) (p : Position) (book : List Entry) : Type 0 where
    pub both : AllBoth v.a v.b 0 book
    pub long : length book ≡ p.place
    pub rounds : RoundsFine v p

  pub stands : (w : Configuration Disk) → Fine s w → (p : Position) (book : List Entry) → InStep w p book → Stands (all_votes w) p book
  stands w f p book i =
      let k = i.up A in
      let g = (fine_seat s w f A k.0 k.1.runs).0 in
      record {
        both = subst (λ (xs : List Entry). AllBoth (all_votes w).a (all_votes w).b 0 xs) k.3 g.both;
        long = subst (λ (xs : List Entry). length xs ≡ p.place) k.3 (g.long ∙ ap (λ (q : Position). q.place) k.2);
        rounds = subst (RoundsFine (all_votes w)) k.2 (rounds_of_seat A (all_votes w).a (all_votes w).b k.0.seat k.0.book g);
      }

  -- from being in step once to being in step later
  module _ (new : Configuration Disk) (u : AllVotes) (p q : Position) (book xs : List Entry) (grow : VotesGrow u (all_votes new)) (j : AllJustified (all_votes new))
      (before : Stands u p book) (now : Stands (all_votes new) q xs) (i : InStep new q xs) where
    abbrev v : AllVotes
    v = all_votes new

    grown : AllBoth v.a v.b 0 book
    grown = both_grow u.a v.a u.b v.b grow.0 grow.1 0 book before.both

    more : BeginsWith xs book
    more = agreed_begins v v (same v.a, same v.b) j book xs (both_settled v j 0 book grown) i.agreed

    longer : p.place ≤ q.place
    longer =
        let a = before.long in
        let b = now.long in
        let c : length xs ≡ length book + length more.0 = ap length (sym more.1) ∙ length-append book more.0 in
        omega (arith, a, b, c)

    not_back : Before q p → ⊥
    not_back (inl less) = omega (arith, longer, less)
    not_back (inr (place, less)) =
        let d = rounds_grow u v grow p before.rounds q.round less in
        i.one_waits (both_voted v q
        (d.0, subst (λ (o : ℕ). In (ballot_at o q.round d.0) v.a) (sym place) d.2)
        (d.1, subst (λ (o : ℕ). In (ballot_at o q.round d.1) v.b) (sym place) d.3))

    still : q ≡ p → InStep new p book
    still e =
        let size : length book ≡ length xs = before.long ∙ ap (λ (z : Position). z.place) (sym e) ∙ sym now.long in
        subst (λ (ys : List Entry). InStep new p ys) (sym (same_length book xs more size)) (subst (λ (z : Position). InStep new z xs) e i)

    voted : Before p q → BothVoted v p
    voted b = passed v j p q xs now.both now.long (rounds_grow u v grow p before.rounds) now.rounds b

    moved : Before p q → GoneOn new p book
    moved b = elim (same_entry (voted b A).0 (voted b B).0) [
      | inl e ↦ inr (inl (alike (voted b A).0 (voted b A).1 (subst (λ (f : Entry). In (record { at = p; entry = f }) v.b) (sym e) (voted b B).1)))
      | inr n ↦ inr (inr ((voted b A).0, (voted b B).0, more.0, q, n, (voted b A).1, (voted b B).1, b, subst (λ (ys : List Entry). InStep new q ys) (sym more.1) i))
    ]
      where
        alike : (e : Entry) → In (record { at = p; entry = e }) v.a → In (record { at = p; entry = e }) v.b
            → (f : Entry) × (es : List Entry) × (r : Position) × EqualVotes v p.place p.round f × InStep new r (book ++ f ∷ es)
        alike e ia ib =
            let long = before.long in
            let pushed = both_push v.a v.b 0 book e p.place p.round (omega (arith, long)) grown (ia, ib) in
            let begins = agreed_begins v v (same v.a, same v.b) j (book ++ e ∷ []) xs (both_settled v j 0 (book ++ e ∷ []) pushed) i.agreed in
            let whole : xs ≡ book ++ e ∷ begins.0 = sym begins.1 ∙ append_assoc book (e ∷ []) begins.0 in
            (e, begins.0, q, (ia, ib), subst (λ (ys : List Entry). InStep new q ys) whole i)

    pub gone_on : GoneOn new p book
    gone_on = grind (arith, ordered, still, moved, not_back)

  module _ (w : Configuration Disk) (f : Fine s w) where
    pub goes_on : GoesOn s w
    goes_on p book new i h =
        let mid = last_of w h.events in
        let fine_mid = run_keeps s w h.events f h.run in
        let last = last_of mid h.exchange in
        let fine = run_keeps s mid h.exchange fine_mid h.hear.run in
        let g = run_grows w h.events f h.run in
        let k = run_grows mid h.exchange fine_mid h.hear.run in
        let grow : VotesGrow (all_votes w) (all_votes last) = (λ b x. k.0 b (g.0 b x), λ b x. k.1 b (g.1 b x)) in
        let step = hearing_settles s mid fine_mid h.exchange h.up h.hear in
        subst (λ (z : Configuration Disk). GoneOn z p book) (sym h.ends)
        (gone_on last (all_votes w) p step.0 book step.1 grow (all_justified s last fine) (stands w f p book i) (stands last fine step.0 step.1 step.2) step.2)

    fine_after : (new : Configuration Disk) → HearAgain s w new → Fine s new
    fine_after new h = subst (Fine s) (sym h.ends) (run_keeps s (last_of w h.events) h.exchange (run_keeps s w h.events f h.run) h.hear.run)

    pub alike_is_taken : AlikeIsTaken s w
    alike_is_taken p book e new i rules place round h all = turn (goes_on p book new i h)
      where
        turn : GoneOn new p book → (InStep new p book × ((d : DeskId) → (HasVoted (all_votes new) d p → ⊥) → length (votes_by (all_votes new) d) < 16384 → CanPen s new d e)) ⊎ ((es : List Entry) × (q : Position) × InStep new q (book ++ e ∷ es))
        turn (inl k) = inl (k, λ d none slots. (can_pen_in_step s new (fine_after new h) p book d e k).1 (none, rules, place, round, slots))
        turn (inr (inl k)) =
            let it : k.0 ≡ e = all A k.0 k.3.0 in
            inr (k.1, k.2, subst (λ (f : Entry). InStep new k.2 (book ++ f ∷ k.1)) it k.4)
        turn (inr (inr k)) = absurd (k.4 (all A k.0 k.5 ∙ sym (all B k.1 k.6)))
