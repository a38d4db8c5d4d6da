-- Books whose entries both desks have voted for, place by place.
use Rattle.std.proofs.Common.{◌≡◌, ℕ, suc, ◌+◌, Some, List, [], ◌∷◌, ◌++◌, length, inr, arith}
use Rattle.std.specs.Prelude.{slice_get}
use Rattle.notation.specs.declared.entry.Entry.{Entry}
use Rattle.agree_core.specs.Agreed.{AllBoth, AllSettled, EqualVotes}
use Rattle.agree_core.specs.Ballots.{AllJustified, AllVotes, Ballot, Within}
use Rattle.agree_core.proofs.Settling.{equal_votes_settle}

pub same : (xs : List Ballot) → Within xs xs
same xs b i = i

pub more : (b : Ballot) (xs : List Ballot) → Within xs (b ∷ xs)
more b xs c i = inr i

pub both_grow : (own own' theirs theirs' : List Ballot) → Within own own' → Within theirs theirs'
    → (place : ℕ) (es : List Entry) → AllBoth own theirs place es → AllBoth own' theirs' place es
both_grow own own' theirs theirs' g h place [] s = tt
both_grow own own' theirs theirs' g h place (e ∷ es) s = grind (arith, (both_grow own own' theirs theirs' g h (place + 1) es s.1))

pub both_push : (own theirs : List Ballot) (place : ℕ) (es : List Entry) (e : Entry) (next round : ℕ) → next ≡ place + length es
    → AllBoth own theirs place es → EqualVotes (record { a = own; b = theirs }) next round e → AllBoth own theirs place (es ++ e ∷ [])
both_push own theirs place [] e next round q s t = let r : next ≡ place = omega arith in ((round, rw r at t), tt)
both_push own theirs place (x ∷ xs) e next round q s t = (s.0, both_push own theirs (place + 1) xs e next round (omega arith) s.1 t)

pub both_turned : (own theirs : List Ballot) (place : ℕ) (es : List Entry) → AllBoth own theirs place es → AllBoth theirs own place es
both_turned own theirs place [] s = tt
both_turned own theirs place (e ∷ es) s = ((s.0.0, (s.0.1.1, s.0.1.0)), both_turned own theirs (place + 1) es s.1)

pub both_settled : (v : AllVotes) → AllJustified v → (place : ℕ) (es : List Entry) → AllBoth v.a v.b place es → AllSettled v place es
both_settled v j place [] s = tt
both_settled v j place (e ∷ es) s = ((s.0.0, equal_votes_settle v j place s.0.0 e s.0.1), both_settled v j (place + 1) es s.1)

-- both desks' votes for an entry of the book
pub both_at : (own theirs : List Ballot) (place : ℕ) (es : List Entry) (n : ℕ) (e : Entry) → AllBoth own theirs place es → slice_get es n ≡ Some e
    → (round : ℕ) × EqualVotes (record { a = own; b = theirs }) (place + n) round e
both_at own theirs place (x ∷ es) (suc n) e h k = grind (arith, (both_at own theirs (place + 1) es n e h.1 k))
both_at own theirs place es n e h k = grind arith
