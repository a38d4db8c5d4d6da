-- A place is settled once, so settled entries form one list.
use Rattle.std.proofs.Common.{◌≡◌, ◌⊎◌, ℕ, ◌+◌, ◌<◌, List, [], ◌∷◌, length, refl, sym, ap, ◌∙◌, arith, append-nil, length-append}
use Rattle.notation.specs.declared.entry.Entry.{Entry}
use Rattle.agree_core.specs.declared.messages.DeskId.TheVariants.{A, B}
use Rattle.agree_core.specs.Agreed.{SettledAt, AllSettled, Unsettled, IsAgreedList, BeginsWith}
use Rattle.agree_core.specs.Ballots.{Ballot, AllVotes, AllJustified, Justified, In, VotesGrow, ballot_at}
use Rattle.agree_core.specs.Laws.{SettledOnce, EqualVotesSettle, OneBook, OneVoteEach, RoundsDiffer, PlacesSettled}
use Rattle.agree_core.proofs.Order.{differed, one_vote, place_closed}

-- both desks have this vote
abbrev pub Both : List Ballot → List Ballot → ℕ → ℕ → Entry → Type 0
Both own theirs place round e = In (ballot_at place round e) own × In (ballot_at place round e) theirs

-- no vote is cast past the round in which a place is settled
pub none_later : (own theirs : List Ballot) → Justified theirs own → Justified own theirs → (place r s : ℕ) (e f : Entry)
    → Both own theirs place r e → In (ballot_at place s f) own → r < s → ⊥
none_later own theirs jo jt place r s e f h i less =
    let d = differed theirs own jo (ballot_at place s f) i place r refl less in
    let p = one_vote theirs own jo (ballot_at place r d.0) (ballot_at place r e) d.2 h.0 refl in
    let q = one_vote own theirs jt (ballot_at place r d.1) (ballot_at place r e) d.3 h.1 refl in
    d.4 (ap (λ (b : Ballot). b.entry) (p ∙ sym q))

-- a place is settled once
pub both_once : (own theirs : List Ballot) → Justified theirs own → Justified own theirs → (place r s : ℕ) (e f : Entry)
    → Both own theirs place r e → Both own theirs place s f → (r ≡ s) × (e ≡ f)
both_once own theirs jo jt place r s e f h k = grind (arith, none_later, one_vote)

pub settled_once : (v : AllVotes) → AllJustified v → SettledOnce v
settled_once v j place r s e f h k = both_once v.a v.b j.0 j.1 place r s e f h k

-- so the round of equal votes is the least one
pub equal_votes_settle : (v : AllVotes) → AllJustified v → EqualVotesSettle v
equal_votes_settle v j place round e h = (h, λ r f less k. let same = settled_once v j place r round f e k h in omega arith)

pub one_vote_each : (v : AllVotes) → AllJustified v → OneVoteEach v
one_vote_each v j desk b c = grind (arith, one_vote)

pub rounds_differ : (v : AllVotes) → AllJustified v → RoundsDiffer v
rounds_differ v j A place round g i = differed v.b v.a j.0 (ballot_at place (round + 1) g) i place round refl (omega arith)
rounds_differ v j B place round g i = differed v.a v.b j.1 (ballot_at place (round + 1) g) i place round refl (omega arith)

pub places_settled : (v : AllVotes) → AllJustified v → PlacesSettled v
places_settled v j A place g i =
    let h = place_closed v.b v.a j.0 place g i in
    (h.1, (h.0, equal_votes_settle v j place h.0 h.1 (h.2, h.3)))
places_settled v j B place g i =
    let h = place_closed v.a v.b j.1 place g i in
    (h.1, (h.0, equal_votes_settle v j place h.0 h.1 (h.3, h.2)))

-- a place that some of the votes settle is settled by all of them, at the same entry
pub settled_grows : (v w : AllVotes) → VotesGrow v w → AllJustified w → (place : ℕ) (e : Entry) → SettledAt v place e → SettledAt w place e
settled_grows v w g j place e s = (s.0, equal_votes_settle w j place s.0 e (g.0 _ s.1.0.0, g.1 _ s.1.0.1))

pub all_settled_grow : (v w : AllVotes) → VotesGrow v w → AllJustified w → (place : ℕ) (es : List Entry) → AllSettled v place es → AllSettled w place es
all_settled_grow v w g j place [] s = tt
all_settled_grow v w g j place (e ∷ es) s = (settled_grows v w g j place e s.0, all_settled_grow v w g j (place + 1) es s.1)

one_entry : (w : AllVotes) → AllJustified w → (place : ℕ) (e f : Entry) → SettledAt w place e → SettledAt w place f → e ≡ f
one_entry w j place e f s t = (settled_once w j place s.0 t.0 e f s.1.0 t.1.0).1

one_of : (w : AllVotes) → AllJustified w → (place : ℕ) (xs ys : List Entry) → AllSettled w place xs → AllSettled w place ys → BeginsWith ys xs ⊎ BeginsWith xs ys
one_of w j place (x ∷ xs) (y ∷ ys) s t = grind (arith, one_entry w j place x y s.0 t.0, one_of w j (place + 1) xs ys s.1 t.1)
one_of w j place xs ys s t = grind arith

pub one_book : (w : AllVotes) → AllJustified w → OneBook w
one_book w j u v xs ys g h s t = one_of w j 0 xs ys (all_settled_grow u w g j 0 xs s) (all_settled_grow v w h j 0 ys t)

begins_from : (w : AllVotes) → AllJustified w → (place next : ℕ) (xs ys : List Entry)
    → AllSettled w place xs → AllSettled w place ys → next ≡ place + length ys → Unsettled w next → BeginsWith ys xs
begins_from w j place next [] ys s t n u = (ys, refl)
begins_from w j place next (x ∷ xs) [] s t n u = let same : next ≡ place = omega arith in absurd (u s.0.0 x (rw same s.0.1.0))
begins_from w j place next (x ∷ xs) (y ∷ ys) s t n u =
    grind (arith, one_entry w j place x y s.0 t.0, begins_from w j (place + 1) next xs ys s.1 t.1)

-- the agreed list begins with any list that some of the votes settle
pub agreed_begins : (v w : AllVotes) → VotesGrow v w → AllJustified w → (xs ys : List Entry) → AllSettled v 0 xs → IsAgreedList w ys → BeginsWith ys xs
agreed_begins v w g j xs ys s a = begins_from w j 0 (length ys) xs ys (all_settled_grow v w g j 0 xs s) a.0 (omega arith) a.1

same_list : (xs ys : List Entry) → BeginsWith ys xs → BeginsWith xs ys → xs ≡ ys
same_list xs ys ([], h) k = sym (append-nil xs) ∙ h
same_list xs ys (e ∷ rest, h) k =
    absurd (omega (arith, ap length h, ap length k.1, length-append xs (e ∷ rest), length-append ys k.0))

-- there is one agreed list
pub agreed_once : (v : AllVotes) → AllJustified v → (xs ys : List Entry) → IsAgreedList v xs → IsAgreedList v ys → xs ≡ ys
agreed_once v j xs ys s t = same_list xs ys (agreed_begins v v (λ b i. i, λ b i. i) j xs ys s.0 t) (agreed_begins v v (λ b i. i, λ b i. i) j ys xs t.0 s)
