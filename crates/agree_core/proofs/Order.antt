-- Positions go up along a desk's votes, and a later round shows that the desks differed before.
use Rattle.std.proofs.Common.{◌≡◌, ◌≢◌, ◌⊎◌, ℕ, ◌+◌, ◌<◌, List, [], ◌∷◌, refl, inl, inr, arith}
use Rattle.notation.specs.declared.entry.Entry.{Entry}
use Rattle.agree_core.specs.declared.position.Position.{Position}
use Rattle.agree_core.specs.Positions.{Before}
use Rattle.agree_core.specs.Ballots.{Ballot, In, Within, ballot_at, Differed, Follows, Justified, IsSequence}

pub compare : (a b : ℕ) → (a < b) ⊎ ((a ≡ b) ⊎ (b < a))
compare a b = grind arith

before_trans : (p q r : Position) → Before p q → Before q r → Before p r
before_trans p q r h k = grind arith

pub not_before : (p q : Position) → p ≡ q → Before p q → ⊥
not_before p q e h = grind arith

follows_later : (theirs : List Ballot) (c b : Ballot) (bs : List Ballot) → Follows theirs c (b ∷ bs) → Before b.at c.at
follows_later theirs c b bs h = grind arith

-- every vote before this one is for an earlier position
pub earlier : (theirs : List Ballot) (b : Ballot) (bs : List Ballot) → Justified theirs (b ∷ bs)
    → (c : Ballot) → In c bs → Before c.at b.at
earlier theirs b [] j c i = absurd i
earlier theirs b (x ∷ xs) j c i = grind (arith, earlier theirs x xs j.2 c, follows_later theirs b x xs j.1)

-- a desk has one vote at a position
pub one_vote : (theirs bs : List Ballot) → Justified theirs bs → (b c : Ballot) → In b bs → In c bs → b.at ≡ c.at → b ≡ c
one_vote theirs [] j b c i k e = absurd i
one_vote theirs (x ∷ xs) j b c i k e = grind (arith, earlier, (one_vote theirs xs j.2 b c))

-- both desks voted in this round, and differed
abbrev pub BothDiffered : List Ballot → List Ballot → ℕ → ℕ → Type 0
BothDiffered own theirs place round = (e : Entry) × (f : Entry) × In (ballot_at place round e) own × In (ballot_at place round f) theirs × (e ≢ f)

one_more : (own theirs : List Ballot) (x : Ballot) (place round : ℕ) → BothDiffered own theirs place round → BothDiffered (x ∷ own) theirs place round
one_more own theirs x place round h = (h.0, h.1, inr h.2, h.3, h.4)

-- both desks differed in the round of this vote
here_differed : (theirs : List Ballot) (y : Ballot) (ys : List Ballot) (place round : ℕ) → place ≡ y.at.place
    → round ≡ y.at.round → Differed theirs y → BothDiffered (y ∷ ys) theirs place round
here_differed theirs y ys place round p r d = (y.entry, d.0, inl (rw (p, r) refl), rw (p, r) d.1, d.2)

-- a vote of a later round shows that the desks differed in each round before
pub differed : (theirs bs : List Ballot) → Justified theirs bs → (b : Ballot) → In b bs
    → (place round : ℕ) → place ≡ b.at.place → round < b.at.round → BothDiffered bs theirs place round
differed theirs [] j b i place round e h = absurd i
differed theirs (x ∷ []) j b i place round e h = absurd (grind arith)
differed theirs (x ∷ y ∷ ys) j b (inr i) place round e h = grind (arith, one_more, (differed theirs (y ∷ ys) j.2 b i place round e h))
differed theirs (x ∷ y ∷ ys) (r, inl n, j) b (inl p) place round e h =
    let same : place ≡ y.at.place = grind arith in
    one_more (y ∷ ys) theirs x place round (elim (compare round y.at.round) [
      | inl q ↦ differed theirs (y ∷ ys) j y (inl refl) place round same q
      | inr q ↦ here_differed theirs y ys place round same (grind arith) n.1
    ])
differed theirs (x ∷ y ∷ ys) (r, inr n, j) b (inl p) place round e h = absurd (grind arith)

-- a vote of the next place shows that both desks have an equal vote at the place before
pub place_closed : (theirs bs : List Ballot) → Justified theirs bs → (place : ℕ) (g : Entry)
    → In (ballot_at (place + 1) 0 g) bs
    → (round : ℕ) × (e : Entry) × In (ballot_at place round e) bs × In (ballot_at place round e) theirs
place_closed theirs [] j place g i = absurd i
place_closed theirs (x ∷ xs) j place g (inr i) = grind (arith, (place_closed theirs xs j.2 place g i))
place_closed theirs (x ∷ []) j place g (inl p) = absurd (grind arith)
place_closed theirs (x ∷ y ∷ ys) (r, inl n, j) place g (inl p) = absurd (grind arith)
place_closed theirs (x ∷ y ∷ ys) (r, inr n, j) place g (inl p) =
    let same : place ≡ y.at.place = grind arith in
    (y.at.round, y.entry, inr (inl (rw same refl)), rw same n.1)

-- votes that follow one another go up by a round or a place
pub in_sequence : (theirs bs : List Ballot) → Justified theirs bs → IsSequence bs
in_sequence theirs (c ∷ b ∷ bs) j = grind (arith, in_sequence theirs (b ∷ bs) j.2)
in_sequence theirs bs j = grind arith

-- votes still follow one another once the other desk has cast more
pub follows_grows : (theirs theirs' : List Ballot) → Within theirs theirs' → (c : Ballot) (bs : List Ballot)
    → Follows theirs c bs → Follows theirs' c bs
follows_grows theirs theirs' g c bs n = grind arith

pub justified_grows : (theirs theirs' : List Ballot) → Within theirs theirs' → (bs : List Ballot)
    → Justified theirs bs → Justified theirs' bs
justified_grows theirs theirs' g [] j = tt
justified_grows theirs theirs' g (b ∷ bs) j = grind (arith, follows_grows, (justified_grows theirs theirs' g bs j.2))
