-- If desks that agreed on an entry agree on another one for its place, a board that heard the first sees it.
use Rattle.std.proofs.Common.{arith, ◌≡◌, ◌≢◌, ◌<◌, ◌⊎◌, ℕ, Bool, true, false, not, ◌&&◌, ◌||◌, nat_lt, List, [], ◌∷◌, refl, sym, ◌∙◌, subst, inl, inr, ⊎_elim}
use Rattle.std.specs.Prelude.{◌==◌}
use Rattle.std.proofs.lemmas.Bool.Decides.{nat_tests}
use Rattle.std.proofs.lemmas.Slice.Eq.{bytes_eq-Decides}
use Rattle.notation.specs.declared.entry.Entry.{Entry}
use Rattle.notation.specs.Code.{code}
use Rattle.notation.specs.Written.{IsEntry}
use Rattle.notation.proofs.Decoded.{code_once}
use Rattle.agree_core.specs.declared.messages.{DeskId.DeskId, Vote.Vote}
use Rattle.agree_core.specs.declared.messages.DeskId.TheVariants.{A, B}
use Rattle.agree_core.specs.declared.position.Position.{Position}
use Rattle.agree_core.specs.LostLines.{is_at}
use Rattle.board.specs.declared.witness.Round.{Round}
use Rattle.board.specs.Rounds.{HeardAgreed, IsOneOf, SplitsAreSeen, cast_by, is_against, is_alike, is_another, is_later, parts}

one_code : (e : Entry) → is_alike e e ≡ true
one_code e = (bytes_eq-Decides (code e) (code e)).1 refl

two_codes : (e f : Entry) → IsEntry e → IsEntry f → e ≢ f → is_alike e f ≡ false
two_codes e f i k differ = turn (is_alike e f) refl
  where
    turn : (r : Bool) → r ≡ is_alike e f → r ≡ false
    turn true q = absurd (differ (code_once e f i k ((bytes_eq-Decides (code e) (code f)).0 (sym q))))
    turn false q = refl

either : (p q : Bool) → (p ≡ true) ⊎ (q ≡ true) → (p || q) ≡ true
either p q h = grind arith

-- a vote that is against one of the rounds parts
by_one : (v : Vote) (x : Round) (rounds : List Round) → IsOneOf x rounds → is_against v x ≡ true → parts rounds v ≡ true
by_one v x [] i h = absurd i
by_one v x (r ∷ rs) (inl e) h = either (is_against v r) (parts rs v) (inl (subst (λ (r : Round). is_against v r ≡ true) e h))
by_one v x (r ∷ rs) (inr i) h = either (is_against v r) (parts rs v) (inr (by_one v x rs i h))

at_self : (p : Position) → is_at p p ≡ true
at_self p = grind (arith, nat_tests)

compare : (m n : ℕ) → (m < n) ⊎ ((m ≡ n) ⊎ (n < m))
compare m n = grind arith

below : (m n : ℕ) → m < n → nat_lt m n ≡ true
below m n h = grind (arith, nat_tests)

same_place : (n : ℕ) → (n == n) ≡ true
same_place n = grind (arith, nat_tests)

module _ (rounds : List Round) (place round other : ℕ) (e f : Entry) (i : IsEntry f) where
  abbrev vote : DeskId → Vote
  vote d = record { desk = d; place = place; round = other; entry = f }

  another : (d : DeskId) (x : Round) → x.at ≡ record { place = place; round = other } → is_alike (cast_by d x) f ≡ false → is_against (vote d) x ≡ true
  another d x at differ =
      either (is_another (vote d) x) (is_later (vote d) x)
      (inl (both (is_at x.at (record { place = place; round = other })) (is_alike (cast_by d x) f) (rw at (at_self (record { place = place; round = other }))) differ))
    where
      both : (p q : Bool) → p ≡ true → q ≡ false → (p && not q) ≡ true
      both p q h k = grind arith

  later : (d : DeskId) (x : Round) → x.at ≡ record { place = place; round = round } → x.a ≡ x.b → round < other → is_against (vote d) x ≡ true
  later d x at same less =
      either (is_another (vote d) x) (is_later (vote d) x)
      (inr (all (x.at.place == place) (nat_lt x.at.round other) (is_alike x.a x.b) (rw at (same_place place)) (rw at (below round other less)) (rw same (one_code x.b))))
    where
      all : (p q r : Bool) → p ≡ true → q ≡ true → r ≡ true → ((p && q) && r) ≡ true
      all p q r h k l = grind arith

  module _ (h : HeardAgreed rounds place round e) (n : e ≢ f) where
    abbrev Seen : Type 0
    Seen = (parts rounds (vote A) ≡ true) ⊎ (parts rounds (vote B) ≡ true)

    abbrev whole : Round
    whole = record { at = record { place = place; round = round }; a = e; b = e }

    in_it : round ≡ other → Seen
    in_it same = inl (by_one (vote A) whole rounds h.agreed
        (another A whole (λ k. record { place = place; round = same k }) (two_codes e f (h.entries whole h.agreed).0 i n)))

    after_it : round < other → Seen
    after_it less = inl (by_one (vote A) whole rounds h.agreed (later A whole refl refl less))

    before_it : other < round → Seen
    before_it less = turn (is_alike x.a f) refl
      where
        x : Round
        x = (h.differed other less).0

        in_rounds : IsOneOf x rounds
        in_rounds = (h.differed other less).1

        at : x.at ≡ record { place = place; round = other }
        at = (h.differed other less).2

        turn : (r : Bool) → is_alike x.a f ≡ r → Seen
        turn false q = inl (by_one (vote A) x rounds in_rounds (another A x at q))
        turn true q =
            let entries = h.entries x in_rounds in
            let same = code_once x.a f entries.0 i ((bytes_eq-Decides (code x.a) (code f)).0 q) in
            inr (by_one (vote B) x rounds in_rounds (another B x at (two_codes x.b f entries.1 i (λ k. (h.differed other less).3 (same ∙ sym k)))))

    seen : Seen
    seen = ⊎_elim after_it (λ c. ⊎_elim in_it before_it c) (compare round other)

pub splits_are_seen : SplitsAreSeen
splits_are_seen rounds place round other e f h i n = seen rounds place round other e f i h n
