-- If two desks' votes differ nowhere, they are the same votes.
use Rattle.std.proofs.Common.{◌≡◌, ◌↔◌, ℕ, ◌<◌, zero, suc, List, [], ◌∷◌, ◌++◌, true, Option, Some, None, refl, sym, ap, ◌∙◌, arith}
use Rattle.std.specs.Prelude.{IfSome}
use Rattle.std.proofs.lemmas.Slice.Eq.{bytes_eq-Decides}
use Rattle.notation.specs.declared.entry.{Entry.Entry, TheConstants.PLACES}
use Rattle.notation.specs.Written.{IsEntry, text_of}
use Rattle.notation.proofs.Texts.{text_once}
use Rattle.agree_core.specs.declared.position.TheConstants.{ROUNDS}
use Rattle.agree_core.specs.Ballots.{AllVotes, Ballot, In, IsSequence, ballot_at}
use Rattle.agree_core.specs.Positions.{InRange}
use Rattle.vote_store.specs.Laws.{AllEntries, IsVotes}
use Rattle.books.specs.Comparing.{difference_at, differences, in_places, in_rounds}
use Rattle.books.specs.DeskVotes.{entry_at, is_alike}
use Rattle.books.specs.declared.compare.Difference.{Difference}
use Rattle.books.proofs.EntriesAt.{found_in, none_at, some_at}

-- each vote of a sequence is for a position in range, and for an entry
in_range : (votes : List Ballot) → IsSequence votes → (b : Ballot) → In b votes → InRange b.at
in_range [] s b i = absurd i
in_range (x ∷ xs) s b i = grind (arith, in_range xs s.2 b)

pub entries_at : (votes : List Ballot) → AllEntries votes → (place round : ℕ) → IfSome (entry_at votes place round) IsEntry
entries_at [] a place round = tt
entries_at (b ∷ bs) a place round = grind (arith, entries_at bs a.1 place round)

-- ---- no difference

no_parts : (xs ys : List Difference) → xs ++ ys ≡ [] → (xs ≡ []) × (ys ≡ [])
no_parts [] ys e = (refl, e)
no_parts (x ∷ xs) ys e = absurd (cc)

none_below : (f g : ℕ → List Difference) → ((n : ℕ) → f (suc n) ≡ f n ++ g n) → (n : ℕ) → f n ≡ [] → (k : ℕ) → k < n → g k ≡ []
none_below f g next zero e k less = absurd (omega arith)
none_below f g next (suc n) e k less = let parts = no_parts (f n) (g n) (sym (next n) ∙ e) in grind (arith, none_below f g next n parts.0 k)

none_in : (v : AllVotes) → differences v ≡ [] → (place round : ℕ) → place < PLACES → round < ROUNDS → difference_at v place round ≡ []
unfolding in_places in_rounds
none_in v none place round p r =
    none_below (in_rounds v place) (difference_at v place) (λ n. refl) ROUNDS (none_below (in_places v) _ (λ n. refl) PLACES none place p) round r

pub same_entry : (x y : Option Entry) → IfSome x IsEntry → IfSome y IsEntry → is_alike x y ≡ true → x ≡ y
same_entry None None h k e = refl
same_entry (Some x) (Some y) h k e = ap Some (text_once x y h k ((bytes_eq-Decides (text_of x) (text_of y)).0 e))
same_entry x y h k e = absurd (cc)

pub alike_here : (x : Option Entry) → is_alike x x ≡ true
alike_here None = refl
alike_here (Some x) = (bytes_eq-Decides (text_of x) (text_of x)).1 refl

module _ (v : AllVotes) (a : IsVotes v.a) (b : IsVotes v.b) where
  same_at : differences v ≡ [] → (place round : ℕ) → place < PLACES → round < ROUNDS → entry_at v.a place round ≡ entry_at v.b place round
  same_at none place round p r =
      let x = entry_at v.a place round in
      let y = entry_at v.b place round in
      same_entry x y (entries_at v.a a.entries place round) (entries_at v.b b.entries place round) (grind (arith, none_in v none place round p r))

  pub same_votes : differences v ≡ [] → (x : Ballot) → In x v.a ↔ In x v.b
  same_votes none x =
      let here = same_at none x.at.place x.at.round in (
        λ i. grind (arith, in_range v.a a.sequence x i, here, found_in v.b x.at.place x.at.round x.entry, some_at v.a a.sequence x.at.place x.at.round x.entry i),
        λ i. grind (arith, in_range v.b b.sequence x i, here, found_in v.a x.at.place x.at.round x.entry, some_at v.b b.sequence x.at.place x.at.round x.entry i),
      )

  -- ---- the same votes have no difference

  module _ (same : (x : Ballot) → In x v.a ↔ In x v.b) where
    by_first : (place round : ℕ) (o : Option Entry) → entry_at v.a place round ≡ o → o ≡ entry_at v.b place round
    by_first place round None e =
        sym (none_at v.b place round (λ x i. let some = some_at v.a a.sequence place round x ((same (ballot_at place round x)).1 i) in absurd (cc)))
    by_first place round (Some x) e = sym (some_at v.b b.sequence place round x ((same (ballot_at place round x)).0 (found_in v.a place round x e)))

    none_at_all : (place round : ℕ) → difference_at v place round ≡ []
    none_at_all place round = let x = entry_at v.a place round in rw (← by_first place round x refl, alike_here x) refl

    none_of : (f g : ℕ → List Difference) → f 0 ≡ [] → ((n : ℕ) → f (suc n) ≡ f n ++ g n) → ((n : ℕ) → g n ≡ []) → (n : ℕ) → f n ≡ []
    none_of f g first next none zero = first
    none_of f g first next none (suc n) = rw (next n, none_of f g first next none n, none n) refl

    pub no_difference : differences v ≡ []
    unfolding in_places in_rounds
    no_difference =
        none_of (in_places v) _ refl (λ n. refl) (λ place. none_of (in_rounds v place) _ refl (λ n. refl) (none_at_all place) ROUNDS) PLACES
