-- Two sound files have only one agreed list.
use Rattle.std.proofs.Common.{◌≡◌, ℕ, ◌+◌, List, [], ◌∷◌, length, refl, arith, add-zero, zero-add}
use Rattle.notation.specs.declared.entry.Entry.{Entry}
use Rattle.agree_core.specs.Agreed.{AllSettled, IsAgreedList, SettledAt, Unsettled}
use Rattle.agree_core.specs.Ballots.{AllVotes, IsSequence, ballot_at}
use Rattle.books.proofs.AgreedSoFar.{one_vote}

module _ (v : AllVotes) (s : IsSequence v.a) where
  one_entry : (place : ℕ) (e f : Entry) → SettledAt v place e → SettledAt v place f → e ≡ f
  one_entry place e f (r, (equal, least)) (q, (equal', least')) =
      grind (arith, one_vote v.a s (ballot_at place r e) (ballot_at place q f) equal.0 equal'.0, least q f, least' r e)

  same_from : (place : ℕ) (xs ys : List Entry) → AllSettled v place xs → AllSettled v place ys → Unsettled v (length xs + place) →
      Unsettled v (length ys + place) → xs ≡ ys
  same_from place [] [] a b m n = refl
  same_from place [] (y ∷ ys) a b m n = absurd ((rw zero-add at m) b.0.0 y b.0.1.0)
  same_from place (x ∷ xs) [] a b m n = absurd ((rw zero-add at n) a.0.0 x a.0.1.0)
  same_from place (x ∷ xs) (y ∷ ys) a b m n =
      let long : length xs + (place + 1) ≡ length (x ∷ xs) + place = omega arith in
      let many : length ys + (place + 1) ≡ length (y ∷ ys) + place = omega arith in
      rw (one_entry place x y a.0 b.0, same_from (place + 1) xs ys a.1 b.1 (rw long m) (rw many n)) refl

  pub one_list : (xs ys : List Entry) → IsAgreedList v xs → IsAgreedList v ys → xs ≡ ys
  one_list xs ys a b = same_from 0 xs ys a.0 b.0 (rw add-zero a.1) (rw add-zero b.1)
