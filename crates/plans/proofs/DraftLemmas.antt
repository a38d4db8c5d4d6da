-- A draft with one line more, and what follows from a plan.
use Rattle.std.proofs.lemmas.Grind.{common_steps}
use Rattle.std.proofs.Common.{◌≡◌, ℕ, suc, ◌+◌, ◌<◌, ◌≤◌, true, Option, None, List, [], ◌∷◌, ◌++◌, length, map, take, refl, sym, ◌∙◌, ap, subst, arith, append_assoc}
use Rattle.std.proofs.lemmas.List.{append-nil, length_push, take-append-le, take_all}
use Rattle.std.proofs.lemmas.List.Elements.{All-push}
use Rattle.std.proofs.lemmas.Option.{slice_get_within}
use Rattle.notation.specs.declared.entry.Entry.{Entry}
use Rattle.notation.specs.declared.entry.Entry.TheVariants.{Write, Fix, Late}
use Rattle.notation.specs.Written.{IsEntry}
use Rattle.match_laws.specs.Refusals.{IsLegal}
use Rattle.corrections.specs.declared.{placed.Placed.Placed, refusal.Refusal.Refusal}
use Rattle.corrections.specs.CleanList.{clean, kept}
use Rattle.corrections.specs.inner.Scoring.{with_entry}
use Rattle.corrections.specs.Legal.{IsLegalBook}
use Rattle.corrections.specs.Refusal.{book_refusal, first_refused, first_refused_in}
use Rattle.corrections.proofs.LegalLemmas.{fix-scored, history_after-clean, late-scored, legal_now, one_more, slice_get-push}
use Rattle.corrections.proofs.ScoringLemmas.{taken_from_legal}
use Rattle.plans.specs.Plans.{AreTaken, IsPlan, names}
use Rattle.plans.specs.inner.Standing.{IsDraft, IsStanding}
use Rattle.plans.proofs.StandingLemmas.{clean-standing, named-more, same-history, standing-at}

pub draft-none : (n : ℕ) (book : List Entry) (items : List Placed) → length book ≤ 8192 → IsStanding book items → IsDraft n book [] items
draft-none n book items h h2 = grind (arith, common_steps, append-nil)

scored : (n : ℕ) (book : List Entry) (e : Entry) → names book e ≡ true → (more : List Entry) → first_refused_in n ((book ++ more) ++ e ∷ []) ≡ None → book_refusal n (book ++ more) e ≡ None
scored n book (Write x) e more none = absurd cc
scored n book (Fix p x) e more none = (let named = named-more book more (Fix p x) e in fix-scored n (book ++ more) p x named.0 named.1 ∙ none)
scored n book (Late p x) e more none = (let named = named-more book more (Late p x) e in late-scored n (book ++ more) p x named.0 named.1 ∙ none)

-- lines that are taken, and one more
taken-more : (n : ℕ) (book lines : List Entry) (e : Entry) → AreTaken n book lines → book_refusal n (book ++ lines) e ≡ None → AreTaken n book (lines ++ e ∷ [])
taken-more n book lines e h h2 = grind (arith, common_steps, slice_get-push, slice_get_within, take-append-le, take_all)

pub draft-more : (n : ℕ) (book lines : List Entry) (items : List Placed) (e : Entry) (place : ℕ) → IsDraft n book lines items → names book e ≡ true → IsEntry e
    → place ≡ length book + length lines → place < 8192 → first_refused n [] (kept (with_entry place e items)) ≡ None
    → IsDraft n book (lines ++ e ∷ []) (with_entry place e items)
draft-more n book lines items e place d named r at room none =
    let next = standing-at book lines items e place d.standing named r at in
    let same = append_assoc book lines (e ∷ []) in
    let taken = ap (first_refused_in n) same ∙ (ap (first_refused n []) (clean-standing (book ++ (lines ++ e ∷ [])) (with_entry place e items) next) ∙ none) in
    record {
      entries = All-push IsEntry lines e d.entries r;
      taken = taken-more n book lines e d.taken (scored n book e named lines taken);
      room = omega (arith, at, room, length_push lines e);
      standing = next;
    }

pub plan_of-draft : (n : ℕ) (book wanted lines : List Entry) (items target : List Placed) → IsDraft n book lines items → IsStanding (book ++ wanted) target
    → map (λ s. s.item) items ≡ map (λ s. s.item) target → IsPlan n book wanted lines
plan_of-draft n book wanted lines items target h h2 h3 = grind (arith, common_steps, same-history)

-- what is scored is the book with the wanted corrections
pub target-scored : (n : ℕ) (book : List Entry) (target : List Placed) (r : Option Refusal) → IsStanding book target → first_refused n [] (kept target) ≡ r → first_refused_in n book ≡ r
target-scored n book target r s e = ap (first_refused n []) (clean-standing book target s) ∙ e

-- ---- what follows from a plan

pub legal-lines : (n : ℕ) (book lines : List Entry) → IsLegalBook n book → AreTaken n book lines → IsLegalBook n (book ++ lines)
legal-lines n book [] legal taken = subst (IsLegalBook n) (sym (append-nil book)) legal
legal-lines n book (e ∷ es) legal taken =
    let first = subst (λ b. book_refusal n b e ≡ None) (append-nil book) (taken 0 e refl) in
    let next = (one_more n book e legal).0 first in
    let more : AreTaken n (book ++ e ∷ []) es =
    λ k x at. subst (λ b. book_refusal n b x ≡ None) (sym (append_assoc book (e ∷ []) (take k es))) (taken (suc k) x at) in
    subst (IsLegalBook n) (append_assoc book (e ∷ []) es) (legal-lines n (book ++ e ∷ []) es next more)

pub wanted-legal : (n : ℕ) (book wanted lines : List Entry) → IsLegalBook n book → IsPlan n book wanted lines → first_refused_in n (book ++ wanted) ≡ None
wanted-legal n book wanted lines legal p =
    let now = legal_now n (book ++ lines) (legal-lines n book lines legal p.taken) in
    (taken_from_legal n [] (clean (book ++ wanted)) (subst (IsLegal n) (p.same ∙ sym (history_after-clean (book ++ wanted))) now)).1
