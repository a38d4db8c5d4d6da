-- The rows of some changes and then of others, and of all changes.
use Rattle.std.proofs.Common.{◌≡◌, ℕ, suc, ◌+◌, ◌-◌, Bool, true, false, List, [], ◌∷◌, ◌++◌, length, take, Option, Result, Ok, Err, refl, sym, ◌∙◌, ap, append_assoc, subst, arith, inl, inr}
use Rattle.std.proofs.lemmas.Bool.{cases_lt, le-ltb, lt-ltb}
use Rattle.std.proofs.lemmas.List.{take_all}
use Rattle.std.specs.Prelude.{◌&&◌, filter, if◌then◌else◌, nat_lt}
use Rattle.match_laws.specs.History.{one_if}
use Rattle.std.specs.Io.KnownBytes.{Appends}
use Rattle.match_laws.specs.declared.standing.Standing.{Standing}
use Rattle.cards.specs.Sheet.{Sheet}
use Rattle.cards.specs.Columns.{lines_for}
use Rattle.streams.specs.declared.watched.Watched.{Watched}
use Rattle.streams.specs.Watched.{stream_of}
use Rattle.streams.proofs.Appending.{appends_both}
use Rattle.changes.specs.declared.change.Change.{Change}
use Rattle.changes.specs.Stage.{ForBoth, Stage}
use Rattle.changes.specs.Changes.{differs}
use Rattle.changes.specs.Rows.{row}
use Rattle.changes.specs.Text.{most}
use Rattle.changes.specs.inner.Telling.{number_of, row_if, rows_from, Tells}

module _ (d : Change → Bool) where
  number-append : (xs ys : List Change) → number_of d (xs ++ ys) ≡ number_of d xs + number_of d ys
  number-append [] ys = omega arith
  number-append (x ∷ xs) ys = let more = number-append xs ys in omega (arith, more)

  pub number-filter : (cs : List Change) → number_of d cs ≡ length (filter d cs)
  number-filter [] = refl
  number-filter (c ∷ cs) = grind (arith, number-filter cs)

module _ (d : Change → Bool) (line : Change → List ℕ) where
  rows-append : (t : ℕ) (xs ys : List Change) → rows_from d line t (xs ++ ys) ≡ rows_from d line t xs ++ rows_from d line (t + number_of d xs) ys
  rows-append t [] ys = ap (λ k. rows_from d line k ys) (omega arith)
  rows-append t (x ∷ xs) ys =
      let on : t + one_if (d x) + number_of d xs ≡ t + (one_if (d x) + number_of d xs) = omega arith in
      ap (λ r. row_if d line t x ++ r) (rows-append (t + one_if (d x)) xs ys ∙ ap (λ k. rows_from d line (t + one_if (d x)) xs ++ rows_from d line k ys) on)
      ∙ sym (append_assoc (row_if d line t x) (rows_from d line (t + one_if (d x)) xs) (rows_from d line (t + number_of d (x ∷ xs)) ys))

  -- one more change, before the rows of the rest
  one : (b : Bool) (t : ℕ) (c : Change) (rest : List Change) (more : ℕ → List ℕ) → ((k : ℕ) → more k ≡ lines_for line (take (most - k) rest))
      → (if b && nat_lt t most then line c else []) ++ more (t + one_if b) ≡ lines_for line (take (most - t) (if b then c ∷ rest else rest))
  one false t c rest more all = ap more (omega arith) ∙ all t
  one true t c rest more all = elim (cases_lt t most) [
    | inl lt ↦ (let next : most - t ≡ suc (most - (t + 1)) = omega (arith, lt) in
        rw (lt-ltb t most lt) (ap (λ r. line c ++ r) (all (t + 1)) ∙ ap (λ k. lines_for line (take k (c ∷ rest))) (sym next)))
    | inr le ↦ (let none : most - (t + 1) ≡ 0 = omega (arith, le) in
        let all_told : most - t ≡ 0 = omega (arith, le) in
        rw (le-ltb t most le) (all (t + 1) ∙ (ap (λ k. lines_for line (take k rest)) none ∙ sym (ap (λ k. lines_for line (take k (c ∷ rest))) all_told))))
  ]

  pub rows-filter : (t : ℕ) (cs : List Change) → rows_from d line t cs ≡ lines_for line (take (most - t) (filter d cs))
  rows-filter t [] = sym (ap (lines_for line) (take_all (most - t) [] (omega arith)))
  rows-filter t (c ∷ cs) = one (d c) t c (filter d cs) (λ k. rows_from d line k cs) (λ k. rows-filter k cs)

-- for every two stages that the matches stand at
pub tells_both : {S E : Type 0} {was now : Standing} (contents : S → Option (List ℕ)) (s : Sheet) (old mid new : Watched S) (t k : ℕ) (r : Result ℕ E) (xs ys : List Change)
    → ForBoth was now (λ w n. Tells {E = E} contents old mid (Ok k) s w n t xs) → ForBoth was now (λ w n. Tells contents mid new r s w n k ys)
    → ForBoth was now (λ w n. Tells contents old new r s w n t (xs ++ ys))
tells_both contents s old mid new t k (Ok m) xs ys a b i g stood j h stands =
    let first = a i g stood j h stands in
    let second = b i g stood j h stands in
    let w : Stage = record { innings_a_side = i; history = g } in
    let v : Stage = record { innings_a_side = j; history = h } in
    let d = differs w v in
    let line = row s w v in
    let whole = sym (rows-append d line t xs ys ∙ ap (λ n. rows_from d line t xs ++ rows_from d line n ys) (sym first.0)) in
    let more = number-append d xs ys in
    (omega (arith, first.0, second.0, more), subst (Appends (contents (stream_of old)) (contents (stream_of new))) whole (appends_both _ _ _ _ _ first.1 second.1))
tells_both contents s old mid new t k (Err why) xs ys a b i g stood j h stands = tt
