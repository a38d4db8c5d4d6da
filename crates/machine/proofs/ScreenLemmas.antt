-- The ends of rows in a text, and that what is shown is plain.
use Rattle.std.proofs.lemmas.Grind.{common_steps}
use Rattle.std.proofs.Common.{◌≡◌, ◌<◌, ◌+◌, ◌≤◌, ◌&&◌, ℕ, Bool, true, false, List, [], ◌∷◌, ◌++◌, if◌then◌else◌, map, take, drop, length, length-append, length-drop, get_or, refl, ap, append_assoc, arith, sym, ◌∙◌}
use Rattle.std.specs.List.{list_all}
use Rattle.std.proofs.lemmas.List.Folds.{list_all-append}
use Rattle.std.proofs.lemmas.List.{length-map, take_more}
use Rattle.machine.specs.Rows.{ends_row, is_plain, lacks_last, plain, points, shown_in}
use Rattle.machine.specs.declared.row_log.{RowLog.RowLog, RowLog.Empty, RowLog.Shown', RowLog.LeftOut'}

-- a text followed by a newline ends a row
ends_row-push : (xs : List ℕ) → ends_row (xs ++ 10 ∷ []) ≡ true
ends_row-push [] = refl
ends_row-push (x ∷ []) = refl
ends_row-push (x ∷ (y ∷ rest)) = ends_row-push (y ∷ rest)

-- the front of a text up to a newline ends a row
pub ends_row-take : (xs : List ℕ) (i : ℕ) → i < length xs → get_or xs i 0 ≡ 10 → ends_row (take (i + 1) xs) ≡ true
ends_row-take xs i within is_end =
    ap ends_row (take_more xs i 0 within ∙ ap (λ x. take i xs ++ x ∷ []) is_end) ∙ ends_row-push (take i xs)

both_true : (b c : Bool) → b ≡ true → c ≡ true → (b && c) ≡ true
both_true b c h h2 = grind (arith, common_steps)

first_true : (b c : Bool) → (b && c) ≡ true → b ≡ true
first_true b c h = grind (arith, common_steps)

-- a byte as it is shown is plain
plain_is_plain : (byte : ℕ) → is_plain (plain byte) ≡ true
plain_is_plain byte = by_test (is_plain byte) refl
  where
    by_test : (t : Bool) → is_plain byte ≡ t → is_plain (if t then byte else 63) ≡ true
    by_test true e = e
    by_test false e = refl

map_is_plain : (xs : List ℕ) → list_all is_plain (map plain xs) ≡ true
map_is_plain [] = refl
map_is_plain (x ∷ xs) = both_true (is_plain (plain x)) (list_all is_plain (map plain xs)) (plain_is_plain x) (map_is_plain xs)

joined_is_plain : (xs ys : List ℕ) → list_all is_plain xs ≡ true → list_all is_plain ys ≡ true → list_all is_plain (xs ++ ys) ≡ true
joined_is_plain xs ys h h2 = list_all-append is_plain xs ys ∙ both_true (list_all is_plain xs) (list_all is_plain ys) h h2

with_points : (t : Bool) (xs : List ℕ) → list_all is_plain xs ≡ true → list_all is_plain (if t then xs else xs ++ points) ≡ true
with_points true xs h = h
with_points false xs h = joined_is_plain xs points h refl

shown_is_plain : (log : RowLog) → list_all is_plain (shown_in log) ≡ true
shown_is_plain Empty = refl
shown_is_plain (Shown' marker before bytes count) =
    joined_is_plain (shown_in before) (map plain (take count.value bytes.value.items)) (shown_is_plain before)
    (map_is_plain (take count.value bytes.value.items))
shown_is_plain (LeftOut' marker before bytes count) = with_points (lacks_last before) (shown_in before) (shown_is_plain before)

-- the front of what is shown is plain
pub front_is_plain : (xs ys : List ℕ) (log : RowLog) → xs ++ ys ≡ shown_in log → list_all is_plain xs ≡ true
front_is_plain xs ys log e =
    first_true (list_all is_plain xs) (list_all is_plain ys)
    (sym (list_all-append is_plain xs ys) ∙ ap (list_all is_plain) e ∙ shown_is_plain log)

-- what waits after the rest
pub with_waits : (taken rest waits shown : List ℕ) → taken ++ rest ≡ shown → taken ++ (rest ++ waits) ≡ shown ++ waits
with_waits taken rest waits shown e = sym (append_assoc taken rest waits) ∙ ap (λ xs. xs ++ waits) e

begun_few : (lacks : Bool) (n : ℕ) → n ≤ (if lacks then 32771 else 32768) → n ≤ 32771
begun_few true n h = h
begun_few false n h = omega (arith, h)

pub pending_few : (lacks : Bool) (done begun_len waits_len : ℕ) (begun waits : List ℕ) → length begun ≡ begun_len → length waits ≡ waits_len
    → begun_len ≤ (if lacks then 32771 else 32768) → waits_len ≤ 32768 → length (drop done begun ++ map plain waits) ≤ 65539
pending_few lacks done begun_len waits_len begun waits e e2 h h2 =
    let few = begun_few lacks begun_len h in
    omega (arith, few, e, e2, h2, length-append (drop done begun) (map plain waits), length-drop done begun, length-map waits plain)
