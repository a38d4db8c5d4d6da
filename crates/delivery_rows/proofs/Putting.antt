-- Cells added to a row, rows added to a text, and texts of the elements of a list.
use Rattle.std.proofs.Common.{◌≡◌, ℕ, ◌+◌, ◌≤◌, ◌<◌, ◌^◌, ◌/◌, ◌%◌, List, [], ◌∷◌, ◌++◌, length, take, Some, Result, refl, sym, ◌∙◌, ap, add-one, append-nil, false, arith}
pub use Rattle.std.proofs.Common.{append_assoc}
use Rattle.std.specs.Prelude.{OnOk, slice_get, decimal}
use Rattle.std.specs.List.{flat_map}
use Rattle.std.proofs.lemmas.Grind.{flat_map-append}
use Rattle.std.proofs.lemmas.List.{take_all, take_more}
use Rattle.std.proofs.lemmas.List.Concat.{flat_map-cons}
use Rattle.std.proofs.lemmas.Option.{get_or_from_slice_get, slice_get_within}
use Rattle.std.proofs.lemmas.Result.{on_ok_weaker}
use Rattle.std.proofs.lemmas.Bool.{ne_eqb}
use Rattle.std.proofs.lemmas.Fmt.{decimal_digit, decimal_is_IsNumeral, decimal_step}
use Rattle.std.specs.Char.{digit_value}
use Rattle.std.specs.Str.Parse.{AllDigits}
use Rattle.std.proofs.lemmas.Str.Parse.{digit_from_value}
use Rattle.csv.specs.Writing.{comma, default_writer, field_text, fields_text, is_blank, needs_byte, needs_quotes, row_body, row_text}
use Rattle.json_fields.specs.Values.{up_to}
use Rattle.delivery_rows.specs.Cells.{cell_text, cells_text, rows_text}

-- ---- cells

-- a digit calls for no quotes
digit_plain : (c : ℕ) → digit_value c < 10 → needs_byte default_writer c ≡ false
digit_plain c digit =
    let near = digit_from_value c digit in
    rw (
      ne_eqb c 44 (λ e. omega (arith, near, e)),
      ne_eqb c 34 (λ e. omega (arith, near, e)),
      ne_eqb c 13 (λ e. omega (arith, near, e)),
      ne_eqb c 10 (λ e. omega (arith, near, e)),
    ) refl

digits_plain : (ds : List ℕ) → AllDigits 10 ds → needs_quotes default_writer ds ≡ false
digits_plain [] all = refl
digits_plain (c ∷ cs) all = rw (digit_plain c all.0) (digits_plain cs all.1)

-- a figure is its own text
pub figure_text : (n : ℕ) → n < 2 ^ 64 → field_text default_writer (decimal n) ≡ decimal n
figure_text n small = rw (digits_plain (decimal n) (decimal_is_IsNumeral n small).0.1) refl

pub one_cell : (c : List ℕ) → cells_text (c ∷ []) ≡ comma ∷ field_text default_writer c
unfolding cells_text cell_text
one_cell c = append-nil (cell_text c)

pub plain_cell : (c : List ℕ) → needs_quotes default_writer c ≡ false → cells_text (c ∷ []) ≡ comma ∷ c
plain_cell c plain = one_cell c ∙ (rw plain refl)

pub empty_cell : cells_text ([] ∷ []) ≡ comma ∷ []
empty_cell = one_cell []

pub figure_cell : (n : ℕ) → n < 2 ^ 64 → cells_text (decimal n ∷ []) ≡ comma ∷ decimal n
figure_cell n small = one_cell (decimal n) ∙ ap (λ t. comma ∷ t) (figure_text n small)

pub digit_cell : (n : ℕ) → n < 10 → cells_text (decimal n ∷ []) ≡ comma ∷ (48 + n) ∷ []
digit_cell n small = figure_cell n (omega (arith, small)) ∙ ap (λ t. comma ∷ t) (decimal_digit n small)

pub two_cell : (n : ℕ) → 10 ≤ n → n < 100 → cells_text (decimal n ∷ []) ≡ comma ∷ (48 + n / 10) ∷ (48 + n % 10) ∷ []
two_cell n least small =
    figure_cell n (omega (arith, small)) ∙ (rw (decimal_step n least (omega (arith, small)), decimal_digit (n / 10) (omega (arith, small))) refl)

pub three_cell : (n : ℕ) → 100 ≤ n → n < 1000 →
    cells_text (decimal n ∷ []) ≡ comma ∷ (48 + n / 10 / 10) ∷ (48 + n / 10 % 10) ∷ (48 + n % 10) ∷ []
three_cell n least small =
    figure_cell n (omega (arith, small)) ∙ (rw (
      decimal_step n (omega (arith, least)) (omega (arith, small)),
      decimal_step (n / 10) (omega (arith, least)) (omega (arith, small)),
      decimal_digit (n / 10 / 10) (omega (arith, small)),
    ) refl)

pub cells_text-append : (cs more : List (List ℕ)) → cells_text (cs ++ more) ≡ cells_text cs ++ cells_text more
unfolding cells_text
cells_text-append cs more = flat_map-append cell_text cs more

same_cells : (cs : List (List ℕ)) → fields_text default_writer cs ≡ cells_text cs
unfolding fields_text cells_text cell_text
same_cells [] = refl
same_cells (c ∷ cs) = ap (λ t. comma ∷ (field_text default_writer c ++ t)) (same_cells cs)

pub head_joined : (c : List ℕ) (cs : List (List ℕ)) → field_text default_writer c ++ cells_text cs ≡ row_body default_writer (c ∷ cs)
head_joined c cs = ap (λ t. field_text default_writer c ++ t) (sym (same_cells cs))

-- a row of two or more cells: its first cells, the others, and a line feed
pub row_joined : (c d : List ℕ) (cs more : List (List ℕ)) →
    rows_text ((c ∷ d ∷ (cs ++ more)) ∷ []) ≡ row_body default_writer (c ∷ d ∷ cs) ++ (cells_text more ++ 10 ∷ [])
unfolding rows_text is_blank
row_joined c d cs more =
    let text = field_text default_writer c in
    let all = same_cells (d ∷ (cs ++ more)) ∙ cells_text-append (d ∷ cs) more in
    let first = same_cells (d ∷ cs) in
    rw (all, first) (simp (append_assoc, append-nil))

-- ---- additions

-- two additions are one
pub adds : {X : Type 0} (old mid new xs ys : List X) → mid ≡ old ++ xs → new ≡ mid ++ ys → new ≡ old ++ (xs ++ ys)
adds old mid new xs ys a b = rw (b, a) (append_assoc old xs ys)

pub ends : {X T E : Type 0} (r : Result T E) (old mid new xs ys : List X) → mid ≡ old ++ xs → OnOk r (new ≡ mid ++ ys) →
    OnOk r (new ≡ old ++ (xs ++ ys))
ends r old mid new xs ys a b = on_ok_weaker r (adds old mid new xs ys a) b

pub adds_cells : (old mid new : List ℕ) (cs more : List (List ℕ)) → mid ≡ old ++ cells_text cs → new ≡ mid ++ cells_text more →
    new ≡ old ++ cells_text (cs ++ more)
adds_cells old mid new cs more a b = rw (b, a, cells_text-append cs more) (append_assoc old (cells_text cs) (cells_text more))

pub ends_cells : {T E : Type 0} (r : Result T E) (old mid new : List ℕ) (cs more : List (List ℕ)) → mid ≡ old ++ cells_text cs →
    OnOk r (new ≡ mid ++ cells_text more) → OnOk r (new ≡ old ++ cells_text (cs ++ more))
ends_cells r old mid new cs more a b = on_ok_weaker r (adds_cells old mid new cs more a) b

-- Joins cells that are added one after another; calls that only do so then need no answer.
pub ruleset cell_parts = (append_assoc, append-nil, cells_text-append)

pub rows_text-append : (rs qs : List (List (List ℕ))) → rows_text (rs ++ qs) ≡ rows_text rs ++ rows_text qs
unfolding rows_text
rows_text-append rs qs = flat_map-append (row_text default_writer) rs qs

pub adds_rows : (old mid new : List ℕ) (rs qs : List (List (List ℕ))) → mid ≡ old ++ rows_text rs → new ≡ mid ++ rows_text qs →
    new ≡ old ++ rows_text (rs ++ qs)
adds_rows old mid new rs qs a b = rw (b, a, rows_text-append rs qs) (append_assoc old (rows_text rs) (rows_text qs))

pub ends_rows : {T E : Type 0} (r : Result T E) (old mid new : List ℕ) (rs qs : List (List (List ℕ))) → mid ≡ old ++ rows_text rs →
    OnOk r (new ≡ mid ++ rows_text qs) → OnOk r (new ≡ old ++ rows_text (rs ++ qs))
ends_rows r old mid new rs qs a b = on_ok_weaker r (adds_rows old mid new rs qs a) b

-- rows that are written leave the other rows due
pub rows_due : (mid new all : List ℕ) (rs qs : List (List (List ℕ))) → new ≡ mid ++ rows_text rs → mid ++ rows_text (rs ++ qs) ≡ all →
    new ++ rows_text qs ≡ all
rows_due mid new all rs qs put e = rw put (append_assoc mid (rows_text rs) (rows_text qs) ∙ (rw (rows_text-append rs qs) at e))

pub no_rows : (old : List ℕ) → old ≡ old ++ rows_text []
unfolding rows_text
no_rows old = sym (append-nil old)

pub begins_up_to : (old : List ℕ) (f : ℕ → List (List (List ℕ))) → old ≡ old ++ rows_text (up_to f 0)
unfolding up_to
begins_up_to old f = no_rows old

-- the rows that f makes of each number below n grow by those of one number
pub adds_up_to : (old mid new : List ℕ) (f : ℕ → List (List (List ℕ))) (n : ℕ) → mid ≡ old ++ rows_text (up_to f n) →
    new ≡ mid ++ rows_text (f n) → new ≡ old ++ rows_text (up_to f (n + 1))
unfolding up_to
adds_up_to old mid new f n a b = rw add-one (adds_rows old mid new (up_to f n) (f n) a b)

pub ends_up_to : (old new : List ℕ) (f : ℕ → List (List (List ℕ))) (k n : ℕ) → new ≡ old ++ rows_text (up_to f k) → k ≡ n →
    new ≡ old ++ rows_text (up_to f n)
ends_up_to old new f k n a all = rw (← all) a

-- a text of what f makes of each element of a list grows by one element
pub adds_each : {X : Type 0} (old mid new : List ℕ) (f : X → List ℕ) (xs : List X) (k : ℕ) (x : X) →
    mid ≡ old ++ flat_map f (take k xs) → slice_get xs k ≡ Some x → new ≡ mid ++ f x → new ≡ old ++ flat_map f (take (k + 1) xs)
adds_each old mid new f xs k x a here b =
    let one = take_more xs k x (slice_get_within xs k x here) in
    rw (one, get_or_from_slice_get xs k x x here) (rw (b, a) (simp (append_assoc, flat_map-append, flat_map-cons, append-nil)))

pub ends_each : {X : Type 0} (old new : List ℕ) (f : X → List ℕ) (xs : List X) (k : ℕ) → new ≡ old ++ flat_map f (take k xs) →
    length xs ≤ k → new ≡ old ++ flat_map f xs
ends_each old new f xs k a all = rw (← take_all k xs all) a
