-- The outcome of one more key or piece of rows, and what holds of all.
use Rattle.std.proofs.Common.{◌≡◌, ◌++◌, ◌&&◌, ◌||◌, ℕ, Bool, true, false, List, [], ◌∷◌, refl, sym, ap, ◌∙◌, append-nil, append_assoc}
use Rattle.std.specs.Prelude.{not, if◌then◌else◌}
use Rattle.typing.specs.Courses.{Heard, Pressed, Rows, Piece, Own, Told, bytes_of, handed_by, handed_from, is_nothing, is_unbroken, keys_in, next, pieces_by, pieces_from, rows_in, standing_behind, told_in}
use Rattle.typing.specs.Keys.{key_of, reading_behind}
use Rattle.typing.specs.Terminals.{Standing, clear, draft_behind, ends_row, entered_drawn, handed, line_drawn, pressed, told}
use Rattle.typing.specs.Terminals.{handed_by as keyed}

pub standing_more : (s : Standing) (xs : List Heard) (x : Heard) → standing_behind s (xs ++ x ∷ []) ≡ next (standing_behind s xs) x
standing_more s [] x = refl
standing_more s (y ∷ ys) x = standing_more (next s y) ys x

pub handed_more : (s : Standing) (xs : List Heard) (x : Heard) →
    handed_from s (xs ++ x ∷ []) ≡ handed_from s xs ++ handed_by (standing_behind s xs) x
handed_more s [] x = append-nil (handed_by s x)
handed_more s (y ∷ ys) x =
    ap (λ u. handed_by s y ++ u) (handed_more (next s y) ys x) ∙ sym (append_assoc (handed_by s y) _ _)

pieces_more : (s : Standing) (xs : List Heard) (x : Heard) →
    pieces_from s (xs ++ x ∷ []) ≡ pieces_from s xs ++ pieces_by (standing_behind s xs) x
pieces_more s [] x = append-nil (pieces_by s x)
pieces_more s (y ∷ ys) x =
    ap (λ u. pieces_by s y ++ u) (pieces_more (next s y) ys x) ∙ sym (append_assoc (pieces_by s y) _ _)

bytes_joined : (xs ys : List Piece) → bytes_of (xs ++ ys) ≡ bytes_of xs ++ bytes_of ys
bytes_joined [] ys = refl
bytes_joined (Own bs ∷ xs) ys = ap (λ u. bs ++ u) (bytes_joined xs ys) ∙ sym (append_assoc bs _ _)
bytes_joined (Told bs ∷ xs) ys = ap (λ u. bs ++ u) (bytes_joined xs ys) ∙ sym (append_assoc bs _ _)

pub bytes_more : (s : Standing) (xs : List Heard) (x : Heard) →
    bytes_of (pieces_from s (xs ++ x ∷ [])) ≡ bytes_of (pieces_from s xs) ++ bytes_of (pieces_by (standing_behind s xs) x)
bytes_more s xs x = ap bytes_of (pieces_more s xs x) ∙ bytes_joined (pieces_from s xs) _

pub told_is_heard : (s : Standing) (xs : List Heard) → told_in (pieces_from s xs) ≡ rows_in xs
told_is_heard s [] = refl
told_is_heard s (Pressed b ∷ xs) = told_is_heard (pressed s b) xs
told_is_heard s (Rows bs ∷ xs) = ap (λ u. bs ++ u) (told_is_heard (told s bs) xs)

-- nothing of the terminal's own is written within a row
own_is_nothing : (is_within : Bool) (bs : List ℕ) → (not is_within || is_nothing (if is_within then [] else bs)) ≡ true
own_is_nothing true bs = refl
own_is_nothing false bs = refl

line_is_nothing : (ends : Bool) (bs : List ℕ) → (not (not ends) || is_nothing (if ends then bs else [])) ≡ true
line_is_nothing true bs = refl
line_is_nothing false bs = refl

both : (a b : Bool) → a ≡ true → b ≡ true → (a && b) ≡ true
both true b e f = f
both false b e f = absurd (cc)

pub unbroken_from : (s : Standing) (xs : List Heard) → is_unbroken s.is_within (pieces_from s xs) ≡ true
unbroken_from s [] = refl
unbroken_from s (Pressed b ∷ xs) =
    both _ _ (own_is_nothing s.is_within (entered_drawn (handed s b) ++ line_drawn (pressed s b))) (unbroken_from (pressed s b) xs)
unbroken_from s (Rows bs ∷ xs) =
    both _ _ (own_is_nothing s.is_within clear)
    (both _ _ (line_is_nothing (ends_row bs) (line_drawn (told s bs))) (unbroken_from (told s bs) xs))

not_false : (a : Bool) → not a ≡ false → a ≡ true
not_false true e = refl
not_false false e = absurd (cc)

-- the line being typed is drawn last
pub drawn_last : (s : Standing) (x : Heard) → (next s x).is_within ≡ false → (above : List ℕ) × (bytes_of (pieces_by s x) ≡ above ++ line_drawn (next s x))
drawn_last s (Pressed b) e =
    (entered_drawn (handed s b), append-nil _ ∙ ap (λ (w : Bool). if w then [] else entered_drawn (handed s b) ++ line_drawn (pressed s b)) e)
drawn_last s (Rows bs) e =
    let away : List ℕ = if s.is_within then [] else clear in (
      away ++ bs,
      ap (λ (w : Bool). away ++ (bs ++ ((if w then line_drawn (told s bs) else []) ++ []))) (not_false (ends_row bs) e)
          ∙ (ap (λ u. away ++ (bs ++ u)) (append-nil _) ∙ sym (append_assoc away bs _)),
    )

-- the line being typed is also drawn last after all that was heard
pub drawn_behind : (s : Standing) (xs : List Heard) (x : Heard) → (next (standing_behind s xs) x).is_within ≡ false →
    (above : List ℕ) × (bytes_of (pieces_from s (xs ++ x ∷ [])) ≡ above ++ line_drawn (standing_behind s (xs ++ x ∷ [])))
drawn_behind s xs x e =
    let last : (above : List ℕ) × (bytes_of (pieces_by (standing_behind s xs) x) ≡ above ++ line_drawn (next (standing_behind s xs) x)) = drawn_last (standing_behind s xs) x e in (
      bytes_of (pieces_from s xs) ++ last.0,
      bytes_more s xs x ∙ (ap (λ u. bytes_of (pieces_from s xs) ++ u) last.1
          ∙ (sym (append_assoc (bytes_of (pieces_from s xs)) last.0 _)
          ∙ ap (λ t. (bytes_of (pieces_from s xs) ++ last.0) ++ line_drawn t) (sym (standing_more s xs x)))),
    )

-- two terminals that differ only in what the desk told them hand it the same
pub handed_alike : (s t : Standing) (xs : List Heard) → s.draft ≡ t.draft → s.reading ≡ t.reading → handed_from s xs ≡ handed_from t (keys_in xs)
handed_alike s t [] d r = refl
handed_alike s t (Pressed b ∷ xs) d r =
    let alike : handed s b ≡ handed t b = ap (λ u. keyed u (key_of s.reading b)) d ∙ ap (λ u. keyed t.draft (key_of u b)) r in
    let drafts : (pressed s b).draft ≡ (pressed t b).draft =
    ap (λ u. draft_behind u (key_of s.reading b)) d ∙ ap (λ u. draft_behind t.draft (key_of u b)) r in
    ap (λ u. u ++ handed_from (pressed s b) xs) alike
    ∙ ap (λ u. handed t b ++ u) (handed_alike (pressed s b) (pressed t b) xs drafts (ap (λ u. reading_behind u b) r))
handed_alike s t (Rows bs ∷ xs) d r = handed_alike (told s bs) t xs d r
