-- The entry that takes a book's last entry back.
use Rattle.std.proofs.Common.{◌≡◌, ℕ, zero, suc, ◌+◌, ◌-◌, ◌<◌, Bool, true, false, Some, None, List, [], ◌∷◌, ◌++◌, length, map, take, drop, refl, sym, ◌∙◌, ap, subst, arith, inl, inr}
use Rattle.std.proofs.lemmas.Bool.{cases_eq}
use Rattle.std.proofs.lemmas.List.{length_push, map-append, take-append-drop, take_all, take_more}
use Rattle.std.proofs.lemmas.List.Elements.{All-nil, All-cons, All-head, All-tail, All-append, All-take, All-drop, All-weaker}
use Rattle.std.proofs.lemmas.Option.{get_or_from_slice_get, slice_get_within}
use Rattle.std.specs.Prelude.{All, ◌==◌, if◌then◌else◌, slice_get}
use Rattle.notation.specs.declared.entry.{Plain.Plain, Entry.Entry}
use Rattle.notation.specs.declared.entry.Entry.TheVariants.{Write, Fix, Late}
use Rattle.corrections.specs.declared.placed.Placed.{Placed}
use Rattle.corrections.specs.CleanList.{clean, clean_items_from, clean_items_of, fixed, history, history_of, item_at, kept, lates_from}
use Rattle.corrections.specs.inner.Scoring.{back, corrected, front, items_before, with_late}
use Rattle.corrections.specs.Legal.{IsLegalBook}
use Rattle.corrections.specs.Refusal.{book_refusal, first_refused, is_fix}
use Rattle.corrections.proofs.LegalLemmas.{clean_items_of-push, fix-scored, IsNamed, is_named, legal-prefix, one_more, scored_legal, slice_get-append_left, slice_get-last}
use Rattle.corrections.proofs.PointLemmas.{corrected-here, corrected-elsewhere, front-back}
use Rattle.corrections.proofs.ScoringLemmas.{kept-append, kept_not}
use Rattle.changes.specs.Before.{TakesBack, before, entered, last_of, stands_at}

-- ---- what stands at each place

record Stands (book : List Entry) (s : Placed) : Type 0 where
  pub place : s.place < length book
  pub item : s.item ≡ stands_at book s.place

-- the entries are those of the book from place p on
abbrev IsPart : List Entry → ℕ → List Entry → Type 0
IsPart book p es = (i : ℕ) → slice_get es i ≡ slice_get book (p + i)

here : (book : List Entry) (p : ℕ) (e : Entry) (es : List Entry) → IsPart book p (e ∷ es) → slice_get book p ≡ Some e
here book p e es part = sym (part 0 ∙ ap (slice_get book) (omega arith))

rest : (book : List Entry) (p : ℕ) (e : Entry) (es : List Entry) → IsPart book p (e ∷ es) → IsPart book (p + 1) es
rest book p e es part i = part (suc i) ∙ ap (slice_get book) (omega arith)

item-stands : (book : List Entry) (a p : ℕ) (e : Entry) → slice_get book p ≡ Some e → Stands book (item_at book a p (entered (Some e)))
item-stands book a p e at = record { place = slice_get_within book p e at; item = ap (λ o. fixed book p (entered o)) (sym at) }

all-if : (P : Placed → Type 0) (b : Bool) (s : Placed) (xs : List Placed) → P s → All P xs → All P (if b then s ∷ xs else xs)
all-if P true s xs one all = All-cons P s xs one all
all-if P false s xs one all = all

lates-stand : (book : List Entry) (a p : ℕ) (es : List Entry) → IsPart book p es → All (Stands book) (lates_from book a p es)
lates-stand book a p [] part = All-nil (Stands book)
lates-stand book a p (Write x ∷ es) part = lates-stand book a (p + 1) es (rest book p (Write x) es part)
lates-stand book a p (Fix q x ∷ es) part = lates-stand book a (p + 1) es (rest book p (Fix q x) es part)
lates-stand book a p (Late q x ∷ es) part =
    all-if (Stands book) (q == a) (item_at book a p x) (lates_from book a (p + 1) es)
    (item-stands book a p (Late q x) (here book p (Late q x) es part))
    (lates-stand book a (p + 1) es (rest book p (Late q x) es part))

items-stand : (book : List Entry) (p : ℕ) (es : List Entry) → IsPart book p es → All (Stands book) (clean_items_from book p es)
items-stand book p [] part = All-nil (Stands book)
items-stand book p (Write x ∷ es) part =
    All-cons (Stands book) (item_at book p p x) (lates_from book p 0 book ++ clean_items_from book (p + 1) es)
    (item-stands book p p (Write x) (here book p (Write x) es part))
    (All-append (Stands book) (lates_from book p 0 book) (clean_items_from book (p + 1) es)
    (lates-stand book p 0 book (λ i. ap (slice_get book) (omega arith)))
    (items-stand book (p + 1) es (rest book p (Write x) es part)))
items-stand book p (Fix q x ∷ es) part = items-stand book (p + 1) es (rest book p (Fix q x) es part)
items-stand book p (Late q x ∷ es) part = items-stand book (p + 1) es (rest book p (Late q x) es part)

all-stand : (book : List Entry) → All (Stands book) (clean_items_of book)
unfolding clean_items_of
all-stand book = items-stand book 0 book (λ i. ap (slice_get book) (omega arith))

-- ---- a correction of a corrected place

twice : (q : ℕ) (y x : Plain) (s : Placed) → (q ≡ s.place → s.item ≡ x) → corrected q x (corrected q y s) ≡ s
twice q y x s same = elim (cases_eq q s.place) [
  | inl e ↦ ap (corrected q x) (corrected-here q y s e) ∙ (corrected-here q x (record s { item = y }) e ∙ ap (λ z. record s { item = z }) (sym (same e)))
  | inr other ↦ ap (corrected q x) (corrected-elsewhere q y s other) ∙ corrected-elsewhere q x s other
]

map-twice : (q : ℕ) (y x : Plain) (xs : List Placed) → All (λ s. q ≡ s.place → s.item ≡ x) xs → map (corrected q x) (map (corrected q y) xs) ≡ xs
map-twice q y x [] all = refl
map-twice q y x (s ∷ ss) all =
    let one = twice q y x s (All-head (λ s. q ≡ s.place → s.item ≡ x) s ss all) in
    let more = map-twice q y x ss (All-tail (λ s. q ≡ s.place → s.item ≡ x) s ss all) in
    λ i. one i ∷ more i

map-elsewhere : (q : ℕ) (x : Plain) (xs : List Placed) → All (λ s. s.place < q) xs → map (corrected q x) xs ≡ xs
map-elsewhere q x [] all = refl
map-elsewhere q x (s ∷ ss) all =
    let below = All-head (λ s. s.place < q) s ss all in
    let one = corrected-elsewhere q x s (λ e. omega (arith, e, below)) in
    let more = map-elsewhere q x ss (All-tail (λ s. s.place < q) s ss all) in
    λ i. one i ∷ more i

-- a late entry that is made void
kept-late : (place a : ℕ) (y : Plain) (xs : List Placed) → All (λ s. s.place < place) xs
    → kept (map (corrected place Plain.Void) (with_late (record { anchor = a; place = place; item = y }) xs)) ≡ kept xs
kept-late place a y xs all =
    let f = corrected place Plain.Void in
    let s : Placed = record { anchor = a; place = place; item = y } in
    let none : Placed = record { anchor = a; place = place; item = Plain.Void } in
    let before = front (a + 1) xs in
    let behind = back (a + 1) xs in
    let same = map-elsewhere place Plain.Void before (All-take (λ s. s.place < place) (items_before (a + 1) xs) xs all) in
    let last = map-elsewhere place Plain.Void behind (All-drop (λ s. s.place < place) (items_before (a + 1) xs) xs all) in
    let one = corrected-here place Plain.Void s refl in
    let parts : map f (before ++ s ∷ behind) ≡ before ++ none ∷ behind = map-append f before (s ∷ behind) ∙ (λ i. same i ++ one i ∷ last i) in
    ap kept parts ∙ (kept-append before (none ∷ behind)
    ∙ (ap (λ ks. kept before ++ ks) (kept_not none behind refl) ∙ (sym (kept-append before behind) ∙ ap kept (front-back (a + 1) xs))))

-- ---- the last entry

module _ (n : ℕ) (old : List Entry) (e : Entry) (legal : IsLegalBook n (old ++ e ∷ [])) where
  legal_old : IsLegalBook n old
  legal_old = legal-prefix n old (e ∷ []) legal

  named : IsNamed old e
  named = is_named n old e ((one_more n old e legal_old).1 legal)

  -- the fix is accepted, since the clean list is as it was
  back_to : (p : ℕ) (x : Plain) → p < length (old ++ e ∷ []) → is_fix (slice_get (old ++ e ∷ []) p) ≡ false
      → clean ((old ++ e ∷ []) ++ Fix p x ∷ []) ≡ clean old
      → (book_refusal n (old ++ e ∷ []) (Fix p x) ≡ None) × (history_of ((old ++ e ∷ []) ++ Fix p x ∷ []) ≡ history_of old)
  unfolding history_of
  back_to p x lt plain same =
      (fix-scored n (old ++ e ∷ []) p x lt plain ∙ (ap (first_refused n []) same ∙ scored_legal n old legal_old), ap history same)

fix_back : (n : ℕ) (old : List Entry) (q : ℕ) (y : Plain) → IsLegalBook n (old ++ Fix q y ∷ [])
    → (book_refusal n (old ++ Fix q y ∷ []) (Fix q (stands_at old q)) ≡ None)
    × (history_of ((old ++ Fix q y ∷ []) ++ Fix q (stands_at old q) ∷ []) ≡ history_of old)
unfolding clean
fix_back n old q y legal =
    let e = Fix q y in
    let x = stands_at old q in
    let there = named n old e legal in
    let lt : q < length (old ++ e ∷ []) = (let l = there.0 in omega (arith, length_push old e, l)) in
    let plain = ap is_fix (slice_get-append_left old (e ∷ []) q there.0) ∙ there.1 in
    let stand = All-weaker (Stands old) (λ s. q ≡ s.place → s.item ≡ x) (λ s st at. st.item ∙ ap (stands_at old) (sym at)) (clean_items_of old) (all-stand old) in
    let same = clean_items_of-push n (old ++ e ∷ []) (Fix q x) legal (lt, plain)
    ∙ (ap (map (corrected q x)) (clean_items_of-push n old e (legal_old n old e legal) there) ∙ map-twice q y x (clean_items_of old) stand) in
    back_to n old e legal q x lt plain (ap kept same)

late_back : (n : ℕ) (old : List Entry) (a : ℕ) (y : Plain) → IsLegalBook n (old ++ Late a y ∷ [])
    → (book_refusal n (old ++ Late a y ∷ []) (Fix (length old) Plain.Void) ≡ None)
    × (history_of ((old ++ Late a y ∷ []) ++ Fix (length old) Plain.Void ∷ []) ≡ history_of old)
unfolding clean
late_back n old a y legal =
    let e = Late a y in
    let there = named n old e legal in
    let lt : length old < length (old ++ e ∷ []) = omega (arith, length_push old e) in
    let plain = ap is_fix (slice_get-last old e) in
    let below = All-weaker (Stands old) (λ s. s.place < length old) (λ s st. st.place) (clean_items_of old) (all-stand old) in
    let same = clean_items_of-push n (old ++ e ∷ []) (Fix (length old) Plain.Void) legal (lt, plain)
    ∙ ap (map (corrected (length old) Plain.Void)) (clean_items_of-push n old e (legal_old n old e legal) there) in
    back_to n old e legal (length old) Plain.Void lt plain (ap kept same ∙ kept-late (length old) a y (clean_items_of old) below)

parted : (book : List Entry) (e : Entry) → last_of book ≡ Some e → book ≡ before book ++ e ∷ []
parted book e at =
    let k = length book - 1 in
    let lt = slice_get_within book k e at in
    let all : take (k + 1) book ≡ book = take_all (k + 1) book (omega arith) in
    sym all ∙ (take_more book k e lt ∙ ap (λ x. take k book ++ x ∷ []) (get_or_from_slice_get book k e e at))

taken_back : (n : ℕ) (book : List Entry) (e back : Entry) → last_of book ≡ Some e
    → ((book_refusal n (before book ++ e ∷ []) back ≡ None) × (history_of ((before book ++ e ∷ []) ++ back ∷ []) ≡ history_of (before book)))
    → TakesBack n book back
taken_back n book e back at facts =
    let same = sym (parted book e at) in record {
      taken = ap (λ b. book_refusal n b back) (sym same) ∙ facts.0;
      same = ap (λ b. history_of (b ++ back ∷ [])) (sym same) ∙ facts.1;
    }

pub fix_takes : (n : ℕ) (book : List Entry) (q : ℕ) (y : Plain) → IsLegalBook n book → last_of book ≡ Some (Fix q y)
    → TakesBack n book (Fix q (stands_at (before book) q))
fix_takes n book q y legal at =
    taken_back n book (Fix q y) (Fix q (stands_at (before book) q)) at
    (fix_back n (before book) q y (subst (IsLegalBook n) (parted book (Fix q y) at) legal))

pub late_takes : (n : ℕ) (book : List Entry) (a : ℕ) (y : Plain) → IsLegalBook n book → last_of book ≡ Some (Late a y)
    → TakesBack n book (Fix (length book - 1) Plain.Void)
late_takes n book a y legal at =
    let parts = parted book (Late a y) at in
    let last : length (before book) ≡ length book - 1 = (let whole = ap length parts in omega (arith, whole, length_push (before book) (Late a y))) in
    subst (λ k. TakesBack n book (Fix k Plain.Void)) last
    (taken_back n book (Late a y) (Fix (length (before book)) Plain.Void) at (late_back n (before book) a y (subst (IsLegalBook n) parts legal)))

pub legal_before : (n : ℕ) (book : List Entry) → IsLegalBook n book → IsLegalBook n (before book)
legal_before n book legal =
    legal-prefix n (before book) (drop (length book - 1) book) (subst (IsLegalBook n) (sym (take-append-drop (length book - 1) book)) legal)

-- ---- what stood at a place before a later place was entered

fixed-append : (es fs : List Entry) (p : ℕ) (x : Plain) → fixed (es ++ fs) p x ≡ fixed fs p (fixed es p x)
fixed-append [] fs p x = refl
fixed-append (Fix q z ∷ es) fs p x = fixed-append es fs p (if q == p then z else x)
fixed-append (Write z ∷ es) fs p x = fixed-append es fs p x
fixed-append (Late q z ∷ es) fs p x = fixed-append es fs p x

pub fixed-next : (book : List Entry) (k : ℕ) (e : Entry) (p : ℕ) (x : Plain) → slice_get book k ≡ Some e
    → fixed (take (k + 1) book) p x ≡ fixed (e ∷ []) p (fixed (take k book) p x)
fixed-next book k e p x at =
    let next = take_more book k e (slice_get_within book k e at) ∙ ap (λ y. take k book ++ y ∷ []) (get_or_from_slice_get book k e e at) in
    ap (λ es. fixed es p x) next ∙ fixed-append (take k book) (e ∷ []) p x

pub slice_get-take : {X : Type 0} (n : ℕ) (xs : List X) (k : ℕ) → k < n → slice_get (take n xs) k ≡ slice_get xs k
slice_get-take zero xs k lt = absurd (omega (arith, lt))
slice_get-take (suc n) [] k lt = refl
slice_get-take (suc n) (x ∷ xs) zero lt = refl
slice_get-take (suc n) (x ∷ xs) (suc k) lt = slice_get-take n xs k (omega (arith, lt))
