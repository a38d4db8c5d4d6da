-- What is cast was typed, each line once and in order.
use Rattle.std.proofs.Common.{◌≡◌, ◌+◌, ◌-◌, ◌==◌, ◌&&◌, ◌||◌, ℕ, zero, suc, Bool, true, false, List, [], ◌∷◌, ◌++◌, arith, refl, sym, ap, ◌∙◌, subst, inl, inr}
use Rattle.std.proofs.Common.{append-nil, append_assoc, drop, length, nat_lt, take}
use Rattle.std.proofs.lemmas.Bool.Decides.{nat_tests}
use Rattle.std.proofs.lemmas.List.{length-append}
use Rattle.std.proofs.Math.Seq.{take-append-add}
use Rattle.std.specs.Prelude.{⊤, if◌then◌else◌, not, codes}
use Rattle.arrayvec.specs.ArrayString.{ArrayString}
use Rattle.screen.specs.Words.{is_end}
use Rattle.links.specs.Typing.{Input, Line, End}
use Rattle.ahead.specs.declared.log.AheadLog.{AheadLog}
use Rattle.ahead.specs.declared.log.AheadLog as logs
use Rattle.ahead.specs.Ahead.{but_newest, bytes_of, casting, given_of, held_of, is_ordered, kept_of, oldest, typed_of}
use Rattle.ahead.specs.Order.{AreAmong, CastsInOrder, lines_of}
use Rattle.ahead.specs.Sorts.{casts, is_entry, is_entrys, may_cast, sort_of}
use Rattle.ahead.specs.declared.taking.Sort.{Sort}

and_left : (a b : Bool) → (a && b) ≡ true → a ≡ true
and_left true b e = refl
and_left false b e = e

and_right : (a b : Bool) → (a && b) ≡ true → b ≡ true
and_right true b e = e
and_right false b e = absurd (cc)

-- ---- lists

among_skip : (xs : List (List ℕ)) (y : List ℕ) (ys : List (List ℕ)) → AreAmong xs ys → AreAmong xs (y ∷ ys)
among_skip [] y ys h = tt
among_skip (x ∷ xs) y ys h = inr h

among_more : (xs ys zs : List (List ℕ)) → AreAmong xs ys → AreAmong xs (ys ++ zs)
among_more [] ys zs h = tt
among_more (x ∷ xs) [] zs h = absurd h
among_more (x ∷ xs) (y ∷ ys) zs (inl h) = inl (h.0, among_more xs ys zs h.1)
among_more (x ∷ xs) (y ∷ ys) zs (inr h) = inr (among_more (x ∷ xs) ys zs h)

among_itself : (xs : List (List ℕ)) → AreAmong xs xs
among_itself [] = tt
among_itself (x ∷ xs) = inl (refl, among_itself xs)

pub among_joined : (xs ys us vs : List (List ℕ)) → AreAmong xs ys → AreAmong us vs → AreAmong (xs ++ us) (ys ++ vs)
among_joined [] [] us vs h k = k
among_joined [] (y ∷ ys) us vs h k = among_skip us y (ys ++ vs) (among_joined [] ys us vs tt k)
among_joined (x ∷ xs) [] us vs h k = absurd h
among_joined (x ∷ xs) (y ∷ ys) us vs (inl h) k = inl (h.0, among_joined xs ys us vs h.1 k)
among_joined (x ∷ xs) (y ∷ ys) us vs (inr h) k = inr (among_joined (x ∷ xs) ys us vs h k)

among_both : (xs ys zs : List (List ℕ)) → AreAmong xs ys → AreAmong (xs ++ zs) (ys ++ zs)
among_both xs ys zs h = among_joined xs ys zs zs h (among_itself zs)

pub among_front : (xs ys zs : List (List ℕ)) → AreAmong (xs ++ ys) zs → AreAmong xs zs
among_front [] ys zs h = tt
among_front (x ∷ xs) ys [] h = absurd h
among_front (x ∷ xs) ys (z ∷ zs) (inl h) = inl (h.0, among_front xs ys zs h.1)
among_front (x ∷ xs) ys (z ∷ zs) (inr h) = inr (among_front (x ∷ xs) ys zs h)

pub among_through : (xs ys zs : List (List ℕ)) → AreAmong xs ys → AreAmong ys zs → AreAmong xs zs
among_through [] ys zs h k = tt
among_through (x ∷ xs) [] zs h k = absurd h
among_through (x ∷ xs) (y ∷ ys) [] h k = absurd k
among_through (x ∷ xs) (y ∷ ys) (z ∷ zs) (inl h) (inl k) = inl (h.0 ∙ k.0, among_through xs ys zs h.1 k.1)
among_through (x ∷ xs) (y ∷ ys) (z ∷ zs) (inr h) (inl k) = inr (among_through (x ∷ xs) ys zs h k.1)
among_through (x ∷ xs) (y ∷ ys) (z ∷ zs) h (inr k) = inr (among_through (x ∷ xs) (y ∷ ys) zs h k)

among_take : (n : ℕ) (xs ys : List (List ℕ)) → AreAmong xs ys → AreAmong (take n xs) ys
among_take zero xs ys h = tt
among_take (suc n) [] ys h = tt
among_take (suc n) (x ∷ xs) [] h = absurd h
among_take (suc n) (x ∷ xs) (y ∷ ys) (inl h) = inl (h.0, among_take n xs ys h.1)
among_take (suc n) (x ∷ xs) (y ∷ ys) (inr h) = inr (among_take (suc n) (x ∷ xs) ys h)

but_newest_behind : (xs : List (List ℕ)) (y : List ℕ) (ys : List (List ℕ)) → but_newest (xs ++ y ∷ ys) ≡ xs ++ but_newest (y ∷ ys)
but_newest_behind xs y ys =
    let count : length (xs ++ y ∷ ys) - 1 ≡ length xs + length ys = omega (arith, length-append xs (y ∷ ys)) in
    let newest : length ys ≡ length (y ∷ ys) - 1 = omega arith in
    ap (λ (n : ℕ). take n (xs ++ y ∷ ys)) count ∙ (take-append-add xs (y ∷ ys) (length ys) ∙ ap (λ (n : ℕ). xs ++ take n (y ∷ ys)) newest)

bytes_more : (xs ys : List ArrayString) → bytes_of (xs ++ ys) ≡ bytes_of xs ++ bytes_of ys
bytes_more [] ys = refl
bytes_more (x ∷ xs) ys = ap (λ (zs : List (List ℕ)). x.bytes ∷ zs) (bytes_more xs ys)

bytes_take : (n : ℕ) (xs : List ArrayString) → bytes_of (take n xs) ≡ take n (bytes_of xs)
bytes_take zero xs = refl
bytes_take (suc n) [] = refl
bytes_take (suc n) (x ∷ xs) = ap (λ (zs : List (List ℕ)). x.bytes ∷ zs) (bytes_take n xs)

bytes_length : (xs : List ArrayString) → length (bytes_of xs) ≡ length xs
bytes_length [] = refl
bytes_length (x ∷ xs) = ap suc (bytes_length xs)

bytes_but_newest : (xs : List ArrayString) → bytes_of (but_newest xs) ≡ but_newest (bytes_of xs)
bytes_but_newest xs =
    bytes_take (length xs - 1) xs ∙ ap (λ (n : ℕ). take (n - 1) (bytes_of xs)) (sym (bytes_length xs))

lines_more : (xs ys : List Input) → lines_of (xs ++ ys) ≡ lines_of xs ++ lines_of ys
lines_more [] ys = refl
lines_more (Line line ∷ xs) ys = ap (λ (zs : List (List ℕ)). line ∷ zs) (lines_more xs ys)
lines_more (End ∷ xs) ys = lines_more xs ys

-- ---- the kept lines were typed

among_typed : (kept : List (List ℕ)) (typed more : List Input) → AreAmong kept (lines_of typed ++ lines_of more) → AreAmong kept (lines_of (typed ++ more))
among_typed kept typed more h = subst (λ (ys : List (List ℕ)). AreAmong kept ys) (sym (lines_more typed more)) h

typed_more : (kept : List (List ℕ)) (typed more : List Input) → AreAmong kept (lines_of typed) → AreAmong kept (lines_of (typed ++ more))
typed_more kept typed more h = among_typed kept typed more (among_more kept (lines_of typed) (lines_of more) h)

kept_line : (kept : List (List ℕ)) (typed : List Input) (line : List ℕ) → AreAmong kept (lines_of typed)
    → AreAmong (kept ++ line ∷ []) (lines_of (typed ++ Line line ∷ []))
kept_line kept typed line h = among_typed (kept ++ line ∷ []) typed (Line line ∷ []) (among_both kept (lines_of typed) (line ∷ []) h)

kept_passed : (may : Bool) (kept : List (List ℕ)) (typed : List Input) (line : List ℕ) → AreAmong kept (lines_of typed)
    → AreAmong (kept ++ ((if may then line ∷ [] else []) ++ [])) (lines_of (typed ++ Line line ∷ []))
kept_passed true kept typed line h = kept_line kept typed line h
kept_passed false kept typed line h = rw append-nil (typed_more kept typed (Line line ∷ []) h)

kept_typed : (log : AheadLog) → AreAmong (kept_of log) (lines_of (typed_of log))
kept_typed logs.Empty = tt
kept_typed (logs.Passed' marker before buffer count) =
    kept_passed (may_cast (take count.value buffer.value)) (kept_of before) (typed_of before) (take count.value buffer.value) (kept_typed before)
kept_typed (logs.Held' marker before line) = kept_line (kept_of before) (typed_of before) line.value.bytes (kept_typed before)
kept_typed (logs.Cast' marker before handed) = kept_typed before
kept_typed (logs.TakenBack' marker before buffer count) =
    typed_more (but_newest (kept_of before)) (typed_of before) (Line (take count.value buffer.value) ∷ [])
    (among_take (length (kept_of before) - 1) (kept_of before) (lines_of (typed_of before)) (kept_typed before))
kept_typed (logs.Dropped' marker before) = kept_typed before
kept_typed (logs.Lost' marker before line) = typed_more (kept_of before) (typed_of before) (Line line.value.bytes ∷ []) (kept_typed before)
kept_typed (logs.Told' marker before) = kept_typed before
kept_typed (logs.Unused' marker before buffer count) =
    typed_more (kept_of before) (typed_of before) (Line (take count.value buffer.value) ∷ []) (kept_typed before)
kept_typed (logs.Stopped' marker before) = typed_more (kept_of before) (typed_of before) (End ∷ []) (kept_typed before)
kept_typed (logs.Quit' marker before) = kept_typed before
kept_typed (logs.Ended' marker before) = kept_typed before

-- a line is given at once
pub passes : (before : AheadLog) (may : Bool) → is_ordered before ≡ true → (may ≡ true → held_of before ≡ [])
    → (is_ordered before && (not may || (length (held_of before) == 0))) ≡ true
passes before true ordered none = rw (ordered, none refl) refl
passes before false ordered none = rw ordered refl

-- ---- the given lines were kept: the kept lines end in the held ones, and those before them contain the given ones

pub casting_more : (xs ys : List Input) → casting (xs ++ ys) ≡ casting xs ++ casting ys
casting_more [] ys = refl
casting_more (Line line ∷ xs) ys =
    ap (λ (zs : List (List ℕ)). (if may_cast line then line ∷ [] else []) ++ zs) (casting_more xs ys)
    ∙ sym (append_assoc (if may_cast line then line ∷ [] else []) (casting xs) (casting ys))
casting_more (End ∷ xs) ys = casting_more xs ys

-- the desk may cast each of these lines
abbrev AllMay : List ArrayString → Type 0
AllMay [] = ⊤
AllMay (line ∷ lines) = (may_cast line.bytes ≡ true) × AllMay lines

may_more : (xs : List ArrayString) (y : ArrayString) → AllMay xs → may_cast y.bytes ≡ true → AllMay (xs ++ y ∷ [])
may_more [] y h e = (e, tt)
may_more (x ∷ xs) y h e = (h.0, may_more xs y h.1 e)

may_take : (n : ℕ) (xs : List ArrayString) → AllMay xs → AllMay (take n xs)
may_take zero xs h = tt
may_take (suc n) [] h = tt
may_take (suc n) (x ∷ xs) h = (h.0, may_take n xs h.1)

entry_casts : (sort : Sort) → is_entrys sort ≡ true → casts sort ≡ true
entry_casts Sort.Entry e = refl
entry_casts sort e = absurd (cc)

some_held : (h : ArrayString) (hs : List ArrayString) → (length (h ∷ hs) == 0) ≡ true → ⊥
some_held h hs e = grind (arith, nat_tests)

none_held : nat_lt 0 (length {A = ArrayString} []) ≡ true → ⊥
none_held e = grind (arith, nat_tests)

record Fronted (given kept : List (List ℕ)) (held : List ArrayString) : Type 0 where
  front : List (List ℕ)
  is : kept ≡ front ++ bytes_of held
  before : AreAmong given front
  may : AllMay held

passed : (may : Bool) (line : List ℕ) (given kept : List (List ℕ)) (held : List ArrayString) → (not may || (length held == 0)) ≡ true → Fronted given kept held
    → Fronted (given ++ ((if may then line ∷ [] else []) ++ [])) (kept ++ ((if may then line ∷ [] else []) ++ [])) held
passed false line given kept held e f =
    rw (append-nil given, append-nil kept) f
passed true line given kept [] e f = record {
  front = f.front ++ line ∷ [];
  is = ap (λ (xs : List (List ℕ)). xs ++ line ∷ []) (f.is ∙ append-nil f.front) ∙ sym (append-nil (f.front ++ line ∷ []));
  before = among_both given f.front (line ∷ []) f.before;
  may = tt;
}
passed true line given kept (h ∷ hs) e f = absurd (some_held h hs e)

one_held : (line : ArrayString) (given kept : List (List ℕ)) (held : List ArrayString) → is_entry line.bytes ≡ true → Fronted given kept held
    → Fronted given (kept ++ line.bytes ∷ []) (held ++ line ∷ [])
one_held line given kept held e f = record {
  front = f.front;
  is = ap (λ (xs : List (List ℕ)). xs ++ line.bytes ∷ []) f.is
      ∙ (append_assoc f.front (bytes_of held) (line.bytes ∷ []) ∙ ap (λ (xs : List (List ℕ)). f.front ++ xs) (sym (bytes_more held (line ∷ []))));
  before = f.before;
  may = may_more held line f.may (entry_casts (sort_of line.bytes) e);
}

one_given : (given kept : List (List ℕ)) (held : List ArrayString) → Fronted given kept held
    → Fronted (given ++ casting (oldest held)) kept (drop 1 held)
one_given given kept [] f = record { front = f.front; is = f.is; before = rw append-nil f.before; may = tt }
one_given given kept (h ∷ hs) f = record {
  front = f.front ++ h.bytes ∷ [];
  is = f.is ∙ sym (append_assoc f.front (h.bytes ∷ []) (bytes_of hs));
  before = rw (f.may).0 (among_both given f.front (h.bytes ∷ []) f.before);
  may = (f.may).1;
}

one_back : (given kept : List (List ℕ)) (held : List ArrayString) → nat_lt 0 (length held) ≡ true → Fronted given kept held
    → Fronted given (but_newest kept) (but_newest held)
one_back given kept [] e f = absurd (none_held e)
one_back given kept (h ∷ hs) e f = record {
  front = f.front;
  is = ap but_newest f.is ∙ (but_newest_behind f.front h.bytes (bytes_of hs) ∙ ap (λ (xs : List (List ℕ)). f.front ++ xs) (sym (bytes_but_newest (h ∷ hs))));
  before = f.before;
  may = may_take (length (h ∷ hs) - 1) (h ∷ hs) f.may;
}

all_dropped : (given kept : List (List ℕ)) (held : List ArrayString) → Fronted given kept held → Fronted given kept []
all_dropped given kept held f = record {
  front = kept;
  is = sym (append-nil kept);
  before = subst (λ (xs : List (List ℕ)). AreAmong given xs) (sym f.is) (among_more given f.front (bytes_of held) f.before);
  may = tt;
}

-- the same for the inputs that were given
more_given : (xs ys : List Input) (kept : List (List ℕ)) (held : List ArrayString) → Fronted (casting xs ++ casting ys) kept held
    → Fronted (casting (xs ++ ys)) kept held
more_given xs ys kept held f = subst (λ (given : List (List ℕ)). Fronted given kept held) (sym (casting_more xs ys)) f

none_given : (xs ys : List Input) (kept : List (List ℕ)) (held : List ArrayString) → casting ys ≡ [] → Fronted (casting xs) kept held
    → Fronted (casting (xs ++ ys)) kept held
none_given xs ys kept held e f = more_given xs ys kept held (rw (e, append-nil (casting xs)) f)

quit_casts_none : casting (Line (codes "quit") ∷ []) ≡ []
unfolding is_end
quit_casts_none = refl

fronted : (log : AheadLog) → is_ordered log ≡ true → Fronted (casting (given_of log)) (kept_of log) (held_of log)
fronted logs.Empty e = record { front = []; is = refl; before = tt; may = tt }
fronted (logs.Passed' marker before buffer count) e =
    let line : List ℕ = take count.value buffer.value in
    more_given (given_of before) (Line line ∷ []) (kept_of before ++ casting (Line line ∷ [])) (held_of before)
    (passed (may_cast line) line (casting (given_of before)) (kept_of before) (held_of before) (and_right (is_ordered before) _ e)
    (fronted before (and_left (is_ordered before) _ e)))
fronted (logs.Held' marker before line) e =
    one_held line.value (casting (given_of before)) (kept_of before) (held_of before) (and_right (is_ordered before) _ e)
    (fronted before (and_left (is_ordered before) _ e))
fronted (logs.Cast' marker before handed) e =
    more_given (given_of before) (oldest (held_of before)) (kept_of before) (drop 1 (held_of before))
    (one_given (casting (given_of before)) (kept_of before) (held_of before) (fronted before e))
fronted (logs.TakenBack' marker before buffer count) e =
    one_back (casting (given_of before)) (kept_of before) (held_of before) (and_left (nat_lt 0 (length (held_of before))) _ (and_right (is_ordered before) _ e))
    (fronted before (and_left (is_ordered before) _ e))
fronted (logs.Dropped' marker before) e = all_dropped (casting (given_of before)) (kept_of before) (held_of before) (fronted before e)
fronted (logs.Lost' marker before line) e = fronted before e
fronted (logs.Told' marker before) e = fronted before e
fronted (logs.Unused' marker before buffer count) e = fronted before e
fronted (logs.Stopped' marker before) e = fronted before e
fronted (logs.Quit' marker before) e =
    none_given (given_of before) (Line (codes "quit") ∷ []) (kept_of before) (held_of before) quit_casts_none (fronted before e)
fronted (logs.Ended' marker before) e = none_given (given_of before) (End ∷ []) (kept_of before) (held_of before) refl (fronted before e)

pub casts_in_order : (log : AheadLog) → is_ordered log ≡ true → CastsInOrder log
casts_in_order log e =
    let f = fronted log e in
    record {
      given = subst (λ (xs : List (List ℕ)). AreAmong (casting (given_of log) ++ bytes_of (held_of log)) xs) (sym f.is)
          (among_both (casting (given_of log)) f.front (bytes_of (held_of log)) f.before);
      kept = kept_typed log;
    }
