-- The lines of unread bytes and of the bytes that follow them.
use Rattle.std.proofs.Common.{◌≡◌, ◌==◌, ℕ, zero, suc, ◌+◌, ◌<◌, ◌≤◌, Bool, true, false, List, [], ◌∷◌, ◌++◌, length, take, drop, Option, Some, None, arith, refl, sym, append-nil, append_assoc, length-append, length-take, add-one}
use Rattle.std.specs.Io.KnownBytes.{Consumes, IsAtEnd, Keeps}
use Rattle.machine.specs.Keyboards.{GivesLine, HasNoLines, KeepsLines, first_newline, left_of, lines_from}

pub ends_within : (bs : List ℕ) (at : ℕ) → first_newline bs ≡ Some at → at < length bs
ends_within bs at e = grind arith

longer : (front : List ℕ) (b : ℕ) → length (front ++ b ∷ []) ≡ length front + 1
longer front b = length-append front (b ∷ [])

-- one more byte
goes_on : (front bs : List ℕ) (b : ℕ) → (b == 10) ≡ false → (length front == 127) ≡ false
    → lines_from false front (b ∷ bs) ≡ lines_from false (front ++ b ∷ []) bs
goes_on front bs b e n = rw (e, n) refl

skips_on : (bs : List ℕ) (b : ℕ) → (b == 10) ≡ false → lines_from true [] (b ∷ bs) ≡ lines_from true [] bs
skips_on bs b e = rw e refl

is_short : (front : List ℕ) → length front < 127 → (length front == 127) ≡ false
is_short front h = grind (arith, h)

later : (b : ℕ) (bs : List ℕ) (at : ℕ) → first_newline (b ∷ bs) ≡ Some (suc at) → ((b == 10) ≡ false) × (first_newline bs ≡ Some at)
later b bs at e = grind arith

none_there : (b : ℕ) (bs : List ℕ) → first_newline (b ∷ bs) ≡ None → ((b == 10) ≡ false) × (first_newline bs ≡ None)
none_there b bs e = grind arith

at_once : (b : ℕ) (bs : List ℕ) → first_newline (b ∷ bs) ≡ Some zero → (b == 10) ≡ true
at_once b bs e = grind arith

-- a line that ends with a newline
line_ends : (front bs t : List ℕ) (at : ℕ) → first_newline bs ≡ Some at → length front + at < 128
    → lines_from false front (bs ++ t) ≡ (front ++ take at bs) ∷ lines_from false [] (drop (suc at) bs ++ t)
line_ends front [] t at e h = absurd (grind arith)
line_ends front (b ∷ bs) t zero e h = rw (at_once b bs e, append-nil front) refl
line_ends front (b ∷ bs) t (suc at) e h =
    let p = later b bs at e in
    let ends = line_ends (front ++ b ∷ []) bs t at p.1 (let l = longer front b in omega (arith, h, l)) in
    rw (goes_on front (bs ++ t) b p.0 (is_short front (omega (arith, h)))) (rw (append_assoc front (b ∷ []) (take at bs)) at ends)

rest_ends : (bs t : List ℕ) (at : ℕ) → first_newline bs ≡ Some at
    → lines_from true [] (bs ++ t) ≡ lines_from false [] (drop (suc at) bs ++ t)
rest_ends [] t at e = absurd (grind arith)
rest_ends (b ∷ bs) t zero e = rw (at_once b bs e) refl
rest_ends (b ∷ bs) t (suc at) e = let p = later b bs at e in rw (skips_on (bs ++ t) b p.0) (rest_ends bs t at p.1)

-- a line that fills the buffer without a newline
front_fills : (front bs t : List ℕ) → first_newline bs ≡ None → 0 < length bs → length front + length bs ≡ 128
    → lines_from false front (bs ++ t) ≡ (front ++ bs) ∷ lines_from true [] t
front_fills front [] t e some h = absurd (omega (arith, some))
front_fills front (b ∷ []) t e some h =
    let n : (length front == 127) ≡ true = grind (arith, h) in rw ((none_there b [] e).0, n) refl
front_fills front (b ∷ c ∷ bs) t e some h =
    let p = none_there b (c ∷ bs) e in
    let fills = front_fills (front ++ b ∷ []) (c ∷ bs) t p.1 (omega arith) (let l = longer front b in omega (arith, h, l)) in
    rw (goes_on front (c ∷ (bs ++ t)) b p.0 (is_short front (omega (arith, h)))) (rw (append_assoc front (b ∷ []) (c ∷ bs)) at fills)

rest_goes_on : (bs t : List ℕ) → first_newline bs ≡ None → lines_from true [] (bs ++ t) ≡ lines_from true [] t
rest_goes_on [] t e = refl
rest_goes_on (b ∷ bs) t e = let p = none_there b bs e in rw (skips_on (bs ++ t) b p.0) (rest_goes_on bs t p.1)

none_skipped : (bs : List ℕ) → first_newline bs ≡ None → lines_from true [] bs ≡ []
none_skipped [] e = refl
none_skipped (b ∷ bs) e = let p = none_there b bs e in rw (skips_on bs b p.0) (none_skipped bs p.1)

none_ends : (front bs : List ℕ) → first_newline bs ≡ None → length front + length bs < 128 → lines_from false front bs ≡ []
none_ends front [] e h = refl
none_ends front (b ∷ bs) e h =
    let p = none_there b bs e in
    rw (goes_on front bs b p.0 (is_short front (omega (arith, h)))) (none_ends (front ++ b ∷ []) bs p.1 (let l = longer front b in omega (arith, h, l)))

-- bytes that were put into a buffer are its front
pub was_put : (held slice buffer : List ℕ) (n : ℕ) → slice ≡ held → n ≤ length held → take (length (take n slice)) buffer ≡ take n slice
    → take n buffer ≡ take n held
was_put held slice buffer n is within put =
    let long : length (take n slice) ≡ n = let l = length-take n slice in grind (arith, l, is, within) in
    rw (← is) (rw long at put)

pub line_given : (held buffer : List ℕ) (at : ℕ) (known : Option (List ℕ)) → first_newline held ≡ Some at → at < 128
    → take at buffer ≡ take at held
    → GivesLine (Some at) buffer (left_of false held known) (left_of false (drop (at + 1) held) known)
line_given held buffer at None e h is = tt
line_given held buffer at (Some bytes) e h is = rw (is, add-one at) (line_ends [] held bytes at e (omega (arith, h)))

pub rest_passed : (held : List ℕ) (at : ℕ) (known : Option (List ℕ)) → first_newline held ≡ Some at
    → KeepsLines (left_of true held known) (left_of false (drop (at + 1) held) known)
rest_passed held at None e = tt
rest_passed held at (Some bytes) e = rw (add-one at) (sym (rest_ends held bytes at e))

pub front_given : (held buffer : List ℕ) (known : Option (List ℕ)) → first_newline held ≡ None → length held ≡ 128
    → take 128 buffer ≡ held → GivesLine (Some 128) buffer (left_of false held known) (left_of true [] known)
front_given held buffer None e h is = tt
front_given held buffer (Some bytes) e h is = rw is (front_fills [] held bytes e (omega (arith, h)) (omega (arith, h)))

pub more_passed : (held : List ℕ) (known : Option (List ℕ)) → first_newline held ≡ None
    → KeepsLines (left_of true held known) (left_of true [] known)
more_passed held None e = tt
more_passed held (Some bytes) e = sym (rest_goes_on held bytes e)

pub filled : (skips : Bool) (held read : List ℕ) (old new : Option (List ℕ)) → Consumes old new read
    → KeepsLines (left_of skips held old) (left_of skips (held ++ read) new)
filled skips held read None new c = tt
filled skips held read (Some xs) None c = elim c [ ]
filled skips held read (Some xs) (Some ys) c = rw (c, append_assoc held read ys) refl

pub kept : (skips : Bool) (held : List ℕ) (old new : Option (List ℕ)) → Keeps old new
    → KeepsLines (left_of skips held old) (left_of skips held new)
kept skips held None new c = tt
kept skips held (Some xs) None c = elim c [ ]
kept skips held (Some xs) (Some ys) c = rw c refl

pub stays : (left : Option (List (List ℕ))) → KeepsLines left left
stays None = tt
stays (Some xs) = refl

-- one step after another
pub kept_then : (count : Option ℕ) (buffer : List ℕ) (old mid new : Option (List (List ℕ))) → KeepsLines old mid
    → GivesLine count buffer mid new → GivesLine count buffer old new
kept_then None buffer None mid new k g = tt
kept_then (Some n) buffer None mid new k g = tt
kept_then None buffer (Some xs) None new k g = elim k [ ]
kept_then (Some n) buffer (Some xs) None new k g = elim k [ ]
kept_then None buffer (Some xs) (Some ys) None k g = elim g [ ]
kept_then (Some n) buffer (Some xs) (Some ys) None k g = elim g [ ]
kept_then None buffer (Some xs) (Some ys) (Some zs) k g = rw k at g
kept_then (Some n) buffer (Some xs) (Some ys) (Some zs) k g = rw k at g

pub over : (skips : Bool) (held : List ℕ) (known : Option (List ℕ)) → ((bytes : List ℕ) → known ≡ Some bytes → bytes ≡ [])
    → first_newline held ≡ None → length held < 128 → HasNoLines (left_of skips held known)
over skips held None end e h = tt
over true held (Some xs) end e h = rw (end xs refl, append-nil held) (none_skipped held e)
over false held (Some xs) end e h = rw (end xs refl, append-nil held) (none_ends [] held e (omega (arith, h)))

pub none_follows : (known : Option (List ℕ)) → IsAtEnd known → (bytes : List ℕ) → known ≡ Some bytes → bytes ≡ []
none_follows known end bytes is = rw is at end
