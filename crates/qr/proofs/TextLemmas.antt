-- The codewords of a text are bytes, and have the roots.
use Rattle.std.proofs.Common.{◌+◌, ◌-◌, ◌*◌, ◌/◌, ◌%◌, ◌<◌, ◌≤◌, ℕ, true, false, List, [], ◌∷◌, ◌++◌, length, arith}
use Rattle.std.specs.Prelude.{◌==◌, if◌then◌else◌, All}
use Rattle.std.specs.List.{flat_map, range_with_len}
use Rattle.std.proofs.lemmas.List.Elements.{All-append, All-cons, All-head, All-map, All-nil, All-tail}
use Rattle.qr.specs.Content.{codewords, data_codewords, halves, joined, pad, pads, text_codewords}
use Rattle.qr.specs.Roots.{HasRoots}
use Rattle.qr.proofs.RootLemmas.{make_roots}

abbrev IsHalf : ℕ → Type 0
IsHalf h = h < 16

abbrev pub IsByte : ℕ → Type 0
IsByte b = b < 256

halves_low : (bs : List ℕ) → All IsByte bs → All IsHalf (flat_map halves bs)
halves_low [] all = All-nil IsHalf
halves_low (b ∷ bs) all =
    let low : b < 256 = All-head IsByte b bs all in
    let high_half : b / 16 < 16 = omega arith in
    let low_half : b % 16 < 16 = omega arith in
    All-cons IsHalf (b / 16) (b % 16 ∷ flat_map halves bs) high_half
    (All-cons IsHalf (b % 16) (flat_map halves bs) low_half (halves_low bs (All-tail IsByte b bs all)))

joined_low : (hs : List ℕ) → All IsHalf hs → All IsByte (joined hs)
joined_low [] all = All-nil IsByte
joined_low (h ∷ []) all = All-nil IsByte
joined_low (h ∷ l ∷ rest) all =
    let high : h < 16 = All-head IsHalf h (l ∷ rest) all in
    let more : All IsHalf (l ∷ rest) = All-tail IsHalf h (l ∷ rest) all in
    let low : l < 16 = All-head IsHalf l rest more in
    let both : h * 16 + l < 256 = omega arith in
    All-cons IsByte (h * 16 + l) (joined rest) both (joined_low rest (All-tail IsHalf l rest more))

pad_low : (k : ℕ) → pad k < 256
pad_low k = elim (k % 2 == 0) as (λ e. (if e then 0xEC else 0x11) < 256) [ true ↦ omega arith | false ↦ omega arith ]

all_pads_low : (ks : List ℕ) → All (λ k. IsByte (pad k)) ks
all_pads_low [] = All-nil (λ (k : ℕ). IsByte (pad k))
all_pads_low (k ∷ ks) = All-cons (λ (k : ℕ). IsByte (pad k)) k ks (pad_low k) (all_pads_low ks)

data_low : (text : List ℕ) → All IsByte text → length text ≤ 78 → All IsByte (data_codewords text)
data_low text all fits =
    let few : length text < 256 = omega arith in
    All-append IsByte (text_codewords text) (pads (78 - length text))
    (joined_low (4 ∷ flat_map halves (length text ∷ text) ++ 0 ∷ [])
    (All-append IsHalf (4 ∷ flat_map halves (length text ∷ text)) (0 ∷ [])
    (All-cons IsHalf 4 (flat_map halves (length text ∷ text)) (omega arith)
    (halves_low (length text ∷ text) (All-cons IsByte (length text) text few all)))
    (All-cons IsHalf 0 [] (omega arith) (All-nil IsHalf))))
    (All-map IsByte pad (range_with_len 0 (78 - length text)) (all_pads_low (range_with_len 0 (78 - length text))))

pub texts_make_roots : (text : List ℕ) → All (λ b. b < 256) text → length text ≤ 78 → HasRoots (codewords text)
texts_make_roots text all fits = make_roots (data_codewords text) (data_low text all fits)
