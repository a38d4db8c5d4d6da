-- Skipping a word that a line's bytes begin with or don't.
use Rattle.std.proofs.Common.{◌≡◌, ◌≢◌, ◌∙◌, ℕ, ◌<◌, List, [], ◌∷◌, ◌++◌, length, take, drop, get_or, true, false, refl, sym, ap, arith, append-nil, take-append-drop, codes, Ok, ◌==◌, None}
use Rattle.std.specs.List.{join_with_byte}
use Rattle.std.specs.Str.{bytes_eq}
use Rattle.std.proofs.lemmas.Bool.{eqb-true}
use Rattle.std.proofs.lemmas.List.{take_at, drop_at}
use Rattle.std.proofs.lemmas.List.Splits.{join_with_byte-slice_split}
use Rattle.std.proofs.lemmas.Slice.Eq.{bytes_eq-Decides}
use Rattle.notation.specs.declared.{entry.Kind.Kind, entry.Bound.Bound, words.First.First}
use Rattle.notation.specs.Written.{Token, tokens, is_token, kind_text, all_kinds}
use Rattle.notation.specs.inner.TokenReading.{skip, word_at, first_text, all_firsts, short_at, bound_at, out_at}
use Rattle.notation.proofs.SpacedLines.{at_space, one_token}

same : (word : Token) → bytes_eq word word ≡ true
same word = (bytes_eq-Decides word word).1 refl

-- bytes that begin with the word are the word and the rest
stripped : (word left : List ℕ) → bytes_eq (take (length word) left) word ≡ true → word ++ drop (length word) left ≡ left
stripped word left h = search (arith, bytes_eq-Decides, take-append-drop)

last : (word : Token) (rest : List ℕ) → is_token word ≡ true → length rest ≡ 0 → (true, []) ≡ skip word (tokens (word ++ rest))
unfolding skip
last word [] h none = rw (append-nil word) (grind (arith, one_token word, same word))
last word (b ∷ bs) h none = absurd (omega (arith, none))

at_next : (word : Token) (rest : List ℕ) → is_token word ≡ true → (true, tokens rest) ≡ skip word (tokens (word ++ (32 ∷ rest)))
unfolding skip
at_next word rest h = grind (arith, at_space word rest, same word)

next : (word : Token) (rest : List ℕ) → is_token word ≡ true → 0 < length rest → get_or rest 0 0 ≡ 32
    → (true, tokens (drop 1 rest)) ≡ skip word (tokens (word ++ rest))
next word [] h some space = absurd (omega (arith, some))
next word (b ∷ bs) h some space = let e : b ≡ 32 = space in rw e (at_next word bs h)

-- the word is skipped if nothing follows it
pub skips_last : (word left : List ℕ) → is_token word ≡ true → bytes_eq (take (length word) left) word ≡ true
    → length (drop (length word) left) ≡ 0 → (true, []) ≡ skip word (tokens left)
skips_last word left h begins none =
    last word (drop (length word) left) h none ∙ ap (λ l. skip word (tokens l)) (stripped word left begins)

-- the word is skipped if a space follows it
pub skips_next : (word left : List ℕ) → is_token word ≡ true → bytes_eq (take (length word) left) word ≡ true
    → 0 < length (drop (length word) left) → get_or (drop (length word) left) 0 0 ≡ 32
    → (true, tokens (drop 1 (drop (length word) left))) ≡ skip word (tokens left)
skips_next word left h begins some space =
    next word (drop (length word) left) h some space ∙ ap (λ l. skip word (tokens l)) (stripped word left begins)

-- after the first token comes a space or nothing
record Behind (word left : List ℕ) : Type 0 where
  whole : left ≡ word ++ drop (length word) left
  space : 0 < length (drop (length word) left) → get_or (drop (length word) left) 0 0 ≡ 32

behind : (word left : List ℕ) (ts : List Token) → tokens left ≡ word ∷ ts → Behind word left
behind word left [] h =
    let e : left ≡ word ++ [] = sym (join_with_byte-slice_split 32 left) ∙ (ap (join_with_byte 32) h ∙ sym (append-nil word)) in
    let d : drop (length word) left ≡ [] = ap (drop (length word)) e ∙ drop_at word [] (length word) refl in
    record { whole = rw d e; space = rw d (λ some. absurd (omega (arith, some))) }
behind word left (t ∷ ts) h =
    let e : left ≡ word ++ (32 ∷ join_with_byte 32 (t ∷ ts)) = sym (join_with_byte-slice_split 32 left) ∙ ap (join_with_byte 32) h in
    let d : drop (length word) left ≡ 32 ∷ join_with_byte 32 (t ∷ ts) = ap (drop (length word)) e ∙ drop_at word (32 ∷ join_with_byte 32 (t ∷ ts)) (length word) refl in
    record { whole = rw d e; space = rw d (λ some. refl) }

another : (word : Token) (ts : List Token) → ((us : List Token) → ts ≡ word ∷ us → ⊥) → (false, ts) ≡ skip word ts
unfolding skip
another word [] h = refl
another word (t ∷ ts) h = grind (arith, bytes_eq-Decides t word, h ts)

-- the word isn't skipped if the token goes on after it
pub stays_longer : (word left : List ℕ) → 0 < length (drop (length word) left) → get_or (drop (length word) left) 0 0 ≢ 32
    → (false, tokens left) ≡ skip word (tokens left)
stays_longer word left some other = another word (tokens left) (λ ts e. other ((behind word left ts e).space some))

-- the word isn't skipped if the bytes don't begin with it
pub stays_other : (word left : List ℕ) → bytes_eq (take (length word) left) word ≡ false → (false, tokens left) ≡ skip word (tokens left)
stays_other word left h = another word (tokens left) (λ ts e.
    let front : take (length word) left ≡ word = ap (take (length word)) (behind word left ts e).whole ∙ take_at word (drop (length word) left) (length word) refl in
    grind (arith, bytes_eq-Decides (take (length word) left) word, front))

-- no word is skipped at the end
pub stays_empty : (word : Token) → (false, []) ≡ skip word []
unfolding skip
stays_empty word = refl

skipped : (word : Token) (ts us : List Token) → (true, us) ≡ skip word ts → ts ≡ word ∷ us
unfolding skip
skipped word [] us h = grind arith
skipped word (t ∷ ts) us h = grind (arith, bytes_eq-Decides t word)

-- the words `ball` and `bat`, which are tried first, are read as the tables read them
pub ball_first : (ts us : List Token) → (true, us) ≡ skip (codes "ball") ts → word_at first_text all_firsts ts ≡ Ok (First.Ball, us)
unfolding word_at
ball_first ts us h = rw (skipped (codes "ball") ts us h) refl

pub bat_first : (ts us : List Token) → (true, us) ≡ skip (codes "bat") ts → word_at kind_text all_kinds ts ≡ Ok (Kind.Bat, us)
unfolding word_at
bat_first ts us h = rw (skipped (codes "bat") ts us h) refl

pub kept : (word : Token) (ts us : List Token) → (false, us) ≡ skip word ts → us ≡ ts
unfolding skip
kept word [] us h = grind arith
kept word (t ∷ ts) us h = grind (arith, bytes_eq-Decides t word)

-- the optional parts of a delivery that ends with its runs
pub bare : (ts : List Token) → true ≡ (length ts == 0)
    → (short_at ts ≡ Ok (0, ts)) × (bound_at ts ≡ (Bound.Run, ts)) × (skip (codes "dead") ts ≡ (false, ts)) × (out_at ts ≡ Ok (None, ts))
unfolding skip short_at bound_at out_at
bare [] h = (refl, refl, refl, refl)
bare (t ∷ ts) h = absurd (let e = eqb-true _ 0 (sym h) in omega (arith, e))
