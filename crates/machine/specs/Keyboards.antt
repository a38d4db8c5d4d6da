-- The lines that a keyboard gives of what it reads.
use Rattle.std.specs.Prelude.{◌≡◌, ◌⊎◌, ◌==◌, ⊤, ℕ, Bool, true, false, nat_lt, List, [], ◌∷◌, ◌++◌, length, take, Option, None, Some, MatchOption, option_map, if◌then◌else◌}
use Rattle.std.specs.List.{position_or_len}
use Rattle.links.specs.declared.keys.Typed.{Typed}
use Rattle.links.specs.declared.keys.Typed.TheVariants.{Aside, Ended, Line, Nothing}
use Rattle.machine.specs.declared.keyboard.Keyboard.{Keyboard}

-- The lines in bytes, after the front of an open line: what comes before each newline, or, of a longer line, the first 128
-- bytes as soon as they are there. The rest of such a line is skipped. What follows the last newline is no line.
abbrev pub lines_from : Bool → List ℕ → List ℕ → List (List ℕ)
lines_from skips front [] = []
lines_from true front (b ∷ bs) = if b == 10 then lines_from false [] bs else lines_from true [] bs
lines_from false front (b ∷ bs) =
    if b == 10 then front ∷ lines_from false [] bs
    else (if length front == 127 then (front ++ b ∷ []) ∷ lines_from true [] bs else lines_from false (front ++ b ∷ []) bs)

abbrev pub newline : ℕ → Bool
newline b = b == 10

-- the index of the first newline
abbrev pub first_newline : List ℕ → Option ℕ
first_newline bs =
    if nat_lt (position_or_len newline bs) (length bs) then Some (position_or_len newline bs) else None

-- the lines left in unread bytes and in those that a reader gives from here on, if these are known
abbrev pub left_of : Bool → List ℕ → Option (List ℕ) → Option (List (List ℕ))
left_of skips held known = option_map (λ bytes. lines_from skips [] (held ++ bytes)) known

-- the lines that a keyboard gives from here on, if what its reader gives is known
abbrev pub lines_left : {R M : Type 0} {g : _} {h : _} → (R → Option (List ℕ)) → Keyboard R M g h → Option (List (List ℕ))
lines_left remaining k = left_of k.skips k.held.items (remaining k.reader)

-- known lines stay unchanged
abbrev pub KeepsLines : Option (List (List ℕ)) → Option (List (List ℕ)) → Type 0
KeepsLines None new = ⊤
KeepsLines (Some xs) None = ⊥
KeepsLines (Some xs) (Some ys) = ys ≡ xs

-- known lines begin with this one, which is removed
abbrev pub LosesLine : List ℕ → Option (List (List ℕ)) → Option (List (List ℕ)) → Type 0
LosesLine line None new = ⊤
LosesLine line (Some xs) None = ⊥
LosesLine line (Some xs) (Some ys) = xs ≡ line ∷ ys

-- the front of the buffer is the next line, if there is one; otherwise the lines stay unchanged
abbrev pub GivesLine : Option ℕ → List ℕ → Option (List (List ℕ)) → Option (List (List ℕ)) → Type 0
GivesLine count buffer old new = MatchOption count (KeepsLines old new) (λ n. LosesLine (take n buffer) old new)

-- if the lines are known, none is left
abbrev pub HasNoLines : Option (List (List ℕ)) → Type 0
HasNoLines None = ⊤
HasNoLines (Some xs) = xs ≡ []

-- A keyboard gives the next line that was read, or, if none was, the next one from elsewhere. It ends once no line is left, or
-- a read failed.
abbrev pub Gives : Typed → List ℕ → Bool → Option (List (List ℕ)) → Option (List (List ℕ)) → List (List ℕ) → List (List ℕ) → Type 0
Gives (Line count) buffer failed old new more after =
    (GivesLine (Some count) buffer old new × (after ≡ more)) ⊎ (KeepsLines old new × (after ≡ more ++ take count buffer ∷ []))
Gives Ended buffer failed old new more after = KeepsLines old new × (failed ≡ false → HasNoLines new) × (after ≡ more)
Gives Nothing buffer failed old new more after = KeepsLines old new × (after ≡ more)
Gives (Aside aside) buffer failed old new more after = ⊥
