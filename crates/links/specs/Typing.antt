-- What a scorer types.
use Rattle.std.specs.Prelude.{◌≡◌, ◌≤◌, ℕ, List, [], ◌∷◌, ◌++◌, take, Option, MatchOption}
use Rattle.links.specs.declared.keys.Typed.{Typed}

-- a line, or the end of all lines
pub data Input : Type 0 where
  Line : List ℕ → Input
  End : Input

-- what a scorer's keys gave: nothing, the front of the buffer as a line, news of lines that aren't passed on, or the end
abbrev pub IsTyped : Typed → List ℕ → List Input → List Input → Type 0
IsTyped Typed.Nothing buffer before after = after ≡ before
IsTyped (Typed.Line count) buffer before after = (count ≤ 128) × (after ≡ before ++ Line (take count buffer) ∷ [])
IsTyped (Typed.Aside aside) buffer before after = after ≡ before
IsTyped Typed.Ended buffer before after = after ≡ before ++ End ∷ []

-- a source other than the keyboard gave a line, the front of the buffer, or none
abbrev pub GivesMore : Option ℕ → List ℕ → List (List ℕ) → List (List ℕ) → Type 0
GivesMore count buffer before after =
    MatchOption count (after ≡ before) (λ n. (n ≤ 128) × (after ≡ before ++ take n buffer ∷ []))
