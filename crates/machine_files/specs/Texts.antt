-- What was put into a file of text.
use Rattle.std.specs.Prelude.{◌≡◌, ⊤, ℕ, List, [], ◌∷◌, ◌++◌, Option, Some, None, Result, IfSome, OnErr, OnOk}

-- the texts that the file was given are the old ones and then this one, if the old ones are known
abbrev pub IsGiven : Option (List (List ℕ)) → Option (List (List ℕ)) → List ℕ → Type 0
IsGiven None new text = ⊤
IsGiven (Some old) new text = new ≡ Some (old ++ text ∷ [])

-- without a fault the file was given exactly this text, and with a fault no text
abbrev pub Takes : {T E : Type 0} → Result T E → Option (List (List ℕ)) → Option (List (List ℕ)) → List ℕ → Type 0
Takes result old new text = OnOk result (IsGiven old new text) × OnErr result (new ≡ old)

-- without a fault the file was given the text beside it, if that is known, and with a fault no text
abbrev pub TakesBeside :
    {T E : Type 0} → Result T E → Option (List (List ℕ)) → Option (List (List ℕ)) → Option (List ℕ) → Type 0
TakesBeside result old new beside = OnOk result (IfSome beside (λ text. IsGiven old new text)) × OnErr result (new ≡ old)
