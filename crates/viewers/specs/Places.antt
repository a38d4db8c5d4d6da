-- Whose place is safe.
use Rattle.std.specs.Prelude.{◌≡◌, ◌≢◌, ℕ, Bool, true, false, if◌then◌else◌, List, Option, None, Some, get_or}
use Rattle.viewers.specs.declared.viewer.Viewer.{Viewer}

module _ {V : Type 0} where
  -- every place is as it was
  abbrev pub KeepsAll : List (Option V) → List (Option V) → Type 0
  KeepsAll old new = (k : ℕ) → get_or new k None ≡ get_or old k None

  -- every other place is as it was, whatever happened at this one
  abbrev pub KeepsOthers : ℕ → List (Option V) → List (Option V) → Type 0
  KeepsOthers at old new = (k : ℕ) → k ≢ at → get_or new k None ≡ get_or old k None

  -- every place that passes the test is as it was
  abbrev pub KeepsThose : (Option V → Bool) → List (Option V) → List (Option V) → Type 0
  KeepsThose test old new = (k : ℕ) → test (get_or old k None) ≡ true → get_or new k None ≡ get_or old k None

module _ {S : Type 0} {r : _} {w : _} where
  -- it had a good pass, made with the secret of the desk's page
  abbrev pub is_signed : Option (Viewer S r w) → Bool
  is_signed None = false
  is_signed (Some viewer) = viewer.is_signed

  abbrev pub is_unsigned : Option (Viewer S r w) → Bool
  is_unsigned slot = if is_signed slot then false else true

  -- no viewer is signed
  abbrev pub HasNoSigned : List (Option (Viewer S r w)) → Type 0
  HasNoSigned slots = (k : ℕ) → is_signed (get_or slots k None) ≡ false

  -- every place without a signed viewer is as it was
  abbrev pub KeepsUnsigned : List (Option (Viewer S r w)) → List (Option (Viewer S r w)) → Type 0
  KeepsUnsigned old new = KeepsThose is_unsigned old new

  -- every place with a signed viewer is as it was, whoever came
  abbrev pub KeepsSigned : List (Option (Viewer S r w)) → List (Option (Viewer S r w)) → Type 0
  KeepsSigned old new = KeepsThose is_signed old new
