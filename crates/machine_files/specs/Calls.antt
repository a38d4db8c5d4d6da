-- The calls that change, sync or read a file, and their answers.
use Rattle.std.specs.Prelude.{◌≡◌, ◌⊎◌, ℕ, List, [], ◌∷◌, ◌++◌, map, Option, Some, None, option_map, Result, OnErr, OnOk}
use Rattle.machine_files.specs.declared.file_disk.OpenFault.{OpenFault}
use Rattle.machine_files.specs.declared.file_disk.OpenFault.TheVariants.{NoMemory, Host, TooLong}

-- a call of a file: it writes these bytes at this offset, cuts the file to this length, syncs it, takes the name of
-- another file, or fills a buffer from the file's front, which then has these bytes
pub data Asked : Type 0 where
  WriteAt : ℕ → List ℕ → Asked
  CutTo : ℕ → Asked
  Sync : Asked
  TakeName : Asked
  ReadFront : List ℕ → Asked

-- a call that was done, or that failed
pub data Call : Type 0 where
  Done : Asked → Call
  Failed : Asked → Call

-- the calls of a file are the old ones and then this one, if the old ones are known
abbrev pub Adds : Option (List Call) → Option (List Call) → Call → Type 0
Adds old new call = new ≡ option_map (λ before. before ++ call ∷ []) old

-- the file had this call, and this is its answer
abbrev pub Answers : {T E : Type 0} → Result T E → Asked → Option (List Call) → Option (List Call) → Type 0
Answers result asked old new = OnOk result (Adds old new (Done asked)) × OnErr result (Adds old new (Failed asked))

-- the file had exactly this call; if the disk answers no fault, the file answered none
abbrev pub PassesOn : {T E : Type 0} → Result T E → Asked → Option (List Call) → Option (List Call) → Type 0
PassesOn result asked old new =
    OnOk result (Adds old new (Done asked)) × OnErr result (Adds old new (Done asked) ⊎ Adds old new (Failed asked))

-- the file had exactly this call or none; if the disk answers no fault, the file had it and answered none
abbrev pub MayPassOn : {T E : Type 0} → Result T E → Asked → Option (List Call) → Option (List Call) → Type 0
MayPassOn result asked old new =
    OnOk result (Adds old new (Done asked))
    × OnErr result ((new ≡ old) ⊎ (Adds old new (Done asked) ⊎ Adds old new (Failed asked)))

-- a new file takes the place of another: it gets exactly these bytes, is synced, and then takes the name
abbrev pub renewal : List ℕ → List Asked
renewal bytes = CutTo 0 ∷ WriteAt 0 bytes ∷ Sync ∷ TakeName ∷ []

-- the file had all these calls, in this order, and each was done
abbrev pub AddsDone : Option (List Call) → Option (List Call) → List Asked → Type 0
AddsDone old new asked = new ≡ option_map (λ before. before ++ map Done asked) old

-- some of these calls were done, then one failed, and no other was made
unfoldable pub FailsAmid : List Call → Option (List Call) → List Asked → Type 0
FailsAmid old new [] = ⊥
FailsAmid old new (first ∷ rest) =
    (new ≡ Some (old ++ Failed first ∷ [])) ⊎ FailsAmid (old ++ Done first ∷ []) new rest

-- some of these calls were done, then one failed, and no other was made, if the calls are known
abbrev pub AddsUntilFailed : Option (List Call) → Option (List Call) → List Asked → Type 0
AddsUntilFailed None new asked = new ≡ None
AddsUntilFailed (Some old) new asked = FailsAmid old new asked

-- the calls that a refusal leaves: none if memory was refused, and otherwise those up to the one that failed
abbrev pub IsLeft : Option (List Call) → Option (List Call) → OpenFault → List Asked → Type 0
IsLeft old new NoMemory asked = new ≡ old
IsLeft old new TooLong asked = ⊥
IsLeft old new Host asked = AddsUntilFailed old new asked

-- The calls that a failed read of all bytes leaves: none if memory was refused or the file is too long; otherwise none, or
-- one read that failed.
abbrev pub IsUnread : Option (List Call) → Option (List Call) → OpenFault → Type 0
IsUnread old new NoMemory = new ≡ old
IsUnread old new TooLong = new ≡ old
IsUnread old new Host = (new ≡ old) ⊎ ((bytes : List ℕ) × Adds old new (Failed (ReadFront bytes)))
