-- What `--each` prints of many matches, whose folders stand in a list, one a line: for each in turn its frame, or why it has none.
use Rattle.std.specs.Prelude.{◌≡◌, ◌⊎◌, ℕ, ◌+◌, ⊤, Bool, true, false, nat_lt, nat_le, not, ◌&&◌, ◌==◌, List, [], ◌∷◌, ◌++◌, length, flat_map, Option, codes, decimal, IsUtf8}
use Rattle.std.specs.List.{list_all, list_any}
use Rattle.notation.specs.Lines.{lines_of}
use Rattle.streams.specs.Watched.{Prints, has_failed}
use Rattle.streams.specs.declared.watched.Watched.{Watched}
use Rattle.commands.specs.Frames.{IsFrameIn, WhyNoFrame, file_at_fault, frame_bytes, refusal_line}
use Rattle.commands.specs.MatchFiles.{Known, path_in}
use Rattle.commands.specs.declared.frames.{Frame.Frame, MatchFault.MatchFault}
use Rattle.commands.specs.declared.product.Product.{Product}

-- a byte that is no control character
abbrev pub is_plain : ℕ → Bool
is_plain b = nat_le 32 b && not (b == 127)

-- the name of a folder: text, of one byte at least, without a control character
abbrev pub IsFolder : List ℕ → Type 0
IsFolder name = ((nat_lt 0 (length name) && list_all is_plain name) ≡ true) × IsUtf8 name

-- a name as it is printed: one that a terminal might obey is a question mark
abbrev pub IsShown : List ℕ → List ℕ → Type 0
IsShown name shown = (shown ≡ name) ⊎ (shown ≡ codes "?")

-- what comes of a line of the list: its match's frame is printed, or standard error is told this
pub data Outcome : Type 0 where
  Framed : List ℕ → Outcome
  Told : List ℕ → Outcome

abbrev pub printed_of : Outcome → List ℕ
printed_of (Framed bytes) = bytes
printed_of (Told line) = []

abbrev pub told_of : Outcome → List ℕ
told_of (Framed bytes) = []
told_of (Told line) = line

abbrev pub is_told : Outcome → Bool
is_told (Framed bytes) = false
is_told (Told line) = true

-- these are the bytes of the folder's frame
pub record IsFramed (known : Known) (product : Product) (folder bytes : List ℕ) : Type 0 where
  pub frame : Frame
  pub is : IsFrameIn known product folder frame
  pub are : bytes ≡ frame_bytes folder frame

-- the folder has none, as this line tells
pub record IsRefusal (known : Known) (product : Product) (folder line : List ℕ) : Type 0 where
  pub fault : MatchFault
  pub why : WhyNoFrame known product folder fault
  pub shown : List ℕ
  pub is_shown : IsShown folder shown
  pub path : List ℕ
  pub is_path : IsShown (path_in folder (file_at_fault fault)) path
  pub is : line ≡ refusal_line shown path fault

abbrev pub no_folder_line : ℕ → List ℕ
no_folder_line n = codes "line " ++ decimal n ++ codes ": no name of a folder\n"

-- this comes of line n of the list
abbrev pub IsOutcome : Known → Product → ℕ → List ℕ → Outcome → Type 0
IsOutcome known product n name (Framed bytes) = IsFolder name × IsFramed known product name bytes
IsOutcome known product n name (Told line) =
    (IsFolder name × IsRefusal known product name line) ⊎ (¬ (IsFolder name) × (line ≡ no_folder_line n))

-- these come of these lines, numbered from n: one of each, in order
abbrev pub AreOutcomes : Known → Product → ℕ → List (List ℕ) → List Outcome → Type 0
AreOutcomes known product n [] [] = ⊤
AreOutcomes known product n (name ∷ names) (outcome ∷ outcomes) =
    IsOutcome known product n name outcome × AreOutcomes known product (n + 1) names outcomes
AreOutcomes known product n names outcomes = ⊥

-- standard error is told this, unless a write to it has failed: that it can't be told is no fault
abbrev pub Tells : {S : Type 0} → (S → Option (List ℕ)) → Watched S → Watched S → List ℕ → Type 0
Tells contents old new text = has_failed new ≡ false → (has_failed old ≡ false) × Prints contents old new text

-- why the folder has none is told
pub record TellsRefusal
    {S : Type 0} (known : Known) (product : Product) (folder : List ℕ)
    (contents : S → Option (List ℕ)) (old new : Watched S) : Type 0 where
  pub line : List ℕ
  pub is : IsRefusal known product folder line
  pub told : Tells contents old new line

module _
    {S T : Type 0} (known : Known) (product : Product)
    (contents : S → Option (List ℕ)) (old new : Watched S)
    (errors : T → Option (List ℕ)) (before after : Watched T)
  where
    -- what comes of line n is printed or told, and whether it was printed
    pub record DoesLine (n : ℕ) (name : List ℕ) (was_printed : Bool) : Type 0 where
      pub outcome : Outcome
      pub is : IsOutcome known product n name outcome
      pub printed : Prints contents old new (printed_of outcome)
      pub told : Tells errors before after (told_of outcome)
      pub answer : was_printed ≡ not (is_told outcome)

    -- what comes of each line of the list is printed or told, and whether any was told
    pub record DoesEach (list : List ℕ) (any_told : Bool) : Type 0 where
      pub outcomes : List Outcome
      pub are : AreOutcomes known product 1 (lines_of list) outcomes
      pub printed : Prints contents old new (flat_map printed_of outcomes)
      pub told : Tells errors before after (flat_map told_of outcomes)
      pub answer : any_told ≡ list_any is_told outcomes
