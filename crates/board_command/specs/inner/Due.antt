-- The texts that are made for files that are due.
use Rattle.std.specs.Prelude.{◌≡◌, ℕ, Bool, true, false, ◌||◌, List, Option, Some, None, Result, Vec, IfOk, IfSome, is_some}
use Rattle.std.specs.declared.alloc.Global.{Global}
use Rattle.board_command.specs.Files as files
use Rattle.board_command.specs.Files.{script_with}
use Rattle.board_command.specs.declared.files.{Due.Due, Files.Files, Kept.Kept, Moment.Moment, Texts.Texts}
use Rattle.board_command.specs.declared.files.TheConstants.{FOREVER}
use Rattle.board_command.specs.declared.times.TheConstants.{LONGEST_STATE_AGE}

module _ {T E : Type 0} (longest : ℕ) (m : Moment) where
  -- whether there is a file, and it is due
  abbrev pub is_due : Option (Kept T E) → Bool
  is_due None = false
  is_due (Some kept) = files.is_due kept.tried m longest

-- which files are due
abbrev pub due_of : {T E B : Type 0} → Files T E B → Moment → Due
due_of files m = record {
  lines = is_due FOREVER m files.text;
  state = is_due LONGEST_STATE_AGE m files.state;
  script = is_due LONGEST_STATE_AGE m files.script;
}

-- the texts that are due by either
abbrev pub either : Due → Due → Due
either one other = record {
  lines = one.lines || other.lines;
  state = one.state || other.state;
  script = one.script || other.script;
}

module _ {F : Type 0} (text : List ℕ) where
  -- a text that was made is this text, or memory ran out for it
  abbrev pub IsText : Option (Result (Vec ℕ Global) F) → Type 0
  IsText made = IfSome made (λ result. IfOk result (λ bytes. bytes.items ≡ text))

-- the text was made if it is due
abbrev pub IsMadeWhere : {F : Type 0} → Bool → List ℕ → Option (Result (Vec ℕ Global) F) → Type 0
IsMadeWhere due text made = (due ≡ true → is_some made ≡ true) × IsText text made

-- all three texts were made if they are due, from these lines and this value
pub record AreMade (due : Due) (rows value : List ℕ) (made : Texts) : Type 0 where
  pub lines : IsMadeWhere due.lines rows made.lines
  pub state : IsMadeWhere due.state value made.state
  pub script : IsMadeWhere due.script (script_with value) made.script
