-- What a desk's life tells.
use Rattle.std.specs.Prelude.{◌≡◌, ℕ, List, Option, option_copied}
use Rattle.agree_core.specs.declared.messages.DeskId.{DeskId}
use Rattle.desk_command.specs.declared.life.Life.{Life}
use Rattle.desk_command.specs.Traces.{Traces, traces_of}
use Rattle.desk_command.specs.Typed.{Process}
use Rattle.posts.specs.declared.posted_log.PostedLog.{PostedLog}

-- the desk's letter
abbrev pub desk_of : Life → DeskId
desk_of life = life.desk

-- the path of the desk's sheet
abbrev pub sheet_path_of : Life → List ℕ
sheet_path_of life = life.sheet_path.now

-- the path of the desk's votes file, and that of its copy if it has one
abbrev pub path_of : Life → List ℕ
path_of life = life.file.now

abbrev pub copy_of : Life → Option (List ℕ)
copy_of life = option_copied life.copy

-- the path of the desk's key file, if one is named
abbrev pub key_of : Life → Option (List ℕ)
key_of life = option_copied life.key

-- what the desk's process left to be seen
abbrev pub traces_in : Life → Traces
traces_in life =
    traces_of (life.sheet).value ((life.sealing).value).ring (life.typed).value (life.passed).value (life.carried).value (life.tellings).value life.told life.written life.ended life.last

-- the lines that were posted in the desk's page
abbrev pub posted_in : Life → PostedLog
posted_in life = (life.posted).value

-- the life is of this process
pub record IsOf {desk : DeskId} (life : Life) (process : Process desk) : Type 0 where
  pub letter : desk ≡ desk_of life
  pub path : process.path ≡ path_of life
  pub copy : process.copy ≡ copy_of life
  pub traces : process.traces ≡ traces_in life
