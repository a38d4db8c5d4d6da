-- What a board's life tells.
use Rattle.std.specs.Prelude.{ℕ, List, Option, option_copied}
use Rattle.board_command.specs.declared.life.BoardLife.{BoardLife}
use Rattle.board_command.specs.Keeping.{Traces, traces_of}

-- the path of the board's sheet
abbrev pub sheet_path_of : BoardLife → List ℕ
sheet_path_of life = life.sheet_path.now

-- the path of the board's key file, if one is named
abbrev pub key_of : BoardLife → Option (List ℕ)
key_of life = option_copied life.key

-- what the board's process left to be seen
abbrev pub traces_in : BoardLife → Traces
traces_in life = traces_of (life.sheet).value ((life.sealing).value).ring (life.passed).value (life.carried).value life.told (life.notices).value (life.shown).value (life.heard).value life.ended
