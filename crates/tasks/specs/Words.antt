-- What the words on the command line ask for, and what standard error is told where they are refused.
use Rattle.std.specs.Prelude.{ℕ, ◌≤◌, ◌++◌, ⊤, List, codes}
use Rattle.clap.specs.declared.error.kind.ErrorKind as clap
use Rattle.clap.specs.declared.error.kind.ErrorKind.{ErrorKind}
use Rattle.std.specs.declared.io.ErrorKind as host
use Rattle.std.specs.declared.io.ErrorKind.TheVariants as hosts
use Rattle.tasks.specs.declared.{task.BoardTask.BoardTask, task.Task.Task, words_fault.WordsFault.WordsFault}
use Rattle.tasks.specs.declared.task.BoardTask.TheVariants.{OfSheet}
use Rattle.tasks.specs.declared.task.Task.TheVariants.{Board, Check, Replay}
use Rattle.tasks.specs.declared.words_fault.WordsFault.TheVariants.{NotUnderstood, NotText, Unknown, TooOften, NoValue, WrongValue, Misplaced, WrongStation, Lacks, LacksOption, NoMemory}

-- the task without any words: `check` in a match of two innings a side
abbrev pub plain_task : Task
plain_task = Check 2

-- a board of the sheet's table is one of four
abbrev pub IsBoardTask : BoardTask → Type 0
IsBoardTask (OfSheet sheet index named shows) = index ≤ 3
IsBoardTask task = ⊤

-- the numbers of a task are in their ranges: 1 or 2 innings a side, at most 4 boards
abbrev pub IsTask : Task → Type 0
IsTask (Check innings) = (1 ≤ innings) × (innings ≤ 2)
IsTask (Replay sheet schedule boards is_old) = boards ≤ 4
IsTask (Board task) = IsBoardTask task
IsTask task = ⊤

-- why the host doesn't give the words: out of memory, one isn't UTF-8, or another fault
abbrev pub of_host : host.ErrorKind → WordsFault
of_host hosts.OutOfMemory = NoMemory
of_host hosts.InvalidData = NotText
of_host kind = NotUnderstood

-- why `clap` refuses the words: out of memory, or they have none of the program's forms
abbrev pub of_parse : clap.ErrorKind → WordsFault
of_parse ErrorKind.OutOfMemory = NoMemory
of_parse kind = NotUnderstood

-- what standard error is told of refused words
abbrev pub words_text : WordsFault → List ℕ
words_text NotUnderstood = codes "words not understood"
words_text NotText = codes "words not understood: one isn't UTF-8"
words_text (Unknown word) = codes "words not understood: " ++ word.now
words_text (TooOften option) = codes "words not understood: --" ++ option.now ++ codes " is given too often"
words_text (NoValue option) = codes "words not understood: --" ++ option.now ++ codes " has no value"
words_text (WrongValue option value wanted) = codes "words not understood: --" ++ option.now ++ codes " " ++ value.now ++ codes ": " ++ wanted.now
words_text (Misplaced option wanted) = codes "words not understood: --" ++ option.now ++ codes ": " ++ wanted.now
words_text (WrongStation command word wanted) = codes "words not understood: " ++ command.now ++ codes " " ++ word.now ++ codes ": " ++ wanted.now
words_text (Lacks command what) = codes "words not understood: " ++ command.now ++ codes " lacks " ++ what.now
words_text (LacksOption command option) = codes "words not understood: " ++ command.now ++ codes " lacks --" ++ option.now
words_text NoMemory = codes "no memory"

abbrev pub words_line : WordsFault → List ℕ
words_line fault = words_text fault ++ codes "\n"
