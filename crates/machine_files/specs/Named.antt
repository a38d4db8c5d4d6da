-- What a file that is held by its name shows: that name, and its calls.
use Rattle.std.specs.Prelude.{ℕ, List, Option, Some, string_bytes}
use Rattle.machine_files.specs.declared.named_file.NamedFile.{NamedFile}
use Rattle.machine_files.specs.CallLogs.{calls_in}
use Rattle.machine_files.specs.Calls.{Call}

-- the name that the file has, or that it will take
abbrev pub name : NamedFile → Option (List ℕ)
name file = Some (string_bytes file.name)

-- the calls of the file and their answers, and before those the calls of the file whose name it takes
abbrev pub calls : NamedFile → Option (List Call)
calls file = Some (calls_in file.log)
