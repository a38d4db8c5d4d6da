-- The three files of a match, each match in a folder of its own. Of a machine it may be known which bytes the file of each path has,
-- or that it can't be read.
use Rattle.std.specs.Prelude.{◌≡◌, ℕ, ⊤, List, ◌++◌, Option, Some, None, codes}
use Rattle.commands.specs.declared.match_files.MatchFile.{MatchFile}
use Rattle.commands.specs.declared.match_files.MatchFile.TheVariants.{Sheet, A, B}

abbrev pub file_name : MatchFile → List ℕ
file_name Sheet = codes "sheet.toml"
file_name A = codes "a.votes"
file_name B = codes "b.votes"

-- the path of a file in a folder
abbrev pub path_in : List ℕ → MatchFile → List ℕ
path_in folder file = folder ++ codes "/" ++ file_name file

-- what is known of files: the bytes of each path, None where it can't be read
abbrev pub Known : Type 0
Known = Option (List ℕ → Option (List ℕ))

-- the file of this path has these bytes, where that is known
abbrev pub HasBytes : Known → List ℕ → List ℕ → Type 0
HasBytes None path bytes = ⊤
HasBytes (Some file_at) path bytes = file_at path ≡ Some bytes

-- it can't be read, where that is known
abbrev pub IsUnreadable : Known → List ℕ → Type 0
IsUnreadable None path = ⊤
IsUnreadable (Some file_at) path = file_at path ≡ None
