-- Files without any byte.
use Rattle.std.specs.Prelude.{◌≡◌, ℕ, [], None}
use Rattle.entry_log.specs.Format.{contents}
use Rattle.entry_log.specs.Slots.{FileContents}
use Rattle.vote_store.specs.View.{votes_shown}
use Rattle.agree_core.specs.declared.messages.DeskId.{DeskId}
use Rattle.headline.specs.declared.version.FileVersion.{FileVersion}
use Rattle.headline.specs.Match.{format_of}

-- an empty file of either version shows no votes
abbrev pub NoneShowNone : (FileVersion → FileContents) → ℕ → Type 0
NoneShowNone file game = (version : FileVersion) (d : DeskId) → votes_shown (file version) d game [] ≡ None

-- this holds of the formats of both versions
abbrev pub EmptyFilesShowNone : Type 0
EmptyFilesShowNone = (game : ℕ) → NoneShowNone (λ version. contents (format_of version)) game
