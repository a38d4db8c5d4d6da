-- The setting of a match: its files, rules and scores.
use Rattle.std.specs.Prelude.{ℕ, List}
use Rattle.match_laws.specs.Stands.{StandsFor}
use Rattle.corrections.specs.CleanList.{history_of}
use Rattle.corrections.specs.declared.refusal.Refusal.{Refusal}
use Rattle.corrections.specs.Refusal.{book_refusal}
use Rattle.entry_log.specs.declared.mem_disk.MemDisk.{MemDisk}
use Rattle.entry_log.specs.Disk.{Images}
use Rattle.entry_log.specs.Format.{Format, contents, room}
use Rattle.entry_log.specs.MemDisk.{file_of, images_of}
use Rattle.entry_log.specs.Slots.{FileContents}
use Rattle.entry_log.specs.Version1.{version_1}
use Rattle.entry_log.specs.Version2.{version_2}
use Rattle.agree_core.specs.Desks.{most_votes}
use Rattle.vote_store.specs.View.{file_view}
use Rattle.headline.specs.declared.version.FileVersion.{FileVersion}
use Rattle.headline.specs.Setting.{Setting}
use Rattle.headline.specs.declared.version.FileVersion.TheVariants.{Old, New}

abbrev pub format_of : FileVersion → Format
format_of Old = version_1
format_of New = version_2

-- the length in bytes of the largest file of this version
abbrev pub most_bytes : FileVersion → ℕ
most_bytes version = room (format_of version) most_votes

-- The match of this number, with this many innings a side: what a file of each version shows of its bytes, and the bytes that a
-- disk has and may have after a power loss. The standing of a book's history is shown as its score.
abbrev pub setting_of :
    {Disk : Type 0} → (FileVersion → FileContents) → (Disk → List ℕ) → (Disk → Images) → ℕ → ℕ → Setting Disk Refusal
setting_of file seen images game innings =
    record {
      view = λ d version. file_view (file version) seen images d game;
      rules = book_refusal innings;
      shows = λ book score. StandsFor score innings (history_of book);
    }

-- that match on disks in memory
abbrev pub match_of : ℕ → ℕ → Setting MemDisk Refusal
match_of game innings = setting_of (λ version. contents (format_of version)) file_of images_of game innings
