-- What holds in every run of a match, with any code, any disks and any form of file.
use Rattle.std.specs.Prelude.{ℕ, List}
use Rattle.notation.specs.declared.entry.Entry.{Entry}
use Rattle.corrections.specs.declared.refusal.Refusal.{Refusal}
use Rattle.entry_log.specs.Disk.{Images}
use Rattle.entry_log.specs.Slots.{FileContents}
use Rattle.agree_core.specs.Agreed.{IsAgreedList}
use Rattle.agree_core.specs.Ballots.{AllJustified}
use Rattle.agree_core.specs.Books.{IsAgreedByFiles}
use Rattle.headline.specs.declared.version.FileVersion.{FileVersion}
use Rattle.headline.specs.Configurations.{Configuration, all_votes}
use Rattle.headline.specs.Runs.{AtEachMoment, Begins, Moment, Run, last_of, AfterEach}
use Rattle.headline.specs.KeptVotes.{KeepsNoted}
use Rattle.headline.specs.Besides.{IsSoundAnswer, KeepsVotes, StandsFast, WithinAgreed, AtEachEvent}
use Rattle.headline.specs.Headline.{Headline}
use Rattle.headline.specs.Match.{setting_of}
use Rattle.headline.specs.Setting.{Setting}

-- the list that both files show is the agreed list of the last votes
abbrev pub FilesShowAgreed : {Disk Why : Type 0} → Configuration Disk → List (Moment Disk Why) → Type 0
FilesShowAgreed w ms =
    (xs : List Entry) → IsAgreedByFiles (all_votes (last_of w ms)).a (all_votes (last_of w ms)).b xs
    → IsAgreedList (all_votes (last_of w ms)) xs

-- what holds in a run
pub record HoldsInRun
    {Disk Why : Type 0} (s : Setting Disk Why) (innings : ℕ) (w : Configuration Disk) (ms : List (Moment Disk Why))
    : Type 0 where
  pub headline : Headline s innings w ms
  -- besides, each book is a prefix of the agreed list of the last votes, and both files show that list
  pub within_agreed : WithinAgreed w ms
  pub by_files : FilesShowAgreed w ms
  -- at each moment each vote of a desk follows from the one before it and the other desk's votes there
  pub justified : AtEachMoment w ms (λ v. AllJustified (all_votes v))
  -- seats and readers keep exactly the noted votes
  pub noted : AfterEach ms (KeepsNoted s w)
  -- no vote is lost; how votes stand and are kept at each moment; and which answers never come
  pub votes_kept : AtEachEvent w ms KeepsVotes
  pub stands_fast : AtEachMoment w ms (StandsFast s)
  pub sound : AtEachEvent w ms (λ v m. IsSoundAnswer m.event m.answer)

-- for disks of this kind, with `seen` as what is read, and `images` as what a power loss may leave
module _ {Disk : Type 0} (seen : Disk → List ℕ) (images : Disk → Images) where
  -- it holds in each run of the match of this number, whatever a file of either version shows of its bytes (`contents`)
  abbrev pub HoldsInEachRun : Type 0
  HoldsInEachRun =
      (contents : FileVersion → FileContents) (game innings : ℕ) (version : FileVersion) (boards : ℕ) (w : Configuration Disk)
      (ms : List (Moment Disk Refusal)) → Begins (setting_of contents seen images game innings) version boards w
      → Run (setting_of contents seen images game innings) w ms
      → HoldsInRun (setting_of contents seen images game innings) innings w ms
