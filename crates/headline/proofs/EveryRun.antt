-- What holds in a run: the headline, and the other claims.
use Rattle.std.proofs.Common.{ℕ, List}
use Rattle.agree_core.proofs.FileBooks.{agreed_by_files}
use Rattle.agree_core.specs.Ballots.{AllJustified}
use Rattle.headline.specs.declared.version.FileVersion.{FileVersion}
use Rattle.headline.specs.Setting.{Setting}
use Rattle.headline.specs.Configurations.{Configuration, all_votes}
use Rattle.headline.specs.Runs.{Begins, Moment, Run, last_of}
use Rattle.headline.specs.KeptVotes.{KeepsNoted}
use Rattle.headline.specs.Besides.{StandsFast}
use Rattle.headline.specs.Headline.{ArePenned, ByBoth, Headline, NoneWaits, TakesSecond}
use Rattle.headline.specs.Laws.{HoldsInRun}
use Rattle.headline.proofs.Keeping.{all_justified, begins_fine, run_keeps}
use Rattle.headline.proofs.LawScores.{RulesAreLaws, ShowsStandings, laws_shown, scored}
use Rattle.headline.proofs.NotedRuns.{after_each, keeps_noted}
use Rattle.headline.proofs.PennedVotes.{all_penned}
use Rattle.headline.proofs.Scores.{one_score}
use Rattle.headline.proofs.SecondVotes.{none_waits, takes_second}
use Rattle.headline.proofs.ShownBooks.{by_both, each_moment, one_book_shown, stands_fast, votes_kept, within_agreed}
use Rattle.headline.proofs.Sound.{sound_answers}

module _ {Disk Why : Type 0} (s : Setting Disk Why) (innings : ℕ) (rules : RulesAreLaws s innings) (stands : ShowsStandings s innings) where
  headline : (version : FileVersion) (n : ℕ) (w : Configuration Disk) (ms : List (Moment Disk Why)) → Begins s version n w → Run s w ms → Headline s innings w ms
  headline version n w ms e r =
      let f = begins_fine s version n w e in
      record {
        prefixes = one_book_shown s w ms f r;
        by_both = (each_moment s w ms ByBoth (by_both s) f r, after_each s w ms (ArePenned w) (λ ns q. all_penned s version n w ns e q) r);
        shown = laws_shown s innings rules stands version n w ms e r;
        scored = λ ranges. scored s innings rules version n w ms e r ranges;
        scores = one_score s innings version n w ms e r;
        has_entry = (after_each s w ms (TakesSecond s w) (takes_second s version n w e) r, after_each s w ms (NoneWaits s w) (none_waits s version n w e) r);
      }

  pub holds_in_run : (version : FileVersion) (n : ℕ) (w : Configuration Disk) (ms : List (Moment Disk Why)) → Begins s version n w → Run s w ms → HoldsInRun s innings w ms
  holds_in_run version n w ms e r =
      let f = begins_fine s version n w e in
      record {
        headline = headline version n w ms e r;
        within_agreed = within_agreed s w ms f r;
        by_files = λ xs h. agreed_by_files (all_votes (last_of w ms)) (all_justified s (last_of w ms) (run_keeps s w ms f r)) xs h;
        justified = each_moment s w ms (λ v. AllJustified (all_votes v)) (all_justified s) f r;
        noted = after_each s w ms (KeepsNoted s w) (λ ns q. keeps_noted s version n w ns e q) r;
        votes_kept = votes_kept s w ms f r;
        stands_fast = each_moment s w ms (StandsFast s) (stands_fast s) f r;
        sound = sound_answers s version n w ms e r;
      }
