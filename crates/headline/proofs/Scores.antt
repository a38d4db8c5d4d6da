-- Books of equal length have one score.
use Rattle.std.proofs.Common.{arith}
use Rattle.std.proofs.Common.{◌≡◌, ℕ, List, sym, ◌∙◌}
use Rattle.ball_laws.specs.History.{History}
use Rattle.match_laws.specs.declared.standing.Standing.{Standing}
use Rattle.match_laws.specs.Stands.{StandsFor}
use Rattle.corrections.specs.CleanList.{history_of}
use Rattle.headline.specs.declared.version.FileVersion.{FileVersion}
use Rattle.headline.specs.Setting.{Setting}
use Rattle.headline.specs.Configurations.{Configuration, all_votes}
use Rattle.headline.specs.Runs.{Begins, Moment, Run, last_of}
use Rattle.headline.specs.Headline.{HaveOneScore, ShowsScore}
use Rattle.headline.proofs.Keeping.{all_justified, begins_fine, run_keeps}
use Rattle.headline.proofs.ShownBooks.{moment, shown_settled}
use Rattle.headline.proofs.Sound.{one_of_length}

-- a history has one standing
pub one_standing : (m k : Standing) (n : ℕ) (h : History) → StandsFor m n h → StandsFor k n h → m ≡ k
one_standing m k n h p q = grind arith

pub one_score : {Disk Why : Type 0} (s : Setting Disk Why) (innings : ℕ) (version : FileVersion) (boards : ℕ) (w : Configuration Disk) (ms : List (Moment Disk Why)) → Begins s version boards w
    → Run s w ms → HaveOneScore innings w ms
one_score s innings version boards w ms begins run t u n score other p q =
    let f = begins_fine s version boards w begins in
    let x = moment s w ms (λ v. ShowsScore innings v t n score) f run p in
    let y = moment s w ms (λ v. ShowsScore innings v u n other) f run q in
    let j = all_justified s (last_of w ms) (run_keeps s w ms f run) in
    let xs = shown_settled s x.0 t x.3.0 x.1 x.3.1 in
    let ys = shown_settled s y.0 u y.3.0 y.1 y.3.1 in
    let same = one_of_length (all_votes (last_of w ms)) (all_votes x.0) (all_votes y.0) j x.3.0 y.3.0 x.2 y.2 xs ys (sym x.3.2 ∙ y.3.2) in
    one_standing score other innings (history_of y.3.0) (rw same at x.3.3.score) y.3.3.score
