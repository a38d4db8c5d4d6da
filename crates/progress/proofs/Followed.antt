-- When a board's book is the agreed list.
use Rattle.std.proofs.Common.{◌⊎◌, ℕ, List, [], ◌∷◌, ◌++◌, subst, arith}
use Rattle.agree_core.specs.declared.messages.DeskId.TheVariants.{A, B}
use Rattle.agree_core.specs.Agreed.{EqualVotes, IsAgreedList}
use Rattle.agree_core.specs.Ballots.{AllJustified, AllVotes}
use Rattle.agree_core.specs.Boards.{BoardState}
use Rattle.agree_core.specs.Keeping.{BoardFine, Each}
use Rattle.agree_core.specs.Positions.{Before}
use Rattle.agree_core.specs.Readers.{ReaderState, ReaderWaits}
use Rattle.agree_core.proofs.Both.{both_settled}
use Rattle.headline.specs.Besides.{AtEachEvent, IsSoundAnswer}
use Rattle.headline.specs.Configurations.{Configuration}
use Rattle.headline.specs.Runs.{Moment}
use Rattle.progress.specs.InStep.{BothVoted}
use Rattle.progress.proofs.Boards.{BoardRounds}
use Rattle.progress.proofs.Rounds.{voted_up_to}
use Rattle.progress.proofs.BoardTrips.{ear}
use Rattle.progress.proofs.Exchanges.{Done, NoVote}

-- the answers of the later moments of a run are sound
pub all_sound : {Disk Why : Type 0} (w : Configuration Disk) (more ms : List (Moment Disk Why)) → AtEachEvent w (more ++ ms) (λ v m. IsSoundAnswer m.event m.answer)
    → Each (λ m. IsSoundAnswer m.event m.answer) more
all_sound w [] ms h = tt
all_sound w (m ∷ more) ms h = (h.1, all_sound w more ms h.0)

-- a board has the agreed list unless both desks have voted at its position
pub agreed_board : (v : AllVotes) → AllJustified v → (k : BoardState) → BoardFine v k → BoardRounds v k → (BothVoted v k.reader.position → ⊥) → IsAgreedList v k.book
agreed_board v j k f rounds none = (
  both_settled v j 0 k.book f.both,
  λ round e h. none (voted_up_to v j k.reader.position rounds round e (subst (λ (p : ℕ). EqualVotes v p round e) f.long h)),
)

-- after an exchange with each desk the reader has moved on, or one of the desks hasn't voted at its position
pub lacks : (v : AllVotes) (r t : ReaderState) → ReaderWaits t → Done v.a (ear A r) (ear A t) → Done v.b (ear B r) (ear B t)
    → Before r.position t.position ⊎ (NoVote v.a t.position ⊎ NoVote v.b t.position)
lacks v r t w h4 y = grind arith
