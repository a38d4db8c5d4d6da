use Rattle.agree_core.specs.declared.messages.DeskId.TheVariants.{A, B}
use Rattle.notation.specs.declared.entry.TheConstants.{PLACES}
use Rattle.books.proofs.SoundVotes.{in_file}
use Rattle.books.proofs.WholeRuns.{whole_runs}
use Rattle.books.proofs.laws.one_history_is_whole.Goals as goal

pub returns : goal.returns
returns _ = λ game a b v read justified.
    whole_runs v (in_file A game a v.a read.first) (in_file B game b v.b read.second) justified PLACES
