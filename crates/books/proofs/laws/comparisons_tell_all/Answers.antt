use Rattle.std.proofs.Common.{◌≡◌, ◌∙◌, length, ap}
use Rattle.agree_core.specs.declared.messages.DeskId.TheVariants.{A, B}
use Rattle.books.proofs.OneList.{one_list}
use Rattle.books.proofs.SameVotes.{no_difference, same_votes}
use Rattle.books.proofs.SoundVotes.{in_file}
use Rattle.books.proofs.laws.comparisons_tell_all.Goals as goal

pub returns-clause-counted : goal.returns-clause-counted
returns-clause-counted _ = λ s a b c book compared made.
    let first : made.votes.a ≡ compared.votes.a = cc (made.read.first, compared.read.first) in
    let second : made.votes.b ≡ compared.votes.b = cc (made.read.second, compared.read.second) in
    let votes : made.votes ≡ compared.votes = λ i. record { a = first i; b = second i } in
    let sound = (in_file A s.game a compared.votes.a compared.read.first).sequence in
    compared.agreed ∙ ap length (one_list compared.votes sound compared.list book compared.agreed_list (rw votes at made.agreed))

pub returns-clause-nothing_told : goal.returns-clause-nothing_told
returns-clause-nothing_told _ = λ game a b v read.
    let first = in_file A game a v.a read.first in
    let second = in_file B game b v.b read.second in
    (same_votes v first second, no_difference v first second)
