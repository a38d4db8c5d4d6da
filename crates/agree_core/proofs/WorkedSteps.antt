-- The worked calls of desks and of a board are those of the definitions.
use Rattle.std.proofs.Common.{◌≡◌, ◌≢◌, None, List, [], refl, inl, inr, arith}
use Rattle.notation.specs.declared.entry.Entry.{Entry}
use Rattle.agree_core.specs.declared.messages.DeskId.TheVariants.{A, B}
use Rattle.agree_core.specs.declared.messages.Message.{Message}
use Rattle.agree_core.specs.Ballots.{Ballot}
use Rattle.agree_core.specs.Books.{Rules}
use Rattle.agree_core.specs.FileView.{Holds, Stays}
use Rattle.agree_core.specs.WorkedSteps.{DiffersAndAgrees, FailedAndOpened, Shown, StoppedAndOpened, VotesOfNoBook, shows, synced}

other_desk : B ≢ A
other_desk e = cc

holds : (votes : List Ballot) → Holds shows (synced votes) votes
holds votes = (refl, λ image i. elim i [ inl e ↦ e | inr e ↦ e ])

stays : (disk : Shown) → Stays shows disk disk
stays disk = (refl, λ image. (λ i. i, λ i. i))

module _ {Why : Type 0} (rules : Rules Why) where
  pub differs_and_agrees : (four six : Entry) → rules [] four ≡ None → rules [] six ≡ None → six ≢ four → DiffersAndAgrees rules four six
  differs_and_agrees four six f s unlike = grind (arith, holds, other_desk, stays)

  pub stopped_and_opened : (e f : Entry) → rules [] e ≡ None → StoppedAndOpened rules e f
  stopped_and_opened e f h = grind (arith, holds, stays, other_desk)

  pub failed_and_opened : (e f : Entry) (m : Message) → rules [] e ≡ None → FailedAndOpened rules e f m
  failed_and_opened e f m h = grind (arith, stays, holds)

  pub votes_of_no_book : (e : Entry) → rules [] e ≢ None → VotesOfNoBook rules e
  votes_of_no_book e h = (
    ((refl, refl, refl, refl), (λ q. absurd (cc)), refl),
    ((_, (refl, refl, refl, refl)), h, refl, refl),
    (_, refl, inl (h, refl), holds _),
  )
