-- An entry may be penned, or is refused for one cause.
use Rattle.std.proofs.Common.{◌≡◌, ◌⊎◌, nat_le, Option, Some, None, length, if◌then◌else◌, refl, inl, inr, arith, MatchOption}
use Rattle.std.specs.Option.{is_some}
use Rattle.std.proofs.lemmas.Bool.Decides.{nat_tests}
use Rattle.notation.specs.declared.entry.{Entry.Entry, TheConstants.PLACES}
use Rattle.agree_core.specs.declared.position.TheConstants.{ROUNDS}
use Rattle.agree_core.specs.Books.{Rules}
use Rattle.agree_core.specs.Desks.{DeskState, MayPen, PenRefusal, RefusesPen, most_votes}

module _ {Disk Why : Type 0} (rules : Rules Why) (k : DeskState Disk) (e : Entry) where
  abbrev by_rules : Option Why → Option (PenRefusal Why)
  by_rules None = None
  by_rules (Some why) = Some (PenRefusal.Illegal why)

  -- the first cause for which the entry is refused, if there is one
  abbrev first_cause : Option (PenRefusal Why)
  first_cause =
      if k.failed then Some PenRefusal.Failed
      else if is_some k.seat.mine then Some PenRefusal.Waiting
      else if nat_le PLACES k.seat.position.place then Some PenRefusal.PlacesFull
      else if nat_le ROUNDS k.seat.position.round then Some PenRefusal.RoundsFull
      else if nat_le most_votes (length k.votes) then Some PenRefusal.SlotsFull
      else by_rules (rules k.book e)

  none : MayPen rules k e → first_cause ≡ None
  none m = grind (arith, nat_tests)

  one : (why : PenRefusal Why) → RefusesPen rules k e why → first_cause ≡ Some why
  one why r = grind (arith, nat_tests)

  said : (o : Option (PenRefusal Why)) → first_cause ≡ o → MatchOption o (MayPen rules k e) (RefusesPen rules k e)
  said o h = grind (arith, nat_tests)

  pub not_both : (why : PenRefusal Why) → MayPen rules k e → RefusesPen rules k e why → ⊥
  not_both why m r = grind (arith, none m, one why r)

  pub one_cause : (why other : PenRefusal Why) → RefusesPen rules k e why → RefusesPen rules k e other → why ≡ other
  one_cause why other r s = grind (arith, one why r, one other s)

  pub may_or_refused : MayPen rules k e ⊎ ((why : PenRefusal Why) × RefusesPen rules k e why)
  may_or_refused = elim first_cause as (λ o. first_cause ≡ o → MayPen rules k e ⊎ ((why : PenRefusal Why) × RefusesPen rules k e why)) [
    | None ↦ λ h. inl (said None h)
    | Some why ↦ λ h. inr (why, said (Some why) h)
  ] refl
