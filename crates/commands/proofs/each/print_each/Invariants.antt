use Rattle.std.proofs.Common.{◌≡◌, ◌+◌, ℕ, List, ◌++◌, length, Bool, ◌||◌, Option, flat_map}
use Rattle.std.specs.List.{list_any}
use Rattle.notation.specs.Lines.{lines_of}
use Rattle.streams.specs.Watched.{Prints, failures}
use Rattle.streams.specs.declared.watched.Watched.{Watched}
use Rattle.commands.specs.Each.{AreOutcomes, Outcome, Tells, is_told, printed_of, told_of}
use Rattle.commands.specs.MatchFiles.{Known}
use Rattle.commands.specs.declared.product.Product.{Product}
use Rattle.commands.proofs.each.print_each.Given as goal

-- what came of the lines so far, with what will come of those that are left, is what comes of the whole list
pub record Midway
    {S T : Type 0} (known : Known) (product : Product) (contents : S → Option (List ℕ)) (old new : Watched S)
    (errors : T → Option (List ℕ)) (before after : Watched T)
    (list : List ℕ) (lines : List (List ℕ)) (number : ℕ) (any_told : Bool) : Type 0 where
  pub numbered : number + length lines ≡ length (lines_of list)
  pub outcomes : List Outcome
  pub are : (more : List Outcome) → AreOutcomes known product (number + 1) lines more → AreOutcomes known product 1 (lines_of list) (outcomes ++ more)
  pub text : List ℕ
  pub printed : Prints contents old new text
  pub frames : (more : List Outcome) → flat_map printed_of (outcomes ++ more) ≡ text ++ flat_map printed_of more
  pub says : List ℕ
  pub told : Tells errors before after says
  pub refusals : (more : List Outcome) → flat_map told_of (outcomes ++ more) ≡ says ++ flat_map told_of more
  pub answer : (more : List Outcome) → list_any is_told (outcomes ++ more) ≡ (any_told || list_any is_told more)

abbrev pub invariant-loop-line : goal.invariant-loop-line
invariant-loop-line g l =
    Midway (g.F.Files.known l.files) l.product g.W.Sink.contents l.initial.out l.out g.E.Sink.contents l.initial.errors l.errors
    l.list l.lines l.number l.any_told
    × (failures l.out ≡ failures l.initial.out)

abbrev pub decreases-loop-line : goal.decreases-loop-line
decreases-loop-line g l = length l.lines
