use Rattle.std.proofs.Common.{◌≡◌, ◌+◌, ℕ, List, [], ◌++◌, length, Bool, ◌||◌, Option}
use Rattle.std.specs.Io.KnownBytes.{Appends}
use Rattle.books.specs.declared.table.Table.{Table}
use Rattle.notation.specs.Lines.{lines_of}
use Rattle.streams.specs.Watched.{stream_of, failures}
use Rattle.books.specs.Table.{IsInStep, agreed_in, innings_in}
use Rattle.books.specs.Taking.{book_after}
use Rattle.commands.specs.Check.{rejections, has_rejected}
use Rattle.commands.proofs.check.check_lines.Given as goal

-- what was taken and written so far, together with what the remaining lines will add, is what the whole
-- input makes
pub record Midway (innings : ℕ) (input : List ℕ) (lines : List (List ℕ)) (number : ℕ) (rejected : Bool) (table : Table) (before after : Option (List ℕ)) : Type 0 where
  pub numbered : number + length lines ≡ length (lines_of input)
  pub in_step : IsInStep table
  pub same_match : innings_in table ≡ innings
  pub taken : book_after innings (agreed_in table) lines ≡ book_after innings [] (lines_of input)
  pub text : List ℕ
  pub written : Appends before after text
  pub whole : text ++ rejections innings (number + 1) (agreed_in table) lines ≡ rejections innings 1 [] (lines_of input)
  pub told : (rejected || has_rejected innings (agreed_in table) lines) ≡ has_rejected innings [] (lines_of input)

abbrev pub invariant-loop-line : goal.invariant-loop-line
invariant-loop-line g l =
    Midway (innings_in l.initial.table) l.input l.lines l.number l.rejected l.table (g.W.Sink.contents (stream_of l.initial.out)) (g.W.Sink.contents (stream_of l.out))
    × (failures l.out ≡ failures l.initial.out)

abbrev pub decreases-loop-line : goal.decreases-loop-line
decreases-loop-line g l = length l.lines
