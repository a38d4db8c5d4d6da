-- Facts of an innings that has begun.
use Rattle.std.specs.Prelude.{ℕ}
use Rattle.ball_laws.specs.History.{History}
use Rattle.match_laws.specs.Stands.{ForEachHistory}
use Rattle.cards.specs.Sheet.{Sheet}
use Rattle.cards.specs.declared.innings.Innings.{Innings}

-- P holds of the sheet, of each history that the match stands for, and of the innings' number
abbrev pub ForInnings : Innings → (Sheet → History → ℕ → Type 0) → Type 0
ForInnings innings P = ForEachHistory innings.score.now (λ n h. P innings.sheet.now h innings.index)
