use Rattle.std.proofs.Common.{refl}
use Rattle.std.proofs.Math.Logic.{∥∥₁_map}
use Rattle.desk_command.specs.Lives.{copy_of, path_of, traces_in}
use Rattle.desk_command.proofs.laws.a_life_is_a_process.Goals as goal

pub returns : goal.returns
returns c =
    let life = c.args._life.now in
    ∥∥₁_map life.kept (λ w. (record { path = path_of life; copy = copy_of life; traces = traces_in life; kept = w }, record { letter = refl; path = refl; copy = refl; traces = refl }))
