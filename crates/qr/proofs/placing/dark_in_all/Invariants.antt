use Rattle.std.proofs.Common.{◌≡◌, ◌<◌, ℕ, false, get_or, length}
use Rattle.qr.specs.Modules.{is_dark_in_all}
use Rattle.qr.proofs.placing.dark_in_all.Given as goal

abbrev pub invariant-loop-at : goal.invariant-loop-at
invariant-loop-at l = record {
  len : length l.modules ≡ 1089;
  each : (i : ℕ) → i < l.at → get_or l.modules i false ≡ is_dark_in_all i;
}
