use Rattle.std.proofs.Common.{◌≡◌, ◌<◌, ◌≤◌, ℕ, false, get_or, length, map}
use Rattle.std.specs.List.{range_with_len}
use Rattle.qr.specs.Modules.{data_places, is_dark_in_all, is_data, is_set, unmasked}
use Rattle.qr.proofs.placing.placed.Given as goal

abbrev pub invariant-loop-step : goal.invariant-loop-step
invariant-loop-step l = record {
  few : l.bit ≤ l.step;
  len : length l.modules ≡ 1089;
  count : length (data_places l.step) ≡ l.bit;
  bits : map (unmasked l.modules) (data_places l.step) ≡ map (is_set l.codewords) (range_with_len 0 l.bit);
  pattern : (at : ℕ) → at < 1089 → is_data at ≡ false → get_or l.modules at false ≡ is_dark_in_all at;
}
