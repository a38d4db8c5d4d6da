use Rattle.std.proofs.Common.{◌≡◌, ◌<◌, ◌+◌, ◌∙◌, ◌++◌, ◌∷◌, [], ℕ, List, ap, get_or, length, sym, take}
use Rattle.std.proofs.lemmas.List.{take_more}
use Rattle.machine_files.proofs.call_log.ByteLog.of.Goals as goal

step : (bytes : List ℕ) (at byte : ℕ) (old new : List ℕ) → at < length bytes → old ≡ take at bytes
    → new ≡ old ++ get_or bytes at byte ∷ [] → new ≡ take (at + 1) bytes
step bytes at byte old new within is more = more ∙ ap (λ front. front ++ get_or bytes at byte ∷ []) is ∙ sym (take_more bytes at byte within)

pub loop-byte-preserved : goal.loop-byte-preserved
loop-byte-preserved c =
    step c.args.bytes.now c.loop-byte.byte-index _ _ _ c.loop-byte-test.true c.loop-byte.invariant c.more-log.ensures
