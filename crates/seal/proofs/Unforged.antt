-- What opens was sent.
use Rattle.std.proofs.Common.{◌≡◌, ◌∙◌, ℕ, zero, suc, List, [], ◌∷◌, length, sym, subst, ap, Some, arith, replicate, length-append}
use Rattle.std.specs.Prelude.{All, slice_get}
use Rattle.agree_core.specs.declared.messages.Message.{Message}
use Rattle.wire.specs.Layout.{IsMessage, body, written}
use Rattle.wire.proofs.MessageLemmas.{message_once, message_body_length}
use Rattle.seal.proofs.SealedForms.{front}
use Rattle.seal.specs.Unforged.{OpenedWasSent}

-- each item of a list of messages is a message
message_at : (xs : List Message) (i : ℕ) (n : Message) → All IsMessage xs → slice_get xs i ≡ Some n → IsMessage n
message_at [] i n fine e = absurd (cc)
message_at (x ∷ xs) zero n fine e = let same : x ≡ n = cc in subst IsMessage same (fine 0 x (omega arith))
message_at (x ∷ xs) (suc i) n fine e = message_at xs i n (λ k d less. fine (suc k) d (omega arith)) e

long : (game : ℕ) (n : Message) → length (written game n) ≡ 48
long game n =
    let middle = message_body_length n in
    let both = length-append (body n) (replicate 5 0) in
    omega (arith, middle, both)

pub opened_was_sent : OpenedWasSent
opened_was_sent = λ seal game sent bytes m fine unforged l e n says.
    let there = unforged m l e in
    let found : Message = there.1.0 in
    let same : written game found ≡ m = sym (front seal (written game found) bytes (long game found) there.1.2) ∙ front seal m bytes l e in
    let one = message_once game game found n (message_at sent there.0 found fine there.1.1) says.0 (same ∙ says.1) in
    (there.0, there.1.1 ∙ ap Some one)
