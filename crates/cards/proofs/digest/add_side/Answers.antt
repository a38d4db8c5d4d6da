use Rattle.std.proofs.Common.{◌≡◌, ◌+◌, arith, ap, ◌∙◌, append_assoc}
use Rattle.std.proofs.lemmas.List.{append-nil}
use Rattle.cards.specs.Sheet.{player_of}
use Rattle.cards.specs.Digest.{text, texts_from}
use Rattle.cards.proofs.SheetForms.{texts_more}
use Rattle.cards.proofs.digest.add_side.Goals as goal

pub loop-index-init : goal.loop-index-init
unfolding texts_from
loop-index-init c = λ m h. rw append-nil h

pub loop-index-preserved : goal.loop-index-preserved
loop-index-preserved c = λ m h.
    let f = player_of c.args.sheet.now c.args.side in
    let i = c.loop-index.index in
    let before = c.add_text-in-loop-index.ensures _ (c.loop-index.invariant m h) in
    let number : c.player_at.result ≡ 1 + i = c.player_at.ensures ∙ (omega arith) in
    let name : c.player.result.now ≡ f (1 + i) = c.player.ensures ∙ ap f number in
    rw (← texts_more f 1 i, ← name, ← append_assoc m (texts_from f 1 i) (text c.player.result.now)) before

pub returns : goal.returns
returns c = λ m h.
    let f = player_of c.args.sheet.now c.args.side in
    let eleven : c.loop-index.index ≡ 11 = omega arith in
    let last = c.loop-index.invariant _ (c.add_text.ensures m h) in
    rw (← c.name.ensures, ← append_assoc m (text c.name.result.now) (texts_from f 1 11)) (rw eleven at last)
