use Rattle.std.proofs.Common.{◌≡◌, ◌++◌, ◌∷◌, [], ℕ, List, append_assoc}
use Rattle.std.specs.Int.{w64, to_be_bytes}
use Rattle.notation.specs.declared.entry.Side.TheVariants.{Home, Away}
use Rattle.cards.specs.Digest.{limits_text, side_text, text}
use Rattle.cards.proofs.digest.digest_of.Goals as goal

regroup : (a b c d e f : List ℕ) → ((((([] ++ a) ++ b) ++ c) ++ d) ++ e) ++ f ≡ a ++ (b ++ (c ++ (d ++ (e ++ f))))
regroup a b c d e f = simp append_assoc

pub returns : goal.returns
returns c =
    let s = c.args.sheet.now in
    let title = c.add_text.ensures [] c.new-hasher.ensures in
    let game = c.update.ensures _ title in
    let innings = c.update-2.ensures _ game in
    let home = c.add_side.ensures _ innings in
    let away = c.add_side-2.ensures _ home in
    let all = c.finalize.ensures _ (c.add_limits.ensures _ away) in
    rw (
      c.title.ensures,
      c.as_slice.ensures,
      c.to_be_bytes.ensures,
      c.game.ensures,
      c.as_slice-2.ensures,
      c.innings.ensures.value,
      c.limits.ensures,
      regroup (text s.title) (to_be_bytes w64 s.game) (s.innings ∷ []) (side_text s Home) (side_text s Away) (limits_text s.limits),
    ) at all
