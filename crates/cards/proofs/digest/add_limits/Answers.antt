use Rattle.std.proofs.Common.{◌≡◌, ◌++◌, ℕ, List, append_assoc}
use Rattle.cards.specs.Digest.{bowler_bytes, each_overs, each_powerplay, free_bytes}
use Rattle.cards.proofs.digest.add_limits.Goals as goal

regroup : (m a b c d : List ℕ) → (((m ++ a) ++ b) ++ c) ++ d ≡ m ++ (a ++ (b ++ (c ++ d)))
regroup m a b c d = simp append_assoc

pub returns : goal.returns
returns c = λ m h.
    let l = c.args.limits.now in
    let overs = c.add_each_overs.ensures m h in
    let bowler = c.add_bowler.ensures _ overs in
    let free = c.add_free_hits.ensures _ bowler in
    let all = c.add_powerplays.ensures _ free in
    rw (
      c.overs.ensures,
      c.overs_a_bowler.ensures,
      c.free_hits.ensures,
      c.powerplays.ensures,
      regroup m (each_overs l.overs) (bowler_bytes l.overs_a_bowler) (free_bytes l.free_hits) (each_powerplay l.powerplays),
    ) at all
