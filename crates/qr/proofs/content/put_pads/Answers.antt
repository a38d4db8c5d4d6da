use Rattle.std.proofs.Common.{◌++◌, ◌∷◌, [], ℕ, List, arith, sym, ap, ◌∙◌, append_assoc}
use Rattle.std.proofs.lemmas.List.FromFn.{map-range_with_len_more}
use Rattle.qr.specs.Content.{pad, pads}
use Rattle.qr.proofs.content.put_pads.Goals as goal

pub loop-k-preserved : goal.loop-k-preserved
loop-k-preserved c =
    let m = c.loop-k.invariant in record {
      put = rw (c.push.ensures.items, m.put, c.pad.ensures, map-range_with_len_more pad 0 c.loop-k.k c.loop-k.k (omega arith)) (append_assoc c.args.codewords.now.items (pads c.loop-k.k) _);
      len = omega (arith, c.push.ensures.len, m.len);
    }
