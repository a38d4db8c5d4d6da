use Rattle.std.proofs.Common.{◌∙◌, ◌++◌, ◌∷◌, [], ℕ, List, ap}
use Rattle.links.specs.Passed.{Sent}
use Rattle.links.specs.declared.link.Receivers.TheVariants.{ToOne}
use Rattle.live.proofs.board_loop.hand_back.Goals as goal

pub returns : goal.returns
returns g c = c.reply.ensures ∙ ap (λ (bytes : List ℕ). g.L.Link.log c.args.link.now ++ Sent ToOne bytes ∷ []) c.bytes_of-bytes.ensures
