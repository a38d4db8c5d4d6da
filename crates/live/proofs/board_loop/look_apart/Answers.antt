use Rattle.std.proofs.Common.{◌∙◌, ◌++◌, ◌∷◌, [], ℕ, ap, refl}
use Rattle.agree_core.specs.declared.position.Position.{Position}
use Rattle.board.specs.declared.trouble.Why.{Why}
use Rattle.live.specs.Boards.{memory_of}
use Rattle.live.specs.Paces.{ticking_of}
use Rattle.station_texts.specs.Notices.{with_trouble}
use Rattle.station_texts.specs.declared.notices.Notice.{Notice}
use Rattle.live.proofs.BoardLemmas.{told_apart}
use Rattle.live.proofs.board_loop.look_apart.Goals as goal

pub returns-then-is_over-clause-goes : goal.returns-then-is_over-clause-goes
returns-then-is_over-clause-goes g c = λ sheet logs seen turns had taken.
    let told = c.tell_apart.ensures in
    let apart = c.if-is_apart.ensures in
    let before = c.args.between.now in
    let place = ap (λ (p : Position). p.place) c.position-place.ensures in
    told_apart {ticking = ticking_of before.pace} before.pace.in_time (ap ticking_of told.pace) (apart.apart refl) (apart.untold refl)
    (λ i. memory_of ((told.telling ∙ ap (λ (p : ℕ). with_trouble before.telling p Why.Apart) place) i) (told.witness i) (told.later i))
    (told.told ∙ ap (λ (p : ℕ). g.N.Notices.told c.args.watch.now.notices ++ Notice.Apart p ∷ []) place)
