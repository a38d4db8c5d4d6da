use Rattle.std.proofs.Common.{◌≡◌, ◌∙◌, ◌++◌, ◌∷◌, [], ℕ, List, ap, append-nil, refl, subst, sym}
use Rattle.std.specs.Prelude.{Some}
use Rattle.agree_core.specs.declared.messages.{Message.Message}
use Rattle.board.specs.Board.{game_of}
use Rattle.board.specs.Rounds.{recalled}
use Rattle.board.specs.declared.trouble.Why.{Why}
use Rattle.links.specs.Passed.{Passed, Sent}
use Rattle.links.specs.declared.link.Receivers.TheVariants.{ToOne}
use Rattle.live.specs.Boards.{memory_of}
use Rattle.live.specs.Paces.{ticking_of}
use Rattle.station_texts.specs.Notices.{with_trouble}
use Rattle.station_texts.specs.declared.notices.Notice.{Notice}
use Rattle.wire.specs.Layout.{written}
use Rattle.wire.specs.Reading.{Reads}
use Rattle.wire.proofs.MessageLemmas.{place_of}
use Rattle.live.proofs.BoardLemmas.{gone_back, parted}
use Rattle.live.proofs.HearingLemmas.{hears_none}
use Rattle.live.proofs.RoundLemmas.{ok_same, two_passed}
use Rattle.live.proofs.board_loop.recall.Goals as goal

pub returns-in-Some-clause-goes : goal.returns-in-Some-clause-goes
returns-in-Some-clause-goes g c = λ bytes sheet logs seen turns had taken reads few came.
    let found = c.in-Some.ensures.parted c.in-Some.place refl in
    let own = c.requires.own in
    let game = game_of c.args.board.now in
    let back = written c.game.result (Message.Vote c.args.own) in
    let own_bytes = ap (λ (n : ℕ). written n (Message.Vote c.args.own)) c.game.ensures in
    let says = subst (Reads game bytes) found.2 reads in
    let recalls = subst (λ (m : Message). recalled c.args.watch.now.witness m ≡ Some c.args.own) (ok_same c.args.read.now own.0 (Message.Vote found.1) own.1 found.2) own.2 in
    let told = c.part.ensures in
    let place = sym found.3 ∙ sym (place_of game bytes (Message.Vote found.1) says) in
    let before = c.args.between.now.telling in
    parted bytes back found.1 c.args.between.now.pace.in_time (ap ticking_of told.pace) few found.0 says (c.args.own, recalls, own_bytes)
    (λ i. memory_of ((told.telling ∙ ap (λ (p : ℕ). with_trouble before p Why.Anew) place) i) (told.witness i) (told.later i))
    (told.told ∙ ap (λ (p : ℕ). g.N.Notices.told c.args.watch.now.notices ++ Notice.Parted p ∷ []) place)
    (two_passed logs.passed bytes back (c.hand_back.ensures ∙ ap (λ (log : List Passed). log ++ Sent ToOne back ∷ []) came))

pub returns-in_default-clause-goes : goal.returns-in_default-clause-goes
returns-in_default-clause-goes g c = λ bytes sheet logs seen turns had taken reads few came.
    let own = c.requires.own in
    let game = game_of c.args.board.now in
    let back = written c.game.result (Message.Vote c.args.own) in
    gone_back bytes back own.0 c.args.between.now.pace.in_time few (subst (Reads game bytes) own.1 reads)
    (c.in_default.ensures.none refl own.0 own.1) (c.args.own, own.2, ap (λ (n : ℕ). written n (Message.Vote c.args.own)) c.game.ensures)
    (two_passed logs.passed bytes back (c.hand_back.ensures ∙ ap (λ (log : List Passed). log ++ Sent ToOne back ∷ []) came))

pub returns-in-Some-clause-hears : goal.returns-in-Some-clause-hears
returns-in-Some-clause-hears g c = λ times told.
    hears_none (game_of c.args.board.now) ToOne (Message.Vote c.args.own ∷ []) [] (rw c.game.ensures at c.hand_back.ensures) (rw append-nil)

pub returns-in_default-clause-hears : goal.returns-in_default-clause-hears
returns-in_default-clause-hears g c = λ times told.
    hears_none (game_of c.args.board.now) ToOne (Message.Vote c.args.own ∷ []) [] (rw c.game.ensures at c.hand_back.ensures) (rw append-nil)
