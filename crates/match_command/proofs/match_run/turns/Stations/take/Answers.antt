use Rattle.std.proofs.Common.{sym, ap, ◌∙◌, ◌≡◌, ◌++◌, ◌∷◌, [], length, refl, List, ℕ}
use Rattle.std.specs.Prelude.{OnOk}
use Rattle.std.proofs.lemmas.Result.{on_ok_weaker}
use Rattle.notation.specs.declared.entry.Entry.{Entry}
use Rattle.desk.proofs.RestoreLemmas.{error_of}
use Rattle.books.specs.Taking.{answer_to, taking, with_taken}
use Rattle.match_command.specs.inner.Turns.{VotesFor, book_at, innings_at}
use Rattle.match_command.proofs.TurnLemmas.{Agreed, agreed, first_left, second_left, third_left}
use Rattle.match_command.proofs.match_run.turns.Stations.take.Given.{Over}
use Rattle.match_command.proofs.match_run.turns.Stations.take.Goals as goal
use Rattle.match_command.proofs.match_run.turns.Stations.take.Goals.{After-agree, In_ok-pen}

-- the first desk has penned the line's entry
voted : (g : Over) (c : In_ok-pen g) → VotesFor c.in-Ok.entry c.args.self.now.a c.pen.new.desk
voted g c = let level = c.requires.level in c.in_ok-pen.ensures.voted level.level_a

more : (g : Over) (c : In_ok-pen g)
    → with_taken (answer_to (innings_at c.args.self.now.a) (book_at c.args.self.now.a) c.args.line.now) (book_at c.args.self.now.a) ≡ book_at c.args.self.now.a ++ c.in-Ok.entry ∷ []
more g c = let v = voted g c in rw (← c.in-Ok.ensures.exact, v.taken) refl

-- both desks have penned the entry, and all three stations have agreed it
all_agreed : (g : Over) (c : After-agree g) → OnOk c.agree.result (Agreed c.args.self.now.a c.args.self.now.b c.agree.new.self.a c.agree.new.self.b c.args.self.now.board c.agree.new.self.board
    c.in-Ok.entry (g.L.Link.log c.args.link.now) (g.L.Link.log c.agree.new.link))
all_agreed g c =
    let level = c.requires.level in
    let old = c.args.self.now in
    let new = c.agree.new.self in
    let a = c.agree.ensures in
    let place = c.len-place.ensures.entries ∙ ap (λ book. length book.entries) c.book.ensures in
    agreed c.agree.result old.a c.pen.new.desk new.a old.b c.pen-2.new.desk new.b old.board new.board c.in-Ok.entry c.len-place.result _ _ level
    (c.in_ok-pen.ensures.voted level.level_a) (c.in_ok-pen-2.ensures.voted level.level_b) c.pen.ensures.owner c.pen-2.ensures.owner place
    a.disk_a a.disk_b a.kept_a a.kept_b a.board a.online a.at_a a.at_b a.at_board

pub returns-in-Err-clause-left : goal.returns-in-Err-clause-left
returns-in-Err-clause-left g c = let level = c.requires.level in (level.level_a.held, rw level.book at level.level_b.held)

pub returns-in_err-pen-clause-left : goal.returns-in_err-pen-clause-left
returns-in_err-pen-clause-left g c =
    let level = c.requires.level in
    let old = c.args.self.now in
    error_of c.from_residual.result c.in_err-pen.field-0.0 _ c.from_residual.ensures.1
    (first_left old.a c.pen.new.desk old.b c.args.line.now c.in-Ok.entry c.in_err-pen.field-0.0 (rw (← c.in-Ok.ensures.exact) refl)
    (c.in_err-pen.ensures.left level.level_a) (rw level.book at level.level_b.held))

pub returns-in_err-pen-2-clause-left : goal.returns-in_err-pen-2-clause-left
returns-in_err-pen-2-clause-left g c =
    let level = c.requires.level in
    let a = c.args.self.now.a in
    let at = (goal.at.returns-in_err-pen-2-clause-left g c).In_ok-pen in
    let v = voted g at in
    let taken = ap (λ (n : ℕ). taking n (book_at c.args.self.now.b) c.in-Ok.entry) level.innings ∙ (ap (λ (es : List Entry). taking (innings_at a) es c.in-Ok.entry) level.book ∙ v.taken) in
    error_of c.from_residual-in_err-pen-2.result c.in_err-pen-2.field-0.0 _ c.from_residual-in_err-pen-2.ensures.1
    (second_left c.pen.new.desk c.args.self.now.b c.pen-2.new.desk (book_at a) (with_taken (answer_to (innings_at a) (book_at a) c.args.line.now) (book_at a)) c.args.number c.in-Ok.entry
    c.in_err-pen-2.field-0.0 (more g at) level.book taken (c.in_err-pen-2.ensures.why level.level_b) (c.in_err-pen-2.ensures.left level.level_b) v.turn.held)

pub returns-clause-left : goal.returns-clause-left
returns-clause-left g c =
    let level = c.requires.level in
    let vb = c.in_ok-pen-2.ensures.voted level.level_b in
    let at = (goal.at.returns-clause-left g c).In_ok-pen in
    let va = voted g at in
    let a = c.agree.ensures in
    rw (more g at) (third_left c.agree.result c.pen.new.desk c.agree.new.self.a c.pen-2.new.desk c.agree.new.self.b (book_at c.args.self.now.a) (book_at c.args.self.now.a ++ c.in-Ok.entry ∷ [])
    c.len-place.result a.only a.disk_a a.disk_b va.turn.held (rw level.book at vb.turn.held))

pub returns-clause-level : goal.returns-clause-level
returns-clause-level g c = on_ok_weaker c.agree.result (λ all. all.level) (all_agreed g (goal.at.returns-clause-level g c).After-agree)

pub returns-clause-calm_still : goal.returns-clause-calm_still
returns-clause-calm_still g c = on_ok_weaker c.agree.result (λ all. all.calm) (all_agreed g (goal.at.returns-clause-calm_still g c).After-agree)

pub returns-clause-book : goal.returns-clause-book
returns-clause-book g c =
    let is = sym (more g (goal.at.returns-clause-book g c).In_ok-pen) in
    on_ok_weaker c.agree.result (λ all. all.book ∙ is) (all_agreed g (goal.at.returns-clause-book g c).After-agree)

pub returns-clause-online : goal.returns-clause-online
returns-clause-online g c = on_ok_weaker c.agree.result (λ all. all.online) (all_agreed g (goal.at.returns-clause-online g c).After-agree)
