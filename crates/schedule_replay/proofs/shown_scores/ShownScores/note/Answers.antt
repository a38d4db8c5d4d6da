use Rattle.std.proofs.Common.{sym, ap, ◌∙◌, subst, true}
use Rattle.std.specs.Prelude.{slice_set, ◌<◌, ℕ}
use Rattle.schedule_replay.specs.inner.ShownScores.{most_marks}
use Rattle.schedule_replay.proofs.NoteLemmas.{added_kept, mark_read, marked_there, one_added, stands_there}
use Rattle.schedule_replay.proofs.shown_scores.ShownScores.note.Goals as goal

pub returns-then-index-clause-noted : goal.returns-then-index-clause-noted
returns-then-index-clause-noted c =
    let mark = c.mark_of-mark.ensures in
    let is = mark_read c.args.self.now c.args.station c.args.length c.mark_of-mark.result c.index.result.now c.requires.kept mark.mark mark.within c.index.ensures in
    stands_there c.args.station c.args.length c.args.score.now c.args.self.now.seen.items
    (marked_there c.args.station c.args.length c.args.score.now c.args.self.now c.requires.kept c.requires.station c.requires.length (sym is ∙ c.if-index.true) c.requires.one)

pub returns-clause-noted : goal.returns-clause-noted
returns-clause-noted c = rw c.in_ok-push.ensures.items (one_added c.args.station c.args.length c.args.score.now c.args.self.now.seen.items)

pub returns-clause-kept : goal.returns-clause-kept
returns-clause-kept c =
    let mark = c.mark_of-mark.ensures in
    let is = mark_read c.args.self.now c.args.station c.args.length c.mark_of-mark.result c.index.result.now c.requires.kept mark.mark mark.within c.index.ensures in
    added_kept c.args.station c.args.length c.args.score.now c.args.self.now _ c.requires.station c.requires.length
    (subst (λ (n : ℕ). n < most_marks) mark.mark mark.within) c.requires.kept (λ there. let no = c.if-index.false in cc)
    (ap (λ (n : ℕ). slice_set c.args.self.now.marks.items n true) mark.mark) c.in_ok-push.ensures.items
