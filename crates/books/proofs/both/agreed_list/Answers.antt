use Rattle.std.proofs.Common.{◌≡◌, ◌∙◌, length, sym, arith}
use Rattle.vote_store.proofs.FileLemmas.{oldest-all}
use Rattle.books.specs.DeskVotes.{read_votes}
use Rattle.books.proofs.AgreedSoFar.{begun, passed, taken}
use Rattle.books.proofs.SoundVotes.{are_votes}
use Rattle.books.proofs.both.agreed_list.Goals.{then-settles+in_ok-add, else-settles}
use Rattle.books.proofs.both.agreed_list.Goals as goal

pub loop-i-init : goal.loop-i-init
loop-i-init c = rw c.new-list.ensures.items (begun (read_votes c.args.a.now) (read_votes c.args.b.now))

pub loop-i-preserved : goal.loop-i-preserved
loop-i-preserved c =
    let vote = c.nth-vote in
    let votes = are_votes c.args.a.now in
    let long = c.len.ensures ∙ c.loop-i.list.ok.0 in
    elim c.if-settles.branch [
      | then-settles+in_ok-add w ↦
          let both_have = c.settles.ensures.0 w.if-settles.true in
          rw (w.list-is, w.in_ok-add.ensures)
          (taken vote.result votes vote.ensures.vote c.loop-i.invariant vote.ensures.entry vote.ensures.in_range (both_have.0 ∙ long) both_have.1)
      | else-settles w ↦ rw w.list-is (passed vote.result votes vote.ensures.vote c.loop-i.invariant λ here h.
          let yes = c.settles.ensures.1 (here ∙ sym long, h) in let no = w.if-settles.false in absurd (cc))
    ]

pub returns-clause-agreed : goal.returns-clause-agreed
returns-clause-agreed c =
    let all : length (read_votes c.args.a.now) ≡ c.loop-i.i = omega (arith, c.loop-i.auto.i-end, c.loop-i-test.false, c.count-i-end.ensures) in
    rw (oldest-all (read_votes c.args.a.now) c.loop-i.i all) at c.loop-i.invariant.agreed
