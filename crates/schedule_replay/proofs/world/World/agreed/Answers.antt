use Rattle.std.proofs.lemmas.Result.{IfOk-weaker}
use Rattle.agree_core.specs.declared.messages.DeskId.TheVariants.{A, B}
use Rattle.schedule_replay.proofs.ReadLemmas.{of_names}
use Rattle.schedule_replay.proofs.world.World.agreed.Goals as goal

pub into_votes-requires-clause-read : goal.into_votes-requires-clause-read
into_votes-requires-clause-read c = let r = c.requires.read in let h = r.1 in (r.0.a, h.sites A, of_names c.args.self A r.0 r.1 r.2)

pub into_votes-requires-2-clause-read : goal.into_votes-requires-2-clause-read
into_votes-requires-2-clause-read c = let r = c.requires.read in let h = r.1 in (r.0.b, h.sites B, of_names c.args.self B r.0 r.1 r.2)

pub returns : goal.returns
returns c =
    IfOk-weaker c.agreed_list.result _ _
    (λ list h. λ w is reads.
    let a = c.in_ok-a.ensures.votes w.a (let s = is in s.sites A) (of_names c.args.self A w is reads) in
    let b = c.in_ok-b.ensures.votes w.b (let s = is in s.sites B) (of_names c.args.self B w is reads) in
    rw (← a, ← b) h)
    c.agreed_list.ensures
