use Rattle.page.proofs.overs.put_before.Goals as goal

pub returns-in-Some : goal.returns-in-Some
returns-in-Some c = rw c.in-Some.is (c.put_another.ensures c.args.overs)
