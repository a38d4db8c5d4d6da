use Rattle.setup.proofs.sealing.Sealing.of.Goals as goal

pub returns-in_ok-file-in-Some-clause-ring : goal.returns-in_ok-file-in-Some-clause-ring
returns-in_ok-file-in-Some-clause-ring c =
    rw (c.in-Some.is, c.with.ensures.ring, c.with.ensures.text) (rw c.digest_of-digest.ensures at c.in_ok-file-in-Some.ensures)
