use Rattle.page.proofs.printing.put_overs_of.Goals as goal

pub returns : goal.returns
returns g c =
    let s = rw c.requires at c.score-score.ensures.score in
    rw (c.as_slice.ensures.value, c.in_ok-moments.ensures) at (c.put_course.ensures _ _ s)
