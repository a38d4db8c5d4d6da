use Rattle.page.proofs.growth.put_line_of.Goals as goal

pub returns : goal.returns
returns c = λ n h s.
    rw (c.line_class-class.ensures, c.side.ensures n h s, c.as_str.ensures.value, c.in_ok-points.ensures, c.as_str-2.ensures.value, c.in_ok-marks.ensures)
    at c.put_line.ensures
