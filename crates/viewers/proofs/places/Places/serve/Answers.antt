use Rattle.viewers.proofs.places.Places.serve.Goals as goal

pub returns-then-is_signed_at : goal.returns-then-is_signed_at
returns-then-is_signed_at g c = λ h. absurd (cc (h, c.limit_signed.ensures, c.is_signed_at.ensures, c.if-is_signed_at.true))
