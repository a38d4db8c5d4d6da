-- What a station's link passes, and what its socket carries.
use Rattle.std.specs.Prelude.{ℕ, List}
use Rattle.links.specs.Passed.{Passed}
use Rattle.links.specs.Windows.{IsFaithful}
use Rattle.seal.specs.Opening.{passing}
use Rattle.seal.specs.declared.ring.Ring.{Ring}

-- What a station said and heard passed through a window over datagrams sealed with this ring, which were carried: nothing but
-- asks was sent that it hadn't said, and nothing but asks was heard that hadn't come sealed.
pub record WasCarried (ring : Ring) (passed carried : List Passed) : Type 0 where
  pub game : ℕ
  pub faithful : IsFaithful game passed (passing ring carried)
