use Rattle.std.proofs.Common.{subst, sym, take}
use Rattle.std.specs.Option.{ForSome}
use Rattle.wire.specs.Layout.{Says}
use Rattle.links.specs.Windows.{Windowed}
use Rattle.links.proofs.WindowLemmas.{brought_in, gives}
use Rattle.links.proofs.window.WindowLink.take_message.Goals as goal

pub invariant_of-self : goal.invariant_of-self
invariant_of-self g c = gives c.came.ensures (brought_in c.self.view_is (c.next-taken.ensures.brought _ c.in-Datagram.is).1) c.self.invariant

pub read_in-read-requires : goal.read_in-read-requires
read_in-read-requires g c =
    subst (λ (w : Windowed). ForSome c.next-taken.result.1 (Says w.game (take c.in-Datagram.count c.next-taken.new.buffer))) (sym c.self.view_is)
    (c.next-taken.ensures.says _ c.in-Datagram.is)
