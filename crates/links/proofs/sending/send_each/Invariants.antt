use Rattle.std.proofs.Common.{◌≡◌, ◌++◌, map, take}
use Rattle.links.specs.Passed.{sent_to}
use Rattle.links.specs.declared.link.Receivers.TheVariants.{ToAll}
use Rattle.links.proofs.sending.send_each.Given as goal

abbrev pub invariant-loop-datagram : goal.invariant-loop-datagram
invariant-loop-datagram g l =
    g.L.Link.log l.link ≡ g.L.Link.log l.initial.link ++ sent_to ToAll (map (λ d. d.bytes) (take l.datagram-index l.datagrams))
