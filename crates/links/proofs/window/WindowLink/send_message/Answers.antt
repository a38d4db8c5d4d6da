use Rattle.std.proofs.Common.{subst}
use Rattle.wire.specs.Reading.{Reads}
use Rattle.links.specs.Windows.{Windowed}
use Rattle.links.proofs.window.WindowLink.send_message.Goals as goal

pub send_read-requires : goal.send_read-requires
send_read-requires g c =
    subst (λ (w : Windowed). Reads w.game c.args.bytes.now c.read_in-read.result) c.self.view_is (subst (λ b. Reads c.self.inside.game b c.read_in-read.result) c.as_slice.ensures c.read_in-read.ensures)
