use Rattle.links.proofs.WindowLemmas.{ask_in}
use Rattle.links.proofs.window.Window.ask_for_vote.Goals as goal

pub send_to_voter-requires : goal.send_to_voter-requires
send_to_voter-requires g c = ask_in c.self.view_is c.ask_for.ensures c.in-Some.is
