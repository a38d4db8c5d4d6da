use Rattle.std.proofs.Common.{◌≡◌, ◌∙◌, ◌++◌, List, ℕ, ap, drop, rules}
use Rattle.board_command.specs.Waiting.{head_of}
use Rattle.board_command.proofs.WaitingLemmas.{of_ok}
use Rattle.board_command.proofs.waiting.is_state.Goals as goal

pub returns : goal.returns
returns c =
    let begins = c.if-not-starts_with.ensures.cases in
    let head : c.as_str.result.now ≡ head_of c.args.game = search rules in
    of_ok (λ is valid h. record { rest = drop begins.0 c.args.line.now; begins = begins.1.1 ∙ ap (λ (l : List ℕ). l ++ drop begins.0 c.args.line.now) head; value = valid.0 h }) c.is_valid.result c.is_valid.ensures.ok
