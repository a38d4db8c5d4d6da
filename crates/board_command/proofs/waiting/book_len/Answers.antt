use Rattle.std.proofs.Common.{false, inl, inr, true≢false, rules, sym}
use Rattle.std.proofs.lemmas.Str.Pattern.{contains_text}
use Rattle.board_command.specs.Waiting.{heard_mark}
use Rattle.board_command.proofs.WaitingLemmas.{cut_at}
use Rattle.board_command.proofs.waiting.book_len.Goals as goal

pub returns-in-Some-clause-book : goal.returns-in-Some-clause-book
returns-in-Some-clause-book c =
    let found = c.in-Some.ensures.cases in
    inl (cut_at heard_mark c.args.line.now c.in-Some.end found.0 found.1.0 found.1.1 (search rules))

pub returns-in-None-clause-book : goal.returns-in-None-clause-book
returns-in-None-clause-book c =
    inr (λ h. true≢false (sym ((contains_text false heard_mark c.args.line.now c.in-None.ensures.cases).1 h)), search rules)
