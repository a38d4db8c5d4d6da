use Rattle.std.proofs.Common.{ap, take}
use Rattle.board_command.proofs.WaitingLemmas.{joined}
use Rattle.board_command.proofs.waiting.unheard.Goals as goal

pub returns : goal.returns
returns c = record {
  count = c.book_len-count.result;
  tells = c.book_len-count.ensures.book;
  state_is = joined c.new-state.ensures.items c.in_ok-extend_from_slice.ensures.items (ap (take c.book_len-count.result) c.as_bytes-bytes.ensures.value)
      c.in_ok-extend_from_slice-2.ensures.items c.as_bytes.ensures.value;
}
