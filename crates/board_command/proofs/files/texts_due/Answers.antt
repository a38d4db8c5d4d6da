use Rattle.board_command.proofs.files.texts_due.Goals as goal

pub returns : goal.returns
returns g c = record {
  lines = c.lines_due-lines.ensures;
  state = c.state_due-state.ensures;
  script = c.script_due-script.ensures _ c.state_due-state.ensures.1;
}
