-- When a board heard its desks, by what it was told that it heard.
use Rattle.live.specs.HearingLogs.{hearings_of}
use Rattle.board_command.specs.Hearing.{board_begun, heard_in}
use Rattle.board_command.specs.declared.hearing.{HeardAt.HeardAt, Hearings.Hearings}

abbrev pub times_of : Hearings → HeardAt
times_of hearings = heard_in (board_begun hearings.at.begun) (hearings_of hearings.log)
