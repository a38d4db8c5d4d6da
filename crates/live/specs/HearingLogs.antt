-- The messages in a log of what was heard.
use Rattle.std.specs.Prelude.{List, [], ◌∷◌, ◌++◌}
use Rattle.live.specs.Hearings.{Hearing, hearing_of}
use Rattle.live.specs.declared.hearing_log.HearingLog.{HearingLog}
use Rattle.live.specs.declared.hearing_log.HearingLog as told

abbrev pub hearings_of : HearingLog → List Hearing
hearings_of told.Empty = []
hearings_of (told.Heard' marker before message at) = hearings_of before ++ hearing_of message.value at.value ∷ []
