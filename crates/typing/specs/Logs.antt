-- The keys and rows in a log of what was heard.
use Rattle.std.specs.Prelude.{List, [], ◌∷◌, ◌++◌, take}
use Rattle.typing.specs.declared.heard.HeardLog.{HeardLog}
use Rattle.typing.specs.declared.heard.HeardLog as logs
use Rattle.typing.specs.Courses.{Heard, Pressed, Rows}

abbrev pub heard_in : HeardLog → List Heard
heard_in logs.Empty = []
heard_in (logs.Key' marker before byte) = heard_in before ++ Pressed byte.value ∷ []
heard_in (logs.Rows' marker before buffer count) = heard_in before ++ Rows (take count.value buffer.value) ∷ []
