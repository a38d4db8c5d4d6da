-- What `replay` prints: a line for the answer to each event, and then how many entries are agreed, and the stations.
use Rattle.std.specs.Prelude.{ℕ, ◌+◌, ◌==◌, if◌then◌else◌, List, [], ◌∷◌, ◌++◌, codes, decimal, length, Option, Some, None}
use Rattle.notation.specs.declared.entry.Entry.{Entry}
use Rattle.ball_laws.specs.History.{History}
use Rattle.match_laws.specs.Figures.{total, wickets}
use Rattle.match_laws.specs.History.{begun}
use Rattle.match_laws.specs.Result.{current}
use Rattle.corrections.specs.CleanList.{history_of}
use Rattle.entry_log.specs.declared.mem_disk.MemDisk.{MemDisk}
use Rattle.agree_core.specs.declared.messages.DeskId.{DeskId}
use Rattle.agree_core.specs.declared.messages.DeskId.TheVariants.{A, B}
use Rattle.agree_core.specs.Boards.{BoardState}
use Rattle.agree_core.specs.Desks.{DeskState}
use Rattle.schedule_replay.specs.declared.seen.Seen.{Seen}
use Rattle.schedule_replay.specs.Lending.{running_of}
use Rattle.schedules.specs.ScheduleLines.{desk_word}
use Rattle.schedule_replay.specs.SeenWords.{seen_words}
use Rattle.headline.specs.Configurations.{Configuration, node}

-- the texts of these items, numbered from n
abbrev pub numbered : {X : Type 0} → (ℕ → X → List ℕ) → ℕ → List X → List ℕ
numbered text n [] = []
numbered text n (x ∷ more) = text n x ++ numbered text (n + 1) more

-- the line of event n
abbrev pub event_line : ℕ → Seen → List ℕ
event_line n seen = decimal n ++ codes " " ++ seen_words seen ++ codes "\n"

-- the lines of events with these answers
abbrev pub event_lines : List Seen → List ℕ
event_lines outcomes = numbered event_line 1 outcomes

-- the line of event n, which the world refuses with this number
abbrev pub refusal_line : ℕ → ℕ → List ℕ
refusal_line n number = decimal n ++ codes " world refused " ++ decimal number ++ codes "\n"

-- how many entries are agreed
abbrev pub agreed_line : ℕ → List ℕ
agreed_line entries = codes "agreed " ++ decimal entries ++ codes "\n"

-- the score of the innings that began last
abbrev pub score_words : History → List ℕ
score_words h =
    if begun h == 0
    then codes "no play"
    else decimal (total h (current h)) ++ codes " for " ++ decimal (wickets h (current h))

-- the text after a station's name: how many entries its book has, and the score
abbrev pub book_words : ℕ → History → List ℕ
book_words entries h = codes " " ++ decimal entries ++ codes " " ++ score_words h ++ codes "\n"

-- the line of a station with this book
abbrev pub book_line : List ℕ → List Entry → List ℕ
book_line name book = name ++ book_words (length book) (history_of book)

-- the line of a desk, which runs or is down
abbrev pub desk_line : List ℕ → Option (DeskState MemDisk) → List ℕ
desk_line name (Some k) = book_line name k.book
desk_line name None = name ++ codes " down\n"

abbrev pub board_line : ℕ → BoardState → List ℕ
board_line n k = book_line (decimal n) k.book

abbrev pub line_of_desk : Configuration MemDisk → DeskId → List ℕ
line_of_desk w d = desk_line (desk_word d) (running_of (node w d).process)

-- the lines of both desks and the boards
abbrev pub station_lines : Configuration MemDisk → List ℕ
station_lines w = line_of_desk w A ++ line_of_desk w B ++ numbered board_line 1 w.boards

-- the lines after those of the events
abbrev pub last_lines : ℕ → Configuration MemDisk → List ℕ
last_lines entries w = agreed_line entries ++ station_lines w
