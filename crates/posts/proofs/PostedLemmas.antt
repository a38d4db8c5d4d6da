-- Logged lines were posted.
use Rattle.posts.specs.PostedLogs.{WerePosted}
use Rattle.posts.specs.declared.posted_log.PostedLog.{PostedLog, Empty, Line'}

pub were_posted : (log : PostedLog) → WerePosted log
were_posted Empty = tt
were_posted (Line' marker before line) = (were_posted before, line.value.posted)
