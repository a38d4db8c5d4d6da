-- Answers to events.
use Rattle.std.specs.Prelude.{ℕ, Bool, false}
use Rattle.agree_core.specs.declared.seat.{Heard.Heard, Settled.Settled}
use Rattle.agree_core.specs.Boards.{BoardAnswer}
use Rattle.agree_core.specs.Desks.{PenRefusal}

-- the answer to an event
pub data Answer (Why : Type 0) : Type 0 where
  -- the entry is penned, and what this made of the round; or it isn't penned, and why
  Penned : Settled → Answer Why
  NotPenned : PenRefusal Why → Answer Why
  -- how many messages are handed out
  Ticked : ℕ → Answer Why
  -- what the desk or board made of the vote that it was given
  Told : Heard → Answer Why
  -- an ask was given; whether a reply was handed out
  Asked : Bool → Answer Why
  -- both desks' votes are equal, but the book's rules refuse their entry
  BadVotes : Answer Why
  -- the desk had failed before
  HasFailed : Answer Why
  -- a device call failed, or the desk was stopped at one
  DeviceFailed : Answer Why
  Stopped : Answer Why
  -- the desk is opened; how many entries its book has
  Opened : ℕ → Answer Why
  -- the desk isn't opened: its file is no sound file of its votes, or the votes make no book
  Unsound : Answer Why
  NoBook : Answer Why
  -- the file is migrated; how many votes it has
  Migrated : ℕ → Answer Why
  -- the file isn't migrated: it is of another version
  OtherVersion : Answer Why
  -- any other event is done, without further answer
  Done : Answer Why

-- the answer of an event, from a board's own answer
abbrev pub board_told : {Why : Type 0} → BoardAnswer → Answer Why
board_told (BoardAnswer.Told h) = Told h
board_told BoardAnswer.Asked = Asked false
board_told (BoardAnswer.BadVotes place) = BadVotes
