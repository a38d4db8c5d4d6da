use Rattle.std.proofs.Common.{refl}
use Rattle.help.proofs.texts.help_on.Goals as goal

pub returns-in-Help : goal.returns-in-Help
returns-in-Help c = rw c.in-Help.is refl

pub returns-in-Desk : goal.returns-in-Desk
returns-in-Desk c = rw c.in-Desk.is refl

pub returns-in-Board : goal.returns-in-Board
returns-in-Board c = rw c.in-Board.is refl

pub returns-in-Export : goal.returns-in-Export
returns-in-Export c = rw c.in-Export.is refl

pub returns-in-Page : goal.returns-in-Page
returns-in-Page c = rw c.in-Page.is refl

pub returns-in-Lines : goal.returns-in-Lines
returns-in-Lines c = rw c.in-Lines.is refl

pub returns-in-Compare : goal.returns-in-Compare
returns-in-Compare c = rw c.in-Compare.is refl

pub returns-in-Replay : goal.returns-in-Replay
returns-in-Replay c = rw c.in-Replay.is refl
