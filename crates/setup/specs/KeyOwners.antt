-- The owner of a file of keys for each pair.
use Rattle.std.specs.Prelude.{ℕ, Bool, true, false, List, codes}
use Rattle.agree_core.specs.declared.messages.Asker.{Asker}
use Rattle.setup.specs.declared.key_owner.KeyOwner.{KeyOwner}
use Rattle.setup.specs.declared.key_owner.KeyOwner.TheVariants.{DeskA, DeskB, Board1, Board2, Board3, Board4}

-- the first line of the owner's file
abbrev pub owner_line : KeyOwner → List ℕ
owner_line DeskA = codes "yermudosh key of desk a\n"
owner_line DeskB = codes "yermudosh key of desk b\n"
owner_line Board1 = codes "yermudosh key of board1\n"
owner_line Board2 = codes "yermudosh key of board2\n"
owner_line Board3 = codes "yermudosh key of board3\n"
owner_line Board4 = codes "yermudosh key of board4\n"

-- the name of the owner's file, after its folder's name
abbrev pub file_name : KeyOwner → List ℕ
file_name DeskA = codes "/a.key"
file_name DeskB = codes "/b.key"
file_name Board1 = codes "/board1.key"
file_name Board2 = codes "/board2.key"
file_name Board3 = codes "/board3.key"
file_name Board4 = codes "/board4.key"

-- the owner's station
abbrev pub owner_station : KeyOwner → Asker
owner_station DeskA = Asker.A
owner_station DeskB = Asker.B
owner_station other = Asker.Board

abbrev pub is_station : Asker → Asker → Bool
is_station Asker.A Asker.A = true
is_station Asker.B Asker.B = true
is_station Asker.Board Asker.Board = true
is_station station other = false
