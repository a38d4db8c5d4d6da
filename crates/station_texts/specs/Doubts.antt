-- Whether a desk doubts that its file has all its lines. It does when the other desk votes at a position that it can't have
-- reached by what this desk has voted, or when a vote of this desk comes that isn't in its file. While it doubts, it casts no
-- vote.
use Rattle.std.specs.Prelude.{ℕ, Bool, true, false, if◌then◌else◌, List, [], codes}
use Rattle.station_texts.specs.declared.doubt.{Doubt.Doubt, Evidence.Evidence}
use Rattle.station_texts.specs.declared.doubt.Doubt.TheVariants.{No, Yes, Lost, Dismissed}
use Rattle.station_texts.specs.declared.doubt.Evidence.TheVariants.{Nothing, OtherLacks, Ahead, Unkept, Level}

-- A doubt ends when the other desk is at this desk's position, unless a vote of this desk is lost. It also ends when the scorer
-- says `go on`, and then no doubt arises again.
abbrev pub doubt_after : Doubt → Evidence → Doubt
doubt_after No Ahead = Yes
doubt_after No Unkept = Lost
doubt_after Yes Unkept = Lost
doubt_after Yes Level = No
doubt_after doubt evidence = doubt

abbrev pub holds_up : Doubt → Bool
holds_up Yes = true
holds_up Lost = true
holds_up doubt = false

abbrev pub dismissed : Doubt → Doubt
dismissed No = No
dismissed doubt = Dismissed

-- the evidence shows that a desk's file lacks lines
abbrev pub is_loss : Evidence → Bool
is_loss OtherLacks = true
is_loss Ahead = true
is_loss Unkept = true
is_loss evidence = false

-- ---- what the scorer is told

abbrev pub ahead_line : List ℕ
ahead_line = codes "this file lacks lines that the other desk has: put the right file back, or type go on\n"

abbrev pub unkept_line : List ℕ
unkept_line = codes "this file lacks lines that a board has, or two laptops are this desk: put the right file back, or type go on\n"

-- told when a doubt begins or ends
abbrev pub doubt_text : Doubt → Evidence → List ℕ
doubt_text No Ahead = ahead_line
doubt_text No Unkept = unkept_line
doubt_text Yes Unkept = unkept_line
doubt_text Yes Level = codes "the other desk is at the same place: this desk takes lines again\n"
doubt_text doubt evidence = []

-- told when the scorer asks where the desk stands
abbrev pub doubted_text : Doubt → List ℕ
doubted_text Yes = ahead_line
doubted_text Lost = unkept_line
doubted_text doubt = []

-- told when the scorer says `go on`
abbrev pub going_text : Bool → List ℕ
going_text true = codes "this desk goes on with its file as it is\n"
going_text false = codes "nothing holds this desk up\n"
