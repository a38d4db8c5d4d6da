-- Who bowls, who bats and who is in where a line belongs.
use Rattle.std.specs.Prelude.{◌==◌, nat_lt, Bool, false, if◌then◌else◌, List, [], ◌∷◌, unwrap_or}
use Rattle.notation.specs.declared.entry.Entry.{Entry}
use Rattle.notation.specs.declared.entry.Side.TheVariants.{Home}
use Rattle.ball_laws.specs.History.{History, open_over}
use Rattle.ball_laws.specs.Laws.{state_after}
use Rattle.match_laws.specs.History.{last_side}
use Rattle.corrections.specs.declared.placed.Placed.{Placed}
use Rattle.corrections.specs.CleanList.{clean_items_of, history_of}
use Rattle.corrections.specs.Overs.{newest_bowler}
use Rattle.shorthand.specs.declared.{names.Among.Among, full.Belongs.Belongs, delivery.Point.Point}
use Rattle.shorthand.specs.declared.names.Among.TheVariants.{Anyone, AnEnd}
use Rattle.shorthand.specs.declared.full.Belongs.TheVariants.{Last, At, After}

-- the bowler of the open over's last delivery, and the side that began to bat last (home, before any)
abbrev pub point_of : History → Point
point_of h = record { bowler = newest_bowler (open_over h); batting = unwrap_or (last_side h) Home }

-- the item is the one that a `fix` line corrects
abbrev pub is_corrected : Belongs → Placed → Bool
is_corrected (At p) x = x.place == p
is_corrected _ x = false

-- the item comes after everything that belongs to the place of a `late` line
abbrev pub is_beyond : Belongs → Placed → Bool
is_beyond (After p) x = nat_lt p x.anchor
is_beyond _ x = false

-- the history up to where a line belongs, newest first, after h: all items, or those up to and with the corrected one, or
-- those up to the last that belongs to the place
abbrev pub history_to : Belongs → History → List Placed → History
history_to place h [] = h
history_to place h (x ∷ xs) =
    if is_beyond place x then h
    else if is_corrected place x then x.item ∷ h
    else history_to place (x.item ∷ h) xs

abbrev pub point_at : List Entry → Belongs → Point
point_at book place = point_of (history_to place [] (clean_items_of book))

-- whom the name of a leaving batter may mean: those who are in for a line at the end of the book, else anyone
abbrev pub batters_at : List Entry → Belongs → Among
batters_at book Last = AnEnd (state_after (history_of book)).ends
batters_at book (At p) = Anyone
batters_at book (After p) = Anyone
