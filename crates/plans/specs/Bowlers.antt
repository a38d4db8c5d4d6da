-- The corrections that make another player the bowler of an over.
use Rattle.std.specs.Prelude.{ℕ, Bool, true, List, [], ◌∷◌, ◌++◌}
use Rattle.notation.specs.declared.entry.{Plain.Plain, Entry.Entry}
use Rattle.notation.specs.declared.entry.Entry.TheVariants.{Fix}
use Rattle.ball_laws.specs.History.{History}
use Rattle.match_laws.specs.Result.{current}
use Rattle.corrections.specs.declared.placed.Placed.{Placed}
use Rattle.corrections.specs.CleanList.{clean_items_of, history_of}
use Rattle.over_numbers.specs.Counts.{counted, is_in_over}

-- the correction that makes player p the bowler of an item, if that is a delivery of the over
abbrev pub fix_by : Bool → ℕ → ℕ → Plain → List Entry
fix_by true p place (Plain.Ball b) = Fix place (Plain.Ball (record b { bowler = p })) ∷ []
fix_by _ p place x = []

-- those for each delivery of an over, from 1, of innings i, among the items after the history h
abbrev pub fixes_by : ℕ → ℕ → ℕ → History → List Placed → List Entry
fixes_by i over p h [] = []
fixes_by i over p h (x ∷ xs) = fix_by (is_in_over (counted h) i over) p x.place x.item ++ fixes_by i over p (x.item ∷ h) xs

-- those for each delivery of an over of the innings begun last
abbrev pub over_by : List Entry → ℕ → ℕ → List Entry
over_by book over p = fixes_by (current (history_of book)) over p [] (clean_items_of book)
