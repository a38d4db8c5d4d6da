-- Deliveries named by their over and their number in it, both from 1, such as `9.2`.
use Rattle.std.specs.Prelude.{ℕ, ◌+◌, ◌==◌, ◌&&◌, Bool, false, if◌then◌else◌, Option, Some, None, List, [], ◌∷◌}
use Rattle.std.specs.List.{before_first, after_first}
use Rattle.notation.specs.declared.entry.{Plain.Plain, Entry.Entry}
use Rattle.notation.specs.Written.{Token, found_number}
use Rattle.ball_laws.specs.History.{History}
use Rattle.match_laws.specs.Result.{current}
use Rattle.corrections.specs.declared.placed.Placed.{Placed}
use Rattle.corrections.specs.CleanList.{clean_items_of, history_of}
use Rattle.over_numbers.specs.declared.{balls.Named.Named, count.Count.Count}
use Rattle.over_numbers.specs.Counts.{counted, is_in_over}

-- the next item is this delivery of innings i
abbrev pub is_named : Count → ℕ → Named → Plain → Bool
is_named c i named (Plain.Ball b) = is_in_over c i named.over && (c.balls + 1 == named.ball)
is_named c i named _ = false

-- the delivery's place among the items that stand after the history
abbrev pub place_among : ℕ → Named → History → List Placed → Option ℕ
place_among i named h [] = None
place_among i named h (x ∷ xs) =
    if is_named (counted h) i named x.item then Some x.place else place_among i named (x.item ∷ h) xs

-- the delivery's place in a book, if the innings that began last has it
abbrev pub place_of : List Entry → Named → Option ℕ
place_of book named = place_among (current (history_of book)) named [] (clean_items_of book)

-- ---- the over and the number in a token

abbrev pub is_dot : ℕ → Bool
is_dot b = b == 46

abbrev pub both : Option ℕ → Option ℕ → Option Named
both (Some over) (Some ball) = Some (record { over = over; ball = ball })
both over ball = None

abbrev pub named_ball : Token → Option Named
named_ball t = both (found_number 1 8191 (before_first is_dot t)) (found_number 1 60 (after_first is_dot t))
