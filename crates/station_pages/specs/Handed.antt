-- The texts that a page was handed, and which of them it shows.
use Rattle.std.specs.Prelude.{ℕ, List, [], ◌∷◌, ◌++◌}
use Rattle.station_pages.specs.declared.handed.{HandedLog.HandedLog, HandedLog.Empty, HandedLog.Handed'}

abbrev pub texts_in : HandedLog → List (List ℕ)
texts_in Empty = []
texts_in (Handed' marker before text) = texts_in before ++ text.value.items ∷ []

-- the newest text, or this one if there is none
abbrev pub newest_or : List ℕ → HandedLog → List ℕ
newest_or other Empty = other
newest_or other (Handed' marker before text) = text.value.items
