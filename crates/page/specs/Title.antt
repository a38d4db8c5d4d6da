-- The title of a match: s is its sheet, and info the sheet's table [info].
use Rattle.std.specs.Prelude.{ℕ, List, [], ◌∷◌, ◌++◌, Option, codes}
use Rattle.toml.specs.Data.{Members}
use Rattle.cards.specs.Sheet.{Sheet}
use Rattle.export.specs.Given.{table_in}
use Rattle.page.specs.Facts.{joined, told, told_in}

-- a text, or the other one if it is empty
abbrev pub or_words : List ℕ → List ℕ → List ℕ
or_words [] other = other
or_words (b ∷ bs) other = b ∷ bs

-- the name in the table `event`, or the word `event`
abbrev pub name_text : Members → List ℕ
name_text info = or_words (told_in (table_in (codes "event") info) (codes "name")) (told (codes "event") info)

-- which part of the event the match belongs to
abbrev pub part_text : Option Members → List ℕ
part_text event =
    joined (joined (told_in event (codes "group")) (codes ", ") (told_in event (codes "stage"))) (codes ", ") (told_in event (codes "sub_name"))

abbrev pub numbered : List ℕ → List ℕ
numbered [] = []
numbered (b ∷ bs) = codes "match " ++ (b ∷ bs)

-- the event, or the sheet's title if the event has no name, and then which part and match of the event this is
abbrev pub title_text : Sheet → Members → List ℕ
title_text s info =
    let event = table_in (codes "event") info in
    joined (joined (or_words (name_text info) s.title) (codes ", ") (part_text event)) (codes ", ") (numbered (told_in event (codes "match_number")))
