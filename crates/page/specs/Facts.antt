-- The facts of a match beside its sides: the sheet's table [info], whose values are not checked.
use Rattle.std.specs.Prelude.{ℕ, zero, suc, List, [], ◌∷◌, ◌++◌, Option, Some, None, codes}
use Rattle.std.specs.Fmt.{signed_decimal}
use Rattle.toml.specs.Data as toml
use Rattle.toml.specs.Data.{Data, Members, at, get_member}
use Rattle.toml_datetime.specs.Text.{datetime_text}
use Rattle.export.specs.Given.{table_in}
use Rattle.page.specs.Escapes.{escaped}

-- ---- the words of a value

-- a text, a whole number or a date as text, and nothing for any other value
abbrev pub word_of : Data → List ℕ
word_of (toml.string text) = text
word_of (toml.integer z) = signed_decimal z
word_of (toml.datetime time) = datetime_text time
word_of _ = []

abbrev pub word_at : Option Data → List ℕ
word_at None = []
word_at (Some d) = word_of d

-- two words, with a text between them if neither is empty
abbrev pub joined : List ℕ → List ℕ → List ℕ → List ℕ
joined [] between word = word
joined (b ∷ bs) between [] = b ∷ bs
joined (b ∷ bs) between (c ∷ cs) = (b ∷ bs) ++ between ++ (c ∷ cs)

-- the first words of a list, up to this many
abbrev pub first_of : Data → ℕ → List ℕ
first_of d zero = []
first_of d (suc k) = joined (first_of d k) (codes ", ") (word_at (at k d))

-- the word of a value, or the first twelve words of a list
abbrev pub words_of : Option Data → List ℕ
words_of None = []
words_of (Some d) = joined (word_of d) (codes ", ") (first_of d 12)

-- the words at a key of a table
abbrev pub told : List ℕ → Members → List ℕ
told key ms = words_of (get_member key ms)

abbrev pub told_in : Option Members → List ℕ → List ℕ
told_in None key = []
told_in (Some ms) key = told key ms

-- ---- the head of the page

-- a fact with its label, or nothing if its words are empty
abbrev pub fact : List ℕ → List ℕ → List ℕ
fact label [] = []
fact label (b ∷ bs) = codes "<span>" ++ label ++ escaped (b ∷ bs) ++ codes "</span> "

abbrev pub toss_text : Option Members → List ℕ
toss_text toss = joined (told_in toss (codes "winner")) (codes ", who chose to ") (told_in toss (codes "decision"))

abbrev pub place_text : Members → List ℕ
place_text info = joined (told (codes "venue") info) (codes ", ") (told (codes "city") info)

abbrev pub where_html : Members → List ℕ
where_html info = fact [] (told (codes "dates") info) ++ fact [] (place_text info)

abbrev pub who_html : Members → List ℕ
who_html info =
    fact (codes "Toss: ") (toss_text (table_in (codes "toss") info))
    ++ fact (codes "Umpires: ") (told_in (table_in (codes "officials") info) (codes "umpires"))
    ++ fact (codes "Player of the match: ") (told (codes "player_of_match") info)

-- the dates, the ground, the toss, the umpires and the player of the match
abbrev pub facts_html : Members → List ℕ
facts_html info = where_html info ++ who_html info
