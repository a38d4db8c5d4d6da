-- The words of a desk's page, and the other lines typed.
use Rattle.std.specs.Prelude.{ℕ, Bool, true, false, if◌then◌else◌, bytes_eq, ◌||◌, List, codes, filter}
use Rattle.links.specs.Typing.{Input, Line, End}
use Rattle.screen.specs.Words.{trimmed}

-- `page` or `page new`, perhaps followed by white space
abbrev pub is_page_word : List ℕ → Bool
is_page_word line = bytes_eq (trimmed line) (codes "page") || bytes_eq (trimmed line) (codes "page new")

-- the input is given to the desk
abbrev pub is_for_desk : Input → Bool
is_for_desk (Line text) = if is_page_word text then false else true
is_for_desk End = true

-- the inputs that are given to the desk: all but these words
abbrev pub for_desk : List Input → List Input
for_desk typed = filter is_for_desk typed
