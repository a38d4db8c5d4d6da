-- A text as HTML reads it, byte by byte. A page has no tags and no references but those listed here.
use Rattle.std.specs.Prelude.{◌≡◌, ℕ, ◌==◌, Bool, ◌||◌, bytes_eq, if◌then◌else◌, List, [], ◌∷◌, ◌++◌, codes}
use Rattle.std.specs.List.{fold, list_any}

-- references, without `&` and `;`
abbrev pub references : List (List ℕ)
references = codes "amp" ∷ codes "lt" ∷ codes "gt" ∷ codes "quot" ∷ codes "#39" ∷ codes "bull" ∷ []

-- tags around the parts of a page, without `<` and `>` and with empty values
abbrev pub frame_tags : List (List ℕ)
frame_tags =
    codes "!DOCTYPE html" ∷ codes "html lang=''" ∷ codes "/html" ∷ codes "head" ∷ codes "/head" ∷ codes "meta charset=''"
    ∷ codes "meta http-equiv='' content=\"\"" ∷ codes "meta name='' content=''" ∷ codes "link rel='' href=''" ∷ codes "title" ∷ codes "/title"
    ∷ codes "style" ∷ codes "/style" ∷ codes "body" ∷ codes "/body" ∷ codes "header" ∷ codes "/header" ∷ codes "h1 id=''" ∷ codes "/h1"
    ∷ codes "h2 id=''" ∷ codes "/h2" ∷ codes "main" ∷ codes "/main" ∷ codes "section id='' aria-labelledby=''"
    ∷ codes "section class='' aria-labelledby=''" ∷ codes "/section" ∷ codes "div" ∷ codes "div id=''" ∷ codes "div class=''" ∷ codes "/div" ∷ []

-- tags of text, tables and lists
abbrev pub text_tags : List (List ℕ)
text_tags =
    codes "p" ∷ codes "p id=''" ∷ codes "p class=''" ∷ codes "/p" ∷ codes "b" ∷ codes "/b" ∷ codes "span" ∷ codes "span class=''"
    ∷ codes "span aria-hidden=''" ∷ codes "/span" ∷ codes "code" ∷ codes "/code" ∷ codes "abbr title=''" ∷ codes "/abbr" ∷ codes "table"
    ∷ codes "/table" ∷ codes "caption" ∷ codes "/caption" ∷ codes "thead" ∷ codes "/thead" ∷ codes "tbody" ∷ codes "/tbody"
    ∷ codes "tfoot" ∷ codes "/tfoot" ∷ codes "tr" ∷ codes "/tr" ∷ codes "th scope=''" ∷ codes "th scope='' class=''" ∷ codes "/th" ∷ codes "td"
    ∷ codes "td class=''" ∷ codes "td colspan=''" ∷ codes "/td" ∷ codes "ol class=''" ∷ codes "/ol" ∷ codes "ul class=''" ∷ codes "/ul"
    ∷ codes "li" ∷ codes "li class=''" ∷ codes "/li" ∷ codes "details open" ∷ codes "/details" ∷ codes "summary" ∷ codes "/summary" ∷ []

-- tags of charts
abbrev pub chart_tags : List (List ℕ)
chart_tags =
    codes "figure" ∷ codes "/figure" ∷ codes "figcaption id=''" ∷ codes "/figcaption"
    ∷ codes "svg role='' overflow='' aria-labelledby='' viewBox=''" ∷ codes "svg viewBox='' aria-hidden=''" ∷ codes "/svg" ∷ codes "g transform=''"
    ∷ codes "g class=''" ∷ codes "/g" ∷ codes "rect x='' y='' width='' height=''/" ∷ codes "circle class='' cx='' cy='' r=''/"
    ∷ codes "path class='' d=''/" ∷ codes "path class='' vector-effect='' d=''/" ∷ []

abbrev pub is_in : List ℕ → List (List ℕ) → Bool
is_in word words = list_any (bytes_eq word) words

abbrev pub is_tag : List ℕ → Bool
is_tag word = is_in word text_tags || (is_in word chart_tags || is_in word frame_tags)

-- where a reader is
pub data Reading : Type 0 where
  Text : Reading
  -- in a reference, after this part of it
  Reference : List ℕ → Reading
  -- in a tag, after this part of it, with empty values
  Tag : List ℕ → Reading
  -- in a value that began with this quote, after this part of the tag
  Value : ℕ → List ℕ → Reading
  -- after a tag or a reference that isn't listed
  Broken : Reading

abbrev pub text_if : Bool → Reading
text_if is_listed = if is_listed then Text else Broken

-- where a reader is after one more byte; a value has no references
abbrev pub step : Reading → ℕ → Reading
step Text b = if b == 60 then Tag [] else (if b == 38 then Reference [] else Text)
step (Reference word) b = if b == 59 then text_if (is_in word references) else Reference (word ++ b ∷ [])
step (Tag word) b =
    if b == 62 then text_if (is_tag word) else (if b == 34 || b == 39 then Value b (word ++ b ∷ []) else Tag (word ++ b ∷ []))
step (Value quote word) b = if b == quote then Tag (word ++ b ∷ []) else (if b == 38 then Broken else Value quote word)
step Broken b = Broken

abbrev pub read : Reading → List ℕ → Reading
read place text = fold step place text

-- the text begins and ends outside of tags and references, and each of them is listed
abbrev pub HasListedMarkup : List ℕ → Type 0
HasListedMarkup text = read Text text ≡ Text
