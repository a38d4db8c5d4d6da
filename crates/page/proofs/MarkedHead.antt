-- How HTML reads the head of the page and the book's part.
use Rattle.std.proofs.Common.{ℕ, List, [], ◌∷◌, ◌++◌, refl}
use Rattle.std.specs.Prelude.{Option, Some, None, bytes_eq, codes, length, slice_get}
use Rattle.notation.specs.declared.entry.Entry.{Entry}
use Rattle.notation.specs.declared.entry.Entry.TheVariants.{Write, Fix, Late}
use Rattle.notation.specs.Written.{text_of}
use Rattle.cards.specs.Columns.{lines_from}
use Rattle.cards.specs.Sheet.{Sheet}
use Rattle.toml.specs.Data.{Members}
use Rattle.export.specs.Given.{table_in}
use Rattle.page.specs.Book.{book_html, correction_html, count_html, fold_html, line_at, line_html, place_html, row_html, rows_html}
use Rattle.page.specs.Escapes.{escaped}
use Rattle.page.specs.Facts.{fact, facts_html, place_text, told, told_in, toss_text, where_html, who_html}
use Rattle.page.specs.Markup.{HasListedMarkup}
use Rattle.page.specs.Page.{front_html, head_html, header_html, heads_html, laws_line, result_line, ruling_html, title_html, top_with, unless_same, window_html}
use Rattle.page.specs.Ruled.{ruled_text}
use Rattle.page.specs.Title.{or_words, title_text}
use Rattle.page.proofs.Marked.{both, escaped_marked, four, markup, numbered_marked, one_of, three}
use Rattle.page.specs.declared.{book_part.TheConstants.CORRECTIONS, template.TheConstants.STYLE}

-- ---- facts

fact_marked : (label words : List ℕ) → HasListedMarkup label → HasListedMarkup (fact label words)
fact_marked label [] known = refl
fact_marked label (b ∷ bs) known = three label (escaped (b ∷ bs)) (codes "</span> ") known (escaped_marked (b ∷ bs)) refl

where_marked : (info : Members) → HasListedMarkup (where_html info)
where_marked info =
    both (fact [] (told (codes "dates") info)) (fact [] (place_text info)) (fact_marked [] (told (codes "dates") info) refl)
    (fact_marked [] (place_text info) refl)

who_marked : (info : Members) → HasListedMarkup (who_html info)
who_marked info =
    let toss = toss_text (table_in (codes "toss") info) in
    let umpires = told_in (table_in (codes "officials") info) (codes "umpires") in
    let player = told (codes "player_of_match") info in
    three (fact (codes "Toss: ") toss) (fact (codes "Umpires: ") umpires) (fact (codes "Player of the match: ") player)
    (fact_marked (codes "Toss: ") toss refl) (fact_marked (codes "Umpires: ") umpires refl) (fact_marked (codes "Player of the match: ") player refl)

facts_marked : (info : Members) → HasListedMarkup (facts_html info)
facts_marked info = both (where_html info) (who_html info) (where_marked info) (who_marked info)

-- ---- the head of the file and the head of the page

or_words_marked : (words other : List ℕ) → HasListedMarkup words → HasListedMarkup other → HasListedMarkup (or_words words other)
or_words_marked [] other left right = right
or_words_marked (b ∷ bs) other left right = left

front_marked : (title result : List ℕ) → HasListedMarkup title → HasListedMarkup result → HasListedMarkup (front_html title result)
front_marked title result left right =
    four title (codes ": ") result STYLE.now left refl right refl

line_marked : (words : List ℕ) → HasListedMarkup words → HasListedMarkup (result_line words)
line_marked words known = both words (codes "</p>\n") known refl

laws_marked : (words : List ℕ) → HasListedMarkup words → HasListedMarkup (laws_line words)
laws_marked words known = both words (codes "</p>\n") known refl

ruling_marked : (ruled laws : List ℕ) → HasListedMarkup ruled → HasListedMarkup laws → HasListedMarkup (ruling_html ruled laws)
ruling_marked [] laws left right = line_marked laws right
ruling_marked (b ∷ bs) laws left right =
    both (result_line (b ∷ bs)) (laws_line laws) (line_marked (b ∷ bs) left) (laws_marked laws right)

title_marked : (title facts : List ℕ) → HasListedMarkup title → HasListedMarkup facts → HasListedMarkup (title_html title facts)
title_marked title facts left right =
    both title (codes "</h1>\n<p id='facts'>" ++ (facts ++ codes "</p>\n")) left (both facts (codes "</p>\n") right refl)

heads_marked : (title facts ruled laws : List ℕ) → HasListedMarkup title → HasListedMarkup facts → HasListedMarkup ruled →
    HasListedMarkup laws → HasListedMarkup (heads_html title facts ruled laws)
heads_marked title facts ruled laws t f r l =
    both (window_html title ruled laws) (header_html title facts ruled laws) (front_marked title (or_words ruled laws) t (or_words_marked ruled laws r l))
    (three (title_html title facts) (ruling_html ruled laws) _ (title_marked title facts t f) (ruling_marked ruled laws r l) refl)

head_marked : (title facts ruled laws : List ℕ) → HasListedMarkup title → HasListedMarkup facts → HasListedMarkup ruled →
    HasListedMarkup laws → HasListedMarkup (head_html title facts ruled laws)
head_marked title facts ruled laws t f r l = heads_marked title facts (unless_same ruled laws) laws t f (one_of _ (bytes_eq ruled laws) [] ruled refl r) l

pub top_marked : (s : Sheet) (info : Members) (laws : List ℕ) → HasListedMarkup laws → HasListedMarkup (top_with s info laws)
top_marked s info laws known =
    head_marked (escaped (title_text s info)) (facts_html info) (escaped (ruled_text info)) laws (escaped_marked (title_text s info)) (facts_marked info)
    (escaped_marked (ruled_text info)) known

-- ---- the book's part

line_html_marked : (e : Entry) → HasListedMarkup (line_html e)
line_html_marked e = both (escaped (text_of e)) (codes "</code>") (escaped_marked (text_of e)) refl

line_at_marked : (found : Option Entry) → HasListedMarkup (line_at found)
line_at_marked None = refl
line_at_marked (Some e) = line_html_marked e

place_marked : (place : ℕ) → HasListedMarkup (place_html place)
place_marked place = simp markup

row_marked : (book : List Entry) (place : ℕ) (e : Entry) (words : List ℕ) (named : ℕ) → HasListedMarkup words →
    HasListedMarkup (row_html book place e words named)
row_marked book place e words named known =
    let found = slice_get book named in
    both (place_html place ++ line_html e ++ words ++ line_at found) (codes "</td></tr>\n")
    (four (place_html place) (line_html e) words (line_at found) (place_marked place) (line_html_marked e) known (line_at_marked found)) refl

correction_marked : (book : List Entry) (place : ℕ) (e : Entry) → HasListedMarkup (correction_html book place e)
correction_marked book place (Write x) = refl
correction_marked book place (Fix p x) = row_marked book place (Fix p x) (codes "</td><td class='words'>entered as ") p refl
correction_marked book place (Late p x) = row_marked book place (Late p x) (codes "</td><td class='words'>belongs after ") p refl

rows_marked : (rows : List ℕ) → HasListedMarkup rows → HasListedMarkup (rows_html rows)
rows_marked rows known = both CORRECTIONS.now (rows ++ codes "</tbody></table></details>\n") refl (both rows (codes "</tbody></table></details>\n") known refl)

fold_marked : (rows : List ℕ) → HasListedMarkup rows → HasListedMarkup (fold_html rows)
fold_marked [] known = refl
fold_marked (b ∷ bs) known = rows_marked (b ∷ bs) known

count_marked : (lines : ℕ) → HasListedMarkup (count_html lines)
count_marked lines = simp markup

pub book_marked : (book : List Entry) → HasListedMarkup (book_html book)
book_marked book =
    let rows = lines_from (correction_html book) 0 book in
    three (count_html (length book)) (fold_html rows) _ (count_marked (length book))
    (fold_marked rows (numbered_marked (correction_html book) (correction_marked book) 0 book)) refl
