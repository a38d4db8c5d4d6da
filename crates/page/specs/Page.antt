-- The page of a match: s is the sheet, n the innings a side, h the history, xs the items of the match.
use Rattle.std.specs.Prelude.{ℕ, bytes_eq, if◌then◌else◌, List, [], ◌∷◌, ◌++◌, Option, Some, None, codes}
use Rattle.notation.specs.declared.entry.Entry.{Entry}
use Rattle.ball_laws.specs.History.{History}
use Rattle.match_laws.specs.History.{begun}
use Rattle.match_laws.specs.Result.{outcome}
use Rattle.corrections.specs.CleanList.{clean, history_of}
use Rattle.cards.specs.Sheet.{Sheet}
use Rattle.cards.specs.Results.{result_text}
use Rattle.toml.specs.Data.{Members}
use Rattle.json_fields.specs.Values.{up_to}
use Rattle.page.specs.declared.moments.Moment.{Moment}
use Rattle.page.specs.Escapes.{escaped}
use Rattle.page.specs.Facts.{facts_html}
use Rattle.page.specs.Innings.{innings_html}
use Rattle.page.specs.Ruled.{ruled_text}
use Rattle.page.specs.Title.{or_words, title_text}
use Rattle.export.specs.Given.{info_in}
use Rattle.page.specs.Book.{book_html}
use Rattle.page.specs.Moments.{moments}
use Rattle.page.specs.Charts.{course_html}
use Rattle.page.specs.declared.template.TheConstants.{FRONT, STYLE, MAIN, END}

-- a result in words, or `no result yet`
abbrev pub result_or_none : Option (List ℕ) → List ℕ
result_or_none None = codes "no result yet"
result_or_none (Some words) = words

abbrev pub result_html : Sheet → ℕ → History → List ℕ
result_html s n h = escaped (result_or_none (result_text s (outcome n h)))

-- the head of the file, with the title of the window
abbrev pub front_html : List ℕ → List ℕ → List ℕ
front_html title result = FRONT.now ++ title ++ codes ": " ++ result ++ STYLE.now

abbrev pub result_line : List ℕ → List ℕ
result_line words = codes "<p id='result'>" ++ (words ++ codes "</p>\n")

abbrev pub laws_line : List ℕ → List ℕ
laws_line words = codes "<p id='by-laws'>By the Laws: " ++ (words ++ codes "</p>\n")

-- the result: what the umpires said, if anything, and then the result by the Laws
abbrev pub ruling_html : List ℕ → List ℕ → List ℕ
ruling_html [] laws = result_line laws
ruling_html (b ∷ bs) laws = result_line (b ∷ bs) ++ laws_line laws

abbrev pub title_html : List ℕ → List ℕ → List ℕ
title_html title facts = title ++ (codes "</h1>\n<p id='facts'>" ++ (facts ++ codes "</p>\n"))

-- the head of the page
abbrev pub header_html : List ℕ → List ℕ → List ℕ → List ℕ → List ℕ
header_html title facts ruled laws = title_html title facts ++ ruling_html ruled laws ++ MAIN.now

-- what the umpires said, or nothing if the result by the Laws is the same
abbrev pub unless_same : List ℕ → List ℕ → List ℕ
unless_same ruled laws = if bytes_eq ruled laws then [] else ruled

abbrev pub window_html : List ℕ → List ℕ → List ℕ → List ℕ
window_html title ruled laws = front_html title (or_words ruled laws)

-- the head of the file and the head of the page
abbrev pub heads_html : List ℕ → List ℕ → List ℕ → List ℕ → List ℕ
heads_html title facts ruled laws = window_html title ruled laws ++ header_html title facts ruled laws

-- both heads; an umpires' result that equals the result by the Laws appears only once
abbrev pub head_html : List ℕ → List ℕ → List ℕ → List ℕ → List ℕ
head_html title facts ruled laws = heads_html title facts (unless_same ruled laws) laws

abbrev pub all_innings : Sheet → ℕ → History → List Moment → List ℕ
all_innings s n h xs = up_to (innings_html s n h xs) (begun h)

abbrev pub or_no_play : List ℕ → List ℕ
or_no_play [] = codes "<p>No play.</p>\n"
or_no_play (b ∷ bs) = b ∷ bs

abbrev pub cards_html : Sheet → ℕ → History → List Moment → List ℕ
cards_html s n h xs = or_no_play (all_innings s n h xs)

abbrev pub main_html : Sheet → ℕ → List Entry → List ℕ
main_html s n book = cards_html s n (history_of book) (moments [] (clean book))
    ++ course_html s n (history_of book) (moments [] (clean book))
    ++ book_html book
    ++ END.now

-- both heads, from the sheet's table [info], with these words as the result by the Laws
abbrev pub top_with : Sheet → Members → List ℕ → List ℕ
top_with s info laws = head_html (escaped (title_text s info)) (facts_html info) (escaped (ruled_text info)) laws

abbrev pub top_html : Sheet → Members → List Entry → List ℕ
top_html s document book = top_with s (info_in document) (result_html s s.innings (history_of book))

abbrev pub page_text : Sheet → Members → List Entry → List ℕ
page_text s document book = top_html s document book ++ main_html s s.innings book
