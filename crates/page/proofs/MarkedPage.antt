-- How HTML reads a page.
use Rattle.std.proofs.Common.{ℕ, List, [], ◌∷◌, refl}
use Rattle.notation.specs.declared.entry.Entry.{Entry}
use Rattle.ball_laws.specs.History.{History}
use Rattle.match_laws.specs.History.{begun}
use Rattle.match_laws.specs.Result.{outcome}
use Rattle.corrections.specs.CleanList.{clean, history_of}
use Rattle.cards.specs.Results.{result_text}
use Rattle.cards.specs.Sheet.{Sheet}
use Rattle.toml.specs.Data.{Members}
use Rattle.export.specs.Given.{info_in}
use Rattle.page.specs.Book.{book_html}
use Rattle.page.specs.Charts.{course_html}
use Rattle.page.specs.Innings.{innings_html}
use Rattle.page.specs.Markup.{HasListedMarkup}
use Rattle.page.specs.Moments.{moments}
use Rattle.page.specs.Page.{all_innings, cards_html, main_html, or_no_play, page_text, result_html, result_or_none, top_html}
use Rattle.page.specs.declared.moments.Moment.{Moment}
use Rattle.page.proofs.Marked.{both, escaped_marked, four, up_to_marked}
use Rattle.page.proofs.MarkedCharts.{course_marked}
use Rattle.page.proofs.MarkedHead.{book_marked, top_marked}
use Rattle.page.proofs.MarkedInnings.{innings_marked}

shown_marked : (cards : List ℕ) → HasListedMarkup cards → HasListedMarkup (or_no_play cards)
shown_marked [] known = refl
shown_marked (b ∷ bs) known = known

cards_marked : (s : Sheet) (n : ℕ) (h : History) (xs : List Moment) → HasListedMarkup (cards_html s n h xs)
cards_marked s n h xs = shown_marked (all_innings s n h xs) (up_to_marked (innings_html s n h xs) (innings_marked s n h xs) (begun h))

main_marked : (s : Sheet) (n : ℕ) (book : List Entry) → HasListedMarkup (main_html s n book)
main_marked s n book =
    let h = history_of book in
    let xs = moments [] (clean book) in
    four (cards_html s n h xs) (course_html s n h xs) (book_html book) _ (cards_marked s n h xs) (course_marked s n h xs) (book_marked book) refl

pub page_marked : (s : Sheet) (document : Members) (book : List Entry) → HasListedMarkup (page_text s document book)
page_marked s document book =
    let laws = result_html s s.innings (history_of book) in
    both (top_html s document book) (main_html s s.innings book)
    (top_marked s (info_in document) laws (escaped_marked (result_or_none (result_text s (outcome s.innings (history_of book))))))
    (main_marked s s.innings book)
