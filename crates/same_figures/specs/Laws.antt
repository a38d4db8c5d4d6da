-- Four texts of a book show the same figures: what `card` prints, the match's page, a board's JSON and an export. s is the sheet;
-- page and export tell its sides apart.
use Rattle.std.specs.Prelude.{◌≡◌, ℕ, List, [], ◌∷◌, codes}
use Rattle.notation.specs.declared.entry.Entry.{Entry}
use Rattle.match_laws.specs.History.{begun}
use Rattle.corrections.specs.CleanList.{clean, history_of}
use Rattle.cards.specs.Sheet.{Sheet}
use Rattle.json_fields.specs.Values.{array_of, up_to}
use Rattle.archive_deliveries.specs.Names.{told_apart}
use Rattle.books.specs.Card.{cards_of}
use Rattle.export.specs.Falls.{falls_field}
use Rattle.export.specs.Laws.{innings_at}
use Rattle.page.specs.Moments.{moments}
use Rattle.page.specs.Page as page
use Rattle.scoreboard.specs.Innings as board
use Rattle.same_figures.specs.Figures.{Figures}
use Rattle.same_figures.specs.Board.{innings_value}
use Rattle.same_figures.specs.Card.{both_cards}
use Rattle.same_figures.specs.Export.{TellsFigures, falls_of}
use Rattle.same_figures.specs.Page.{innings_html}

-- Each innings has one value of its figures. The cards that `card` prints, the page's part of all innings and `innings` in a
-- board's JSON are made of these values. In an export the deliveries of each innings add up to them, and `falls` is made of them.
pub record TellTheSame (s : Sheet) (book : List Entry) : Type 0 where
  pub figures : ℕ → Figures
  pub card : cards_of s (history_of book) (begun (history_of book))
      ≡ up_to (λ i. both_cards s (history_of book) i (figures i)) (begun (history_of book))
  pub page : page.all_innings (told_apart s) (told_apart s).innings (history_of book) (moments [] (clean book))
      ≡ up_to (λ i. innings_html (told_apart s) (told_apart s).innings (history_of book) (moments [] (clean book)) i (figures i))
      (begun (history_of book))
  pub board : board.all_innings s (history_of book)
      ≡ up_to (λ i. innings_value s (history_of book) i (figures i) ∷ []) (begun (history_of book))
  pub export : (i : ℕ) → TellsFigures (told_apart s) (history_of book) i (figures i) (innings_at (told_apart s) book i)
  pub falls : falls_field (told_apart s) (history_of book)
      ≡ (codes "falls", array_of (up_to (λ i. falls_of (told_apart s) i (figures i)) (begun (history_of book))))
