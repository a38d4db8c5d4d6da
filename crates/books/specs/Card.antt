-- What `card` prints of a book: s is the sheet.
use Rattle.std.specs.Prelude.{ℕ, zero, suc, List, [], ◌++◌}
use Rattle.notation.specs.declared.entry.Entry.{Entry}
use Rattle.ball_laws.specs.History.{History}
use Rattle.match_laws.specs.History.{begun}
use Rattle.corrections.specs.CleanList.{history_of}
use Rattle.cards.specs.Sheet.{Sheet}
use Rattle.cards.specs.Batting.{batting_card}
use Rattle.cards.specs.Bowling.{bowling_card}
use Rattle.cards.specs.Page.{book_page}

-- both cards of innings i
abbrev pub both_cards : Sheet → History → ℕ → List ℕ
both_cards s h i = batting_card s h i ++ bowling_card s h i

-- both cards of each of the first n innings
abbrev pub cards_of : Sheet → History → ℕ → List ℕ
cards_of s h zero = []
cards_of s h (suc i) = cards_of s h i ++ both_cards s h i

-- both cards of each innings, and then the page of the book
abbrev pub card_text : Sheet → List Entry → List ℕ
card_text s book = cards_of s (history_of book) (begun (history_of book)) ++ book_page s book
