-- What a page shows of a desk.
use Rattle.std.specs.Prelude.{◌≡◌, ◌⊎◌, ℕ, List, [], ◌∷◌, ◌++◌}
use Rattle.notation.specs.declared.entry.Entry.{Entry}
use Rattle.agree_core.specs.declared.messages.DeskId.{DeskId}
use Rattle.desk_state.specs.Book.{book_text}
use Rattle.desk_state.specs.Value.{open_text, state_text}
use Rattle.screen.specs.Sights.{DeskSight}
use Rattle.viewers.specs.Replies.{SameOpenly, ShowsBook, ShowsOpenly}
use Rattle.viewers.specs.declared.page_texts.PageTexts.{PageTexts}
use Rattle.station_pages.specs.declared.sight.{TextLog.TextLog, TextLog.Empty, TextLog.Given'}

-- the texts that it was given, the oldest first: each time one for all, and one for only its scorer
abbrev pub texts_in : TextLog → List (List ℕ × List ℕ)
texts_in Empty = []
texts_in (Given' marker before openly own) = texts_in before ++ (openly.value.items, own.value.items) ∷ []

-- what all may read of a desk: nothing of its own vote or its held lines
abbrev pub open_of : DeskId → DeskSight → List ℕ
open_of desk sight = open_text sight.sheet sight.innings sight.book desk sight.at

-- it is given the state of this desk, once for all, and once with the own vote and the held lines for only its scorer; or it
-- is given nothing
abbrev pub ShowsState : DeskId → List (List ℕ × List ℕ) → List (List ℕ × List ℕ) → DeskSight → Type 0
ShowsState desk before after sight =
    (after ≡ before)
    ⊎ ((held : _) × (after ≡ before
    ++ (open_of desk sight, state_text sight.sheet sight.innings sight.book desk sight.at sight.own held) ∷ []))

-- viewers without the secret are served the book's text as before, or that of this book
abbrev pub ServesBook : PageTexts → PageTexts → List Entry → Type 0
ServesBook before after book = SameOpenly before after ⊎ ShowsBook (book_text book) before after

-- they are served the state as before, or what all may read of this desk
abbrev pub ServesState : DeskId → PageTexts → PageTexts → DeskSight → Type 0
ServesState desk before after sight = SameOpenly before after ⊎ ShowsOpenly (open_of desk sight) before after

-- first the book, then the state
abbrev pub ServesOthers : DeskId → PageTexts → PageTexts → DeskSight → Type 0
ServesOthers desk before after sight = (mid : PageTexts) × ServesBook before mid sight.book × ServesState desk mid after sight
