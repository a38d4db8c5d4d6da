-- What a desk's state shows of its book, what its news is, and that the Laws accept what it offers. s is the sheet, n the
-- innings a side and h the history.
use Rattle.std.specs.Prelude.{◌≡◌, ◌⊎◌, ℕ, ◌<◌, ◌≤◌, true, false, None, List, [], ◌∷◌, ◌++◌, map, reverse, take, drop}
use Rattle.notation.specs.declared.entry.{TheConstants.PLACES, Plain.Plain, Entry.Entry}
use Rattle.notation.specs.declared.entry.Side.TheVariants.{Home, Away}
use Rattle.ball_laws.specs.History.{History}
use Rattle.ball_laws.specs.Ends.{has_vacancy}
use Rattle.ball_laws.specs.Laws.{state_after}
use Rattle.match_laws.specs.History.{entries}
use Rattle.match_laws.specs.Refusals.{refusal}
use Rattle.corrections.specs.CleanList.{history_of}
use Rattle.corrections.specs.Overs.{over_now}
use Rattle.cards.specs.Sheet.{Sheet}
use Rattle.desk_state.specs.declared.wants.Wants.{Wants}
use Rattle.desk_state.specs.Wants.{wants}
use Rattle.desk_state.specs.Players.{dot_of, may_bowl, may_come_in}
use Rattle.desk_state.specs.Over.{over_shown}
use Rattle.desk_state.specs.Book.{book_items, news_from}

-- The deliveries of `over` are those of the over in which the last delivery of the innings was bowled, in order.
abbrev pub ShowsTheOver : List Entry → Type 0
ShowsTheOver book = map (λ d. d.ball) (over_shown book) ≡ reverse (over_now (history_of book))

-- A reader of a book's items who replaces everything from the news' index on by the news of the next entry has the new items.
abbrev pub IsSpliced : List Entry → Entry → Type 0
IsSpliced book e =
    take (news_from (book ++ e ∷ [])) (book_items book) ++ drop (news_from (book ++ e ∷ [])) (book_items (book ++ e ∷ []))
    ≡ book_items (book ++ e ∷ [])

-- A batter who may come in isn't refused; nor, with both batters in, is a delivery by a bowler who may bowl. While the match
-- has room, the call of over isn't refused when it is wanted, and when an innings is wanted one of the sides may begin it.
pub record IsTaken (s : Sheet) (n : ℕ) (h : History) : Type 0 where
  pub batter : (p : ℕ) → may_come_in n h p ≡ true → refusal n h (Plain.Come p) ≡ None
  pub delivery : (p : ℕ) → has_vacancy (state_after h).ends ≡ false → may_bowl s n h p ≡ true → refusal n h (Plain.Ball (dot_of p)) ≡ None
  pub over : entries h < PLACES → wants n h ≡ Wants.Over → refusal n h Plain.Over ≡ None
  pub innings : 1 ≤ n → entries h < PLACES → wants n h ≡ Wants.Innings
      → (refusal n h (Plain.Innings Home) ≡ None) ⊎ (refusal n h (Plain.Innings Away) ≡ None)
