-- Processes print their books, and the public sees books that both scorers wrote.
use Rattle.std.proofs.Common.{arith, ◌≡◌, ◌≤◌, ◌⊎◌, ℕ, Some, List, [], refl, inl}
use Rattle.std.specs.Prelude.{All}
use Rattle.std.proofs.lemmas.List.Elements.{All-cons, All-nil}
use Rattle.notation.specs.declared.entry.Entry.{Entry}
use Rattle.corrections.specs.CleanList.{history_of}
use Rattle.cards.specs.Sheet.{Sheet}
use Rattle.cards.specs.Board.{board as board_text}
use Rattle.agree_core.specs.declared.messages.DeskId.{DeskId}
use Rattle.agree_core.specs.Boards.{BoardState}
use Rattle.agree_core.specs.FileView.{FileView}
use Rattle.headline.specs.declared.{event.Station.Station, version.FileVersion.FileVersion}
use Rattle.headline.specs.Configurations.{Configuration, board_at}
use Rattle.headline.specs.Headline.{AllHaveScores, ByBoth}
use Rattle.headline.proofs.Heeding.{board_put}
use Rattle.live.specs.Boards as boards
use Rattle.live.specs.Boards.{BoardCall}
use Rattle.live.specs.Sights.{Sight, sight_of}
use Rattle.processes.specs.Happenings.{BoardCalled, BoardGreeted, DeskCalled, DeskGreeted, Happening, Happens, after_one}
use Rattle.processes.specs.Headline.{PrintsItsBook}
use Rattle.processes.specs.Printing.{Hands, HandsBook, Prints}
use Rattle.processes.specs.PublicScores.{IsOfBoth, IsSightOfBoth, PrintsOfBoth, ShowsAgreed, ShowsOfBoth}

module _ {Disk : Type 0} (innings : ℕ) (v : Configuration Disk) where
  -- in a match of one or two innings a side each shown book has a score
  abbrev pub HasScores : Type 0
  HasScores = 1 ≤ innings → innings ≤ 2 → AllHaveScores innings v

  board_of_both : (n : ℕ) (k : BoardState) → board_at v.boards n ≡ Some k → ByBoth v → HasScores → IsOfBoth innings v k.book
  board_of_both n k at both scores = record {
    by_both = λ place e is. both (Station.Board n) k.book place e (k, at, refl) is;
    scored = λ one two. scores one two (Station.Board n) k.book (k, at, refl);
  }

  module _ (s : Sheet) (book : List Entry) (by : IsOfBoth innings v book) where
    prints_it : (text : List ℕ) → (text ≡ board_text s innings (history_of book)) ⊎ (text ≡ []) → PrintsOfBoth innings v s text
    prints_it text h = grind arith

    hands_it : (seen : List Sight) → HandsBook s innings book seen → All (IsSightOfBoth innings v s) seen
    hands_it seen h = grind (arith, All-cons, All-nil)

  called : (s : Sheet) (call : BoardCall) (l : BoardState) (text : List ℕ) (seen : List Sight) → Prints s innings call l text → Hands s innings call l seen
      → IsOfBoth innings v l.book → ShowsOfBoth innings v s text seen
  called s boards.TurnEnded l text seen p h by =
      (prints_it s l.book by text p, rw h.1 (All-cons (IsSightOfBoth innings v s) (sight_of s innings l.book h.0) [] (refl, refl, by) (All-nil (IsSightOfBoth innings v s))))
  called s call l text seen p h by = (inl p, rw h (All-nil (IsSightOfBoth innings v s)))

module _ {Disk : Type 0} (view : DeskId → FileVersion → FileView Disk) (game innings : ℕ) where
  pub prints : (v : Configuration Disk) (what : Happening Disk) → Happens view game innings v what → PrintsItsBook innings v what
  prints v (DeskGreeted d s text) h = h
  prints v (DeskCalled d s call out l text) h = (h.0, h.1, h.4)
  prints v (BoardGreeted n s text seen) h = h
  prints v (BoardCalled n s call out l text seen) h = (h.4, h.5)
  prints v _ h = tt

  pub shows : (v : Configuration Disk) (what : Happening Disk) → Happens view game innings v what → ByBoth v → HasScores innings v
      → ByBoth (after_one v what) → HasScores innings (after_one v what) → ShowsAgreed innings v what
  shows v (BoardGreeted n s text seen) h both scores later then =
      let by = board_of_both innings v n h.0 h.1 both scores in
      (prints_it innings v s _ by text (inl h.2.0), hands_it innings v s _ by seen h.2.1)
  shows v (BoardCalled n s call out l text seen) h both scores later then =
      let new = after_one v (BoardCalled n s call out l text seen) in
      called innings new s call l text seen h.4 h.5 (board_of_both innings new n l (board_put v.boards n h.0 l h.1) later then)
  shows v _ h both scores later then = tt
