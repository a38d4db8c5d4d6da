-- In woven lives no board tells that a desk's file lacks lines.
use Rattle.std.proofs.Common.{arith, ⊎_elim, ◌≡◌, ℕ, Bool, true, false, Option, Some, None, List, [], ◌∷◌, Ok, Err, refl, ap, ◌∙◌}
use Rattle.std.specs.Prelude.{All, if◌then◌else◌}
use Rattle.std.specs.List.{filter}
use Rattle.std.proofs.lemmas.Bool.{eq-eqb}
use Rattle.std.proofs.lemmas.List.Elements.{All-cons, All-nil}
use Rattle.entry_log.specs.Disk.{Faults, Images}
use Rattle.cards.specs.Sheet.{Sheet}
use Rattle.agree_core.specs.declared.messages.Message.{Message}
use Rattle.board.specs.Troubles.{left_of, stops}
use Rattle.board.specs.declared.trouble.Trouble.{Trouble}
use Rattle.board.specs.declared.refusal.BoardRefusal.TheVariants.{BadVotes}
use Rattle.station_texts.specs.Notices.{opens}
use Rattle.agree_core.specs.Boards.{BoardState}
use Rattle.live.specs.Boards as boards
use Rattle.live.specs.Boards.{BoardCall, BoardTurn, after_call, handed}
use Rattle.live.specs.Runs as own
use Rattle.live.specs.Sights.{Sight, sight_of}
use Rattle.processes.specs.Happenings.{BoardBegun, BoardCalled, BoardGreeted, Happening}
use Rattle.processes.specs.Lives.{BoardProcess, BoardRuns, IsBoardLife, board_calls, board_happens, first_turn}
use Rattle.processes.specs.Parting.{IsParted, NoneIsParted, NoneTells, TellsNone, TellsNothing, is_anew, tells_anew}
use Rattle.processes.specs.Printing.{HandsBook}
use Rattle.processes.specs.Weaving.{WovenLivesTellNone, is_at_board}
use Rattle.processes.proofs.Local.{Local, goes-append, local-one, nexts, with_one}
use Rattle.processes.proofs.WholeLives.{woven_lives_part_none}

module _ {Disk : Type 0} where
  -- since it began, a board has dropped a vote as one that shows that a desk's file lacks lines
  abbrev next_lack : Bool → Happening Disk → Bool
  next_lack b (BoardCalled n sheet (boards.Parted bytes back) out l text seen) = true
  next_lack b (BoardBegun n) = false
  next_lack b what = b

  -- until then the board tells of no such vote
  abbrev MayTell : Bool → Happening Disk → Type 0
  MayTell b what = b ≡ false → TellsNone what

kept_none : (b : Bool) (t : Trouble) → is_anew t.why ≡ false → tells_anew (if b then Some t else None) ≡ false
kept_none true t h = h
kept_none false t h = refl

left_none : (b : Bool) (t : Option Trouble) → tells_anew t ≡ false → tells_anew (if b then left_of t else t) ≡ false
left_none false t h = h
left_none true None h = refl
left_none true (Some t) h = kept_none (stops t.why) t h

module _ (Disk : Type 0) (game innings : ℕ) where
  abbrev trouble_of : BoardTurn → Bool
  trouble_of k = tells_anew k.memory.telling.trouble

  goes_on : (n : ℕ) (s : Sheet) (k : BoardTurn) (call : BoardCall) (out : List Message) (l : BoardState) (text : List ℕ) (seen : List Sight) (b : Bool)
      → (b ≡ false → trouble_of k ≡ false) → next_lack {Disk = Disk} b (BoardCalled n s call out l text seen) ≡ false → trouble_of (after_call s innings k call l) ≡ false
  goes_on n s k (boards.Parted bytes back) out l text seen b h e = absurd (cc)
  goes_on n s k (boards.Given bytes (Ok what)) out l text seen b h e = left_none (opens what) k.memory.telling.trouble (h e)
  goes_on n s k (boards.Given bytes (Err (BadVotes place))) out l text seen b h e = refl
  goes_on n s k boards.ToldApart out l text seen b h e = refl
  goes_on n s k call out l text seen b h e = h e

  shows : (s : Sheet) (k : BoardTurn) (call : BoardCall) (l : BoardState) → trouble_of k ≡ false → All TellsNothing (handed s innings k call l)
  shows s k boards.TurnEnded l h = All-cons TellsNothing (sight_of s innings l.book k.memory.telling.trouble) [] h (All-nil TellsNothing)
  shows s k call l h = All-nil TellsNothing

  greets : (s : Sheet) (seen : List Sight) → HandsBook s innings [] seen → All TellsNothing seen
  greets s seen h =
      ⊎_elim (λ is. rw is (All-cons TellsNothing (sight_of s innings [] None) [] refl (All-nil TellsNothing))) (λ none. rw none (All-nil TellsNothing)) h

  calls : (n : ℕ) (s : Sheet) (t : BoardTurn) (first : List Sight) (ms : List (own.Moment BoardTurn BoardCall)) → trouble_of t ≡ false → All TellsNothing first
      → BoardRuns game innings s t ms
      → Local (next_lack {Disk = Disk}) MayTell false (board_calls innings n s t first ms)
      × (nexts (next_lack {Disk = Disk}) false (board_calls innings n s t first ms) ≡ false → trouble_of (own.last_of t ms) ≡ false)
  calls n s t first [] none g r = ((tt, λ e. g), λ e. none)
  calls n s t first (m ∷ ms) none g r =
      let before = calls n s t first ms none g r.0 in
      let k : BoardTurn = own.last_of t ms in
      let l : BoardState = (λ (k : BoardTurn). k.board) m.after in
      let b = nexts (next_lack {Disk = Disk}) false (board_calls innings n s t first ms) in (
        (before.0, λ e. shows s k m.call l (before.1 e)),
        λ e. ap trouble_of r.2.2 ∙ goes_on n s k m.call m.out l _ _ b before.1 e,
      )

  lives : (n : ℕ) (b : Bool) (ps : List BoardProcess) → IsBoardLife game innings ps → Local (next_lack {Disk = Disk}) MayTell b (board_happens innings n ps)
  lives n b [] h = tt
  lives n b (p ∷ ps) h =
      let begun : List (Happening Disk) = BoardBegun n ∷ board_happens innings n ps in
      let made : List (Happening Disk) = board_calls innings n p.sheet (first_turn p) p.first p.calls in
      let process = calls n p.sheet (first_turn p) p.first p.calls refl (greets p.sheet p.first h.1.0) h.1.1 in
      (goes-append next_lack MayTell b false (nexts next_lack false made) made begun ((lives n b ps h.0, λ e. tt), refl) (process.0, refl)).0

  life : (n : ℕ) (hs : List (Happening Disk)) → (ps : List BoardProcess) × IsBoardLife game innings ps × (hs ≡ board_happens innings n ps)
      → Local next_lack MayTell false hs
  life n hs h = rw h.2 (lives n false h.0 h.1)

  -- if no board drops such a vote, none has since it began
  here_none : (b : Bool) (h : Happening Disk) → b ≡ false → (IsParted h → ⊥) → next_lack b h ≡ false
  here_none b (BoardCalled n sheet (boards.Parted bytes back) out l text seen) e none = absurd (none tt)
  here_none b h e none = grind (arith, e)

  none_with : (q : Bool) (h : Happening Disk) (hs : List (Happening Disk)) → nexts next_lack false hs ≡ false → (IsParted h → ⊥)
      → nexts next_lack false (with_one q h hs) ≡ false
  none_with true h hs before none = here_none (nexts next_lack false hs) h before none
  none_with false h hs before none = before

  none_lacks : (n : ℕ) (hs : List (Happening Disk)) → NoneIsParted hs → nexts next_lack false (filter (is_at_board n) hs) ≡ false
  none_lacks n [] none = refl
  none_lacks n (h ∷ hs) none = none_with (is_at_board n h) h (filter (is_at_board n) hs) (none_lacks n hs none.0) none.1

  none_tells : (hs : List (Happening Disk)) → NoneIsParted hs → ((n : ℕ) → Local next_lack MayTell false (filter (is_at_board n) hs)) → NoneTells hs
  none_tells [] none may = tt
  none_tells (h ∷ hs) none may =
      let one = λ (n : ℕ). local-one next_lack MayTell (is_at_board n h) false h (filter (is_at_board n) hs) (may n) in
      (none_tells hs none.0 (λ n. (one n).0), told h (λ n is. (one n).1 is (none_lacks n hs none.0)))
    where
      told : (h : Happening Disk) → ((n : ℕ) → is_at_board n h ≡ true → TellsNone h) → TellsNone h
      told (BoardGreeted n sheet text seen) here = here n (eq-eqb n n refl)
      told (BoardCalled n sheet call out l text seen) here = here n (eq-eqb n n refl)
      told h here = tt

module _ {Disk : Type 0} (seen : Disk → List ℕ) (images : Disk → Images) (faults : Disk → Faults) where
  pub woven_lives_tell_none : WovenLivesTellNone seen images faults
  woven_lives_tell_none seals contents game innings version count a b hs none begin w =
      none_tells Disk game innings hs (woven_lives_part_none seen images faults seals contents game innings version count a b hs none begin w)
      (λ n. life Disk game innings n (filter (is_at_board n) hs) (w.boards n))
