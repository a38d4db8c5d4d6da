-- What happened at a station was given to one of its lives.
use Rattle.std.proofs.Common.{◌≡◌, ◌⊎◌, inl, inr, ℕ, zero, suc, Bool, true, false, List, [], ◌∷◌, ◌++◌, Result, cond, refl, sym, subst}
use Rattle.std.specs.Prelude.{drop, map}
use Rattle.agree_core.specs.declared.messages.DeskId.{DeskId}
use Rattle.agree_core.specs.Desks.{DeskState}
use Rattle.agree_core.specs.FileView.{FileView}
use Rattle.agree_core.specs.Openings.{NotOpened, Opened, Opening}
use Rattle.cards.specs.Sheet.{Sheet}
use Rattle.links.specs.Passed.{Passed, sends}
use Rattle.links.specs.Windows.{Has}
use Rattle.links.proofs.WindowLemmas.{has_more}
use Rattle.live.specs.Boards as boards
use Rattle.live.specs.Boards.{BoardCall, BoardTurn, board_kind}
use Rattle.live.specs.Desks as desks
use Rattle.live.specs.Desks.{DeskCall, DeskProcess, DiskView, desk_kind}
use Rattle.live.specs.DeskLife.{BeginsOn, DeskLives, Follows}
use Rattle.live.specs.Runs as own
use Rattle.live.specs.Runs.{Kind, Logs, passed_at, passed_in}
use Rattle.live.specs.Sights.{Sight}
use Rattle.live.specs.declared.desk_life.LifeEnd.{LifeEnd}
use Rattle.desk_command.specs.declared.desk_disk.DeskDisk.{DeskDisk}
use Rattle.desk_command.specs.Typed as typed
use Rattle.board_command.specs.Keeping.{innings_in}
use Rattle.board_command.specs.Lives.{traces_in}
use Rattle.board.specs.Board as board
use Rattle.seal.specs.Opening.{opened}
use Rattle.processes.specs.Happenings.{BoardCalled, DeskCalled, Happening}
use Rattle.processes.specs.Lives.{CallsMade, Stage, board_calls, board_happens, first_turn, life_happens, stage_happens}
use Rattle.processes.specs.Lives as lives
use Rattle.processes.specs.Stations.{process_stages}
use Rattle.sheet_stations.specs.Lives.{Ended, LifeOfBoard, LifeOfDesk, Lived, LivesOfDesk, LostPower, Next, all_stages, board_process, board_sheet, calls_of, opening_of, sheet_of, stages_after, stages_of}
use Rattle.sheet_stations.specs.Network.{IsLifeOf}

pub has_behind : {X : Type 0} (front log : List X) (x : X) → Has log x → Has (front ++ log) x
has_behind [] log x h = h
has_behind (y ∷ front) log x h = inr (has_behind front log x h)

-- ---- of calls

-- x is among what these calls were given
abbrev IsGivenIn : {State Call : Type 0} → (Call → List Passed) → List (own.Moment State Call) → Passed → Type 0
IsGivenIn given [] x = ⊥
IsGivenIn given (m ∷ ms) x = Has (given m.call) x ⊎ IsGivenIn given ms x

in_passed : {State Call : Type 0} (kind : Kind State Call) (ms : List (own.Moment State Call)) (x : Passed) → IsGivenIn kind.given ms x → Has (passed_in kind ms) x
in_passed kind [] x h = absurd h
in_passed kind (m ∷ ms) x (inl h) =
    has_behind (passed_in kind ms) (passed_at kind m.call m.out) x (has_more (kind.given m.call) (sends (kind.receivers m.call) kind.game m.out) x h)
in_passed kind (m ∷ ms) x (inr h) = has_more (passed_in kind ms) (passed_at kind m.call m.out) x (in_passed kind ms x h)

undropped : {State Call : Type 0} (given : Call → List Passed) (n : ℕ) (ms : List (own.Moment State Call)) (x : Passed) → IsGivenIn given (drop n ms) x
    → IsGivenIn given ms x
undropped given zero ms x h = h
undropped given (suc n) [] x h = h
undropped given (suc n) (m ∷ ms) x h = inr (undropped given n ms x h)

module _
    {Disk : Type 0} {view : FileView Disk} {seen : Disk → List ℕ} {disks : DiskView Disk} {sheet : Sheet} {innings : ℕ} {d : DeskId} {disk : Disk}
    {before after : Logs} {turns : ℕ} {result : Result (Unit {0}) LifeEnd} where
  -- a desk's process took what its calls were given
  process_took : (ls : DeskLives view seen disks sheet innings d disk before after turns result) (n : ℕ) (x : Passed)
      → IsGivenIn desks.given (drop n (typed.calls_of ls)) x → Has after.passed x
  process_took ls n x h = of ls.opening ls.begins ls.follows h
    where
      of : (opening : Opening Disk) (begins : BeginsOn view seen innings d disk opening)
          (follows : Follows sheet view disks innings opening before after turns result)
          → let these : DeskLives view seen disks sheet innings d disk before after turns result =
          record { opening = opening; begins = begins; follows = follows } in IsGivenIn desks.given (drop n (typed.calls_of these)) x → Has after.passed x
      of (Opened k) begins run h =
          let goes = run.3 in
          subst (λ (l : List Passed). Has l x) (sym goes.logs.passed)
          (has_behind before.passed (passed_in (desk_kind sheet view disks sheet.game innings) goes.moments) x (in_passed (desk_kind sheet view disks sheet.game innings) goes.moments x (undropped desks.given n goes.moments x h)))
      of (NotOpened cause left) begins follows h = absurd (undropped desks.given n [] x h)

-- a board's life took what its calls were given
board_took : (b : LifeOfBoard) (x : Passed) → IsGivenIn boards.given (board_process b).calls x → Has (traces_in b.life).passed x
board_took b x h =
    let goes = b.kept.lives.runs.goes.goes in
    let kind = board_kind (board_sheet b) (board.game_of b.kept.begun) (innings_in (board.book_of b.kept.begun)) in
    subst (λ (l : List Passed). Has l x) (sym goes.logs.passed)
    (has_behind (opened (traces_in b.life).ring ∷ []) (passed_in kind goes.moments) x (in_passed kind goes.moments x (undropped boards.given b.unmade goes.moments x h)))

-- ---- of happenings

module _ {Disk : Type 0} where
  abbrev given_at : Happening Disk → List Passed
  given_at (DeskCalled d s call out l text) = desks.given call
  given_at (BoardCalled n s call out l text seen) = boards.given call
  given_at what = []

  -- x is among what was given in these happenings
  abbrev pub WasGiven : List (Happening Disk) → Passed → Type 0
  WasGiven [] x = ⊥
  WasGiven (h ∷ hs) x = Has (given_at h) x ⊎ WasGiven hs x

  in_first : (p q : List (Happening Disk)) (x : Passed) → WasGiven p x → WasGiven (p ++ q) x
  in_first [] q x h = absurd h
  in_first (g ∷ p) q x (inl h) = inl h
  in_first (g ∷ p) q x (inr h) = inr (in_first p q x h)

  in_second : (p q : List (Happening Disk)) (x : Passed) → WasGiven q x → WasGiven (p ++ q) x
  in_second [] q x h = h
  in_second (g ∷ p) q x h = inr (in_second p q x h)

  in_either : (p q : List (Happening Disk)) (x : Passed) → WasGiven (p ++ q) x → WasGiven p x ⊎ WasGiven q x
  in_either [] q x h = inr h
  in_either (g ∷ p) q x (inl h) = inl (inl h)
  in_either (g ∷ p) q x (inr h) = elim (in_either p q x h) [ inl k ↦ inl (inr k) | inr k ↦ inr k ]

  -- one more happening, if the test holds
  pub one_more : (q : Bool) (h : Happening Disk) (hs : List (Happening Disk)) (x : Passed) → WasGiven hs x → WasGiven (cond q (h ∷ hs) hs) x
  one_more true h hs x given = inr given
  one_more false h hs x given = given

  pub this_one : (q : Bool) (h : Happening Disk) (hs : List (Happening Disk)) (x : Passed) → q ≡ true → Has (given_at h) x → WasGiven (cond q (h ∷ hs) hs) x
  this_one true h hs x is given = inl given
  this_one false h hs x is given = absurd (cc)

  module _ (innings : ℕ) (d : DeskId) where
    of_calls : (s : Sheet) (k : DeskState Disk) (ms : List (own.Moment (DeskProcess Disk) DeskCall)) (x : Passed) → WasGiven (lives.calls_of innings d s k ms) x
        → IsGivenIn desks.given ms x
    of_calls s k [] x (inl h) = absurd h
    of_calls s k [] x (inr h) = absurd h
    of_calls s k (m ∷ ms) x (inl h) = inl h
    of_calls s k (m ∷ ms) x (inr h) = inr (of_calls s k ms x h)

    -- in the stages of one process
    of_process : (s : Sheet) (opening : Opening Disk) (ms : List (own.Moment (DeskProcess Disk) DeskCall)) (x : Passed)
        → WasGiven (life_happens innings d (process_stages s opening ms)) x → IsGivenIn desks.given ms x
    of_process s (Opened k) ms x h = elim (in_either (lives.calls_of innings d s k ms) _ x h) [
      | inl given ↦ of_calls s k ms x given
      | inr none ↦ elim none [ inl void ↦ absurd void | inr void ↦ absurd void ]
    ]
    of_process s (NotOpened cause left) ms x (inl h) = absurd h
    of_process s (NotOpened cause left) ms x (inr h) = absurd h

    in_stages : (p q : List (Stage Disk)) (x : Passed) → WasGiven (life_happens innings d (p ++ q)) x
        → WasGiven (life_happens innings d p) x ⊎ WasGiven (life_happens innings d q) x
    in_stages [] q x h = inr h
    in_stages (s ∷ p) q x h = elim (in_either (stage_happens innings d s) (life_happens innings d (p ++ q)) x h) [
      | inl now ↦ inl (in_first (stage_happens innings d s) (life_happens innings d p) x now)
      | inr before ↦ elim (in_stages p q x before) [
        | inl k ↦ inl (in_second (stage_happens innings d s) (life_happens innings d p) x k)
        | inr k ↦ inr k
      ]
    ]

-- ---- of lives

module _ {desk : DeskId} (innings : ℕ) where
  took : (l : LifeOfDesk desk) (x : Passed) → IsGivenIn desks.given (calls_of l) x → Has l.process.traces.passed x
  took l x h = process_took l.process.kept.lives.lives l.unmade x h

  abbrev Took : (LifeOfDesk desk → Type 0) → Passed → Type 0
  Took IsOne x = (l : LifeOfDesk desk) × IsOne l × Has l.process.traces.passed x

  of_next : (y : Next desk) (x : Passed) → WasGiven (life_happens innings desk (stages_of y)) x → Took (λ l. y ≡ Lived l) x
  of_next (Lived l) x h = (l, refl, took l x (of_process innings desk (sheet_of l) (opening_of l) (calls_of l) x h))
  of_next (Ended disk) x (inl h) = absurd h
  of_next (Ended disk) x (inr h) = absurd h
  of_next (LostPower disk) x (inl h) = absurd h
  of_next (LostPower disk) x (inr h) = absurd h

  of_later : (first : List (Stage DeskDisk)) (ys : List (Next desk)) (x : Passed) → WasGiven (life_happens innings desk (stages_after first ys)) x
      → WasGiven (life_happens innings desk first) x ⊎ Took (λ l. Has ys (Lived l)) x
  of_later first [] x h = inl h
  of_later first (y ∷ ys) x h = elim (in_stages innings desk (stages_of y) (stages_after first ys) x h) [
    | inl now ↦ let t = of_next y x now in inr (t.0, inl t.1, t.2)
    | inr before ↦ elim (of_later first ys x before) [ inl k ↦ inl k | inr t ↦ inr (t.0, inr t.1, t.2) ]
  ]

  -- one of a desk's lives took what was given there
  pub desk_took : (d : LivesOfDesk desk) (x : Passed) → WasGiven (life_happens innings desk (all_stages d)) x → Took (IsLifeOf d) x
  desk_took d x h = elim (of_later (CallsMade (sheet_of d.first) d.begun (calls_of d.first) ∷ []) d.later x h) [
    | inl first ↦ elim (in_either (lives.calls_of innings desk (sheet_of d.first) d.begun (calls_of d.first)) [] x first) [
      | inl given ↦ (d.first, inl refl, took d.first x (of_calls innings desk (sheet_of d.first) d.begun (calls_of d.first) x given))
      | inr none ↦ absurd none
    ]
    | inr t ↦ (t.0, inr t.1, t.2)
  ]

module _ (innings n : ℕ) where
  of_board_calls : (s : Sheet) (k : BoardTurn) (first : List Sight) (ms : List (own.Moment BoardTurn BoardCall)) (x : Passed)
      → WasGiven {Disk = DeskDisk} (board_calls innings n s k first ms) x → IsGivenIn boards.given ms x
  of_board_calls s k first [] x (inl h) = absurd h
  of_board_calls s k first [] x (inr h) = absurd h
  of_board_calls s k first (m ∷ ms) x (inl h) = inl h
  of_board_calls s k first (m ∷ ms) x (inr h) = inr (of_board_calls s k first ms x h)

  -- one of a board's lives took what was given there
  pub one_took : (bs : List LifeOfBoard) (x : Passed) → WasGiven {Disk = DeskDisk} (board_happens innings n (map board_process bs)) x
      → (b : LifeOfBoard) × Has bs b × Has (traces_in b.life).passed x
  one_took [] x h = absurd h
  one_took (b ∷ bs) x h =
      let p = board_process b in
      elim (in_either (board_calls innings n p.sheet (first_turn p) p.first p.calls) _ x h) [
        | inl given ↦ (b, inl refl, board_took b x (of_board_calls p.sheet (first_turn p) p.first p.calls x given))
        | inr more ↦ elim more [
          | inl none ↦ absurd none
          | inr before ↦ let t = one_took bs x before in (t.0, inr t.1, t.2)
        ]
      ]
