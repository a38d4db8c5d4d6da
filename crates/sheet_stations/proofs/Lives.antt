-- The lives of the program's stations are lives as the specs of processes have them.
use Rattle.std.proofs.Common.{arith, ◌≡◌, ◌∙◌, ℕ, zero, suc, List, [], ◌∷◌, ◌++◌, inl, inr, Result, ap, refl, subst, sym}
use Rattle.std.specs.Prelude.{All, drop, map}
use Rattle.entry_log.specs.Format.{room}
use Rattle.entry_log.specs.Version2.{version_2}
use Rattle.vote_store.specs.View.{file_view}
use Rattle.agree_core.specs.declared.messages.DeskId.{DeskId}
use Rattle.agree_core.specs.Ballots.{Ballot}
use Rattle.agree_core.specs.Boards.{BoardState, fresh_board}
use Rattle.agree_core.specs.Desks.{DeskState}
use Rattle.agree_core.specs.FileView.{FileView, Stays}
use Rattle.agree_core.specs.Openings.{NotOpened, Opened, Opening}
use Rattle.board.specs.Board as board
use Rattle.cards.specs.Sheet.{Sheet}
use Rattle.headline.specs.Configurations.{Down, Node, Running, process_disk}
use Rattle.headline.specs.DeskFaults.{LosesPower}
use Rattle.headline.specs.declared.version.FileVersion.{FileVersion}
use Rattle.headline.specs.declared.version.FileVersion.TheVariants.{New}
use Rattle.live.specs.Boards as boards
use Rattle.live.specs.Boards.{board_kind}
use Rattle.live.specs.DeskLife as life
use Rattle.live.specs.DeskLife.{BeginsOn, Follows, fresh}
use Rattle.live.specs.Desks.{DiskView, FitsLongest, desk_kind}
use Rattle.live.specs.Runs as own
use Rattle.live.specs.Runs.{Kind, Logs, Run}
use Rattle.live.specs.Ticks.{unticked}
use Rattle.live.specs.declared.desk_life.LifeEnd.{LifeEnd}
use Rattle.desk_command.specs.declared.desk_disk.DeskDisk.{DeskDisk}
use Rattle.desk_command.specs.Disks.{cap_of, faults_of, file_of, images_of}
use Rattle.desk_command.specs.Typed as desks
use Rattle.board_command.specs.Keeping.{entries_in, innings_in}
use Rattle.processes.specs.Lives.{BeginsFirst, BoardRuns, Beginning, CallsMade, IsBoardLife, IsBoardProcess, IsLife, IsNextStage, RunsFrom, Stage, after_life, after_stage}
use Rattle.processes.specs.Printing.{HandsBook}
use Rattle.processes.specs.Stations.{process_stages}
use Rattle.sheet_stations.specs.Lives.{AllFollow, Ended, IsOfMatch, LifeOfBoard, LifeOfDesk, Lived, LostPower, MayFollow, Next, OpensFirst, board_process, board_sheet, calls_of, disk_of, opening_of, sheet_of, stages_after, stages_of}
use Rattle.sheet_stations.specs.Matches.{file_contents}

-- without its last calls a run is still a run
run_drop : {State Call : Type 0} (kind : Kind State Call) (k : State) (n : ℕ) (ms : List (own.Moment State Call)) → Run kind k ms → Run kind k (drop n ms)
run_drop kind k zero ms r = r
run_drop kind k (suc n) [] r = tt
run_drop kind k (suc n) (m ∷ ms) r = run_drop kind k n ms r.0

after_joined : {Disk : Type 0} (x : Node Disk) (p q : List (Stage Disk)) → after_life x (p ++ q) ≡ after_life (after_life x q) p
after_joined x [] q = refl
after_joined x (s ∷ p) q = ap (λ (y : Node _). after_stage y s) (after_joined x p q)

-- what a desk's disk shows of its file, in a match of this number
abbrev pub views : DeskId → ℕ → FileVersion → FileView DeskDisk
views desk game version = file_view (file_contents version) file_of images_of desk game

abbrev disks_of : DeskDisk → DiskView DeskDisk
disks_of disk = record { faults = faults_of; FitsLongest = FitsLongest (room version_2) (cap_of disk) }

-- what holds for a sheet's numbers holds for those of its match
in_match : (P : ℕ → ℕ → Type 0) (sheet : Sheet) (game innings : ℕ) → IsOfMatch game innings sheet → P sheet.game sheet.innings → P game innings
in_match P sheet game innings of p =
    subst (λ (i : ℕ). P game i) of.same_innings (subst (λ (g : ℕ). P g sheet.innings) of.same_game p)

module _ (desk : DeskId) where
  abbrev LifeAt : ℕ → ℕ → Node DeskDisk → List (Stage DeskDisk) → Type 0
  LifeAt game innings x stages = IsLife (views desk game) file_of faults_of desk game innings x stages

  life_joined : (game innings : ℕ) (x : Node DeskDisk) (p q : List (Stage DeskDisk)) → LifeAt game innings x q → LifeAt game innings (after_life x q) p
      → LifeAt game innings x (p ++ q)
  life_joined game innings x [] q a b = a
  life_joined game innings x (s ∷ p) q a b = (
    life_joined game innings x p q a b.0,
    subst (λ (y : Node DeskDisk). IsNextStage (views desk game) file_of faults_of desk game innings y s) (sym (after_joined x p q)) b.1,
  )

  -- one process, by how it began and what followed
  module _ (sheet : Sheet) (disk : DeskDisk) (before after : Logs) (turns : ℕ) (result : Result (Unit {0}) LifeEnd) (n : ℕ) (x : Node DeskDisk) (new : x.version ≡ New) where
    abbrev Begins : Opening DeskDisk → Type 0
    Begins opening = BeginsOn (views desk sheet.game New) file_of sheet.innings desk disk opening

    abbrev Goes : Opening DeskDisk → Type 0
    Goes opening = Follows sheet (views desk sheet.game New) (disks_of disk) sheet.innings opening before after turns result

    abbrev these : (opening : Opening DeskDisk) → Begins opening → Goes opening
        → life.DeskLives (views desk sheet.game New) file_of (disks_of disk) sheet sheet.innings desk disk before after turns result
    these opening begins follows = record { opening = opening; begins = begins; follows = follows }

    runs : (k : DeskState DeskDisk) (begins : Begins (Opened k)) (f : Goes (Opened k))
        → RunsFrom sheet (views desk sheet.game x.version) faults_of sheet.game sheet.innings k (drop n (desks.calls_of (these (Opened k) begins f)))
    runs k begins f = subst (λ (z : FileVersion). RunsFrom sheet (views desk sheet.game z) faults_of sheet.game sheet.innings k (drop n f.3.moments)) (sym new)
        (room version_2, cap_of disk, run_drop (desk_kind sheet (views desk sheet.game New) (disks_of disk) sheet.game sheet.innings) (fresh k) n f.3.moments f.3.run)

    process : (votes : List Ballot) → x.process ≡ Down votes disk → (opening : Opening DeskDisk) (begins : Begins opening) (f : Goes opening)
        → LifeAt sheet.game sheet.innings x (process_stages sheet opening (drop n (desks.calls_of (these opening begins f))))
    process votes down opening begins f = of opening begins f
      where
        begun : (opening : Opening DeskDisk) → Begins opening → LifeAt sheet.game sheet.innings x (Beginning opening ∷ [])
        begun opening begins =
            (tt, (votes, disk, down, subst (λ (z : FileVersion). BeginsOn (views desk sheet.game z) file_of sheet.innings desk disk opening) (sym new) begins))

        of : (opening : Opening DeskDisk) (begins : Begins opening) (f : Goes opening)
            → LifeAt sheet.game sheet.innings x (process_stages sheet opening (drop n (desks.calls_of (these opening begins f))))
        of (Opened k) begins f = (begun (Opened k) begins, (refl, runs k begins f))
        of (NotOpened cause left) begins f = begun (NotOpened cause left) begins

    -- the first process of a desk
    first : (k : DeskState DeskDisk) → x.process ≡ Running k → (opening : Opening DeskDisk) (begins : Begins opening) (f : Goes opening) → OpensFirst k opening
        → LifeAt sheet.game sheet.innings x (CallsMade sheet k (drop n (desks.calls_of (these opening begins f))) ∷ [])
        × BeginsFirst (views desk sheet.game New) file_of sheet.innings desk k
    first k up (Opened j) begins f is = (
      (tt, (up, subst (λ (i : DeskState DeskDisk). RunsFrom sheet (views desk sheet.game x.version) faults_of sheet.game sheet.innings i (drop n f.3.moments)) is.0 (runs j begins f))),
      subst (λ (i : DeskState DeskDisk). BeginsFirst (views desk sheet.game New) file_of sheet.innings desk i) is.0 (disk, begins, is.1),
    )
    first k up (NotOpened cause left) begins f is = absurd is

  module _ (game innings : ℕ) where
    lived : (l : LifeOfDesk desk) → IsOfMatch game innings (sheet_of l) → (x : Node DeskDisk) → x.version ≡ New → (votes : List Ballot) → x.process ≡ Down votes (disk_of l)
        → LifeAt game innings x (stages_of (Lived l))
    lived l of x new votes down =
        let lives = l.process.kept.lives.lives in
        in_match (λ g i. LifeAt g i x (stages_of (Lived l))) (sheet_of l) game innings of
        (process (sheet_of l) (disk_of l) _ _ _ _ l.unmade x new votes down lives.opening lives.begins lives.follows)

    pub lived_first : (l : LifeOfDesk desk) → IsOfMatch game innings (sheet_of l) → (x : Node DeskDisk) → x.version ≡ New → (k : DeskState DeskDisk) → x.process ≡ Running k
        → OpensFirst k (opening_of l)
        → LifeAt game innings x (CallsMade (sheet_of l) k (calls_of l) ∷ []) × BeginsFirst (views desk game New) file_of innings desk k
    lived_first l of x new k up opens =
        let lives = l.process.kept.lives.lives in
        in_match (λ g i. LifeAt g i x (CallsMade (sheet_of l) k (calls_of l) ∷ []) × BeginsFirst (views desk g New) file_of i desk k) (sheet_of l) game innings of
        (first (sheet_of l) (disk_of l) _ _ _ _ l.unmade x new k up lives.opening lives.begins lives.follows opens)

    next : (x : Node DeskDisk) (y : Next desk) → x.version ≡ New → MayFollow (views desk game New) game innings x y → LifeAt game innings x (stages_of y)
    next x (Lived l) new may = lived l may.0 x new may.1 may.2
    next x (Ended disk) new may =
        (tt, (may.0, may.1, subst (λ (z : FileVersion). Stays (views desk game z) may.0.disk disk) (sym new) may.2))
    next x (LostPower disk) new may =
        (tt, subst (λ (z : FileVersion). LosesPower (views desk game z) (process_disk x.process) disk) (sym new) may)

    keeps_version : (x : Node DeskDisk) (y : Next desk) → (after_life x (stages_of y)).version ≡ x.version
    keeps_version x (Lived l) = of (opening_of l)
      where
        of : (opening : Opening DeskDisk) → (after_life x (process_stages (sheet_of l) opening (calls_of l))).version ≡ x.version
        of (Opened k) = refl
        of (NotOpened cause left) = refl
    keeps_version x (Ended disk) = refl
    keeps_version x (LostPower disk) = refl

    -- the lives of a desk that follow one another
    pub followed : (x : Node DeskDisk) (made : List (Stage DeskDisk)) (ys : List (Next desk)) → (after_life x made).version ≡ New → LifeAt game innings x made
        → AllFollow (views desk game New) game innings x made ys
        → LifeAt game innings x (stages_after made ys) × ((after_life x (stages_after made ys)).version ≡ New)
    followed x made [] new lives follow = (lives, new)
    followed x made (y ∷ ys) new lives follow =
        let before = followed x made ys new lives follow.0 in
        let z = after_life x (stages_after made ys) in (
          life_joined game innings x (stages_of y) (stages_after made ys) before.0 (next z y before.1 follow.1),
          ap (λ (n : Node DeskDisk). n.version) (after_joined x (stages_of y) (stages_after made ys)) ∙ keeps_version z y ∙ before.1,
        )

-- a life of a board
lived_board : (game innings : ℕ) (b : LifeOfBoard) → IsOfMatch game innings (board_sheet b) → IsBoardProcess game innings (board_process b)
lived_board game innings b of =
    let sheet = board_sheet b in
    let lives = b.kept.lives in
    let new = b.kept.fresh in
    let moments = lives.runs.goes.goes.moments in
    let Lives : ℕ → ℕ → BoardState → Type 0 = λ g i k.
    HandsBook sheet i k.book lives.first × BoardRuns g i sheet (boards.begun k 0 boards.unheard unticked [] lives.first) (drop b.unmade moments) in
    let begun : Lives (board.game_of b.kept.begun) (innings_in (board.book_of b.kept.begun)) (board.state_of entries_in b.kept.begun) = (
      elim lives.shows_first [ inl is ↦ inl is | inr none ↦ inr none.0 ],
      run_drop (board_kind sheet (board.game_of b.kept.begun) (innings_in (board.book_of b.kept.begun)))
          (boards.at_turn entries_in b.kept.begun 0 boards.unheard unticked [] lives.first) b.unmade moments lives.runs.goes.goes.run,
    ) in
    subst (λ (g : ℕ). Lives g innings fresh_board) (new.game ∙ of.same_game)
    (subst (λ (i : ℕ). Lives (board.game_of b.kept.begun) i fresh_board) (new.innings ∙ of.same_innings)
    (subst (λ (k : BoardState). Lives (board.game_of b.kept.begun) (innings_in (board.book_of b.kept.begun)) k) new.state begun))

pub lived_boards : (game innings : ℕ) (bs : List LifeOfBoard) → All (λ (b : LifeOfBoard). IsOfMatch game innings (board_sheet b)) bs → IsBoardLife game innings (map board_process bs)
lived_boards game innings [] all = tt
lived_boards game innings (b ∷ bs) all = (lived_boards game innings bs (λ k d within. all (suc k) d (omega arith)), lived_board game innings b (all 0 b (omega arith)))
