-- The code of a world shows what the definitions show.
use Rattle.std.proofs.Common.{◌≡◌, ◌⊎◌, ◌≤◌, ◌<◌, ◌+◌, ℕ, zero, suc, Option, Some, None, List, length, refl, sym, ap, ◌∙◌, subst, inl, inr, arith}
use Rattle.std.proofs.lemmas.Option.{same_Some, slice_get-map, slice_get_cases}
use Rattle.std.specs.Option.{option_map}
use Rattle.std.specs.Prelude.{Contains, slice_get, ◌↔◌}
use Rattle.notation.specs.declared.entry.Entry.{Entry}
use Rattle.match_laws.specs.declared.standing.Standing.{Standing}
use Rattle.corrections.specs.Legal.{IsScoreOf}
use Rattle.corrections.specs.CleanList.{history_of}
use Rattle.entry_log.specs.declared.mem_disk.MemDisk.{MemDisk}
use Rattle.agree_core.specs.declared.messages.DeskId.{DeskId}
use Rattle.agree_core.specs.Boards.{BoardState}
use Rattle.headline.specs.declared.event.Station.{Station}
use Rattle.schedule_replay.specs.declared.{site.Site.Site, world.World.World}
use Rattle.world_desks.specs.declared.world_desk.WorldDesk.{WorldDesk}
use Rattle.headline.specs.Configurations.{Process, Configuration, node}
use Rattle.headline.specs.Runs.{Shows, process_shows}
use Rattle.schedule_replay.specs.inner.Sites.{IsProcess}
use Rattle.schedule_replay.specs.CodeWorlds.{IsBoardOf, HasConfiguration, MatchBoard, board_innings, board_state, code_site}
use Rattle.headline.specs.Headline.{AllHaveScores, ShowsScore}
use Rattle.schedule_replay.specs.inner.ShownScores.{Adds, BookHasScore, BookShows, CodeShows, HaveScores, IsNotable, Notes}
use Rattle.schedule_replay.specs.inner.ShownScores.{board_book, code_book, desk_book, station_number}
use Rattle.schedule_replay.proofs.GiveLemmas.{all_at}
use Rattle.schedule_replay.proofs.NoteLemmas.{FromOne, Shown, same_station}
use Rattle.headline.proofs.Scores.{one_standing}

-- a book has one length and one score
one_shown : (o : Option (ℕ × List Entry)) (n m : ℕ) (score other : Standing) → BookShows o n score → BookShows o m other
    → (m ≡ n) × (other ≡ score)
one_shown None n m score other p q = absurd p
one_shown (Some b) n m score other p q = (q.0 ∙ sym p.0, one_standing other score b.0 (history_of b.1) q.1.score p.1.score)

-- noting the length and the score of a book notes all that the book shows
pub adds_book : (u : Station) (o : Option (ℕ × List Entry)) (m : ℕ) (score : Standing) (old new : List Shown) → BookShows o m score
    → Adds u (λ n s. (n ≡ m) × (s ≡ score)) old new → Adds u (BookShows o) old new
adds_book u o m score old new p h t n s = grind (arith, h t n s, one_shown o m n score s p)

-- exactly this book is shown, or none
abbrev OneBook : (List Entry → Type 0) → ℕ → Option (ℕ × List Entry) → Type 0
OneBook ShownBy innings None = (b : List Entry) → ShownBy b → ⊥
OneBook ShownBy innings (Some own) = (own.0 ≡ innings) × ((b : List Entry) → ShownBy b ↔ (own.1 ≡ b))

book_shows : (ShownBy : List Entry → Type 0) (innings : ℕ) (o : Option (ℕ × List Entry)) (n : ℕ) (score : Standing) → OneBook ShownBy innings o
    → ((b : List Entry) × ShownBy b × (n ≡ length b) × IsScoreOf score innings b) ↔ BookShows o n score
book_shows ShownBy innings o n score h = grind (arith, h)

book_scored : (ShownBy : List Entry → Type 0) (innings : ℕ) (o : Option (ℕ × List Entry)) (book : List Entry) → OneBook ShownBy innings o
    → BookHasScore o → ShownBy book → (score : Standing) × IsScoreOf score innings book
book_scored ShownBy innings o book h d s = grind (arith, h, d, s)

desk_shows : (site : Site) (innings : ℕ) (desk : Option WorldDesk) (disk : Option MemDisk) (p : Process MemDisk)
    → site.innings_a_side ≡ innings → IsProcess site desk disk p → OneBook (process_shows p) innings (desk_book desk)
desk_shows site innings desk disk p e h = grind arith

board_shows : (innings : ℕ) (o : Option MatchBoard) → ((k : MatchBoard) → o ≡ Some k → board_innings k ≡ innings)
    → OneBook (λ b. (s : BoardState) × (option_map board_state o ≡ Some s) × (s.book ≡ b)) innings (board_book o)
board_shows innings None h = λ b s. absurd (let e = s.1 in cc)
board_shows innings (Some k) h = (
  h k refl,
  λ b. (λ s. ap (λ (z : BoardState). z.book) (same_Some _ _ s.1) ∙ s.2, λ e. (board_state k, refl, e)),
)

board_there : (code : World) (w : Configuration MemDisk) (i : ℕ) → HasConfiguration code w
    → slice_get w.boards i ≡ option_map board_state (slice_get code.boards.items i)
board_there code w i h = grind (arith, h.board_states, slice_get-map board_state code.boards.items)

-- a station of a world shows its own book
shows_one : (code : World) (w : Configuration MemDisk) (t : Station) → HasConfiguration code w
    → OneBook (Shows w t) code.innings_a_side (code_book code t)
shows_one code w (Station.Desk d) h =
    let site = code_site code d in
    let is = h.sites d in
    let own = h.named d in
    desk_shows site code.innings_a_side site.desk site.disk (node w d).process own.same_innings is.process
shows_one code w (Station.Board zero) h = λ b s. absurd (let e = s.1 in cc)
shows_one code w (Station.Board (suc i)) h =
    let items = code.boards.items in
    subst (λ (o : Option BoardState). OneBook (λ b. (s : BoardState) × (o ≡ Some s) × (s.book ≡ b)) code.innings_a_side (board_book (slice_get items i)))
    (sym (board_there code w i h))
    (board_shows code.innings_a_side (slice_get items i) (λ k e. let of = all_at (IsBoardOf code.game code.innings_a_side) items i k h.boards_are e in of.same_innings))

pub code_shows : (code : World) (w : Configuration MemDisk) (t : Station) (n : ℕ) (score : Standing) → HasConfiguration code w
    → ShowsScore code.innings_a_side w t n score ↔ CodeShows code t n score
code_shows code w t n score h = book_shows (Shows w t) code.innings_a_side (code_book code t) n score (shows_one code w t h)

pub code_scored : (code : World) (w : Configuration MemDisk) → HaveScores code → HasConfiguration code w → AllHaveScores code.innings_a_side w
code_scored code w d h t book s = book_scored (Shows w t) code.innings_a_side (code_book code t) book (shows_one code w t h) (d t) s

-- each board below this number has a score
abbrev pub ScoredBelow : World → ℕ → Type 0
ScoredBelow code n = (i : ℕ) → i < n → BookHasScore (board_book (slice_get code.boards.items i))

pub scored_next : (code : World) (n : ℕ) (k : MatchBoard) → ScoredBelow code n → slice_get code.boards.items n ≡ Some k
    → BookHasScore (board_book (Some k)) → ScoredBelow code (n + 1)
scored_next code n k h there has i less = grind (arith, h i)

pub all_scored : (code : World) (n : ℕ) → length code.boards.items ≤ n → BookHasScore (desk_book code.a.desk)
    → BookHasScore (desk_book code.b.desk) → ScoredBelow code n → HaveScores code
all_scored code n enough a b h t = grind (arith, h, slice_get_cases code.boards.items)

shows_from_one : (code : World) (t : Station) (n : ℕ) (score : Standing) → CodeShows code t n score → FromOne t
shows_from_one code t n score h = grind arith

-- the scores of the stations below this number are noted
pub record NotedBelow (code : World) (k : ℕ) (old new : List Shown) : Type 0 where
  pub noted : (t : Station) (n : ℕ) (score : Standing)
      → Contains new (t, n, score) ↔ (Contains old (t, n, score) ⊎ (CodeShows code t n score × (station_number t < k)))

pub none_noted : (code : World) (old : List Shown) → NotedBelow code 0 old old
none_noted code old = record { noted = λ t n score. grind arith }

-- adding one more station's score to those of the stations below
added_more : {Old Mid New Shows Below Here Next : Type 0} → Mid ↔ (Old ⊎ (Shows × Below)) → New ↔ (Mid ⊎ Here) → (Here → Shows × Next)
    → (Below → Next) → (Shows → Next → Below ⊎ Here) → New ↔ (Old ⊎ (Shows × Next))
added_more h a here below either = grind (arith, h, a, here, below, either)

-- the next station's scores are noted too, under its name
pub noted_next : {code : World} {k l : ℕ} {u v : Station} {old mid new : List Shown} → FromOne u → station_number u ≡ k → l ≡ k + 1 → v ≡ u
    → NotedBelow code k old mid → Adds v (CodeShows code u) mid new → NotedBelow code l old new
noted_next {code = code} {k = k} {u = u} f number next is h a = record {
  noted = λ t n score. added_more (h.noted t n score) (a t n score)
      (λ e. (rw (e.0 ∙ is) e.1, let same = ap station_number (e.0 ∙ is) in omega arith))
      (λ less. omega arith)
      (λ c less. let same = same_station t u (shows_from_one code t n score c) f in grind (arith, same, c, less, number, is, next));
}

-- if the next station's length is noted already, its noted score is the one that it shows
pub one_noted : {code : World} {w : Configuration MemDisk} {k : ℕ} {u v : Station} {old mid : List Shown} → v ≡ u → IsNotable code old w
    → NotedBelow code k old mid → (n : ℕ) (score other : Standing) → Contains mid (v, n, other) → CodeShows code u n score → other ≡ score
one_noted {code = code} {w = w} {u = u} is h below n score other c shows = elim ((below.noted u n other).0 (rw is at c)) [
  | inl o ↦ h.one_score u n score other o ((code_shows code w u n score h.has_configuration).1 shows)
  | inr e ↦ (one_shown (code_book code u) n n score other shows e.0).1
]

-- once both desks and all boards are noted, every station is
pub all_noted : {code : World} {k : ℕ} {old new : List Shown} → length code.boards.items + 2 ≤ k → NotedBelow code k old new → Notes code old new
all_noted {code = code} {k = k} enough h w is t n score = (
  λ c. elim ((h.noted t n score).0 c) [ inl o ↦ inl o | inr e ↦ inr ((code_shows code w t n score is).1 e.0) ],
  λ c. (h.noted t n score).1 (elim c [
    | inl o ↦ inl o
    | inr s ↦ let p = (code_shows code w t n score is).0 s in inr (p, small t p)
  ]),
)
  where
    small : (t : Station) → CodeShows code t n score → station_number t < k
    small t p = grind (arith, slice_get_cases code.boards.items)

-- a desk is noted under its own name, and a board under its number
pub desk_name : {code : World} {old : List Shown} {w : Configuration MemDisk} (d : DeskId) → IsNotable code old w → Station.Desk (code_site code d).name ≡ Station.Desk d
desk_name d h = let own = h.has_configuration.named d in ap Station.Desk own.same_name

pub desk_noted : {code : World} {w : Configuration MemDisk} {k : ℕ} {old mid new : List Shown} (d : DeskId) → IsNotable code old w → station_number (Station.Desk d) ≡ k
    → NotedBelow code k old mid → Adds (Station.Desk (code_site code d).name) (CodeShows code (Station.Desk d)) mid new → NotedBelow code (k + 1) old new
desk_noted d h number below = noted_next {u = Station.Desk d} tt number refl (desk_name d h) below

pub board_name : (i : ℕ) → Station.Board (i + 1) ≡ Station.Board (suc i)
board_name i = let e : i + 1 ≡ suc i = omega arith in ap Station.Board e
