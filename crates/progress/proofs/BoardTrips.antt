-- How a board goes on in calm moments, and hears the votes of a desk.
use Rattle.std.proofs.Common.{◌≡◌, ◌≢◌, ◌⊎◌, ℕ, Some, List, [], ◌∷◌, ◌++◌, refl, ap, ◌∙◌, subst, inl, inr, arith}
use Rattle.agree_core.specs.declared.{messages.Asker.Asker, messages.DeskId.DeskId, messages.Message.Message, messages.Vote.Vote}
use Rattle.agree_core.specs.Ballots.{AllVotes, Justified, votes_by}
use Rattle.agree_core.specs.Boards.{BoardAnswer, BoardReceives, BoardState, BoardTicks}
use Rattle.agree_core.specs.Books.{Rules}
use Rattle.agree_core.specs.Desks.{ask_for}
use Rattle.agree_core.specs.Positions.{Before, position_of}
use Rattle.agree_core.specs.Readers.{ReaderState, noted_of, other}
use Rattle.headline.specs.declared.{event.Event.Event, event.Station.Station}
use Rattle.headline.specs.Answers.{Answer}
use Rattle.headline.specs.Besides.{IsSoundAnswer}
use Rattle.headline.specs.BoardSteps.{AtBoard}
use Rattle.headline.specs.Configurations.{Configuration, board_at}
use Rattle.headline.specs.Events.{station_of}
use Rattle.headline.specs.Runs.{Moment, Run, last_of}
use Rattle.headline.specs.Setting.{Setting}
use Rattle.headline.specs.Steps.{Step, StepAt}
use Rattle.headline.proofs.AtStations.{at_board}
use Rattle.headline.proofs.Given.{given_there}
use Rattle.headline.proofs.Heeding.{board_put}
use Rattle.headline.proofs.Sound.{justified_of}
use Rattle.progress.specs.CalmMoments.{AllCalm, IsCalm}
use Rattle.progress.specs.Exchange.{ComesTo, HandsOut}
use Rattle.progress.proofs.CalmRuns.{Steady, last_out, steady_votes}
use Rattle.progress.proofs.Exchanges.{Ear, Hearer, Knows, NoVote, On, none_full, on_on}

-- the reader's position, and what it has noted of a desk
abbrev pub ear : DeskId → ReaderState → Ear
ear d r = record { position = r.position; noted = noted_of r d }

-- the reader has gone on, for each desk
abbrev pub BoardOn : ReaderState → ReaderState → Type 0
BoardOn r t = (d : DeskId) → On (ear d r) (ear d t)

on_same : (r t : ReaderState) → t ≡ r → BoardOn r t
on_same r t e d = inr (ap (λ (z : ReaderState). z.position) e, λ f q. ap (λ (z : ReaderState). noted_of z d) e ∙ q)

receives_on : {Why : Type 0} → (rules : Rules Why) (k l : BoardState) (m : Message) (told : BoardAnswer) → BoardReceives rules k m told l → BoardOn k.reader l.reader
receives_on rules k l h3 h4 p = grind (arith, on_same)

pub same_or_other : (n m : ℕ) → (n ≡ m) ⊎ (n ≢ m)
same_or_other n m = grind arith

pub one_board : (boards : List BoardState) (n : ℕ) (k l : BoardState) → board_at boards n ≡ Some k → board_at boards n ≡ Some l → k ≡ l
one_board boards n k l p q = cc

module _ {Disk Why : Type 0} (s : Setting Disk Why) where
  at_board_on : (sent : List Message) (event : Event) (k l : BoardState) (answer : Answer Why) (out : List Message) → IsCalm event
      → AtBoard s sent event k answer l out → BoardOn k.reader l.reader
  at_board_on sent h1 k l answer out c p = grind (arith, receives_on, on_same)

  abbrev pub OnFrom : ℕ → BoardState → Configuration Disk → Type 0
  OnFrom n k new = (l : BoardState) × (board_at new.boards n ≡ Some l) × BoardOn k.reader l.reader

  pub board_step_on : (w : Configuration Disk) (event : Event) (t : Station) (answer : Answer Why) (new : Configuration Disk) → IsCalm event
      → (n : ℕ) (k : BoardState) → board_at w.boards n ≡ Some k → StepAt s w event t answer new → OnFrom n k new
  board_step_on w event t answer new calm n k e p = elim (at_board s w event answer new t n p) [
    | inl q ↦ (k, q.1 ∙ e, on_same k.reader k.reader refl)
    | inr h ↦
        let same = one_board w.boards n h.1 k h.4 e in
        (h.2, h.5, subst (λ (z : BoardState). BoardOn z.reader h.2.reader) same (at_board_on w.sent event h.1 h.2 answer h.3 calm h.6))
  ]

  pub board_goes : (w : Configuration Disk) (ms : List (Moment Disk Why)) → Run s w ms → AllCalm ms → (n : ℕ) (k : BoardState) → board_at w.boards n ≡ Some k
      → OnFrom n k (last_of w ms)
  board_goes w [] r c n k e = (k, e, on_same k.reader k.reader refl)
  board_goes w (m ∷ ms) r c n k e =
      let h = board_goes w ms r.0 c.0 n k e in
      let g = board_step_on (last_of w ms) m.event (station_of m.event) m.answer m.after c.1 n h.0 h.1 r.1 in
      (g.0, g.1, λ d. on_on (ear d k.reader) (ear d h.0.reader) (ear d g.0.reader) (h.2 d) (g.2 d))

  -- a board hears a vote for its position, unless the answer is that the votes are bad
  pub board_hears : (w : Configuration Disk) (m : Moment Disk Why) (n : ℕ) (k l : BoardState) (v : Vote) → Step s w m.event m.answer m.after
      → ComesTo w m (Station.Board n) (Message.Vote v) → board_at w.boards n ≡ Some k → board_at m.after.boards n ≡ Some l
      → position_of v ≡ k.reader.position → IsSoundAnswer m.event m.answer → Before k.reader.position l.reader.position ⊎ Knows (ear v.desk l.reader)
  board_hears w m n k l v p z7 at there pos sound = grind (arith, given_there, board_put)

  -- at its tick a board asks for a vote that it lacks
  pub board_ticks : (v : AllVotes) (n : ℕ) (d : DeskId) (w : Configuration Disk) (m : Moment Disk Why) → Steady s v w → Step s w m.event m.answer m.after
      → m.event ≡ Event.Tick (Station.Board n) → (k : BoardState) → board_at w.boards n ≡ Some k
      → (board_at m.after.boards n ≡ Some k)
      × (Knows (ear d k.reader) ⊎ (NoVote (votes_by v d) k.reader.position ⊎ ((from : Asker) × HandsOut w m (ask_for from k.reader.position))))
  board_ticks v n d w m st p e k at =
      let q = subst (λ (z : Event). Step s w z m.answer m.after) e p in
      let same : q.0 ≡ k = one_board w.boards n q.0 k q.3 at in
      let end : board_at m.after.boards n ≡ Some q.1 = ap (λ (z : Configuration Disk). board_at z.boards n) q.5 ∙ board_put w.boards n q.0 q.1 q.3 in
      (end ∙ ap Some (q.4.2 ∙ same), inr (asks q.2 (ap (λ (z : Configuration Disk). z.sent) q.5) (subst (λ (z : BoardState). BoardTicks z q.2) same q.4.0)))
    where
      asks : (out : List Message) → m.after.sent ≡ w.sent ++ out → BoardTicks k out
          → NoVote (votes_by v d) k.reader.position ⊎ ((from : Asker) × HandsOut w m (ask_for from k.reader.position))
      asks out sent (inl t) = inr (Asker.Board, last_out w.sent [] m.after.sent (ask_for Asker.Board k.reader.position) (sent ∙ ap (λ (z : List Message). w.sent ++ z) t.1))
      asks out sent (inr t) =
          let justified = subst (λ (z : AllVotes). Justified (votes_by z (other d)) (votes_by z d)) (steady_votes s v w st) (justified_of s w d st.fine) in
          inl (none_full (votes_by v (other d)) (votes_by v d) k.reader.position justified t.0)

  abbrev pub board_listens : (v : AllVotes) (n : ℕ) (d : DeskId) → Hearer s v (Station.Board n) d
  board_listens v n d = record {
    State = BoardState;
    ear = λ k. ear d k.reader;
    Ok = λ m. IsSoundAnswer m.event m.answer;
    Is = λ w k. board_at w.boards n ≡ Some k;
    stays = λ w ms r k e. let l = board_goes w ms r.run r.calm n k e in (l.0, l.1);
    goes = λ w ms r k l e q.
        let h = board_goes w ms r.run r.calm n k e in
        subst (λ (z : BoardState). On (ear d k.reader) (ear d z.reader)) (one_board (last_of w ms).boards n h.0 l h.1 q) (h.2 d);
    hears = λ w m st ok p k l e q x given desk at.
        subst (λ (c : DeskId). Before k.reader.position l.reader.position ⊎ Knows (ear c l.reader)) desk (board_hears w m n k l x p given e q at ok);
    ticks = λ w m st p e k at. board_ticks v n d w m st p e k at;
  }
