-- An event at a board is a step of the definitions there, and a step of the world.
use Rattle.std.proofs.Common.{◌≡◌, ◌⊎◌, ℕ, zero, suc, ◌+◌, ◌-◌, Bool, true, false, Some, None, List, []}
use Rattle.std.proofs.Common.{◌∷◌, ◌++◌, length, map, refl, sym, ap, ◌∙◌, subst, inl, inr, Result, Ok, Err, add-one, arith}
use Rattle.std.specs.Prelude.{IfErr, IfOk, OnOk, get_or, slice_get, slice_set}
use Rattle.std.proofs.lemmas.List.{length-map, map-append, map-set, set-get_or}
use Rattle.std.proofs.lemmas.Bool.Decides.{nat_tests}
use Rattle.std.proofs.lemmas.List.Elements.{All-nil, All-push, All-set}
use Rattle.std.proofs.lemmas.Option.{get_or_from_slice_get, slice_get-get_or, slice_get-map, slice_get_cases}
use Rattle.corrections.specs.declared.refusal.Refusal.{Refusal}
use Rattle.entry_log.specs.declared.mem_disk.MemDisk.{MemDisk}
use Rattle.agree_core.specs.declared.messages.{DeskId.DeskId, Message.Message}
use Rattle.agree_core.specs.declared.messages.DeskId.TheVariants.{A, B}
use Rattle.agree_core.specs.Boards.{BoardAnswer, BoardReceives, BoardState, BoardTicks, fresh_board}
use Rattle.agree_core.specs.Books.{Rules}
use Rattle.board.specs.declared.refusal.BoardRefusal.{BoardRefusal}
use Rattle.board.specs.Takes.{Takes}
use Rattle.wire.specs.declared.{datagram.Datagram.Datagram, what.What.What}
use Rattle.wire.specs.Layout.{IsMessage, Says}
use Rattle.wire.specs.Sent.{AreSent}
use Rattle.wire.proofs.FaultLemmas.{reads_once}
use Rattle.wire.proofs.MessageLemmas.{says_once}
use Rattle.headline.specs.declared.{event.Event.Event, event.Station.Station, version.FileVersion.FileVersion}
use Rattle.schedule_replay.specs.declared.{seen.Seen.Seen, seen.WorldRefusal.WorldRefusal, site.Site.Site, world.World.World}
use Rattle.headline.specs.Configurations.{Running, Node, Configuration, board_at, fresh_boards, with_board}
use Rattle.headline.specs.Events.{station_of}
use Rattle.headline.specs.Answers.{Answer, board_told}
use Rattle.schedule_replay.specs.Refusals.{first_cause, may_grow, may_send, no_board, refusal_of}
use Rattle.headline.specs.Match.{match_of}
use Rattle.schedule_replay.specs.Answers.{AreBytesOf, answer_of}
use Rattle.headline.specs.Runs.{Begins, BeginsAt}
use Rattle.schedule_replay.specs.inner.Sites.{BeginsSite, HasNode}
use Rattle.world_desks.specs.WorldDesks.{state_of}
use Rattle.schedule_replay.specs.CodeWorlds.{BeginsWorld, boards_of, IsBoardOf, HasConfiguration, MatchBoard}
use Rattle.schedule_replay.specs.CodeWorlds.{RefusesTo, StepsTo, board_game, board_innings, board_seen, board_state, code_site}
use Rattle.schedule_replay.specs.inner.WorldBoards.{AreFresh, BoardSteps, SameBoard}
use Rattle.schedule_replay.proofs.TakeLemmas.{sending_grows}
use Rattle.schedule_replay.proofs.GiveLemmas.{all_at, message_at}
use Rattle.schedule_replay.proofs.SiteLemmas.{no_bytes, ticked}
use Rattle.schedule_replay.proofs.WorldLemmas.{sent_length}

-- a board that takes bytes receives the message that they say
takes_as : (rules : Rules Refusal) (game : ℕ) (k l : BoardState) (bytes : List ℕ) (answer : Result What BoardRefusal) (m : Message)
    → Says game bytes m → Takes rules game k bytes answer l → (received : BoardAnswer) × (answer_of (board_seen answer) ≡ Some (board_told received)) × BoardReceives rules k m received l
takes_as rules game k l bytes (Ok (What.Bad fault)) m s t = let both = reads_once game bytes (Ok m) (Err fault) s t.0 in absurd (cc)
takes_as rules game k l bytes (Ok (What.Heard h)) m s t = (BoardAnswer.Told h, refl, rw (says_once game bytes t.0 m t.1 s) at t.2)
takes_as rules game k l bytes (Ok What.Asked) m s t = (BoardAnswer.Asked, refl, rw (says_once game bytes t.0 m t.1 s) at t.2)
takes_as rules game k l bytes (Err (BoardRefusal.BadVotes place)) m s t =
    (BoardAnswer.BadVotes place, refl, rw (says_once game bytes t.0 m t.1 s) at t.2)
takes_as rules game k l bytes _ m s t = absurd t

-- the board is given a sent message
pub board_gives : (k l : MatchBoard) (n : ℕ) (t : Station) (d : Datagram) (answer : Result What BoardRefusal) (sent : List Datagram) → slice_get sent n ≡ Some d
    → Takes (match_of (board_game k) (board_innings k)).rules (board_game k) (board_state k) d.bytes answer (board_state l) → BoardSteps (Event.Give n t) k sent (board_seen answer) l sent
board_gives k l n t d answer sent there takes messages b =
    let m = message_at (board_game k) sent messages n d b there in
    let taken = takes_as (match_of (board_game k) (board_innings k)).rules (board_game k) (board_state k) (board_state l) d.bytes answer m.0 m.2 takes in
    ([], board_told taken.0, taken.1, (m.0, taken.0, inl m.1, taken.2, refl, refl), no_bytes (board_game k) sent messages b)

-- the messages that a board's tick hands out
pub board_ticks : (k : MatchBoard) (t : Station) (said out before after : List Datagram) → AreSent (board_game k) (map (λ (d : Datagram). d.bytes) out) (BoardTicks (board_state k))
    → said ≡ out → after ≡ before ++ said → BoardSteps (Event.Tick t) k before (Seen.Ticked (length said)) k after
board_ticks k t said out before after sent is added messages b =
    let z = ticked (board_game k) (BoardTicks (board_state k)) said out before after messages sent is added b in
    (sent.0, Answer.Ticked (length said), refl, (sent.3, ap Answer.Ticked z.0, refl), z.1)

-- the world has the same desks and match as before
pub record SameDesks (old new : World) : Type 0 where
  pub a : new.a ≡ old.a
  pub b : new.b ≡ old.b
  pub same_game : new.game ≡ old.game
  pub same_innings : new.innings_a_side ≡ old.innings_a_side

-- the board of this number exists, and no cause bars the event
pub record IsThere (n : ℕ) (old : World) (event : Event) (k : MatchBoard) : Type 0 where
  pub number : n ≡ suc (n - 1)
  pub here : slice_get old.boards.items (n - 1) ≡ Some k
  pub none : first_cause (no_board (length old.boards.items) n) false (length old.sent.items) event ≡ None

-- if no cause bars the event, the board of this number exists
pub is_there : {n many : ℕ} {old : World} (event : Event) {k : MatchBoard} {missing : Bool} → missing ≡ no_board many n
    → many ≡ length old.boards.items → first_cause missing false (length old.sent.items) event ≡ None → k ≡ get_or old.boards.items (n - 1) k
    → IsThere n old event k
is_there {n = n} {old = old} event {k = k} m many none e =
    grind (arith, nat_tests, slice_get-get_or old.boards.items (n - 1) k)

site_stays : (old new : World) (d : DeskId) → new.a ≡ old.a → new.b ≡ old.b → code_site new d ≡ code_site old d
site_stays old new d a b = grind arith

pub same_owner : (game innings : ℕ) (k l : MatchBoard) → SameBoard k l → IsBoardOf game innings k → IsBoardOf game innings l
same_owner game innings k l s of = record { same_game = s.same_game ∙ of.same_game; same_innings = s.same_innings ∙ of.same_innings }

module _ (old new : World) (same : SameDesks old new) (w : Configuration MemDisk) (h : HasConfiguration old w) where
  -- the world after one of its boards has changed
  put : (at : ℕ) (l : MatchBoard) (out : List Message) → new.boards.items ≡ slice_set old.boards.items at l → IsBoardOf old.game old.innings_a_side l
      → AreBytesOf old.game new.sent.items (w.sent ++ out) → HasConfiguration new (record w { boards = slice_set w.boards at (board_state l); sent = w.sent ++ out })
  put at l out c owner b = grind (
    arith,
    site_stays old new,
    h.sites,
    h.named,
    map-set board_state old.boards.items at l,
    All-set (IsBoardOf old.game old.innings_a_side) old.boards.items at l owner h.boards_are,
  )

  stays : new.boards.items ≡ old.boards.items → new.sent.items ≡ old.sent.items → HasConfiguration new w
  stays boards sent = grind (arith, site_stays old new, h.sites, h.named)

-- a cause bars the event, or memory ran out for an event that may take memory
abbrev pub WhyNot : (Event → Bool) → ℕ → World → Event → WorldRefusal → Type 0
WhyNot may n old event why =
    let cause = first_cause (no_board (length old.boards.items) n) false (length old.sent.items) event in
    (cause ≡ Some why) ⊎ ((cause ≡ None) × (why ≡ WorldRefusal.NoMemory) × (may event ≡ true))

module _ (n : ℕ) (old new : World) (event : Event) (e : station_of event ≡ Station.Board n) (same : SameDesks old new) where
  -- the first cause against an event at a board
  cause_is : (w : Configuration MemDisk) → HasConfiguration old w
      → refusal_of w event ≡ first_cause (no_board (length old.boards.items) n) false (length old.sent.items) event
  cause_is w h = grind (
    arith,
    nat_tests,
    h.board_states,
    slice_get-map board_state old.boards.items,
    slice_get_cases old.boards.items,
    sent_length old.game old.sent.items w.sent h.bytes,
  )

  -- a board has taken an event
  pub board_steps : (k l : MatchBoard) (seen : Seen) → IsThere n old event k → new.boards.items ≡ slice_set old.boards.items (n - 1) l
      → (IsBoardOf old.game old.innings_a_side k → IsBoardOf old.game old.innings_a_side l) → BoardSteps event k old.sent.items seen l new.sent.items → StepsTo event old seen new
  board_steps k l seen t put_there owner steps w h =
      let of = all_at (IsBoardOf old.game old.innings_a_side) old.boards.items (n - 1) k h.boards_are t.here in
      let given = rw (of.same_game, of.same_innings) at (steps w.sent (rw of.same_game h.bytes)) in
      let there : board_at w.boards (suc (n - 1)) ≡ Some (board_state k) = grind (arith, h.board_states, t.here, slice_get-map board_state old.boards.items) in (
        cause_is w h ∙ t.none,
        (
          given.1,
          record w { boards = with_board w.boards (suc (n - 1)) (board_state l); sent = w.sent ++ given.0 },
          given.2,
          rw (e ∙ ap Station.Board t.number) (board_state k, board_state l, given.0, there, given.3, refl),
          put old new same w h (n - 1) l given.0 put_there (owner of) given.4,
          λ d f. absurd (let z = sym e ∙ f in cc),
          λ none d fault due. grind arith,
        ),
      )

  -- a board hasn't taken an event: a cause bars it, or memory ran out for messages that it may send
  pub board_refuses : (why : WorldRefusal) → new.boards.items ≡ old.boards.items → new.sent.items ≡ old.sent.items → WhyNot may_grow n old event why → RefusesTo event old why new
  board_refuses why boards sent c w h = (w, grind (arith, cause_is w h), stays old new same w h boards sent)

  pub board_admits_not : (why : WorldRefusal) → new.boards.items ≡ old.boards.items → new.sent.items ≡ old.sent.items → WhyNot may_send n old event why → RefusesTo event old why new
  board_admits_not why boards sent c = board_refuses why boards sent (grind (arith, sending_grows event))

  -- the board begins empty, or stays as it was if memory ran out
  pub wipes : (m : ℕ) (k l : MatchBoard) (result : Result Seen WorldRefusal) → event ≡ Event.Wipe m → IsThere n old event k
      → new.boards.items ≡ slice_set old.boards.items (n - 1) l → new.sent.items ≡ old.sent.items → IfOk result (λ seen. (n : ℕ) (sent : List Datagram) → BoardSteps (Event.Wipe n) k sent seen l sent)
      → OnOk result (IsBoardOf old.game old.innings_a_side l) → IfErr result (λ why. (why ≡ WorldRefusal.NoMemory) × (l ≡ k))
      → IfOk result (λ seen. StepsTo event old seen new) × IfErr result (λ why. RefusesTo event old why new)
  wipes m k l (Ok seen) q t put_there items steps owner refused = (board_steps k l seen t put_there (λ of. owner) (rw (q, items) (steps m old.sent.items)), tt)
  wipes m k l (Err why) q t put_there items steps owner (want, is) =
      let boards : new.boards.items ≡ old.boards.items = grind (arith, put_there, get_or_from_slice_get old.boards.items (n - 1) k k t.here, set-get_or old.boards.items (n - 1) k) in
      (tt, board_refuses why boards items (inr (t.none, want, ap may_grow q)))

-- a site's desk that was just created
site_begins : (version : FileVersion) (name : DeskId) (game innings : ℕ) (site : Site) → BeginsSite version name game innings site
    → (x : Node MemDisk) × HasNode site x × BeginsAt (match_of game innings) version name x
site_begins version name game innings site h =
    let k = h.desk in
    (record { version = version; process = Running (state_of k.0); due = None }, grind (arith, h.same_version, k.1, k.2, h.down, h.due), (state_of k.0, refl, k.3))

-- as many fresh boards as wanted
pub fresh_many : (n : ℕ) → length (fresh_boards n) ≡ n
fresh_many zero = refl
fresh_many (suc n) = ap suc (fresh_many n)

-- the world at the start of its match
pub begins : (world : World) (version : FileVersion) (boards : ℕ) → BeginsSite version A world.game world.innings_a_side world.a → BeginsSite version B world.game world.innings_a_side world.b
    → AreFresh world.game world.innings_a_side boards world.boards.items → world.sent.items ≡ [] → BeginsWorld world.game world.innings_a_side version boards world
begins world version boards a b fresh sent =
    let x = site_begins version A world.game world.innings_a_side world.a a in
    let y = site_begins version B world.game world.innings_a_side world.b b in
    let w : Configuration MemDisk = record { a = x.0; b = y.0; boards = fresh_boards boards; sent = [] } in
    let many : boards_of world ≡ boards = sym (length-map world.boards.items board_state) ∙ ap length fresh.states ∙ fresh_many boards in
    let is : HasConfiguration world w = record {
      sites = λ d. grind (arith, x.1, y.1);
      named = λ d. grind arith;
      boards_are = fresh.of_match;
      board_states = sym fresh.states;
      bytes = (All-nil IsMessage, ap (map (λ (d : Datagram). d.bytes)) sent);
    } in
    let begin : Begins (match_of world.game world.innings_a_side) version boards w = record { a = x.2; b = y.2; boards_are_fresh = refl; nothing_sent = refl } in
    let own = subst (λ (v : FileVersion). Begins (match_of world.game world.innings_a_side) v (boards_of world) w) (sym a.same_version) (rw many begin) in
    record { is_new = (w, is, own); same_game = refl; same_innings = refl; same_version = a.same_version; same_boards = many }

-- one more board
pub one_more : (game innings n : ℕ) (boards : List MatchBoard) (k : MatchBoard) → AreFresh game innings n boards → board_state k ≡ fresh_board → IsBoardOf game innings k
    → AreFresh game innings (n + 1) (boards ++ k ∷ [])
one_more game innings n boards k h fresh of = record {
  states = map-append board_state boards (k ∷ []) ∙ (λ i. h.states i ++ fresh i ∷ []) ∙ last n ∙ ap fresh_boards (sym (add-one n));
  of_match = All-push (IsBoardOf game innings) boards k h.of_match of;
}
  where
    last : (n : ℕ) → fresh_boards n ++ fresh_board ∷ [] ≡ fresh_boards (suc n)
    last zero = refl
    last (suc n) = ap (λ (bs : List BoardState). fresh_board ∷ bs) (last n)
