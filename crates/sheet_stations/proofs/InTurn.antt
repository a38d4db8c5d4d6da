-- Lives one after the other are woven.
use Rattle.std.proofs.Common.{◌≡◌, ◌∙◌, ◌⊎◌, inl, inr, ℕ, List, [], ◌∷◌, ◌++◌, ap, append-nil, refl, subst, sym}
use Rattle.std.specs.List.{filter}
use Rattle.std.proofs.lemmas.List.Elements.{All-nil, filter-append}
use Rattle.agree_core.specs.declared.messages.{DeskId.DeskId, Message.Message, Vote.Vote}
use Rattle.agree_core.specs.declared.messages.DeskId.TheVariants.{A, B}
use Rattle.agree_core.specs.Desks.{DeskState}
use Rattle.cards.specs.Sheet.{Sheet}
use Rattle.links.specs.Windows.{Has}
use Rattle.links.proofs.WindowLemmas.{has_more}
use Rattle.live.specs.Desks as desks
use Rattle.live.specs.DeskLife.{fresh}
use Rattle.live.specs.Desks.{DeskCall, DeskProcess, told_of}
use Rattle.live.specs.Runs.{Moment, last_of}
use Rattle.wire.specs.Layout.{Says}
use Rattle.seal.specs.Sealed.{IsSealed}
use Rattle.seal.specs.Unforged.{IsUnforged}
use Rattle.headline.specs.Configurations.{Configuration}
use Rattle.desk_command.specs.declared.desk_disk.DeskDisk.{DeskDisk}
use Rattle.processes.specs.Happenings.{DeskCalled, Happening, after}
use Rattle.processes.specs.Lives as lives
use Rattle.processes.specs.Weaving.{is_at_board, is_at_desk}
use Rattle.processes.proofs.Exchanged.{said}
use Rattle.sheet_stations.specs.InTurn.{HearsOnly, IsOfSaid, LivesInTurnAreWoven, in_turn, match_of, only_life, sent_in}
use Rattle.sheet_stations.specs.Lives.{IsOfMatch, LifeOfBoard, LifeOfDesk, OpensFirst, all_stages, board_sheet, calls_of, opening_of, sheet_of}
use Rattle.sheet_stations.specs.Matches.{AreDesks, IsWoven, Match, start_of}
use Rattle.sheet_stations.specs.Network.{IsFineAtDesk, NothingIsForged}
use Rattle.sheet_stations.proofs.Heard.{has_behind}
use Rattle.sheet_stations.proofs.Network.{has_index}

abbrev Calls : Type 0
Calls = List (Moment (DeskProcess DeskDisk) DeskCall)

in_either : {X : Type 0} (xs ys : List X) (x : X) → Has (xs ++ ys) x → Has xs x ⊎ Has ys x
in_either [] ys x h = inr h
in_either (z ∷ xs) ys x (inl e) = inl (inl e)
in_either (z ∷ xs) ys x (inr h) = elim (in_either xs ys x h) [ inl k ↦ inl (inr k) | inr k ↦ inr k ]

-- ---- where it happens

module _ (innings : ℕ) (s : Sheet) (k : DeskState DeskDisk) where
  -- what a call makes happen, after these
  abbrev called : DeskId → Moment (DeskProcess DeskDisk) DeskCall → Calls → Happening DeskDisk
  called d m ms =
      DeskCalled d s m.call m.out ((λ (p : DeskProcess DeskDisk). p.desk) m.after) (told_of s innings (last_of (fresh k) ms) m.call m.after)

  own : (d : DeskId) (ms : Calls) → filter (is_at_desk d) (lives.calls_of innings d s k ms) ≡ lives.calls_of innings d s k ms
  own A [] = refl
  own B [] = refl
  own A (m ∷ ms) = λ i. called A m ms ∷ own A ms i
  own B (m ∷ ms) = λ i. called B m ms ∷ own B ms i

  none_at_b : (ms : Calls) → filter (is_at_desk B) (lives.calls_of innings A s k ms) ≡ []
  none_at_b [] = refl
  none_at_b (m ∷ ms) = none_at_b ms

  none_at_a : (ms : Calls) → filter (is_at_desk A) (lives.calls_of innings B s k ms) ≡ []
  none_at_a [] = refl
  none_at_a (m ∷ ms) = none_at_a ms

  none_at_boards : (d : DeskId) (n : ℕ) (ms : Calls) → filter (is_at_board n) (lives.calls_of innings d s k ms) ≡ []
  none_at_boards d n [] = refl
  none_at_boards d n (m ∷ ms) = none_at_boards d n ms

-- ---- what was sent

module _ (w : Configuration DeskDisk) (innings : ℕ) (d : DeskId) (s : Sheet) (k : DeskState DeskDisk) where
  -- what was sent stays sent
  stays_sent : (p gs : List (Happening DeskDisk)) (x : Message) → Has (after w gs).sent x → Has (after w (p ++ gs)).sent x
  stays_sent [] gs x h = h
  stays_sent (g ∷ p) gs x h =
      subst (λ (l : List Message). Has l x) (sym (said (after w (p ++ gs)) g)) (has_more (after w (p ++ gs)).sent _ x (stays_sent p gs x h))

  -- what a life's calls sent was sent then
  calls_sent : (ms : Calls) (gs : List (Happening DeskDisk)) (x : Message) → Has (sent_in ms) x → Has (after w (lives.calls_of innings d s k ms ++ gs)).sent x
  calls_sent [] gs x h = absurd h
  calls_sent (m ∷ ms) gs x h =
      let before = after w (lives.calls_of innings d s k ms ++ gs) in
      subst (λ (l : List Message). Has l x) (sym (said before (called innings s k d m ms))) (elim (in_either (sent_in ms) m.out x h) [
        | inl earlier ↦ has_more before.sent m.out x (calls_sent ms gs x earlier)
        | inr now ↦ has_behind before.sent m.out x now
      ])

-- ---- the network

-- what was sent can't be forged
sent_unforged : (game : ℕ) (sent : List Message) (message : List ℕ) (v : Vote) → Says game message (Message.Vote v) → Has sent (Message.Vote v)
    → (bytes seal : List ℕ) → IsSealed seal message bytes → IsUnforged seal game sent bytes
sent_unforged game sent message v says has bytes seal sealed m size same =
    let at = has_index sent (Message.Vote v) has in
    (at.0, (Message.Vote v, at.1, subst (λ (l : List ℕ). IsSealed seal l bytes) says.1 sealed))

module _ (m : Match) where
  fine_call : (d : DeskId) (sent others : List Message) → ((x : Message) → Has others x → Has sent x) → (call : DeskCall) → IsOfSaid m.game others call
      → IsFineAtDesk m.game sent (m.desks d) call
  fine_call d sent others each (desks.Given message what) heard =
      λ l is v says bytes seal came opens sealed. sent_unforged m.game sent message v says (each (Message.Vote v) (heard v says)) bytes seal sealed
  fine_call d sent others each _ heard = tt

  module _ (innings : ℕ) (d : DeskId) (s : Sheet) (k : DeskState DeskDisk) (others : List Message) (gs : List (Happening DeskDisk)) where
    fine_calls : ((x : Message) → Has others x → Has (after (start_of m) gs).sent x) → NothingIsForged m.game m.desks m.boards (start_of m) gs
        → (ms : Calls) → HearsOnly m.game others ms → NothingIsForged m.game m.desks m.boards (start_of m) (lives.calls_of innings d s k ms ++ gs)
    fine_calls each none [] heard = (none, tt)
    fine_calls each none (c ∷ ms) heard = (
      fine_calls each none ms heard.0,
      fine_call d (after (start_of m) (lives.calls_of innings d s k ms ++ gs)).sent others
          (λ x has. stays_sent (start_of m) innings d s k (lives.calls_of innings d s k ms) gs x (each x has)) c.call heard.1,
    )

-- ---- both lives

module _ (game innings : ℕ) (a : LifeOfDesk A) (b : LifeOfDesk B) (k l : DeskState DeskDisk) where
  abbrev these : Match
  these = match_of game innings (only_life a k) (only_life b l)

  abbrev of_a : List (Happening DeskDisk)
  of_a = lives.calls_of innings A (sheet_of a) k (calls_of a)

  abbrev of_b : List (Happening DeskDisk)
  of_b = lives.calls_of innings B (sheet_of b) l (calls_of b)

  whole : in_turn innings (only_life a k) (only_life b l) ≡ of_b ++ (of_a ++ [])
  whole = ap (λ (hs : List (Happening DeskDisk)). hs ++ (of_a ++ [])) (append-nil of_b)

  at_desk : (d : DeskId) → filter (is_at_desk d) (of_b ++ (of_a ++ [])) ≡ lives.life_happens innings d (all_stages (these.desks d))
  at_desk A =
      filter-append (is_at_desk A) of_b (of_a ++ []) ∙ ap (λ (hs : List (Happening DeskDisk)). hs ++ filter (is_at_desk A) (of_a ++ [])) (none_at_a innings (sheet_of b) l (calls_of b))
      ∙ filter-append (is_at_desk A) of_a [] ∙ ap (λ (hs : List (Happening DeskDisk)). hs ++ []) (own innings (sheet_of a) k A (calls_of a))
  at_desk B =
      filter-append (is_at_desk B) of_b (of_a ++ []) ∙ ap (λ (hs : List (Happening DeskDisk)). hs ++ filter (is_at_desk B) (of_a ++ [])) (own innings (sheet_of b) l B (calls_of b))
      ∙ ap (λ (hs : List (Happening DeskDisk)). of_b ++ hs) (filter-append (is_at_desk B) of_a [] ∙ append-nil _ ∙ none_at_b innings (sheet_of a) k (calls_of a))

  at_board : (n : ℕ) → filter (is_at_board n) (of_b ++ (of_a ++ [])) ≡ []
  at_board n =
      filter-append (is_at_board n) of_b (of_a ++ []) ∙ ap (λ (hs : List (Happening DeskDisk)). hs ++ filter (is_at_board n) (of_a ++ [])) (none_at_boards innings (sheet_of b) l B n (calls_of b))
      ∙ filter-append (is_at_board n) of_a [] ∙ append-nil _ ∙ none_at_boards innings (sheet_of a) k A n (calls_of a)

  module _
      (first : IsOfMatch game innings (sheet_of a)) (second : IsOfMatch game innings (sheet_of b)) (opens_a : OpensFirst k (opening_of a))
      (opens_b : OpensFirst l (opening_of b)) (none : HearsOnly game [] (calls_of a)) (heard : HearsOnly game (sent_in (calls_of a)) (calls_of b)) where
    are_desks : (d : DeskId) → AreDesks these d
    are_desks A = record { first = first; opens = opens_a; follow = tt }
    are_desks B = record { first = second; opens = opens_b; follow = tt }

    fine : NothingIsForged these.game these.desks these.boards (start_of these) (of_b ++ (of_a ++ []))
    fine =
        fine_calls these innings B (sheet_of b) l (sent_in (calls_of a)) (of_a ++ [])
        (λ x has. calls_sent (start_of these) innings A (sheet_of a) k (calls_of a) [] x has)
        (fine_calls these innings A (sheet_of a) k [] [] (λ x has. absurd has) tt (calls_of a) none) (calls_of b) heard

    woven : IsWoven these (of_b ++ (of_a ++ []))
    woven = record {
      disks = are_desks;
      network = fine;
      sheets = λ n. All-nil (λ (c : LifeOfBoard). IsOfMatch game innings (board_sheet c));
      desks = at_desk;
      boards = at_board;
      no_others = λ n none. refl;
    }

pub lives_in_turn_are_woven : LivesInTurnAreWoven
lives_in_turn_are_woven game innings a b k l first second opens_a opens_b none heard =
    subst (IsWoven (these game innings a b k l)) (sym (whole game innings a b k l)) (woven game innings a b k l first second opens_a opens_b none heard)
