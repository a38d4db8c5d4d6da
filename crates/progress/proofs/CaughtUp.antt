-- A board catches up with the desks after as many exchanges as it is positions behind.
use Rattle.std.proofs.Common.{◌*◌, ◌≡◌, ◌⊎◌, ◌≤◌, ◌+◌, ◌-◌, ℕ, zero, suc, Some, List, [], ◌∷◌, ◌++◌, length, refl, sym, ap, ◌∙◌, subst, inl, inr, arith}
use Rattle.notation.specs.declared.entry.Entry.{Entry}
use Rattle.agree_core.specs.declared.{messages.DeskId.DeskId, position.Position.Position}
use Rattle.agree_core.specs.declared.messages.DeskId.TheVariants.{A, B}
use Rattle.agree_core.specs.Agreed.{AllBoth, IsAgreedList}
use Rattle.agree_core.specs.Ballots.{AllJustified, AllVotes, Ballot, In, ballot_at, votes_by}
use Rattle.agree_core.specs.Boards.{BoardState}
use Rattle.agree_core.specs.Keeping.{BoardFine}
use Rattle.agree_core.specs.Positions.{Before, next_place, next_round}
use Rattle.agree_core.proofs.Settling.{agreed_once}
use Rattle.agree_core.proofs.Order.{one_vote}
use Rattle.headline.specs.declared.{event.Station.Station, version.FileVersion.FileVersion}
use Rattle.headline.specs.Configurations.{Configuration, all_votes, board_at}
use Rattle.headline.specs.Runs.{Begins, Moment, Run, last_of}
use Rattle.headline.specs.Setting.{Setting}
use Rattle.headline.proofs.BoardKeeping.{board_fine_at}
use Rattle.headline.proofs.Keeping.{all_justified, begins_fine, run_keeps}
use Rattle.headline.proofs.Sound.{sound_answers}
use Rattle.progress.specs.CalmMoments.{AllCalm, NotBack}
use Rattle.progress.specs.Exchange.{Exchange, HasExchanges}
use Rattle.progress.specs.InStep.{BothVoted, IsAfter, IsBehindBy}
use Rattle.progress.specs.Progress.{BoardsFollow}
use Rattle.progress.proofs.Boards.{AllRounds, begins_rounds, rounds_of, run_rounds}
use Rattle.progress.proofs.BoardTrips.{board_goes, board_listens, ear}
use Rattle.progress.proofs.CalmRuns.{CalmRun, Steady, calm_split, ends, last_split, run_join, run_split, steady_votes}
use Rattle.progress.proofs.Followed.{agreed_board, all_sound, lacks}
use Rattle.progress.proofs.Near.{ordered}
use Rattle.progress.proofs.Rounds.{RoundsFine, one_round_more, passed, same_entry}
use Rattle.progress.proofs.Settled.{steady}
use Rattle.progress.proofs.Exchanges.{Done, NoVote, exchange_brings, in_range_or_full, none_full}

-- there is a vote for this position, or none
pub voted_or_not : (votes : List Ballot) (p : Position) → ((e : Entry) × In (record { at = p; entry = e }) votes) ⊎ NoVote votes p
voted_or_not [] p = inr (λ f i. i)
voted_or_not (b ∷ bs) p = elim (ordered b.at p) [
  | inl e ↦ inl (b.entry, inl (ap (λ (q : Position). record { at = q; entry = b.entry }) (sym e)))
  | inr o ↦ elim (voted_or_not bs p) [
    | inl h ↦ inl (h.0, inr h.1)
    | inr n ↦ inr (λ f i. elim i [ inl e ↦ grind arith | inr k ↦ n f k ])
  ]
]

-- each position is some number of positions behind, since the positions at which both voted are in range
behind_from : (v : AllVotes) → AllJustified v → (fuel : ℕ) (p : Position) → 8192 * 256 ≤ p.place * 256 + p.round + fuel → (n : ℕ) × IsBehindBy v p n
behind_from v j zero p less = elim (in_range_or_full p) [
  | inr full ↦ (zero, λ h. none_full v.b v.a p j.0 full (h A).0 (h A).1)
  | inl range ↦ absurd (omega (arith, less, range))
]
behind_from v j (suc fuel) p less = elim (in_range_or_full p) [
  | inr full ↦ (zero, λ h. none_full v.b v.a p j.0 full (h A).0 (h A).1)
  | inl range ↦ elim (voted_or_not v.a p) [
    | inr n ↦ (zero, λ h. n (h A).0 (h A).1)
    | inl a ↦ elim (voted_or_not v.b p) [
      | inr n ↦ (zero, λ h. n (h B).0 (h B).1)
      | inl b ↦ elim (same_entry a.0 b.0) [
        | inl e ↦ let r = behind_from v j fuel (next_place p) (omega (arith, less, range)) in (suc r.0, (a.0, b.0, next_place p, a.1, b.1, inl (e, refl), r.1))
        | inr d ↦ let r = behind_from v j fuel (next_round p) (omega (arith, less, range)) in (suc r.0, (a.0, b.0, next_round p, a.1, b.1, inr (d, refl), r.1))
      ]
    ]
  ]
]

pub some_behind : (v : AllVotes) → AllJustified v → (p : Position) → (n : ℕ) × IsBehindBy v p n
some_behind v j p = behind_from v j (8192 * 256) p (omega arith)

-- the position is at most n positions behind
abbrev pub AtMost : AllVotes → Position → ℕ → Type 0
AtMost v p n = (m : ℕ) × (m ≤ n) × IsBehindBy v p m

at_most_more : (v : AllVotes) (p : Position) (m n : ℕ) → m ≤ n → AtMost v p m → AtMost v p n
at_most_more v p m n less h = (h.0, (let a = h.1 in omega (arith, a, less)), h.2)

rounds_after : (v : AllVotes) (p next : Position) (e f : Entry) → RoundsFine v p → In (record { at = p; entry = e }) v.a → In (record { at = p; entry = f }) v.b
    → IsAfter p e f next → RoundsFine v next
rounds_after v p next e f h ia ib (inl a) = subst (RoundsFine v) (sym a.1) (λ round less. absurd (omega (arith, less)))
rounds_after v p next e f h ia ib (inr a) = subst (RoundsFine v) (sym a.1) (one_round_more v p h (e, f, ia, ib, a.0))

module _ (v : AllVotes) (j : AllJustified v) (q : Position) (book : List Entry) (both : AllBoth v.a v.b 0 book) (long : length book ≡ q.place) (now : RoundsFine v q) where
  -- if a position is left behind, the one that follows it is reached at least
  next_not_past : (p next : Position) (e f : Entry) → In (record { at = p; entry = e }) v.a → In (record { at = p; entry = f }) v.b → IsAfter p e f next
      → Before p q → NotBack next q
  next_not_past p next e f ia ib (inr a) b = grind arith
  next_not_past p next e f ia ib (inl a) (inl less) = grind arith
  next_not_past p next e f ia ib (inl a) (inr (place, less)) =
      let d = now p.round less in
      grind (arith, one_vote v.b v.a j.0 (record { at = p; entry = e }) (ballot_at q.place p.round d.0), one_vote v.a v.b j.1 (record { at = p; entry = f }) (ballot_at q.place p.round d.1))

  moved_on : (n : ℕ) (p : Position) → RoundsFine v p → IsBehindBy v p n → NotBack p q → AtMost v q n
  moved_on n p before h (inl e) = (n, omega arith, subst (λ (z : Position). IsBehindBy v z n) (sym e) h)
  moved_on zero p before h (inr b) = absurd (h (passed v j p q book both long before now b))
  moved_on (suc n) p before h (inr b) =
      at_most_more v q n (suc n) (omega arith)
      (moved_on n h.2 (rounds_after v p h.2 h.0 h.1 before h.3 h.4 h.5) h.6 (next_not_past p h.2 h.0 h.1 h.3 h.4 h.5 b))

  -- at least one position on
  pub gone_by : (n r : ℕ) (p : Position) → RoundsFine v p → IsBehindBy v p n → n ≤ r → Before p q → AtMost v q (r - 1)
  gone_by zero r p before h most b = absurd (h (passed v j p q book both long before now b))
  gone_by (suc n) r p before h most b =
      at_most_more v q n (r - 1) (omega (arith, most))
      (moved_on n h.2 (rounds_after v p h.2 h.0 h.1 before h.3 h.4 h.5) h.6 (next_not_past p h.2 h.0 h.1 h.3 h.4 h.5 b))

module _ {Disk Why : Type 0} (s : Setting Disk Why) where
  module _ (version : FileVersion) (boards : ℕ) (w0 : Configuration Disk) (ms : List (Moment Disk Why)) (begins : Begins s version boards w0) (run : Run s w0 ms)
      (v : AllVotes) (n : ℕ) where
    -- what holds in calm moments from this configuration on
    record At (c : Configuration Disk) : Type 0 where
      steady_here : Steady s v c
      rounds : AllRounds s c
      -- a run from the beginning leads here
      past : List (Moment Disk Why)
      comes : Run s w0 past
      here : last_of w0 past ≡ c

    next : (c : Configuration Disk) (more : List (Moment Disk Why)) → At c → Run s c more → AllCalm more → At (last_of c more)
    next c more a r calm = record {
      steady_here = ends s v c more (record { begins = a.steady_here; run = r; calm = calm });
      rounds = run_rounds s c more a.steady_here.fine a.rounds r;
      past = more ++ a.past;
      comes = run_join s w0 more a.past a.comes (subst (λ (z : Configuration Disk). Run s z more) (sym a.here) r);
      here = last_split w0 more a.past ∙ ap (λ (z : Configuration Disk). last_of z more) a.here;
    }

    fine_board : (c : Configuration Disk) (l : BoardState) → At c → board_at c.boards n ≡ Some l → BoardFine v l × RoundsFine v l.reader.position
    fine_board c l a e =
        let q = steady_votes s v c a.steady_here in (
          subst (λ (z : AllVotes). BoardFine z l) q (board_fine_at (all_votes c) c.boards n l e a.steady_here.fine.on_boards),
          subst (λ (z : AllVotes). RoundsFine z l.reader.position) q (rounds_of s c n l a.rounds e),
        )

    justified : (c : Configuration Disk) → At c → AllJustified v
    justified c a = subst AllJustified (steady_votes s v c a.steady_here) (all_justified s c a.steady_here.fine)

    -- after these moments the board is at most r positions behind
    abbrev Behind : Configuration Disk → ℕ → Type 0
    Behind c r = (l : BoardState) × (board_at c.boards n ≡ Some l) × AtMost v l.reader.position r

    one_span : (c : Configuration Disk) (more : List (Moment Disk Why)) (r : ℕ) → At c → Run s c more → AllCalm more
        → ((d : DeskId) → Exchange c (Station.Board n) d more) → Behind c r → Behind (last_of c more) (r - 1)
    one_span c more r a p calm x (k, at, (i, most, h)) =
        let ran : CalmRun s v c more = record { begins = a.steady_here; run = p; calm = calm } in
        let g = board_goes s c more p calm n k at in
        let l = g.0 in
        let then = next c more a p calm in
        let fk = fine_board c k a at in
        let fl = fine_board (last_of c more) l then g.1 in
        let j = justified c a in
        let sound = all_sound w0 more a.past
        (sound_answers s version boards w0 (more ++ a.past) begins (run_join s w0 more a.past a.comes (subst (λ (z : Configuration Disk). Run s z more) (sym a.here) p))) in
        let brings : (d : DeskId) → Done (votes_by v d) (ear d k.reader) (ear d l.reader) = λ d.
        exchange_brings s v (Station.Board n) d (board_listens s v n d) c more k l (record { run = ran; ok = sound; from = at; to = g.1 }) (x d) in
        let d = lacks v k.reader l.reader fl.0.waits (brings A) (brings B) in (
          l,
          g.1,
          elim d [
            | inl b ↦ gone_by v j l.reader.position l.book fl.0.both fl.0.long fl.1 i r k.reader.position fk.1 h most b
            | inr (inl none) ↦ (zero, omega arith, λ b. none (b A).0 (b A).1)
            | inr (inr none) ↦ (zero, omega arith, λ b. none (b B).0 (b B).1)
          ],
        )

    all_spans : (c : Configuration Disk) (m r : ℕ) (more : List (Moment Disk Why)) → At c → Run s c more → AllCalm more → HasExchanges c n m more → Behind c r
        → Behind (last_of c more) (r - m)
    all_spans c zero r more a p calm x (k, at, (i, most, h)) =
        let g = board_goes s c more p calm n k at in
        let then = next c more a p calm in
        let fk = fine_board c k a at in
        let fl = fine_board (last_of c more) g.0 then g.1 in
        let on : NotBack k.reader.position g.0.reader.position = elim (g.2 A) [ inl b ↦ inr b | inr e ↦ inl e.0 ] in
        let less : i ≤ r - 0 = omega (arith, most) in
        (g.0, g.1, at_most_more v g.0.reader.position i (r - 0) less (moved_on v (justified c a) g.0.reader.position g.0.book fl.0.both fl.0.long fl.1 i k.reader.position fk.1 h on))
    all_spans c (suc m) r more a p calm (late, soon, whole, x, y) before =
        let ran = run_split s c late soon (subst (Run s c) whole p) in
        let mild = calm_split late soon (subst (λ (z : List (Moment Disk Why)). AllCalm z) whole calm) in
        let mid = all_spans c m r soon a ran.0 mild.0 x before in
        let after = one_span (last_of c soon) late (r - m) (next c soon a ran.0 mild.0) ran.1 mild.1 y mid in
        let last : last_of c more ≡ last_of (last_of c soon) late = ap (last_of c) whole ∙ last_split c late soon in
        let less : (r - m) - 1 ≡ r - suc m = omega arith in
        subst (λ (o : ℕ). Behind (last_of c more) o) less (subst (λ (z : Configuration Disk). Behind z ((r - m) - 1)) (sym last) after)

    caught_up : (c : Configuration Disk) (m : ℕ) (more : List (Moment Disk Why)) (k : BoardState) → At c → Run s c more → AllCalm more → HasExchanges c n m more
        → board_at c.boards n ≡ Some k → IsBehindBy v k.reader.position m
        → (l : BoardState) × (board_at (last_of c more).boards n ≡ Some l) × IsAgreedList (all_votes (last_of c more)) l.book
    caught_up c m more k a p calm x at h =
        let end = all_spans c m m more a p calm x (k, at, (m, omega arith, h)) in
        let l = end.0 in
        let then = next c more a p calm in
        let fl = fine_board (last_of c more) l then end.1 in
        let none : BothVoted v l.reader.position → ⊥ =
        let zero_left : end.2.0 ≡ 0 = let less = end.2.1 in omega (arith, less) in subst (IsBehindBy v l.reader.position) zero_left end.2.2 in
        let votes = steady_votes s v (last_of c more) then.steady_here in
        (l, end.1, subst (λ (z : AllVotes). IsAgreedList z l.book) (sym votes) (agreed_board v (justified c a) l fl.0 fl.1 none))

  pub boards_follow : (version : FileVersion) (boards : ℕ) (w : Configuration Disk) (ms : List (Moment Disk Why)) → Begins s version boards w → Run s w ms
      → BoardsFollow s (last_of w ms)
  boards_follow version boards w ms begins run n k up at =
      let now = last_of w ms in
      let v = all_votes now in
      let fine = begins_fine s version boards w begins in
      let f = run_keeps s w ms fine run in
      let a : At version boards w ms begins run v n now = record {
        steady_here = steady s now f up;
        rounds = run_rounds s w ms fine (begins_rounds s version boards w begins) run;
        past = ms;
        comes = run;
        here = refl;
      } in
      let behind = some_behind v (justified version boards w ms begins run v n now a) k.reader.position in (
        behind.0,
        behind.1,
        λ more p calm x.
            let end = caught_up version boards w ms begins run v n now behind.0 more k a p calm x at behind.1 in
            let later = all_justified s (last_of now more) (run_keeps s now more f p) in
            (end.0, end.1, end.2, λ q book i. agreed_once (all_votes (last_of now more)) later end.0.book book end.2 i.agreed),
      )
