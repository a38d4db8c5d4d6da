-- A run goes on by one event, and the scores that it shows are noted.
use Rattle.std.proofs.Common.{◌≡◌, ◌⊎◌, ◌<◌, ◌≤◌, ℕ, ◌+◌, Some, List, Result, Ok, Err, [], ◌∷◌}
use Rattle.std.proofs.Common.{◌++◌, length, add-one, refl, sym, ap, ◌∙◌, inl, inr, arith, take, slice_index_or, length-append}
use Rattle.std.proofs.Math.Seq.{take-append_seam, take-length, take-suc}
use Rattle.std.proofs.lemmas.Option.{slice_get-get_or}
use Rattle.std.proofs.lemmas.List.{length-set, map-append}
use Rattle.std.specs.Prelude.{◌↔◌, Contains, IfErr, slice_get}
use Rattle.notation.specs.declared.entry.Entry.{Entry}
use Rattle.match_laws.specs.declared.standing.Standing.{Standing}
use Rattle.corrections.specs.Legal.{IsScoreOf}
use Rattle.corrections.specs.declared.refusal.Refusal.{Refusal}
use Rattle.entry_log.specs.declared.mem_disk.MemDisk.{MemDisk}
use Rattle.agree_core.specs.Agreed.{BeginsWith, IsAgreedList}
use Rattle.agree_core.specs.Boards.{BoardState}
use Rattle.agree_core.specs.Books.{IsAgreedByFiles}
use Rattle.headline.specs.declared.{event.Event.Event, event.Station.Station, version.FileVersion.FileVersion}
use Rattle.schedule_replay.specs.declared.{report.Report.Report, seen.Seen.Seen, seen.WorldRefusal.WorldRefusal, world.World.World}
use Rattle.schedule_replay.specs.declared.seen.WorldRefusal.TheVariants.{NoMemory}
use Rattle.headline.specs.Configurations.{Configuration, all_votes}
use Rattle.headline.specs.Events.{station_of}
use Rattle.headline.specs.Answers.{Answer}
use Rattle.headline.specs.Steps.{StepAt}
use Rattle.headline.specs.Runs.{AtEachMoment, AtSomeMoment, Begins, Moment, Run, Shows, last_of}
use Rattle.headline.specs.Match.{match_of}
use Rattle.schedule_replay.specs.CodeWorlds.{BeginsWorld, IsNew, boards_of, match_version, HasConfiguration, RefusesTo, KeepsMatch, StepsTo}
use Rattle.headline.specs.Headline.{AllHaveScores, ShowsScore}
use Rattle.headline.specs.Laws.{HoldsInRun}
use Rattle.schedule_replay.specs.Refusals.{RefusesEvent}
use Rattle.schedule_replay.specs.Replays.{AreSeen, EndsAt, EndsOrNeverBegins, IsReplay, IsRunOf, MatchRun, StandOnce}
use Rattle.schedule_replay.specs.inner.RunsSoFar.{HasTaken, IsAt}
use Rattle.schedule_replay.specs.inner.ShownScores.{HaveScores, IsNotable, Notes}
use Rattle.schedule_replay.specs.inner.VotesFiles.{FilesRead}
use Rattle.headline.proofs.Keeping.{begins_fine, run_keeps}
use Rattle.schedule_replay.proofs.BoardLemmas.{fresh_many}
use Rattle.schedule_replay.proofs.NoteLemmas.{Shown}
use Rattle.schedule_replay.proofs.ShowLemmas.{code_scored}
use Rattle.schedule_replay.proofs.ReadLemmas.{files_read}
use Rattle.headline.proofs.Scores.{one_score}
use Rattle.headline.proofs.EveryRun.{holds_in_run}

module _ (game innings : ℕ) where
  -- no event changes the number of boards
  step_many : (w : Configuration MemDisk) (event : Event) (t : Station) (answer : Answer Refusal) (new : Configuration MemDisk)
      → StepAt (match_of game innings) w event t answer new → length new.boards ≡ length w.boards
  step_many w event t answer new p = grind (arith, length-set {A = BoardState})

  pub run_many : (version : FileVersion) (boards : ℕ) (w : Configuration MemDisk) (ms : MatchRun) → Begins (match_of game innings) version boards w
      → Run (match_of game innings) w ms → length (last_of w ms).boards ≡ boards
  run_many version boards w [] b r = ap length b.boards_are_fresh ∙ fresh_many boards
  run_many version boards w (m ∷ ms) b r =
      step_many (last_of w ms) m.event (station_of m.event) m.answer m.after r.1 ∙ run_many version boards w ms b r.0

module _
    (game innings : ℕ) (version : FileVersion) (boards : ℕ) (events : List Event) (number : ℕ) (world : World) (outcomes : List Seen)
    (seen : List Shown)
  where
    -- a run over the first events ends at the world's configuration, and all scores shown so far are noted
    pub record IsAfter : Type 0 where
      pub w : Configuration MemDisk
      pub ms : MatchRun
      pub at : IsAt game innings version boards events number world outcomes w ms
      pub noted : AreSeen innings w ms seen
      pub scored : AtEachMoment w ms (AllHaveScores innings)

    -- such a run, with all scores noted but those that the world shows now
    pub record IsNext : Type 0 where
      pub w : Configuration MemDisk
      pub ms : MatchRun
      pub at : IsAt game innings version boards events number world outcomes w ms
      pub noted : (t : Station) (n : ℕ) (score : Standing)
          → AtSomeMoment w ms (λ v. ShowsScore innings v t n score) ↔ (Contains seen (t, n, score) ⊎ ShowsScore innings (last_of w ms) t n score)
      pub scored : AllHaveScores innings (last_of w ms) → AtEachMoment w ms (AllHaveScores innings)

-- if a list begins with a book, the book is that many of its first entries
front : (innings n : ℕ) (score : Standing) (agreed book : List Entry) → BeginsWith agreed book → n ≡ length book → IsScoreOf score innings book
    → (n ≤ length agreed) × IsScoreOf score innings (take n agreed)
front innings n score agreed book p e is = grind (arith, take-append_seam book p.0, length-append book p.0)

-- a score shown at some moment is the score of a book shown then
some_book : (innings : ℕ) (w : Configuration MemDisk) (ms : MatchRun) (t : Station) (n : ℕ) (score : Standing) → AtSomeMoment w ms (λ v. ShowsScore innings v t n score)
    → (book : List Entry) × AtSomeMoment w ms (λ v. Shows v t book) × (n ≡ length book) × IsScoreOf score innings book
some_book innings w [] t n score h = h
some_book innings w (m ∷ ms) t n score (inl h) = (h.0, inl h.1, h.2, h.3)
some_book innings w (m ∷ ms) t n score (inr h) = let b = some_book innings w ms t n score h in (b.0, inr b.1, b.2, b.3)

-- what holds in every run holds in this one
holds : {game innings : ℕ} {version : FileVersion} {boards : ℕ} {over : List Event} {outcomes : List Seen} {w : Configuration MemDisk} {ms : MatchRun}
    → IsRunOf game innings version boards over outcomes w ms → HoldsInRun (match_of game innings) innings w ms
holds {game = game} {innings = innings} {version = version} {boards = boards} {w = w} {ms = ms} run =
    holds_in_run (match_of game innings) innings (λ book e none. none) (λ book score stands. stands) version boards w ms run.begins run.run

module _ {game innings : ℕ} {version : FileVersion} {boards : ℕ} {events : List Event} where
  pub begins_at : (world : World) → BeginsWorld game innings version boards world → (w : Configuration MemDisk) × IsAt game innings version boards events 0 world [] w []
  begins_at world h = (h.is_new.0, grind (arith, h.is_new.1, h.is_new.2))

  module _ {number : ℕ} {world : World} {outcomes : List Seen} {seen : List Shown} (h : IsNext game innings version boards events number world outcomes seen) where
    -- a noted station and length have the score that the world shows
    pub notable : boards ≤ 4 → (v : Configuration MemDisk) × IsNotable world seen v
    notable few =
        let run = h.at.run in
        let many = run_many game innings version boards h.w h.ms run.begins run.run in (
          last_of h.w h.ms,
          record {
            has_configuration = h.at.has_configuration;
            few_boards = omega (arith, few, many);
            one_score = λ t n score other c shows. one_score (match_of game innings) innings version boards h.w h.ms run.begins run.run t t n other score
                ((h.noted t n other).1 (inl c)) ((h.noted t n score).1 (inr (rw (← h.at.same_innings) shows)));
          },
        )

    -- the scores that the world shows are noted
    pub noted : {new : List Shown} → Notes world seen new → HaveScores world → IsAfter game innings version boards events number world outcomes new
    noted notes have =
        let last = last_of h.w h.ms in
        record {
          w = h.w;
          ms = h.ms;
          at = h.at;
          noted = λ t n score.
              let k = rw h.at.same_innings at (notes last h.at.has_configuration t n score) in
              (λ c. (h.noted t n score).1 (k.0 c), λ s. k.1 ((h.noted t n score).0 s));
          scored = h.scored (rw h.at.same_innings at (code_scored world last have h.at.has_configuration));
        }

  -- one more event
  pub steps_on : (number : ℕ) (event : Event) (world new : World) (outcomes : List Seen) (seen : Seen) (w : Configuration MemDisk) (ms : MatchRun)
      → number < length events → event ≡ slice_index_or events number event → IsAt game innings version boards events number world outcomes w ms → StepsTo event world seen new
      → KeepsMatch world new → (m : Moment MemDisk Refusal) × IsAt game innings version boards events (number + 1) new (outcomes ++ seen ∷ []) w (m ∷ ms)
  steps_on number event world new outcomes seen w ms less here at steps same =
      let run = at.run in
      let s = (steps (last_of w ms) at.has_configuration).1 in
      let m : Moment MemDisk Refusal = record { event = event; answer = s.0; after = s.1 } in (
        m,
        record {
          run = record {
            begins = run.begins;
            run = (run.run, rw (← at.same_game, ← at.same_innings) s.3);
            over = simp (add-one, take-suc events number event less, ← here, run.over);
            answered = simp (map-append, run.answered, s.2);
            planned = (run.planned, s.5);
            counted = (run.counted, s.6);
          };
          has_configuration = s.4;
          same_game = same.same_game ∙ at.same_game;
          same_innings = same.same_innings ∙ at.same_innings;
        },
      )

  pub goes_on : {number : ℕ} {event : Event} {world new : World} {outcomes : List Seen} (seen : Seen) {shown : List Shown} → number < length events
      → event ≡ slice_index_or events number event → IsAfter game innings version boards events number world outcomes shown
      → StepsTo event world seen new → KeepsMatch world new
      → IsNext game innings version boards events (number + 1) new (outcomes ++ seen ∷ []) shown
  goes_on {number = number} {event = event} {world = world} {new = new} {outcomes = outcomes} seen less here h steps same =
      let n = steps_on number event world new outcomes seen h.w h.ms less here h.at steps same in
      record {
        w = h.w;
        ms = n.0 ∷ h.ms;
        at = n.1;
        noted = λ t k score. (
          λ s. elim s [ inl q ↦ inr q | inr q ↦ inl ((h.noted t k score).1 q) ],
          λ c. elim c [ inl o ↦ inr ((h.noted t k score).0 o) | inr q ↦ inl q ],
        );
        scored = λ have. (have, h.scored);
      }

  -- such a run exists
  pub has_taken : {number : ℕ} {world : World} {outcomes : List Seen} {shown : List Shown}
      → IsAfter game innings version boards events number world outcomes shown → HasTaken game innings version boards events number world
  has_taken {outcomes = outcomes} h = (outcomes, h.w, h.ms, h.at)

  pub takes_on : {number : ℕ} {event : Event} {world new : World} (seen : Seen) → number < length events → event ≡ slice_index_or events number event
      → HasTaken game innings version boards events number world → StepsTo event world seen new → KeepsMatch world new
      → HasTaken game innings version boards events (number + 1) new
  takes_on {number = number} {event = event} {world = world} {new = new} seen less here h steps same =
      let n = steps_on number event world new h.0 seen h.1 h.2 less here h.3 steps same in
      (h.0 ++ seen ∷ [], h.1, n.0 ∷ h.2, n.1)

  -- an event isn't taken
  pub refuses_at : {number : ℕ} {event : Event} {world new : World} {outcomes : List Seen} (why : WorldRefusal) {w : Configuration MemDisk} {ms : MatchRun}
      → number < length events → event ≡ slice_index_or events number event → IsAt game innings version boards events number world outcomes w ms
      → RefusesTo event world why new
      → (v : Configuration MemDisk) × (slice_get events number ≡ Some event) × RefusesEvent (match_of game innings) (last_of w ms) event why v
  refuses_at {number = number} {event = event} why {w = w} {ms = ms} less here at refuses =
      let s = refuses (last_of w ms) at.has_configuration in
      (s.0, slice_get-get_or events number event less ∙ ap Some (sym here), rw (← at.same_game, ← at.same_innings) s.1)

  pub ends_at : {number : ℕ} {event : Event} {world new : World} (why : WorldRefusal) → number < length events
      → event ≡ slice_index_or events number event → HasTaken game innings version boards events number world → RefusesTo event world why new
      → EndsAt game innings version boards events (number + 1, why)
  ends_at {number = number} {event = event} why less here p refuses =
      let s = refuses_at why less here p.3 refuses in
      inr (p.0, p.1, p.2, number, event, s.0, p.3.run, holds p.3.run, refl, s.1, s.2)

  -- all events are taken, and memory ran out for the report
  pub ends_unreported : {number : ℕ} {world : World} → number ≡ length events → HasTaken game innings version boards events number world
      → EndsAt game innings version boards events (0, NoMemory)
  ends_unreported {number = number} e p =
      inl (refl, refl, (p.0, p.1, p.2, rw (e, take-length events) at p.3.run, holds p.3.run))

  -- a read of each file gives its desk's votes, and perhaps later ones
  pub all_read : {number : ℕ} {world : World} {outcomes : List Seen} {shown : List Shown}
      → IsAfter game innings version boards events number world outcomes shown
      → (w : Configuration MemDisk) × HasConfiguration world w × FilesRead world.game world.innings_a_side w
  all_read h =
      let run = h.at.run in
      let s = match_of game innings in
      let read = files_read game innings (last_of h.w h.ms) (run_keeps s h.w h.ms (begins_fine s version boards h.w run.begins) run.run) in
      (last_of h.w h.ms, h.at.has_configuration, rw h.at.same_game read)

  -- the report of the whole run
  pub reported : {number : ℕ} {world : World} (report : Report) → number ≡ length events
      → IsAfter game innings version boards events number world report.outcomes.items report.seen.items → StandOnce report.seen.items
      → ((w : Configuration MemDisk) → HasConfiguration world w → FilesRead world.game world.innings_a_side w
      → IsAgreedByFiles (all_votes w).a (all_votes w).b report.agreed.items) → IsReplay game innings version boards events report
  unfolding all_read
  reported report e h once files =
      let all = holds h.at.run in
      let read = all_read h in
      let agreed : IsAgreedList (all_votes (last_of h.w h.ms)) report.agreed.items = all.by_files report.agreed.items (files read.0 read.1 read.2) in (
        h.w,
        h.ms,
        record {
          run = rw (e, take-length events) at h.at.run;
          holds = all;
          agreed = agreed;
          scored = h.scored;
          seen = h.noted;
          once = once;
          scores = λ t n score c.
              let b = some_book innings h.w h.ms t n score ((h.noted t n score).0 c) in
              front innings n score report.agreed.items b.0 (all.within_agreed t b.0 report.agreed.items b.1 agreed) b.2 b.3;
        },
      )

-- a new world begins its own match
own_match : (world : World) → IsNew world → BeginsWorld world.game world.innings_a_side (match_version world) (boards_of world) world
own_match world h = record { is_new = h; same_game = refl; same_innings = refl; same_version = refl; same_boards = refl }

module _ {events : List Event} {world : World} (new : IsNew world) where
  -- at the start no score is noted
  pub starts : {outcomes : List Seen} {seen : List Shown} → outcomes ≡ [] → seen ≡ []
      → IsNext world.game world.innings_a_side (match_version world) (boards_of world) events 0 world outcomes seen
  starts none no_scores =
      let b = begins_at world (own_match world new) in
      rw (none, no_scores) (record {
        w = b.0;
        ms = [];
        at = b.1;
        noted = λ t n score. (inr, λ c. elim c [ inl o ↦ absurd (omega (arith, o.1)) | inr s ↦ s ]);
        scored = λ s. s;
      })

  pub begins_taken : HasTaken world.game world.innings_a_side (match_version world) (boards_of world) events 0 world
  begins_taken = let b = begins_at world (own_match world new) in ([], b.0, [], b.1)

-- a replay without a report, over a world at the start of a match, ends as a replay of the match may end
pub ends_of_match : {game innings : ℕ} {version : FileVersion} {boards : ℕ} (events : List Event) {world : World}
    (r : Result Report (ℕ × WorldRefusal)) → BeginsWorld game innings version boards world → IfErr r (EndsAt world.game world.innings_a_side (match_version world) (boards_of world) events)
    → IfErr r (EndsOrNeverBegins game innings version boards events)
ends_of_match events (Ok report) b h = h
ends_of_match events (Err end) b h = inr (rw (← b.same_game, ← b.same_innings, ← b.same_version, ← b.same_boards) h)
