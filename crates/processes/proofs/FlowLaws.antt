-- The laws of flows.
use Rattle.std.proofs.Common.{arith, ℕ, ◌≤◌, List, [], ◌∷◌, refl, subst, sym}
use Rattle.notation.specs.declared.entry.Entry.{Entry}
use Rattle.notation.specs.Written.{IsEntry}
use Rattle.cards.specs.Sheet.{Sheet}
use Rattle.entry_log.specs.Slots.{FileContents}
use Rattle.entry_log.specs.Disk.{Images}
use Rattle.agree_core.specs.declared.messages.DeskId.{DeskId}
use Rattle.agree_core.specs.declared.messages.DeskId.TheVariants.{A}
use Rattle.agree_core.specs.Ballots.{Ballot, In, votes_by}
use Rattle.headline.proofs.Keeping.{Fine}
use Rattle.headline.proofs.ShownBooks.{by_both}
use Rattle.headline.proofs.EveryRun.{holds_in_run}
use Rattle.headline.proofs.LawScores.{shown_scored}
use Rattle.headline.proofs.PennedVotes.{all_penned}
use Rattle.headline.specs.Headline.{AllHaveScores, ByBoth, ShowsScore}
use Rattle.headline.specs.Laws.{HoldsInRun}
use Rattle.headline.specs.Match.{setting_of}
use Rattle.headline.specs.Runs.{Begins, Shows}
use Rattle.headline.specs.declared.version.FileVersion.{FileVersion}
use Rattle.headline.specs.Configurations.{Configuration, all_votes}
use Rattle.headline.specs.Setting.{Setting}
use Rattle.corrections.specs.declared.refusal.Refusal.{Refusal}
use Rattle.station_texts.specs.Saying.{SaysEntry}
use Rattle.progress.specs.Progress.{AllAreEntries}
use Rattle.processes.specs.Happenings.{Flow, Happening, after}
use Rattle.processes.specs.Headline.{AtEachTime, PrintsItsBook, ProcessHeadline, TypesBallot, WasTyped}
use Rattle.processes.specs.Laws.{FlowsAreRuns, FlowsHaveHeadline}
use Rattle.processes.specs.LostLines.{ShowsNoLoss}
use Rattle.processes.specs.PublicScores.{ShowsAgreed}
use Rattle.processes.specs.Noted.{KeepsNoted}
use Rattle.processes.specs.SecondVotes.{AfterEach, AtEachHappening, NoneWaits, TakesSecond}
use Rattle.processes.proofs.Flowing.{Flows, at_some, fine, runs, stands}
use Rattle.processes.proofs.LostLines.{shows_none}
use Rattle.processes.proofs.Noting.{keeps, none_waits, takes_second}
use Rattle.processes.proofs.Parting.{no_vote_parts}
use Rattle.processes.proofs.PublicScores.{prints, shows}

-- an entry that was typed has its numbers in their ranges
said_entry : (x : Sheet) (book : List Entry) (votes : List Ballot) (round : ℕ) (line : List ℕ) (e : Entry) → SaysEntry x book votes round line e → IsEntry e
said_entry x book votes round line e h = grind arith

module _ {Disk : Type 0} where
  typed_here : (v : Configuration Disk) (what : Happening Disk) (d : DeskId) (b : Ballot) → TypesBallot v what d b → IsEntry b.entry
  typed_here v what d b h0 = grind (arith, said_entry)

  typed_entry : (w : Configuration Disk) (hs : List (Happening Disk)) (d : DeskId) (b : Ballot) → WasTyped w hs d b → IsEntry b.entry
  typed_entry w [] d b h = absurd h
  typed_entry w (c ∷ cs) d b h = grind (arith, typed_here, (typed_entry w cs d b))

module _ {Disk : Type 0} (seen : Disk → List ℕ) (images : Disk → Images) (contents : FileVersion → FileContents) (game innings : ℕ) where
  abbrev s : Setting Disk Refusal
  s = setting_of contents seen images game innings

  module _ (version : FileVersion) (boards : ℕ) (w : Configuration Disk) (begins : Begins s version boards w) where
    abbrev Happened : List (Happening Disk) → Type 0
    Happened hs = Flow s.view game innings w hs

    run_of : (hs : List (Happening Disk)) → Happened hs → Flows s game innings refl w hs
    run_of hs f = runs s game innings refl version boards w begins hs f

    fine_at : (hs : List (Happening Disk)) → Happened hs → Fine s (after w hs)
    fine_at hs f = fine s game innings refl version boards w begins hs f

    holds : (hs : List (Happening Disk)) (f : Happened hs) → HoldsInRun s innings w ((run_of hs f).moments)
    holds hs f = holds_in_run s innings (λ book e none. none) (λ book score stands. stands) version boards w ((run_of hs f).moments) begins (run_of hs f).run

    -- each vote was typed, and so is for an entry that can be written
    typed : (hs : List (Happening Disk)) → Happened hs → (d : DeskId) (b : Ballot) → In b (votes_by (all_votes (after w hs)) d) → WasTyped w hs d b
    typed hs f d b i =
        let p = run_of hs f in
        p.typed d b (all_penned s version boards w p.moments begins p.run d b (subst (λ (v : Configuration Disk). In b (votes_by (all_votes v) d)) (sym p.ends) i))

    entries : (hs : List (Happening Disk)) → Happened hs → AllAreEntries (all_votes (after w hs))
    entries hs f d b i = typed_entry w hs d b (typed hs f d b i)

    both : (hs : List (Happening Disk)) → Happened hs → ByBoth (after w hs)
    both hs f = by_both s (after w hs) (fine_at hs f)

    scored : 1 ≤ innings → innings ≤ 2 → (hs : List (Happening Disk)) → Happened hs → AllHaveScores innings (after w hs)
    scored one two hs f =
        let p = run_of hs f in
        subst (AllHaveScores innings) p.ends
        (shown_scored s innings (λ book e none. none) one two version boards w p.moments begins p.run (λ b h. typed_entry w hs A b (p.typed A b h)))

    -- what holds after each flow holds at each time of one, and what holds of all that may happen then holds of all that
    -- happens
    each_time : (P : Configuration Disk → Type 0) → ((hs : List (Happening Disk)) → Happened hs → P (after w hs)) → (hs : List (Happening Disk)) → Happened hs → AtEachTime w hs P
    each_time P so [] f = so [] f
    each_time P so (h ∷ hs) f = (so (h ∷ hs) f, each_time P so hs f.0)

    after_each : (P : List (Happening Disk) → Type 0) → ((hs : List (Happening Disk)) → Happened hs → P hs) → (hs : List (Happening Disk)) → Happened hs → AfterEach hs P
    after_each P so [] f = so [] f
    after_each P so (h ∷ hs) f = (so (h ∷ hs) f, after_each P so hs f.0)

    each : (P : Configuration Disk → Happening Disk → Type 0) → ((hs : List (Happening Disk)) (h : Happening Disk) → Happened (h ∷ hs) → P (after w hs) h)
        → (hs : List (Happening Disk)) → Happened hs → AtEachHappening w hs P
    each P so [] f = tt
    each P so (h ∷ hs) f = (each P so hs f.0, so hs h f)

    headline : (hs : List (Happening Disk)) → Happened hs → ProcessHeadline game innings w hs
    headline hs f =
        let p = run_of hs f in
        let h = (holds hs f).headline in
        let some = λ (P : Configuration Disk → Type 0). at_some P w hs p.moments p.through in
        record {
          prefixes = λ t u xs ys x y. h.prefixes t u xs ys (some (λ v. Shows v t xs) x) (some (λ v. Shows v u ys) y);
          by_both = each_time ByBoth both hs f;
          typed = typed hs f;
          scored = λ one two. each_time (AllHaveScores innings) (scored one two) hs f;
          scores = λ t u n score other x y. h.scores t u n score other (some (λ v. ShowsScore innings v t n score) x) (some (λ v. ShowsScore innings v u n other) y);
          prints = each (PrintsItsBook innings) (λ gs g flow. prints s.view game innings (after w gs) g flow.1) hs f;
          shows_agreed = each (ShowsAgreed innings)
              (λ gs g flow. shows s.view game innings (after w gs) g flow.1 (both gs flow.0) (λ one two. scored one two gs flow.0)
              (both (g ∷ gs) flow) (λ one two. scored one two (g ∷ gs) flow)) hs f;
          has_entry = (
            after_each (TakesSecond game w) (takes_second s game innings refl version boards w begins) hs f,
            after_each (NoneWaits game w) (none_waits s game innings refl version boards w begins) hs f,
          );
          noted = after_each (KeepsNoted game w) (keeps s game innings refl version boards w begins) hs f;
          shows_no_loss = each (ShowsNoLoss game)
              (λ gs g flow. shows_none s game innings (after w gs) (stands s game innings refl version boards w begins gs flow.0) (fine_at gs flow.0) (entries gs flow.0) g flow.1) hs f;
          no_vote_parts = no_vote_parts s game innings refl version boards w begins hs f (entries hs f);
        }

module _ {Disk : Type 0} (seen : Disk → List ℕ) (images : Disk → Images) where
  pub flows_are_runs : FlowsAreRuns seen images
  flows_are_runs contents game innings version boards w hs f =
      let p = run_of seen images contents game innings version boards w f.0 hs f.1 in
      (p.moments, p.run, p.through, holds seen images contents game innings version boards w f.0 hs f.1)

  pub flows_have_headline : FlowsHaveHeadline seen images
  flows_have_headline contents game innings version boards w hs f = headline seen images contents game innings version boards w f.0 hs f.1
