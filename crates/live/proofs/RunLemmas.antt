-- Runs of a station, one after the other.
use Rattle.std.proofs.Common.{arith, ◌≡◌, ℕ, List, [], ◌∷◌, ◌++◌, Option, None, refl, sym, ap, ◌∙◌, append-nil, append_assoc}
use Rattle.std.specs.Prelude.{All}
use Rattle.std.specs.Io.KnownBytes.{Appends}
use Rattle.agree_core.specs.declared.messages.Message.{Message}
use Rattle.wire.specs.Layout.{IsMessage}
use Rattle.streams.proofs.Appending.{appends_both, appends_none}
use Rattle.live.specs.Runs.{Goes, Kind, Logs, LogsGrow, Moment, Run, last_of, passed_at, passed_in, printed_in, read_in, told_in, typed_in}
use Rattle.live.specs.Ticks.{reads}

module _ {State Call : Type 0} (kind : Kind State Call) where
  last_both : (k : State) (ns ms : List (Moment State Call)) → last_of k (ns ++ ms) ≡ last_of (last_of k ms) ns
  last_both k ns ms = grind arith

  run_both : (k : State) (ns ms : List (Moment State Call)) → Run kind k ms → Run kind (last_of k ms) ns → Run kind k (ns ++ ms)
  run_both k [] ms r s = r
  run_both k (n ∷ ns) ms r s = (run_both k ns ms r s.0, s.1, rw (last_both k ns ms) s.2)

  passed_both : (ns ms : List (Moment State Call)) → passed_in kind (ns ++ ms) ≡ passed_in kind ms ++ passed_in kind ns
  passed_both [] ms = sym (append-nil (passed_in kind ms))
  passed_both (n ∷ ns) ms = grind (arith, append_assoc, passed_both ns ms)

  typed_both : (ns ms : List (Moment State Call)) → typed_in kind (ns ++ ms) ≡ typed_in kind ms ++ typed_in kind ns
  typed_both [] ms = sym (append-nil (typed_in kind ms))
  typed_both (n ∷ ns) ms = grind (arith, append_assoc, typed_both ns ms)

  read_both : (ns ms : List (Moment State Call)) → read_in kind (ns ++ ms) ≡ read_in kind ms ++ read_in kind ns
  read_both [] ms = sym (append-nil (read_in kind ms))
  read_both (n ∷ ns) ms = grind (arith, append_assoc, read_both ns ms)

  printed_both : (k : State) (ns ms : List (Moment State Call)) → printed_in kind k (ns ++ ms) ≡ printed_in kind k ms ++ printed_in kind (last_of k ms) ns
  printed_both k [] ms = sym (append-nil (printed_in kind k ms))
  printed_both k (n ∷ ns) ms = grind (arith, append_assoc, last_both k ns ms, printed_both k ns ms)

  told_both : (k : State) (ns ms : List (Moment State Call)) → told_in kind k (ns ++ ms) ≡ told_in kind k ms ++ told_in kind (last_of k ms) ns
  told_both k [] ms = sym (append-nil (told_in kind k ms))
  told_both k (n ∷ ns) ms = grind (arith, append_assoc, last_both k ns ms, told_both k ns ms)

-- nothing is logged but text
pub none_logged : {State Call : Type 0} {kind : Kind State Call} {k : State} {a : Logs} {t : Option (List ℕ)} → Appends a.told t [] → LogsGrow kind k [] a (record a { told = t })
none_logged text = record { passed = rw append-nil; inputs = rw append-nil; readings = rw append-nil; printed = text; tellings = rw append-nil }

-- the logs with another text
pub retold : {State Call : Type 0} {kind : Kind State Call} {k : State} {ms : List (Moment State Call)} {a b : Logs} {s t : Option (List ℕ)} → LogsGrow kind k ms a b
    → Appends s t (printed_in kind k ms) → LogsGrow kind k ms (record a { told = s }) (record b { told = t })
retold logs text = record { passed = logs.passed; inputs = logs.inputs; readings = logs.readings; printed = text; tellings = logs.tellings }

-- nothing happens
pub stays : {State Call : Type 0} {kind : Kind State Call} {k : State} {a : Logs} → Goes kind k k a a
stays {a = a} = record {
  moments = [];
  run = tt;
  last = refl;
  logs = none_logged (appends_none a.told);
}

module _ {State Call : Type 0} {kind : Kind State Call} {k l : State} {a b : Logs} where
  pub both : {m : State} {c : Logs} → Goes kind k l a b → Goes kind l m b c → Goes kind k m a c
  both {c = c} g h =
      let ms = g.moments in
      let ns = h.moments in
      let from : Run kind (last_of k ms) ns = rw g.last h.run in
      record {
        moments = ns ++ ms;
        run = run_both kind k ns ms g.run from;
        last = last_both kind k ns ms ∙ (ap (λ q. last_of q ns) g.last ∙ h.last);
        logs = record {
          passed = rw (h.logs.passed, g.logs.passed, passed_both kind ns ms, append_assoc);
          inputs = rw (h.logs.inputs, g.logs.inputs, typed_both kind ns ms, append_assoc);
          readings = rw (h.logs.readings, g.logs.readings, read_both kind ns ms, append_assoc);
          printed =
              rw (printed_both kind k ns ms, g.last)
              (appends_both a.told b.told c.told (printed_in kind k ms) (printed_in kind l ns) g.logs.printed h.logs.printed);
          tellings = rw (h.logs.tellings, g.logs.tellings, told_both kind k ns ms, g.last, append_assoc);
        };
      }

  -- the same run, with the text unknown
  pub unsaid : Goes kind k l a b → Goes kind k l (record a { told = None }) (record b { told = None })
  unsaid g = record { moments = g.moments; run = g.run; last = g.last; logs = retold g.logs tt }

  -- one call
  pub one : (call : Call) (out : List Message) → All IsMessage out → kind.Step k call out l → b.passed ≡ a.passed ++ passed_at kind call out
      → b.typed ≡ a.typed ++ kind.typed call → b.readings ≡ a.readings ++ reads (kind.beat call) → Appends a.told b.told (kind.prints k call l)
      → b.tellings ≡ a.tellings ++ kind.tells k call → Goes kind k l a b
  one call out fine step passed types times prints tells = record {
    moments = record { call = call; out = out; after = l } ∷ [];
    run = (tt, fine, step);
    last = refl;
    logs = record { passed = passed; inputs = types; readings = times; printed = prints; tellings = tells };
  }
