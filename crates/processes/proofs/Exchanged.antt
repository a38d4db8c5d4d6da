-- If processes have an exchange, so have the stations in a run that plays what happens to the processes.
use Rattle.std.proofs.Common.{arith, ◌≡◌, ◌≤◌, ℕ, zero, suc, Some, List, [], ◌∷◌, ◌++◌, length, refl, sym, ap, ◌∙◌, subst, inl, inr, append-nil, append_assoc}
use Rattle.std.specs.Prelude.{slice_get}
use Rattle.corrections.specs.declared.refusal.Refusal.{Refusal}
use Rattle.agree_core.specs.declared.messages.{DeskId.DeskId, Message.Message}
use Rattle.wire.specs.Layout.{Says}
use Rattle.wire.proofs.MessageLemmas.{says_once}
use Rattle.headline.specs.declared.event.Station.{Station}
use Rattle.headline.specs.Configurations.{Configuration}
use Rattle.headline.specs.Runs.{Moment, last_of}
use Rattle.progress.specs.Exchange.{Amid, ComesTo, Exchange, HandsOut, HasExchanges, IsAnswered, Reaches}
use Rattle.progress.proofs.CalmRuns.{get_append, last_split}
use Rattle.progress.proofs.Possible.{given_more}
use Rattle.processes.specs.Exchanges.{HaveExchanged, IsReplied, IsSaid, IsTaken, ProcessExchange, Takes, Ticks, handed_out}
use Rattle.processes.specs.Happenings.{Happening, after, after_one}
use Rattle.processes.specs.Progress.{ArePlayed, GivesAt, IsOne, Plays, TicksAt}

get_beyond : {X : Type 0} → (xs ys : List X) (n : ℕ) (x : X) → length xs ≤ n → slice_get (xs ++ ys) n ≡ Some x → (i : ℕ) × (slice_get ys i ≡ Some x)
get_beyond (z ∷ zs) ys (suc n) x low e = get_beyond zs ys n x (omega (arith, low)) e
get_beyond xs ys n x low e = grind arith

module _ {Disk : Type 0} where
  one_of : (P : Moment Disk Refusal → Type 0) (ms : List (Moment Disk Refusal)) → IsOne P ms → (m : Moment Disk Refusal) × (ms ≡ m ∷ []) × P m
  one_of P [] h = absurd h
  one_of P (m ∷ []) h = (m, refl, h)
  one_of P (m ∷ n ∷ ms) h = absurd h

  pub after_both : (w : Configuration Disk) (earlier later : List (Happening Disk)) → after w (later ++ earlier) ≡ after (after w earlier) later
  after_both w earlier [] = refl
  after_both w earlier (h ∷ hs) = ap (λ (z : Configuration Disk). after_one z h) (after_both w earlier hs)

  -- sent messages stay sent
  pub said : (w : Configuration Disk) (what : Happening Disk) → (after_one w what).sent ≡ w.sent ++ handed_out what
  said w what = grind (arith, append-nil)

  abbrev WasSent : Configuration Disk → Message → Type 0
  WasSent w message = (i : ℕ) × (slice_get w.sent i ≡ Some message)

  still_sent : (w : Configuration Disk) (hs : List (Happening Disk)) (message : Message) → WasSent w message → WasSent (after w hs) message
  still_sent w [] message h = h
  still_sent w (x ∷ xs) message h = let k = still_sent w xs message h in (k.0, grind (arith, said (after w xs) x, get_append, k.1))

  -- a moment hands out the messages of the happening that it plays
  handed : (v w : Configuration Disk) (what : Happening Disk) (m : Moment Disk Refusal) (message : Message) → w ≡ v → m.after ≡ after_one v what → HandsOut w m message
      → IsSaid message what × WasSent (after_one v what) message
  handed v w what m message start end (n, low, get) =
      let there : slice_get (after_one v what).sent n ≡ Some message = rw end at get in
      (get_beyond v.sent (handed_out what) n message (rw start at low) (rw (said v what) at there), (n, there))

module _ {Disk : Type 0} (game : ℕ) where
  -- a process ticks or takes a message, in a run
  ticked : (v : Configuration Disk) (t : Station) (what : Happening Disk) (ms : List (Moment Disk Refusal)) → Ticks t what → Plays game v what ms → IsOne (TicksAt t) ms
  ticked v t what ms e p = grind arith

  abbrev TakesAt : Configuration Disk → Station → Message → List (Moment Disk Refusal) → Type 0
  TakesAt v t message ms = (bytes : List ℕ) × Says game bytes message × IsOne (GivesAt game v t bytes) ms

  taken : (v : Configuration Disk) (t : Station) (message : Message) (what : Happening Disk) (ms : List (Moment Disk Refusal)) → Takes game t message what → Plays game v what ms
      → TakesAt v t message ms
  taken v t message what ms e p = grind arith

  gives : (v : Configuration Disk) (m : Moment Disk Refusal) (t : Station) (message : Message) (bytes : List ℕ) → Says game bytes message → WasSent v message
      → GivesAt game v t bytes m → ComesTo v m t message
  gives v m t message bytes says (i, get) (n, it, event, also, own) =
      let same : it ≡ message = says_once game bytes it message also says in
      (n, event, rw same at (own.1 i (rw same get)))

  -- the happening is played by one moment, in which the station is given the message
  comes : (v : Configuration Disk) (t : Station) (message : Message) (what : Happening Disk) (ms : List (Moment Disk Refusal)) → WasSent v message → Takes game t message what
      → Plays game v what ms → (m : Moment Disk Refusal) × (ms ≡ m ∷ []) × ComesTo v m t message
  comes v t message what ms sent k p =
      let g = taken v t message what ms k p in
      let one = one_of (GivesAt game v t g.0) ms g.2 in
      (one.0, one.1, gives v one.0 t message g.0 g.1 sent one.2)

  ends : (v : Configuration Disk) (hs : List (Happening Disk)) (ms : List (Moment Disk Refusal)) → ArePlayed game v hs ms → last_of v ms ≡ after v hs
  ends v [] ms p = ap (last_of v) p
  ends v (h ∷ hs) ms p = p.5

  -- the moments that play the later happenings, and those that play the earlier ones
  record Split (v : Configuration Disk) (later earlier : List (Happening Disk)) (ms : List (Moment Disk Refusal)) : Type 0 where
    late : List (Moment Disk Refusal)
    soon : List (Moment Disk Refusal)
    whole : ms ≡ late ++ soon
    before : ArePlayed game v earlier soon
    on : ArePlayed game (after v earlier) later late

  split : (v : Configuration Disk) (later earlier : List (Happening Disk)) (ms : List (Moment Disk Refusal)) → ArePlayed game v (later ++ earlier) ms → Split v later earlier ms
  split v [] earlier ms p = record { late = []; soon = ms; whole = refl; before = p; on = refl }
  split v (h ∷ hs) earlier ms p =
      let q = split v hs earlier p.1 p.3 in
      let late : List (Moment Disk Refusal) = p.0 ++ q.late in
      let joined : ms ≡ late ++ q.soon = p.2 ∙ ap (λ (z : List (Moment Disk Refusal)). p.0 ++ z) q.whole ∙ sym (append_assoc p.0 q.late q.soon) in
      let at : after v (hs ++ earlier) ≡ after (after v earlier) hs = after_both v earlier hs in
      let start : last_of v q.soon ≡ after v earlier = ends v earlier q.soon q.before in
      let last : last_of (after v earlier) late ≡ after (after v earlier) (h ∷ hs) =
      ap (λ (z : Configuration Disk). last_of z late) (sym start) ∙ sym (last_split v late q.soon) ∙ ap (last_of v) (sym joined) ∙ p.5 ∙ ap (λ (z : Configuration Disk). after_one z h) at in
      record {
        late = late;
        soon = q.soon;
        whole = joined;
        before = q.before;
        on = (p.0, q.late, refl, q.on, subst (λ (z : Configuration Disk). Plays game z h p.0) at p.4, last);
      }

  -- In moments that play happenings, one of which is `at`, there is a moment with this property, with the later and the earlier
  -- ones.
  module _ (P : Moment Disk Refusal → Type 0) (v : Configuration Disk) (later earlier : List (Happening Disk)) (at : Happening Disk) where
    record Found (ms : List (Moment Disk Refusal)) : Type 0 where
      amid : Amid ms
      is : P amid.moment
      start : last_of v amid.earlier ≡ after v earlier
      end : amid.moment.after ≡ after v (at ∷ earlier)
      on : ArePlayed game (after v (at ∷ earlier)) later amid.later

    found : (hs : List (Happening Disk)) (ms : List (Moment Disk Refusal)) → hs ≡ later ++ (at ∷ earlier) → ArePlayed game v hs ms
        → ((more : List (Moment Disk Refusal)) → Plays game (after v earlier) at more → (m : Moment Disk Refusal) × (more ≡ m ∷ []) × P m) → Found ms
    found hs ms whole p one =
        let s = split v later (at ∷ earlier) ms (subst (λ (z : List (Happening Disk)). ArePlayed game v z ms) whole p) in
        let b = s.before in
        let m = one b.0 b.4 in
        let soon : s.soon ≡ m.0 ∷ b.1 = b.2 ∙ ap (λ (z : List (Moment Disk Refusal)). z ++ b.1) m.1 in
        record {
          amid = record { later = s.late; moment = m.0; earlier = b.1; whole = s.whole ∙ ap (λ (z : List (Moment Disk Refusal)). s.late ++ z) soon };
          is = m.2;
          start = ends v earlier b.1 b.3;
          end = ap (last_of v) (sym soon) ∙ b.5;
          on = s.on;
        }

  -- messages that processes take reach the stations
  reached : (v : Configuration Disk) (hs : List (Happening Disk)) (ms : List (Moment Disk Refusal)) → ArePlayed game v hs ms → (t : Station) (message : Message) → WasSent v message
      → IsTaken game t message hs → Reaches v t message ms
  reached v [] ms p t message sent k = absurd k
  reached v (h ∷ hs) ms p t message sent (inl k) =
      let m = comes (after v hs) t message h p.0 (still_sent v hs message sent) k p.4 in
      let whole : ms ≡ m.0 ∷ p.1 = p.2 ∙ ap (λ (z : List (Moment Disk Refusal)). z ++ p.1) m.1 in
      subst (Reaches v t message) (sym whole) (inl (subst (λ (z : Configuration Disk). ComesTo z m.0 t message) (sym (ends v hs p.1 p.3)) m.2))
  reached v (h ∷ hs) ms p t message sent (inr k) =
      subst (Reaches v t message) (sym p.2) (given_more v t message p.0 p.1 (reached v hs p.1 p.3 t message sent k))

  answered : (v : Configuration Disk) (hs : List (Happening Disk)) (ms : List (Moment Disk Refusal)) → ArePlayed game v hs ms → (t : Station) (d : DeskId) (message : Message)
      → WasSent v message → IsReplied game t d message hs → IsAnswered v t d message ms
  answered v hs ms p t d message sent x =
      let c = after v x.earlier in
      let f = found (λ m. ComesTo c m (Station.Desk d) message) v x.later x.earlier x.at hs ms x.whole p
      (λ more plays. comes c (Station.Desk d) message x.at more (still_sent v x.earlier message sent) x.taken plays) in
      record {
        at = f.amid;
        given = subst (λ (z : Configuration Disk). ComesTo z f.amid.moment (Station.Desk d) message) (sym f.start) f.is;
        heard = λ reply h.
            let it = handed c (last_of v f.amid.earlier) x.at f.amid.moment reply f.start f.end h in
            subst (λ (z : Configuration Disk). Reaches z t reply f.amid.later) (sym f.end)
            (reached (after_one c x.at) x.later f.amid.later f.on t reply it.1 (x.heard reply it.0));
      }

  pub exchange : (v : Configuration Disk) (hs : List (Happening Disk)) (ms : List (Moment Disk Refusal)) → ArePlayed game v hs ms → (t : Station) (d : DeskId)
      → ProcessExchange game t d hs → Exchange v t d ms
  exchange v hs ms p t d x =
      let c = after v x.earlier in
      let f = found (TicksAt t) v x.later x.earlier x.at hs ms x.whole p (λ more plays. one_of (TicksAt t) more (ticked c t x.at more x.ticks plays)) in
      record {
        at = f.amid;
        ticks = f.is;
        answered = λ message h.
            let it = handed c (last_of v f.amid.earlier) x.at f.amid.moment message f.start f.end h in
            subst (λ (z : Configuration Disk). IsAnswered z t d message f.amid.later) (sym f.end)
            (answered (after_one c x.at) x.later f.amid.later f.on t d message it.1 (x.answered message it.0));
      }

  pub board_exchange : (v : Configuration Disk) (hs : List (Happening Disk)) (ms : List (Moment Disk Refusal)) → ArePlayed game v hs ms → (n m : ℕ)
      → HaveExchanged game n m hs → HasExchanges v n m ms
  board_exchange v hs ms p n zero x = tt
  board_exchange v hs ms p n (suc m) (later, earlier, whole, before, each) =
      let s = split v later earlier ms (subst (λ (z : List (Happening Disk)). ArePlayed game v z ms) whole p) in (
        s.late,
        s.soon,
        s.whole,
        board_exchange v earlier s.soon s.before n m before,
        λ d. subst (λ (z : Configuration Disk). Exchange z (Station.Board n) d s.late) (sym (ends v earlier s.soon s.before))
            (exchange (after v earlier) later s.late s.on (Station.Board n) d (each d)),
      )
