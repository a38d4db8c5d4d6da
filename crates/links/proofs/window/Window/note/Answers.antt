use Rattle.std.proofs.Common.{◌≡◌, ◌⊎◌, ℕ, List, Result, Ok, true, inl, inr, subst, sym, ⊎_elim}
use Rattle.std.specs.BTreeMap.{values}
use Rattle.agree_core.specs.declared.messages.{Ask.Ask, Message.Message, Vote.Vote}
use Rattle.wire.specs.Layout.{Says}
use Rattle.wire.specs.Reading.{Reads}
use Rattle.wire.specs.declared.fault.WireFault.{WireFault}
use Rattle.wire.proofs.MessageLemmas.{says_once}
use Rattle.links.specs.Windows.{HasAnswers, IsAsk, IsQuietAt, Windowed}
use Rattle.links.proofs.WindowLemmas.{with_asked, with_votes}
use Rattle.links.proofs.window.Window.note.Goals as goal

-- the bytes say the ask that was read
said : (game : ℕ) (bytes : List ℕ) (read : Result Message WireFault) (m : Message) (q : Ask) → read ≡ Ok m → m ≡ Message.Ask q → Reads game bytes read
    → Says game bytes (Message.Ask q)
said game bytes read m q is same reads = subst (Says game bytes) same (subst (Reads game bytes) is reads)

one_ask : (game : ℕ) (bytes : List ℕ) (p q : Ask) → Says game bytes (Message.Ask p) → Says game bytes (Message.Ask q) → p ≡ q
one_ask game bytes p q s t = let same = says_once game bytes (Message.Ask p) (Message.Ask q) s t in cc

no_vote : (game : ℕ) (bytes : List ℕ) (q : Ask) (v : Vote) → Says game bytes (Message.Ask q) → Says game bytes (Message.Vote v) → ⊥
no_vote game bytes q v s t = let same = says_once game bytes (Message.Ask q) (Message.Vote v) s t in cc

-- the same for an equal window
is_ask : (w v : Windowed) (bytes : List ℕ) (q : Ask) → v ≡ w → Says w.game bytes (Message.Ask q) → IsAsk v.game bytes
is_ask w v bytes q e s = subst (λ (x : Windowed). IsAsk x.game bytes) (sym e) (q, s.1)

pub invariant_of-self : goal.invariant_of-self
invariant_of-self g c = with_votes c.reach.ensures c.self.invariant

pub invariant_of-self-in-Ok-Ask : goal.invariant_of-self-in-Ok-Ask
invariant_of-self-in-Ok-Ask g c =
    let s = said c.args.self.now.game _ c.args.read _ _ c.in-Ok-Ask.is c.in-Ok-Ask.field-0-is c.requires in
    with_asked (⊎_elim (λ e. inl e) (λ e. inr (e, is_ask c.args.self.now _ _ _ c.self.view_is s)) c.note_ask.ensures.asked)
    (with_votes c.note_ask.ensures.votes c.self.invariant)

pub returns-in-Ok-Ask-clause-handed : goal.returns-in-Ok-Ask-clause-handed
returns-in-Ok-Ask-clause-handed g c = λ vote.
    let s = said c.args.self.now.game _ c.args.read _ _ c.in-Ok-Ask.is c.in-Ok-Ask.field-0-is c.requires in
    absurd (no_vote c.args.self.now.game _ c.in-Ok-Ask.ask vote.0 s vote.1)

pub returns-in-Ok-Ask-clause-asked : goal.returns-in-Ok-Ask-clause-asked
returns-in-Ok-Ask-clause-asked g c = λ q says.
    let s = said c.args.self.now.game _ c.args.read _ _ c.in-Ok-Ask.is c.in-Ok-Ask.field-0-is c.requires in
    subst (λ (w : Windowed). IsQuietAt c.args.now w → (c.note_ask.result ≡ true) ⊎ HasAnswers w.game (values c.note_ask.new.self.early.votes) q) c.self.view_is
    (rw (one_ask c.args.self.now.game _ c.in-Ok-Ask.ask q s says) at c.note_ask.ensures.said)

pub returns-in-Ok-Ask-clause-quiet : goal.returns-in-Ok-Ask-clause-quiet
returns-in-Ok-Ask-clause-quiet g c =
    let s = said c.args.self.now.game _ c.args.read _ _ c.in-Ok-Ask.is c.in-Ok-Ask.field-0-is c.requires in
    let last = c.note_ask.new.self.asking.last in
    subst (λ (w : Windowed). (last ≡ w.quiet_since) ⊎ ((last ≡ c.args.now) × IsAsk w.game c.args.bytes.now × (c.note_ask.result ≡ true))) c.self.view_is
    (⊎_elim (λ e. inl e) (λ e. inr (e.0, is_ask c.args.self.now _ _ _ c.self.view_is s, e.1)) c.note_ask.ensures.last)
