-- What an event leaves of the votes that a station keeps, and that these are the noted votes.
use Rattle.std.proofs.Common.{arith, ◌≡◌, ◌≢◌, ◌↔◌, Option, Some, None, List, ◌∷◌, refl, sym, ap, ◌∙◌, inl, inr}
use Rattle.notation.specs.declared.entry.Entry.{Entry}
use Rattle.agree_core.specs.declared.{messages.DeskId.DeskId, position.Position.Position}
use Rattle.agree_core.specs.Ballots.{Ballot}
use Rattle.agree_core.specs.Readers.{other}
use Rattle.headline.specs.declared.event.{Event.Event, Station.Station}
use Rattle.headline.specs.Setting.{Setting}
use Rattle.headline.specs.Configurations.{Configuration}
use Rattle.headline.specs.Runs.{Moment, last_of}
use Rattle.headline.specs.Noted.{Brings, HasNoted, IsBrought, IsFound, beginning_of, position_at}
use Rattle.headline.specs.KeptVotes.{kept_at}

module _ {Disk Why : Type 0} (s : Setting Disk Why) where
  -- the station keeps this vote, for its position
  abbrev pub KeepsVote : Configuration Disk → Station → DeskId → Ballot → Type 0
  KeepsVote w t c b = (position_at w t ≡ Some b.at) × (kept_at w t c ≡ Some b.entry)

  -- the station stays at its position with the votes that it kept, and none was brought that it lacked
  pub record Stays (w : Configuration Disk) (m : Moment Disk Why) (t : Station) : Type 0 where
    pub on : m.event ≢ beginning_of t
    pub at : position_at m.after t ≡ position_at w t
    pub keeps : (c : DeskId) → kept_at m.after t c ≡ kept_at w t c
    pub none : (c : DeskId) (b : Ballot) → IsBrought w m t c b → kept_at w t c ≡ None → ⊥

  -- the station stays at its position and keeps one more vote, which was brought
  pub record Adds (w : Configuration Disk) (m : Moment Disk Why) (t : Station) (c : DeskId) (b : Ballot) : Type 0 where
    pub on : m.event ≢ beginning_of t
    pub at : position_at m.after t ≡ Some b.at
    pub brought : IsBrought w m t c b
    pub lacked : kept_at w t c ≡ None
    pub has : kept_at m.after t c ≡ Some b.entry
    pub rest : kept_at m.after t (other c) ≡ kept_at w t (other c)

  -- the station is at another position, or begins there with the vote found in its file
  abbrev pub Moves : Configuration Disk → Moment Disk Why → Station → Type 0
  Moves w m t = ((at : Position) → position_at w t ≡ Some at → position_at m.after t ≡ Some at → ⊥) × ((c : DeskId) → kept_at m.after t c ≡ None) × (m.event ≢ beginning_of t)

  abbrev pub BeginsWithFound : Configuration Disk → Moment Disk Why → Station → Type 0
  BeginsWithFound w m t =
      (m.event ≡ beginning_of t) × ((c : DeskId) (b : Ballot) → position_at m.after t ≡ Some b.at → (kept_at m.after t c ≡ Some b.entry) ↔ ((t ≡ Station.Desk c) × IsFound s w m c b))

  pub data Leaves (w : Configuration Disk) (m : Moment Disk Why) (t : Station) : Type 0 where
    Gone : position_at m.after t ≡ None → Leaves w m t
    Begun : BeginsWithFound w m t → Leaves w m t
    Moved : Moves w m t → Leaves w m t
    Same : Stays w m t → Leaves w m t
    More : (c : DeskId) (b : Ballot) → Adds w m t c b → Leaves w m t

  found_begins : (w : Configuration Disk) (m : Moment Disk Why) (t : Station) (c : DeskId) (b : Ballot) → t ≡ Station.Desk c → IsFound s w m c b → m.event ≡ beginning_of t
  found_begins w m t c b e f = f.0 ∙ sym (ap beginning_of e)

  -- this station keeps exactly the noted votes
  abbrev pub KeepsAt : Configuration Disk → List (Moment Disk Why) → Station → Type 0
  KeepsAt w ms t = (c : DeskId) (b : Ballot) → HasNoted s w ms t c b ↔ KeepsVote (last_of w ms) t c b

  begun_noted : (w : Configuration Disk) (m : Moment Disk Why) (ms : List (Moment Disk Why)) (t : Station) → BeginsWithFound (last_of w ms) m t → (c : DeskId) (b : Ballot)
      → HasNoted s w (m ∷ ms) t c b → KeepsVote m.after t c b
  begun_noted w m ms t h0 c b h1 = grind arith

  moved_noted : (w : Configuration Disk) (m : Moment Disk Why) (ms : List (Moment Disk Why)) (t : Station) → Moves (last_of w ms) m t → KeepsAt w ms t → (c : DeskId) (b : Ballot)
      → HasNoted s w (m ∷ ms) t c b → ⊥
  moved_noted w m ms t h0 h1 c b h2 = grind arith

  same_noted : (w : Configuration Disk) (m : Moment Disk Why) (ms : List (Moment Disk Why)) (t : Station) → Stays (last_of w ms) m t → KeepsAt w ms t → (c : DeskId) (b : Ballot)
      → HasNoted s w (m ∷ ms) t c b → KeepsVote m.after t c b
  same_noted w m ms t g h c b (at, inl p) = absurd (lacking (kept_at (last_of w ms) t c) refl)
    where
      lacking : (o : Option Entry) → kept_at (last_of w ms) t c ≡ o → ⊥
      lacking None e = g.none c b p.0 e
      lacking (Some e) q = p.1 e ((h c (record { at = b.at; entry = e })).1 (p.0.0, q))
  same_noted w m ms t g h c b (at, inr (inl p)) = absurd (g.on (found_begins (last_of w ms) m t c b p.0 p.1))
  same_noted w m ms t g h c b (at, inr (inr p)) = (at, g.keeps c ∙ ((h c b).0 p.1).1)

  more_noted : (w : Configuration Disk) (m : Moment Disk Why) (ms : List (Moment Disk Why)) (t : Station) (d : DeskId) (a : Ballot) → Adds (last_of w ms) m t d a → KeepsAt w ms t
      → (c : DeskId) (b : Ballot) → HasNoted s w (m ∷ ms) t c b → KeepsVote m.after t c b
  more_noted w m ms t d a g h c b n = grind (arith, found_begins)

  more_kept : (w : Configuration Disk) (m : Moment Disk Why) (ms : List (Moment Disk Why)) (t : Station) (d : DeskId) (a : Ballot) → Adds (last_of w ms) m t d a → KeepsAt w ms t
      → (c : DeskId) (b : Ballot) → KeepsVote m.after t c b → HasNoted s w (m ∷ ms) t c b
  more_kept w m ms t d a g h c b k = grind arith

  pub follows : (w : Configuration Disk) (m : Moment Disk Why) (ms : List (Moment Disk Why)) (t : Station) → Leaves (last_of w ms) m t → KeepsAt w ms t → KeepsAt w (m ∷ ms) t
  follows w m ms t (Gone g) h c b = grind arith
  follows w m ms t (Begun g) h c b = (λ n. begun_noted w m ms t g c b n, λ k. (k.0, inr (inl ((g.1 c b k.0).0 k.1))))
  follows w m ms t (Moved g) h c b = (λ n. absurd (moved_noted w m ms t g h c b n), λ k. grind arith)
  follows w m ms t (Same g) h c b = (λ n. same_noted w m ms t g h c b n, λ k. (k.0, inr (inr (g.on, (h c b).1 (sym g.at ∙ k.0, sym (g.keeps c) ∙ k.1)))))
  follows w m ms t (More d a g) h c b = (λ n. more_noted w m ms t d a g h c b n, λ k. more_kept w m ms t d a g h c b k)
