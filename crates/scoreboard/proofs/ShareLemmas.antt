-- A batter's share, item by item.
use Rattle.std.proofs.Common.{◌≡◌, ℕ, List, [], ◌∷◌, None, refl, sym, ap, ◌∙◌, subst}
use Rattle.notation.specs.declared.entry.Plain.TheVariants.{Void}
use Rattle.ball_laws.specs.History.{History}
use Rattle.ball_laws.specs.Crease.{standing_of}
use Rattle.ball_laws.specs.Laws.{IsPlayed, after, refusal, start, state_after}
use Rattle.ball_laws.specs.Standing.{Standing}
use Rattle.match_laws.specs.Refusals.{IsLegal}
use Rattle.match_laws.proofs.LegalLemmas.{taken}
use Rattle.corrections.specs.declared.placed.Placed.{Placed}
use Rattle.corrections.specs.inner.Scoring.{history_after}
use Rattle.scoreboard.specs.declared.stand.Stand.{Stand}
use Rattle.scoreboard.specs.Stand.{no_stand, share_after, share_of}

-- no item of a legal history was refused
pub played : (n : ℕ) (h : History) → IsLegal n h → IsPlayed h
played n [] legal = tt
played n (Void ∷ h) legal = (played n h legal.0, refl)
played n (x ∷ h) legal = (played n h legal.0, (taken n h x refl legal.1).ball)

-- nor was any item of the history that it extends
played_before : (h : History) (xs : List Placed) → IsPlayed (history_after h xs) → IsPlayed h
played_before h [] all = all
played_before h (x ∷ xs) all = (played_before (x.item ∷ h) xs all).0

-- a player's share after the items taken so far, the items left, and the crease between them
pub record Sharing (p : ℕ) (all left : List Placed) (there : Standing) (made : Stand) : Type 0 where
  pub history : History
  pub ends : history_after history left ≡ history_after [] all
  pub crease : there ≡ standing_of (state_after history)
  pub share : made ≡ share_of p history

pub shares_none : (p : ℕ) (all : List Placed) (crease : Standing) → crease ≡ standing_of start → Sharing p all all crease no_stand
shares_none p all crease is = record { history = []; ends = refl; crease = is; share = refl }

-- no item of those left is refused
pub shares_played : {p : ℕ} {all left : List Placed} {x : Placed} {crease : Standing} {share : Stand} (m : Sharing p all (x ∷ left) crease share)
    → IsPlayed (history_after [] all) → refusal (state_after m.history) x.item ≡ None
shares_played {left = left} {x = x} m all = (played_before (x.item ∷ m.history) left (subst IsPlayed (sym m.ends) all)).1

-- one more item
pub shares_one : {p : ℕ} {all left : List Placed} {x : Placed} {crease later : Standing} {share more : Stand} (m : Sharing p all (x ∷ left) crease share)
    → later ≡ standing_of (after (state_after m.history) x.item) → more ≡ share_after p (state_after m.history).ends x.item (share_of p m.history)
    → Sharing p all left later more
shares_one {x = x} m moved shared = record { history = x.item ∷ m.history; ends = m.ends; crease = moved; share = shared }

pub shares_all : {p : ℕ} {all : List Placed} {crease : Standing} {share : Stand} (m : Sharing p all [] crease share) → share ≡ share_of p (history_after [] all)
shares_all {p = p} m = m.share ∙ ap (share_of p) m.ends
