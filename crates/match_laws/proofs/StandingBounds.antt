-- Properties of a match's standing, which follow since some history has this standing.
use Rattle.std.proofs.Common.{◌≡◌, ℕ, ◌<◌, ◌≤◌, false, Some, ap, sym, ◌∙◌, arith, get_or}
use Rattle.std.proofs.Math.Bridge.{le_prop}
use Rattle.std.proofs.Math.Logic.{∥∥₁_elim}
use Rattle.notation.specs.declared.entry.{Side.Side, Plain.Plain}
use Rattle.notation.specs.declared.entry.Plain.TheVariants.{Innings}
use Rattle.ball_laws.specs.History.{History}
use Rattle.match_laws.specs.declared.{standing.Standing.Standing, score.InningsScore.InningsScore, sides.SideRecord.SideRecord}
use Rattle.match_laws.specs.History.{side_of, is_void}
use Rattle.match_laws.specs.Figures.{total}
use Rattle.match_laws.specs.Result.{share}
use Rattle.match_laws.specs.Parts.{score_of, side_record}
use Rattle.match_laws.specs.inner.Added.{IsSmallScore, IsSmallRecord}
use Rattle.match_laws.specs.Stands.{StandsFor, IsKept, CanTake}
use Rattle.match_laws.proofs.TableLemmas.{at_table}
use Rattle.match_laws.proofs.LegalLemmas.{taken, entries_few, begun_few, begun_room, latest_of-begun}
use Rattle.match_laws.proofs.Bounds.{score-small, record-small}
use Rattle.match_laws.proofs.BattingFalls.{wickets-ten}

pub kept_begun : (m : Standing) → ∥ IsKept m ∥₁ → m.begun ≤ 4
kept_begun m kept = ∥∥₁_elim kept le_prop (λ w.
    omega (arith, begun_few w.innings_a_side w.history ((w.stands).one_or_two).1 (w.stands).legal, (w.stands).begun))

-- at most ten wickets
pub kept_few : (m : Standing) → ∥ IsKept m ∥₁ → (k : ℕ) (d : InningsScore) → k < 4 → (get_or m.scores k d).wickets ≤ 10
kept_few m kept k d lt = ∥∥₁_elim kept le_prop (λ w. rw (at_table (score_of w.history) m.scores (w.stands).scores k d lt)
    (wickets-ten w.innings_a_side w.history k (w.stands).legal))

-- the share of a side in an innings
pub share_at : (m : Standing) (n : ℕ) (h : History) → StandsFor m n h → (k : ℕ) (d : InningsScore) → k < 4 → (side : Side) →
    share (get_or m.scores k d).side side (get_or m.scores k d).total ≡ share (side_of h k) side (total h k)
share_at m n h s k d lt side = ap (λ v. share v.side side v.total) (at_table (score_of h) m.scores s.scores k d lt)

-- ---- an innings' score and a side's record have room

pub kept_score : (m : Standing) → ∥ IsKept m ∥₁ → (k : ℕ) (d : InningsScore) → k < 4 → IsSmallScore (get_or m.scores k d)
kept_score m kept k d lt = ∥∥₁_elim kept (hlevel le_prop) (λ w. rw (at_table (score_of w.history) m.scores (w.stands).scores k d lt)
    (score-small w.history k (w.stands).in_range (entries_few w.innings_a_side w.history (w.stands).legal)))

-- a side's record has room, since every history gives this record
pub kept_record : (m : Standing) (side : Side) (r : SideRecord) → ∥ IsKept m ∥₁ →
    ((n : ℕ) → (h : History) → StandsFor m n h → r ≡ side_record h side) → IsSmallRecord r
kept_record m side r kept is = ∥∥₁_elim kept (hlevel le_prop) (λ w. rw (is w.innings_a_side w.history w.stands)
    (record-small w.history side (entries_few w.innings_a_side w.history (w.stands).legal)))

-- there is room for an innings that may begin
pub room_begun : (m : Standing) (s : Side) → ∥ CanTake m (Innings s) ∥₁ → m.begun < 4
room_begun m s can = ∥∥₁_elim can le_prop (λ w.
    omega (arith, begun_room w.innings_a_side w.history s ((w.stands).one_or_two).1 (w.stands).legal w.taken, (w.stands).begun))

-- the innings that a side began last is one of the four
pub kept_latest : (m : Standing) (side : Side) (r : SideRecord) (k : ℕ) → ∥ IsKept m ∥₁ →
    ((n : ℕ) → (h : History) → StandsFor m n h → r ≡ side_record h side) → r.latest ≡ Some k → k < 4
kept_latest m side r k kept is e = ∥∥₁_elim kept le_prop (λ w.
    let began = latest_of-begun w.history side k (sym (ap (λ v. v.latest) (is w.innings_a_side w.history w.stands)) ∙ e) in
    omega (arith, began, begun_few w.innings_a_side w.history ((w.stands).one_or_two).1 (w.stands).legal))

-- there is room for one more entry
pub room_taken : (m : Standing) (x : Plain) → is_void x ≡ false → ∥ CanTake m x ∥₁ → m.taken < 8192
room_taken m x v can = ∥∥₁_elim can le_prop (λ w.
    omega (arith, (taken w.innings_a_side w.history x v w.taken).room, (w.stands).taken))
