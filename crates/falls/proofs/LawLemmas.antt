-- Which players' wickets the falls are, item by item.
use Rattle.std.proofs.Common.{◌≡◌, ℕ, ◌+◌, ◌==◌, ◌&&◌, Bool, List, [], ◌∷◌, ◌++◌, length, Option, Some, None, refl, sym, ◌∙◌, arith, append-nil}
use Rattle.std.specs.Prelude.{map, filter, if◌then◌else◌}
use Rattle.std.proofs.lemmas.List.{map-append}
use Rattle.notation.specs.declared.entry.Plain.{Plain}
use Rattle.notation.specs.declared.entry.Plain.TheVariants.{Ball as Bowl, Gone}
use Rattle.ball_laws.specs.declared.ends.Ends.{Ends}
use Rattle.ball_laws.specs.History.{History, is_wicket}
use Rattle.ball_laws.specs.Laws.{state_after}
use Rattle.ball_laws.specs.Over.{bowled_in}
use Rattle.ball_laws.proofs.Wickets.{ball-row}
use Rattle.match_laws.specs.declared.rows.Fall.{Fall}
use Rattle.match_laws.specs.Figures.{fallen, falls, with_fall}
use Rattle.match_laws.specs.History.{begun, note_of}
use Rattle.match_laws.specs.Refusals.{IsLegal, refusal}
use Rattle.match_laws.proofs.LegalLemmas.{taken}
use Rattle.falls.specs.Falls.{Wicket, fall_of, falls_in, wickets_of}
use Rattle.falls.specs.Laws.{FallsStand, out_by, who}

abbrev players : List Fall → List (Option ℕ)
players fs = map (λ fall. Some fall.player) fs

abbrev outs : ℕ → List Wicket → List (Option ℕ)
outs i ws = map who (filter (λ w. begun w.before == i + 1) ws)

abbrev listed : Option ℕ → List (Option ℕ)
listed None = []
listed (Some p) = Some p ∷ []

-- the player out by one item, if it is in this innings
abbrev one : Bool → Plain → Ends → List (Option ℕ)
one here x ends = if here && is_wicket x then out_by x ends ∷ [] else []

players-with : (fs : List Fall) (out : Option ℕ) (t : ℕ) → players (with_fall fs out t) ≡ players fs ++ listed out
players-with fs None t = sym (append-nil (players fs))
players-with fs (Some p) t = map-append (λ fall. Some fall.player) fs (record { player = p; total = t } ∷ [])

filter-last : (test : Wicket → Bool) (ws : List Wicket) (w : Wicket) → filter test (ws ++ w ∷ []) ≡ filter test ws ++ (if test w then w ∷ [] else [])
filter-last test [] w = grind arith
filter-last test (v ∷ ws) w = grind (arith, filter-last test ws w)

outs-more : (i : ℕ) (x : Plain) (h : History) → outs i (wickets_of (x ∷ h)) ≡ outs i (wickets_of h) ++ one (begun h == i + 1) x (state_after h).ends
outs-more i x h =
    let w : Wicket = record { before = h; item = x } in
    grind (arith, filter-last (λ v. begun v.before == i + 1) (wickets_of h) w, map-append who (filter (λ v. begun v.before == i + 1) (wickets_of h)) (w ∷ []), append-nil (outs i (wickets_of h)), append-nil (filter (λ v. begun v.before == i + 1) (wickets_of h)))

-- an accepted item at which a wicket falls puts one player out
fell : (n : ℕ) (h : History) (x : Plain) (i : ℕ) → refusal n h x ≡ None → listed (fallen i (note_of h x)) ≡ one (begun h == i + 1) x (state_after h).ends
fell n h (Bowl b) i e =
    let s = state_after h in
    let full = ball-row s.ends (bowled_in b.bowler s.last_over) (length s.this_over) b (taken n h (Bowl b) refl e).ball in
    grind (arith, full)
fell n h (Gone way p) i e = grind arith
fell n h x i e = grind arith

players_stand : (n : ℕ) (h : History) → IsLegal n h → (i : ℕ) → players (falls h i) ≡ outs i (wickets_of h)
unfolding falls
players_stand n [] legal i = refl
players_stand n (x ∷ h) legal i =
    players-with (falls h i) (fallen i (note_of h x)) _
    ∙ (rw (players_stand n h legal.0 i, fell n h x i legal.1) (sym (outs-more i x h)))

-- the places of an innings' falls are those of its wickets
places_stand : (i : ℕ) (ws : List Wicket) → falls_in (i + 1) (map fall_of ws) ≡ map fall_of (filter (λ w. begun w.before == i + 1) ws)
places_stand i [] = refl
places_stand i (w ∷ ws) = grind (arith, places_stand i ws)

pub falls_stand : (n : ℕ) (h : History) → IsLegal n h → (i : ℕ) → FallsStand h i
falls_stand n h legal i = record { players = players_stand n h legal i; there = places_stand i (wickets_of h) }
