-- The deliveries shown, as a function of the history.
use Rattle.std.proofs.Common.{arith, ◌≡◌, List, [], ◌∷◌, ◌++◌, map, reverse, refl, sym, ap, ◌∙◌}
use Rattle.std.proofs.lemmas.List.{map_push, reverse-append, reverse-reverse}
use Rattle.notation.specs.declared.entry.{Ball.Ball, Plain.Plain, Entry.Entry}
use Rattle.ball_laws.specs.History.{History, open_over, last_called_over}
use Rattle.corrections.specs.declared.placed.Placed.{Placed}
use Rattle.corrections.specs.CleanList.{clean_items_of, history_of}
use Rattle.corrections.specs.Overs.{over_now, this_or_last as this_or_last_balls}
use Rattle.limits.specs.inner.Walks.{along, walk}
use Rattle.limits.proofs.WalkLemmas.{PassesVoids, walk_book}
use Rattle.desk_state.specs.declared.deliveries.Delivery.{Delivery}
use Rattle.desk_state.specs.Over.{over_shown, this_or_last}
use Rattle.desk_state.specs.inner.Items.{Noted, noted_after, noted_behind, noted_of, none_noted}
use Rattle.desk_state.proofs.NotedLemmas.{noted_in_all}

-- both overs without their places, each the newest delivery first
record Balls : Type 0 where
  this : List Ball
  last : List Ball

abbrev balls_in : List Delivery → List Ball
balls_in over = reverse (map (λ d. d.ball) over)

abbrev balls_of : Noted → Balls
balls_of s = record { this = balls_in s.this; last = balls_in s.last }

abbrev no_balls : Balls
no_balls = record { this = []; last = [] }

abbrev balls_after : Plain → Balls → Balls
balls_after (Plain.Ball b) s = record { this = b ∷ s.this; last = s.last }
balls_after Plain.Over s = record { this = []; last = s.this }
balls_after (Plain.Innings side) s = no_balls
balls_after (Plain.End cause) s = no_balls
balls_after x s = s

one_ball : (d : Delivery) (over : List Delivery) → balls_in (over ++ d ∷ []) ≡ d.ball ∷ balls_in over
one_ball d over = ap reverse (map_push (λ (e : Delivery). e.ball) over d) ∙ reverse-append (map (λ e. e.ball) over) (d.ball ∷ [])

more : (p : _) (x : Plain) (s : Noted) (a : _) → balls_of (noted_after (record { anchor = a; place = p; item = x }) s) ≡ balls_after x (balls_of s)
more p (Plain.Ball b) s a = ap (λ over. record { this = over; last = balls_in s.last }) (one_ball (record { place = p; ball = b }) s.this)
more p x s a = refl

all : (s : Noted) (xs : List Placed) → balls_of (noted_behind s xs) ≡ walk balls_after (balls_of s) xs
all s [] = refl
all s (x ∷ xs) = all (noted_after x s) xs ∙ ap (λ t. walk balls_after t xs) (more x.place x.item s x.anchor)

passes : PassesVoids balls_after
passes x s v = grind arith

balls_along : (h : History) → along balls_after no_balls h ≡ record { this = open_over h; last = last_called_over h }
balls_along [] = refl
balls_along (x ∷ h) = ap (balls_after x) (balls_along h) ∙ grind arith

-- this over, or the last one, without their places
not_empty : (bs : List Ball) (b : Ball) (last : List Ball) → this_or_last_balls (bs ++ b ∷ []) last ≡ bs ++ b ∷ []
not_empty [] b last = refl
not_empty (c ∷ cs) b last = refl

chosen : (this last : List Delivery) → balls_in (this_or_last this last) ≡ this_or_last_balls (balls_in this) (balls_in last)
chosen [] last = refl
chosen (d ∷ ds) last =
    let e = reverse-append (d.ball ∷ []) (map (λ (x : Delivery). x.ball) ds) in
    e ∙ sym (not_empty (reverse (map (λ x. x.ball) ds)) d.ball (balls_in last)) ∙ ap (λ bs. this_or_last_balls bs (balls_in last)) (sym e)

pub shows_the_over : (book : List Entry) → map (λ d. d.ball) (over_shown book) ≡ reverse (over_now (history_of book))
shows_the_over book =
    let items = clean_items_of book in
    let both = ap balls_of (sym (noted_in_all items)) ∙ all none_noted items ∙ walk_book balls_after passes no_balls book items refl ∙ balls_along (history_of book) in
    let s = noted_of (reverse items) in
    sym (reverse-reverse (map (λ d. d.ball) (over_shown book)))
    ∙ ap reverse (chosen s.this s.last ∙ ap (λ (b : Balls). this_or_last_balls b.this b.last) both)
