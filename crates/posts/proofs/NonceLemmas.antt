-- The nonces that are out over many calls.
use Rattle.std.proofs.lemmas.Grind.{common_steps}
use Rattle.std.proofs.Common.{◌≡◌, ◌≢◌, ◌∙◌, ◌<◌, ◌≤◌, ◌+◌, ◌==◌, ◌&&◌, ◌||◌, ℕ, Bool, true, false, List, [], ◌∷◌, ◌++◌, Option, None, Some, Result, Ok, Err, All, AllPairs, length, drop, if◌then◌else◌, nat_lt, arith, refl, sym, ap, subst}
use Rattle.std.proofs.lemmas.Bool.Decides.{nat_tests}
use Rattle.std.proofs.lemmas.List.Elements.{All-nil, All-cons}
use Rattle.std.proofs.lemmas.List.Kept.{AllPairs-cons}
use Rattle.std.proofs.lemmas.List.Folds.{list_any-append}
use Rattle.std.proofs.lemmas.Slice.Eq.{bytes_eq-Decides}
use Rattle.agree_core.specs.declared.position.Position.{Position}
use Rattle.screen.specs.Words.{is_end}
use Rattle.posts.specs.Texts.{tag_of}
use Rattle.posts.specs.Posts.{IsPostOf, IsTaken, after_check, checked, is_good_pass, is_line, is_out, is_same_place, is_tagged, line_in, line_of, line_of_post, out_after, out_after_pass, passed_by, stamped, used_by, verdict, with_given, without}
use Rattle.posts.specs.Posted.{WasPosted}
use Rattle.posts.specs.Runs.{Call, accepted, accepted_by, let_by}
use Rattle.posts.specs.Runs.Call.{Give, Hide, Judge, Look, Renew}
use Rattle.posts.specs.Veils.{desk_seed, stream_key, turned}
use Rattle.posts.proofs.VeilLemmas.{length-turned, turned-twice}
use Rattle.posts.specs.declared.{judging.Post.Post, refusal.Refusal.Refusal, stamp.{Pass.Pass, Stamp.Stamp}}

-- ---- what holds of a post whose line is typed

same_tag : (secret : List ℕ) (s : Stamp) (line : List ℕ) → is_tagged secret s line ≡ true → s.tag ≡ tag_of secret s.nonce s.at line
same_tag secret s line h = (bytes_eq-Decides s.tag (tag_of secret s.nonce s.at line)).0 h

-- of a good stamp
record IsGood (secret out : List ℕ) (o : Option Stamp) (line : List ℕ) (s : Stamp) : Type 0 where
  is_it : o ≡ Some s
  was_out : is_out out s.nonce ≡ true
  tagged : is_tagged secret s line ≡ true

good : (secret out : List ℕ) (o : Option Stamp) (line : List ℕ) (s : Stamp) → stamped secret out o line ≡ Ok s → IsGood secret out o line s
good secret out None line s h = absurd (cc)
good secret out (Some t) line s h =
    let same : t ≡ s = grind (arith, h) in
    record { is_it = ap Some same; was_out = grind (arith, h, same); tagged = grind (arith, h, same) }

-- the stamp of a post that is from this host and good
record IsChecked (secret out : List ℕ) (post : Post) (s : Stamp) : Type 0 where
  from_here : post.is_from_here ≡ true
  is_good : IsGood secret out post.stamp (line_of_post secret post) s

from_here : (here long : Bool) (r : Result Stamp Refusal) (s : Stamp)
    → ◌≡◌ {A = Result Stamp Refusal} (if here then (if long then Err Refusal.TooLong else r) else Err Refusal.Foreign) (Ok s)
    → (here ≡ true) × (r ≡ Ok s)
from_here here long r s h = (grind (arith, h), grind (arith, h))

is_checked : (secret out : List ℕ) (post : Post) (s : Stamp) → checked secret out post ≡ Ok s → IsChecked secret out post s
is_checked secret out post s h =
    let line = line_of_post secret post in
    let both = from_here post.is_from_here (nat_lt 128 (length post.hidden.now)) (stamped secret out post.stamp line) s h in
    record { from_here = both.0; is_good = good secret out post.stamp line s both.1 }

after : (r : Result Stamp Refusal) (line : List ℕ) (at : Position) (waiting : ℕ) (l : List ℕ) → after_check r line at waiting ≡ Ok l
    → (s : Stamp) × (r ≡ Ok s) × (line_of s line at waiting ≡ Ok l)
after r line at waiting l h = grind (arith, common_steps)

same_place : (p q : Position) → is_same_place p q ≡ true → p ≡ q
same_place p q h = grind (arith, common_steps, nat_tests)

-- a line that is typed
record IsPlaced (is_one ends same : Bool) (line l : List ℕ) : Type 0 where
  is_it : is_one ≡ true
  goes_on : ends ≡ false
  here : same ≡ true
  whole : line ≡ l

placed : (is_one ends same room : Bool) (line l : List ℕ)
    → ◌≡◌ {A = Result (List ℕ) Refusal} (if is_one then (if ends then Err Refusal.Ends else if same then (if room then Ok line else Err Refusal.Busy) else Err Refusal.Elsewhere) else Err Refusal.Malformed) (Ok l)
    → IsPlaced is_one ends same line l
placed is_one ends same room line l h =
    record { is_it = grind (arith, h); goes_on = grind (arith, h); here = grind (arith, h); whole = grind (arith, h) }

-- a nonce that is used is out no longer
pub without_lacks : (n : ℕ) (out : List ℕ) → is_out (without n out) n ≡ false
without_lacks n [] = refl
without_lacks n (x ∷ xs) = by_test (x == n) refl (without_lacks n xs)
  where
    by_test : (b : Bool) → (x == n) ≡ b → is_out (without n xs) n ≡ false
        → is_out (if (if b then false else true) then x ∷ without n xs else without n xs) n ≡ false
    by_test true e rest = rest
    by_test false e rest = ap (λ t. t || is_out (without n xs) n) e ∙ rest

pub posted : (secret out : List ℕ) (post : Post) (s : Stamp) (at : Position) (waiting : ℕ) (line : List ℕ)
    → checked secret out post ≡ Ok s → line_of s (line_of_post secret post) at waiting ≡ Ok line → WasPosted secret out s at line
posted secret out post s at waiting line h k =
    let hidden = line_of_post secret post in
    let known = is_checked secret out post s h in
    let place = placed (is_line hidden) (is_end hidden) (is_same_place s.at at) (nat_lt waiting 8) hidden line k in
    record {
      was_out = known.is_good.was_out;
      tag = same_tag secret s hidden known.is_good.tagged ∙ ap (tag_of secret s.nonce s.at) place.whole;
      place = same_place s.at at place.here;
      is_it = ap is_line (sym place.whole) ∙ place.is_it;
      ends_no_desk = ap is_end (sym place.whole) ∙ place.goes_on;
    }

pub taken : (secret out : List ℕ) (post : Post) (at : Position) (waiting : ℕ) (line : List ℕ)
    → verdict secret out post at waiting ≡ Ok line → IsTaken secret out post at line
taken secret out post at waiting line h =
    let hidden = line_of_post secret post in
    let found = after (checked secret out post) hidden at waiting line h in
    let s = found.0 in
    let known = is_checked secret out post s found.1 in
    let was = posted secret out post s at waiting line found.1 found.2 in
    let place = placed (is_line hidden) (is_end hidden) (is_same_place s.at at) (nat_lt waiting 8) hidden line found.2 in
    let by_stamp : hidden ≡ turned secret (desk_seed s.tag) post.hidden.now = ap (λ o. line_in secret o post.hidden.now) known.is_good.is_it in
    record {
      stamp = s;
      has_stamp = known.is_good.is_it;
      is_from_here = known.from_here;
      was_out = was.was_out;
      is_used = ap (λ r. is_out (used_by r out) s.nonce) found.1 ∙ without_lacks s.nonce out;
      line_is = sym place.whole ∙ by_stamp;
      tag = was.tag;
      place = was.place;
      is_it = was.is_it;
      ends_no_desk = was.ends_no_desk;
    }

-- ---- what is typed

all_pass : (one ends same room : Bool) (line : List ℕ) → one ≡ true → ends ≡ false → same ≡ true → room ≡ true
    → ◌≡◌ {A = Result (List ℕ) Refusal} (if one then (if ends then Err Refusal.Ends else if same then (if room then Ok line else Err Refusal.Busy) else Err Refusal.Elsewhere) else Err Refusal.Malformed) (Ok line)
all_pass one ends same room line h1 h2 h3 h4 = grind (arith, h1, h2, h3, h4)

all_good : (here long out good : Bool) (s : Stamp) → here ≡ true → long ≡ false → out ≡ true → good ≡ true
    → ◌≡◌ {A = Result Stamp Refusal} (if here then (if long then Err Refusal.TooLong else if out then (if good then Ok s else Err Refusal.WrongTag) else Err Refusal.NotOut) else Err Refusal.Foreign) (Ok s)
all_good here long out good s h1 h2 h3 h4 = grind (arith, h1, h2, h3, h4)

not_long : (n : ℕ) → n ≤ 128 → nat_lt 128 n ≡ false
not_long n h = grind (arith, nat_tests, h)

has_room : (n : ℕ) → n < 8 → nat_lt n 8 ≡ true
has_room n h = grind (arith, nat_tests, h)

is_here : (p : Position) → is_same_place p p ≡ true
is_here p = grind (arith, common_steps, nat_tests)

pub typed : (secret out : List ℕ) (post : Post) (at : Position) (nonce waiting : ℕ) (line : List ℕ)
    → IsPostOf secret nonce at line post → is_out out nonce ≡ true → is_line line ≡ true → is_end line ≡ false
    → length line ≤ 128 → waiting < 8 → verdict secret out post at waiting ≡ Ok line
typed secret out post at nonce waiting line is was_out is_one goes_on short few =
    let s = is.stamp in
    let opens : turned secret (desk_seed s.tag) post.hidden.now ≡ line =
    ap (turned secret (desk_seed s.tag)) is.hides ∙ turned-twice (stream_key secret) (desk_seed s.tag) 0 line in
    let line_is : line_of_post secret post ≡ line = ap (λ o. line_in secret o post.hidden.now) is.has_stamp ∙ opens in
    let size : length post.hidden.now ≡ length line = ap length is.hides ∙ length-turned (stream_key secret) (desk_seed s.tag) 0 line in
    let long : nat_lt 128 (length post.hidden.now) ≡ false = not_long _ (omega (arith, size, short)) in
    let out_too : is_out out s.nonce ≡ true = ap (is_out out) is.number ∙ was_out in
    let tag_is : s.tag ≡ tag_of secret s.nonce s.at line =
    is.tag ∙ ap (λ n. tag_of secret n at line) (sym is.number) ∙ ap (λ p. tag_of secret s.nonce p line) (sym is.place) in
    let tagged : is_tagged secret s line ≡ true = (bytes_eq-Decides s.tag (tag_of secret s.nonce s.at line)).1 tag_is in
    let stamp_is : stamped secret out post.stamp (line_of_post secret post) ≡ stamped secret out (Some s) line =
    ap (λ o. stamped secret out o (line_of_post secret post)) is.has_stamp ∙ ap (stamped secret out (Some s)) line_is in
    let known : checked secret out post ≡ Ok s =
    ap (λ r. if post.is_from_here then (if nat_lt 128 (length post.hidden.now) then Err Refusal.TooLong else r) else Err Refusal.Foreign) stamp_is
    ∙ all_good post.is_from_here (nat_lt 128 (length post.hidden.now)) (is_out out s.nonce) (is_tagged secret s line) s is.is_from_here long out_too tagged in
    let same : is_same_place s.at at ≡ true = ap (λ p. is_same_place p at) is.place ∙ is_here at in
    ap (λ r. after_check r (line_of_post secret post) at waiting) known ∙ ap (λ l. line_of s l at waiting) line_is
    ∙ all_pass (is_line line) (is_end line) (is_same_place s.at at) (nat_lt waiting 8) line is_one goes_on same (has_room waiting few)

-- ---- the nonces that are out

-- each nonce that is out was given: it is below the next
abbrev pub IsBelow : List ℕ → ℕ → Type 0
IsBelow out next = (n : ℕ) → is_out out n ≡ true → n < next

or_right : (b c : Bool) → c ≡ true → (b || c) ≡ true
or_right b c h = grind (arith, common_steps)

or_more : (b c d : Bool) → (c ≡ true → d ≡ true) → (b || c) ≡ true → (b || d) ≡ true
or_more b c d h h2 = grind (arith, common_steps)

fewer_by : (n m : ℕ) (out : List ℕ) → is_out (without m out) n ≡ true → is_out out n ≡ true
fewer_by n m [] h = h
fewer_by n m (x ∷ xs) h = by_test (x == m) h (fewer_by n m xs)
  where
    by_test : (b : Bool) → is_out (if (if b then false else true) then x ∷ without m xs else without m xs) n ≡ true
        → (is_out (without m xs) n ≡ true → is_out xs n ≡ true) → is_out (x ∷ xs) n ≡ true
    by_test true h more = or_right (x == n) (is_out xs n) (more h)
    by_test false h more = or_more (x == n) (is_out (without m xs) n) (is_out xs n) more h

used_fewer : (r : Result Stamp Refusal) (n : ℕ) (out : List ℕ) → is_out (used_by r out) n ≡ true → is_out out n ≡ true
used_fewer r n out h = grind (arith, common_steps, fewer_by)

dropped : (n : ℕ) (out : List ℕ) → is_out (drop 1 out) n ≡ true → is_out out n ≡ true
dropped n out h = grind (arith, common_steps, or_right)

kept : (full : Bool) (n : ℕ) (out : List ℕ) → is_out (if full then drop 1 out else out) n ≡ true → is_out out n ≡ true
kept full n out h = grind (arith, common_steps, dropped)

-- a nonce that is out once one is given was out before, or is the given one
given : (n next : ℕ) (out : List ℕ) → is_out (with_given out next) n ≡ true → (n ≢ next) → is_out out n ≡ true
given n next out h h2 = grind (arith, common_steps, list_any-append, kept, nat_tests)

not_true : (b c : Bool) → (b ≡ true → c ≡ true) → c ≡ false → b ≡ false
not_true b c h h2 = grind (arith, common_steps)

differs : (n m : ℕ) → (n == m) ≡ false → n ≢ m
differs n m e = λ s. grind (arith, nat_tests, e, s)

same_numbers : (n m : ℕ) → (n == m) ≡ true → n ≡ m
same_numbers n m e = grind (arith, nat_tests, e)

below_given : (out : List ℕ) (next : ℕ) → IsBelow out next → IsBelow (with_given out next) (next + 1)
below_given out next below = λ n is. by_test n is (n == next) refl
  where
    by_test : (n : ℕ) → is_out (with_given out next) n ≡ true → (b : Bool) → (n == next) ≡ b → n < next + 1
    by_test n is true e = let same = same_numbers n next e in omega (arith, same)
    by_test n is false e = let was = below n (given n next out is (differs n next e)) in omega (arith, was)

-- ---- the nonces of lines that are typed

same_stamp : (o : Option Stamp) (s t : Stamp) → o ≡ Some s → o ≡ Some t → s ≡ t
same_stamp o s t h k = cc (h, k)

-- a property of the nonces of later lines, extended by the line that a post types
with_nonce : (P : List ℕ → Type 0) (r : Result (List ℕ) Refusal) (o : Option Stamp) (post : Post) (rest : List ℕ) → post.stamp ≡ o → P rest
    → ((s : Stamp) (line : List ℕ) → r ≡ Ok line → o ≡ Some s → P (s.nonce ∷ rest)) → P (accepted_by r post ++ rest)
with_nonce P (Err why) o post rest e all h = all
with_nonce P (Ok line) None post rest e all h = rw e all
with_nonce P (Ok line) (Some s) post rest e all h = rw e (h s line refl refl)

-- ---- the nonces of passes

passed_fewer : (is_good : Bool) (n : ℕ) (p : Pass) (out : List ℕ) → is_out (passed_by is_good p out) n ≡ true → is_out out n ≡ true
passed_fewer true n p out h = fewer_by n p.nonce out h
passed_fewer false n p out h = h

both : (b c : Bool) → (b && c) ≡ true → b ≡ true
both b c h = grind (arith, common_steps)

pass_was_out : (secret out : List ℕ) (p : Pass) → is_good_pass secret out p ≡ true → is_out out p.nonce ≡ true
pass_was_out secret out p h = both _ _ h

pass_is_used : (is_good : Bool) (out : List ℕ) (p : Pass) → is_good ≡ true → is_out (passed_by is_good p out) p.nonce ≡ false
pass_is_used true out p h = without_lacks p.nonce out
pass_is_used false out p h = absurd (cc h)

-- a property of later nonces, extended by a good pass
with_pass : (P : List ℕ → Type 0) (is_good : Bool) (p : Pass) (rest : List ℕ) → P rest → (is_good ≡ true → P (p.nonce ∷ rest))
    → P (let_by is_good p ++ rest)
with_pass P true p rest all h = h refl
with_pass P false p rest all h = all

-- a nonce that was given and is out no longer is never accepted
never : (secret : List ℕ) (n : ℕ) (calls : List Call) (out : List ℕ) (next : ℕ) → n < next → is_out out n ≡ false
    → All (λ m. n ≢ m) (accepted secret out next calls)
never secret n [] out next below lacks = All-nil (λ m. n ≢ m)
never secret n (Give ∷ calls) out next below lacks =
    never secret n calls (with_given out next) (next + 1) (omega (arith, below))
    (not_true _ _ (λ is. given n next out is (λ e. omega (arith, below, e))) lacks)
never secret n (Judge post at waiting ∷ calls) out next below lacks =
    let later = never secret n calls (out_after secret out post) next below (not_true _ _ (used_fewer (checked secret out post) n out) lacks) in
    with_nonce (All (λ m. n ≢ m)) (verdict secret out post at waiting) post.stamp post _ refl later
    (λ s line typed has. All-cons (λ m. n ≢ m) s.nonce _ (λ e.
    let known = taken secret out post at waiting line typed in
    let was : is_out out n ≡ true = subst (λ x. is_out out x ≡ true) (ap (λ x. x.nonce) (same_stamp post.stamp known.stamp s known.has_stamp has) ∙ sym e) known.was_out in
    absurd (cc (was, lacks))) later)
never secret n (Hide ∷ calls) out next below lacks = never secret n calls out next below lacks
never secret n (Renew other ∷ calls) out next below lacks = never other n calls [] next below refl
never secret n (Look p ∷ calls) out next below lacks =
    let later = never secret n calls (out_after_pass secret out p) next below (not_true _ _ (passed_fewer (is_good_pass secret out p) n p out) lacks) in
    with_pass (All (λ m. n ≢ m)) (is_good_pass secret out p) p _ later
    (λ good. All-cons (λ m. n ≢ m) p.nonce _ (λ e.
    let was : is_out out n ≡ true = subst (λ x. is_out out x ≡ true) (sym e) (pass_was_out secret out p good) in
    absurd (cc (was, lacks))) later)

-- with no nonce out
none_below : (next : ℕ) → IsBelow [] next
none_below next = λ n is. absurd (cc is)

pub once : (secret : List ℕ) (calls : List Call) (out : List ℕ) (next : ℕ) → IsBelow out next
    → AllPairs (λ m n. m ≢ n) (accepted secret out next calls)
once secret [] out next below = λ i j d less within. omega (arith, within)
once secret (Give ∷ calls) out next below =
    once secret calls (with_given out next) (next + 1) (below_given out next below)
once secret (Judge post at waiting ∷ calls) out next below =
    let later = once secret calls (out_after secret out post) next (λ n is. below n (used_fewer (checked secret out post) n out is)) in
    with_nonce (AllPairs (λ m n. m ≢ n)) (verdict secret out post at waiting) post.stamp post _ refl later
    (λ s line typed has.
    let known = taken secret out post at waiting line typed in
    let same = ap (λ x. x.nonce) (same_stamp post.stamp known.stamp s known.has_stamp has) in
    AllPairs-cons (λ m n. m ≢ n) s.nonce _
    (never secret s.nonce calls (out_after secret out post) next (below s.nonce (rw same at known.was_out)) (rw same at known.is_used)) later)
once secret (Hide ∷ calls) out next below = once secret calls out next below
once secret (Renew other ∷ calls) out next below = once other calls [] next (none_below next)
once secret (Look p ∷ calls) out next below =
    let later = once secret calls (out_after_pass secret out p) next (λ n is. below n (passed_fewer (is_good_pass secret out p) n p out is)) in
    with_pass (AllPairs (λ m n. m ≢ n)) (is_good_pass secret out p) p _ later
    (λ good. AllPairs-cons (λ m n. m ≢ n) p.nonce _
    (never secret p.nonce calls (out_after_pass secret out p) next (below p.nonce (pass_was_out secret out p good))
    (pass_is_used (is_good_pass secret out p) out p good)) later)

pub none_is_below : IsBelow [] 1
none_is_below = none_below 1
