-- How a page's post is judged, by the secret, the nonces that are out, and the desk's position.
use Rattle.std.specs.Prelude.{◌≡◌, ℕ, ◌==◌, Bool, ◌&&◌, true, false, nat_le, nat_lt, if◌then◌else◌, bytes_eq, List, [], ◌∷◌, ◌++◌, length, drop, filter, Option, None, Some, Result, Ok, Err}
use Rattle.std.specs.List.{list_all, list_any}
use Rattle.agree_core.specs.declared.position.Position.{Position}
use Rattle.screen.specs.Words.{is_end}
use Rattle.posts.specs.Texts.{pass_tag, tag_of}
use Rattle.posts.specs.Veils.{desk_seed, turned}
use Rattle.posts.specs.declared.{judging.Post.Post, refusal.Refusal.Refusal, stamp.{Pass.Pass, Stamp.Stamp}}
use Rattle.posts.specs.declared.refusal.Refusal.TheVariants.{Foreign, TooLong, Malformed, NotOut, WrongTag, Ends, Elsewhere, Busy}

-- the HTTP status that answers a refusal
abbrev pub status_of : Refusal → ℕ
status_of Malformed = 400
status_of Foreign = 403
status_of WrongTag = 403
status_of Ends = 403
status_of Elsewhere = 409
status_of NotOut = 410
status_of TooLong = 413
status_of Busy = 503

-- the nonces that are out once this one is given: the newest 64
abbrev pub with_given : List ℕ → ℕ → List ℕ
with_given out nonce = (if length out == 64 then drop 1 out else out) ++ nonce ∷ []

-- the nonces that are out once this one is used
abbrev pub without : ℕ → List ℕ → List ℕ
without nonce out = filter (λ n. if n == nonce then false else true) out

abbrev pub is_out : List ℕ → ℕ → Bool
is_out out nonce = list_any (λ n. n == nonce) out

abbrev pub is_printable : ℕ → Bool
is_printable byte = nat_le 32 byte && nat_le byte 126

-- it may be a line: it isn't empty, and each of its bytes is printable ASCII
abbrev pub is_line : List ℕ → Bool
is_line text = if list_all is_printable text then nat_lt 0 (length text) else false

-- its tag is made with the secret from its nonce, its position and its line
abbrev pub is_tagged : List ℕ → Stamp → List ℕ → Bool
is_tagged secret s line = bytes_eq s.tag (tag_of secret s.nonce s.at line)

-- the decrypted line of a post with such a stamp
abbrev pub line_in : List ℕ → Option Stamp → List ℕ → List ℕ
line_in secret None hidden = []
line_in secret (Some s) hidden = turned secret (desk_seed s.tag) hidden

abbrev pub line_of_post : List ℕ → Post → List ℕ
line_of_post secret post = line_in secret post.stamp post.hidden.now

-- the verdict on the stamp of a post from this host, with this decrypted line
abbrev pub stamped : List ℕ → List ℕ → Option Stamp → List ℕ → Result Stamp Refusal
stamped secret out None line = Err Malformed
stamped secret out (Some s) line =
    if is_out out s.nonce then (if is_tagged secret s line then Ok s else Err WrongTag) else Err NotOut

-- the stamp of a post that was made with the secret, or why it is refused. The tests come in this order: nothing is said about
-- a line before its tag is found good
abbrev pub checked : List ℕ → List ℕ → Post → Result Stamp Refusal
checked secret out post =
    if post.is_from_here then
    (if nat_lt 128 (length post.hidden.now) then Err TooLong else stamped secret out post.stamp (line_of_post secret post))
    else Err Foreign

abbrev pub is_same_place : Position → Position → Bool
is_same_place p q = p.place == q.place && p.round == q.round

-- the verdict on the line of a post made with the secret, for a desk at this position where this many lines wait; in this order
abbrev pub line_of : Stamp → List ℕ → Position → ℕ → Result (List ℕ) Refusal
line_of s line at waiting =
    if is_line line then
    (if is_end line then Err Ends
    else if is_same_place s.at at then (if nat_lt waiting 8 then Ok line else Err Busy)
    else Err Elsewhere)
    else Err Malformed

abbrev pub after_check : Result Stamp Refusal → List ℕ → Position → ℕ → Result (List ℕ) Refusal
after_check (Err why) line at waiting = Err why
after_check (Ok s) line at waiting = line_of s line at waiting

-- the line that a post types, or why it types none
abbrev pub verdict : List ℕ → List ℕ → Post → Position → ℕ → Result (List ℕ) Refusal
verdict secret out post at waiting = after_check (checked secret out post) (line_of_post secret post) at waiting

-- the nonces that are out after a post: a post made with the secret uses up its nonce, whatever becomes of its line
abbrev pub used_by : Result Stamp Refusal → List ℕ → List ℕ
used_by (Err why) out = out
used_by (Ok s) out = without s.nonce out

abbrev pub out_after : List ℕ → List ℕ → Post → List ℕ
out_after secret out post = used_by (checked secret out post) out

-- what holds of a post whose line is typed
pub record IsTaken (secret out : List ℕ) (post : Post) (at : Position) (line : List ℕ) : Type 0 where
  pub stamp : Stamp
  pub has_stamp : post.stamp ≡ Some stamp
  pub is_from_here : post.is_from_here ≡ true
  pub was_out : is_out out stamp.nonce ≡ true
  pub is_used : is_out (out_after secret out post) stamp.nonce ≡ false
  pub line_is : line ≡ turned secret (desk_seed stamp.tag) post.hidden.now
  pub tag : stamp.tag ≡ tag_of secret stamp.nonce stamp.at line
  pub place : stamp.at ≡ at
  pub is_it : is_line line ≡ true
  pub ends_no_desk : is_end line ≡ false

-- a post from this host with this line, nonce and position: its tag is made from them with the secret, and encrypts the line
pub record IsPostOf (secret : List ℕ) (nonce : ℕ) (at : Position) (line : List ℕ) (post : Post) : Type 0 where
  pub stamp : Stamp
  pub has_stamp : post.stamp ≡ Some stamp
  pub is_from_here : post.is_from_here ≡ true
  pub number : stamp.nonce ≡ nonce
  pub place : stamp.at ≡ at
  pub tag : stamp.tag ≡ tag_of secret nonce at line
  pub hides : post.hidden.now ≡ turned secret (desk_seed stamp.tag) line

-- a pass is good: its nonce is out, and its tag is made with the secret from that nonce
abbrev pub is_good_pass : List ℕ → List ℕ → Pass → Bool
is_good_pass secret out p = is_out out p.nonce && bytes_eq p.tag (pass_tag secret p.nonce)

-- the nonces that are out after a pass: a good one uses up its nonce
abbrev pub passed_by : Bool → Pass → List ℕ → List ℕ
passed_by is_good p out = if is_good then without p.nonce out else out

abbrev pub out_after_pass : List ℕ → List ℕ → Pass → List ℕ
out_after_pass secret out p = passed_by (is_good_pass secret out p) p out
