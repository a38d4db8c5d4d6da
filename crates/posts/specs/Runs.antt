-- What happens over any list of calls.
use Rattle.std.specs.Prelude.{ℕ, ◌+◌, Bool, true, false, List, [], ◌∷◌, ◌++◌, Option, None, Some, Result, Ok, Err}
use Rattle.agree_core.specs.declared.position.Position.{Position}
use Rattle.posts.specs.Posts.{is_good_pass, verdict, out_after, out_after_pass, with_given}
use Rattle.posts.specs.declared.{judging.Post.Post, refusal.Refusal.Refusal, stamp.{Pass.Pass, Stamp.Stamp}}

-- a nonce is given, a post judged, a pass looked at, a text encrypted, or the secret changed
pub data Call : Type 0 where
  Give : Call
  Judge : Post → Position → ℕ → Call
  Look : Pass → Call
  Hide : Call
  Renew : List ℕ → Call

abbrev pub nonce_in : Option Stamp → List ℕ
nonce_in None = []
nonce_in (Some s) = s.nonce ∷ []

-- the nonce of a post whose line is typed
abbrev pub accepted_by : Result (List ℕ) Refusal → Post → List ℕ
accepted_by (Err why) post = []
accepted_by (Ok line) post = nonce_in post.stamp

abbrev pub let_by : Bool → Pass → List ℕ
let_by true p = p.nonce ∷ []
let_by false p = []

-- the nonces of all posts whose lines are typed, and of all good passes, in order, with these nonces out and this next nonce
abbrev pub accepted : List ℕ → List ℕ → ℕ → List Call → List ℕ
accepted secret out next [] = []
accepted secret out next (Give ∷ calls) = accepted secret (with_given out next) (next + 1) calls
accepted secret out next (Judge post at waiting ∷ calls) =
    accepted_by (verdict secret out post at waiting) post ++ accepted secret (out_after secret out post) next calls
accepted secret out next (Look p ∷ calls) =
    let_by (is_good_pass secret out p) p ++ accepted secret (out_after_pass secret out p) next calls
accepted secret out next (Hide ∷ calls) = accepted secret out next calls
accepted secret out next (Renew other ∷ calls) = accepted other [] next calls

-- the numbers under which texts are encrypted, in order, from this next number on
abbrev pub numbers : ℕ → List Call → List ℕ
numbers number [] = []
numbers number (Hide ∷ calls) = number ∷ numbers (number + 1) calls
numbers number (Give ∷ calls) = numbers number calls
numbers number (Judge post at waiting ∷ calls) = numbers number calls
numbers number (Look p ∷ calls) = numbers number calls
numbers number (Renew other ∷ calls) = numbers number calls
