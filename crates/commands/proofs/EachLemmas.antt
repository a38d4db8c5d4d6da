-- What is told: in a row, and by one write.
use Rattle.std.proofs.Common.{◌≡◌, ℕ, suc, true, nat_lt, List, [], ◌++◌, Option, Result, Ok, Err, OnOk, ap, sym, ◌∙◌, arith}
use Rattle.std.proofs.lemmas.Bool.{false≢true}
use Rattle.std.proofs.lemmas.Bool.Decides.{nat_tests}
use Rattle.streams.specs.Watched.{Prints, TellsFailure, failures, stream_of}
use Rattle.streams.specs.declared.watched.Watched.{Watched}
use Rattle.streams.proofs.Appending.{appends_none, appends_both}
use Rattle.commands.specs.Each.{Tells}

pub tells_none : {S : Type 0} (contents : S → Option (List ℕ)) (w : Watched S) → Tells contents w w []
tells_none contents w sound = (sound, appends_none (contents (stream_of w)))

pub tells_both :
    {S : Type 0} (contents : S → Option (List ℕ)) (u v w : Watched S) (first second : List ℕ) →
    Tells contents u v first → Tells contents v w second → Tells contents u w (first ++ second)
tells_both contents u v w first second one other sound =
    let after = other sound in
    let before = one after.0 in
    (before.0, appends_both (contents (stream_of u)) (contents (stream_of v)) (contents (stream_of w)) first second before.1 after.1)

some_more : (m n : ℕ) → n ≡ suc m → nat_lt 0 n ≡ true
some_more m n e = grind (arith, nat_tests, e)

-- a text is told by a write of it, whatever that answers
pub tells_written :
    {S T E : Type 0} (contents : S → Option (List ℕ)) (u v : Watched S) (text : List ℕ) (answer : Result T E) →
    TellsFailure answer u v → OnOk answer (Prints contents u v text) → Tells contents u v text
tells_written contents u v text (Ok done) ended printed sound = (ap (nat_lt 0) (sym ended.1) ∙ sound, printed)
tells_written contents u v text (Err why) ended printed sound =
    absurd (false≢true (sym sound ∙ some_more (failures u) (failures v) ended.0))
