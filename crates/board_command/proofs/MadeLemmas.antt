-- Texts that were made for all that is due were made for each.
use Rattle.std.specs.Prelude.{◌≡◌, ℕ, Bool, true, ◌||◌, List, Option, Result, Vec}
use Rattle.std.specs.declared.alloc.Global.{Global}
use Rattle.std.proofs.Common.{arith}
use Rattle.board_command.specs.declared.files.{Due.Due, Texts.Texts}
use Rattle.board_command.specs.inner.Due.{AreMade, IsMadeWhere, either}

one_of : (a b : Bool) → a ≡ true → (a || b) ≡ true
one_of a b is = grind (arith, is)

other_of : (a b : Bool) → b ≡ true → (a || b) ≡ true
other_of a b is = grind (arith, is)

here : {F : Type 0} (a b : Bool) (text : List ℕ) (made : Option (Result (Vec ℕ Global) F)) → IsMadeWhere (a || b) text made → IsMadeWhere a text made
here a b text made m = ((λ is. m.0 (one_of a b is)), m.1)

there : {F : Type 0} (a b : Bool) (text : List ℕ) (made : Option (Result (Vec ℕ Global) F)) → IsMadeWhere (a || b) text made → IsMadeWhere b text made
there a b text made m = ((λ is. m.0 (other_of a b is)), m.1)

pub made_here : (one other : Due) (lines state : List ℕ) (made : Texts) → AreMade (either one other) lines state made → AreMade one lines state made
made_here one other lines state made m =
    record { lines = here _ _ _ _ m.lines; state = here _ _ _ _ m.state; script = here _ _ _ _ m.script }

pub made_there : (one other : Due) (lines state : List ℕ) (made : Texts) → AreMade (either one other) lines state made → AreMade other lines state made
made_there one other lines state made m =
    record { lines = there _ _ _ _ m.lines; state = there _ _ _ _ m.state; script = there _ _ _ _ m.script }
