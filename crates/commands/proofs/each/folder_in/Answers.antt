use Rattle.std.proofs.Common.{◌≡◌, ◌==◌, ◌&&◌, ℕ, Bool, true, false, nat_lt, List, length, sym, refl, ◌∙◌, arith, tests, rules}
use Rattle.std.specs.List.{list_all}
use Rattle.std.proofs.lemmas.Bool.Decides.{nat_tests}
use Rattle.std.proofs.lemmas.Iterator.{YieldsList-from_slice}
use Rattle.std.proofs.lemmas.Iterator.Search.{all_from_yields_List}
use Rattle.commands.specs.Each.{is_plain}
use Rattle.commands.proofs.each.folder_in.Goals as goal

-- not without a byte, and each plain
is_name : (name : List ℕ) (empty each plain : Bool) → empty ≡ (length name == 0) → empty ≡ false → each ≡ plain → each ≡ true
    → (nat_lt 0 (length name) && plain) ≡ true
is_name name empty each plain is_empty some are all =
    let some_byte : (nat_lt 0 (length name)) ≡ true = grind (arith, nat_tests, is_empty, some) in
    rw (some_byte, sym are ∙ all) refl

pub returns-in-Ok : goal.returns-in-Ok
returns-in-Ok c =
    let all = all_from_yields_List is_plain _ _ c.all.result c.all.ensures.ran (YieldsList-from_slice c.args.line.now cc) (λ x b q k. search (rules, tests)) in
    let empty = c.is_empty.ensures in
    let some = c.if-is_empty.false in
    let plain = c.if-not-all.false in
    (c.in-Ok.ensures.cases.0, (is_name c.args.line.now c.is_empty.result c.all.result (list_all is_plain c.args.line.now) empty some all plain, c.in-Ok.ensures.cases.1))
