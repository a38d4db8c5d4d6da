use Rattle.std.proofs.Common.{◌≡◌, ◌+◌, ℕ, List, [], ◌∷◌, ◌++◌, arith, refl, ap, sym, ◌∙◌, length, Option, Bool, true, false, not, ◌||◌, flat_map, append-nil, append_assoc}
use Rattle.std.specs.List.{list_any}
use Rattle.streams.specs.Watched.{stream_of}
use Rattle.streams.specs.declared.watched.Watched.{Watched}
use Rattle.streams.proofs.Appending.{appends_none, appends_both, appends_kept}
use Rattle.notation.proofs.Cuts.{length-lines_of}
use Rattle.commands.specs.Each.{DoesEach, DoesLine, is_told, printed_of, told_of}
use Rattle.commands.specs.MatchFiles.{Known}
use Rattle.commands.specs.declared.product.Product.{Product}
use Rattle.commands.proofs.EachLemmas.{tells_none, tells_both}
use Rattle.commands.proofs.each.print_each.Invariants.{Midway}
use Rattle.commands.proofs.each.print_each.Goals as goal

or_false : (b : Bool) → (b || false) ≡ b
or_false true = refl
or_false false = refl

-- one more that was told, just where it wasn't printed
or_more : (before told after printed : Bool) → printed ≡ not told → (before || (told || after)) ≡ ((before || not printed) || after)
or_more true told after printed e = refl
or_more false true after printed e = rw e refl
or_more false false after printed e = rw e refl

module _
    {S T : Type 0} {known : Known} {product : Product} {contents : S → Option (List ℕ)} {old new : Watched S}
    {errors : T → Option (List ℕ)} {before after : Watched T}
    {list : List ℕ} {lines : List (List ℕ)} {number : ℕ} {any_told : Bool}
    (m : Midway known product contents old new errors before after list lines number any_told)
  where
    -- one line more
    step : (line : List ℕ) (rest : List (List ℕ)) (printed : Bool) (next : Watched S) (then : Watched T) → lines ≡ line ∷ rest →
        DoesLine known product contents new next errors after then (number + 1) line printed →
        Midway known product contents old next errors before then list rest (number + 1) (any_told || not printed)
    step line rest printed next then e done =
        let one = done.outcome ∷ [] in
        record {
          numbered = omega (arith, m.numbered, ap length e);
          outcomes = m.outcomes ++ one;
          are = λ more are. rw (append_assoc m.outcomes one more) (m.are (done.outcome ∷ more) (rw e (done.is, are)));
          text = m.text ++ printed_of done.outcome;
          printed = appends_both _ _ _ m.text (printed_of done.outcome) m.printed done.printed;
          frames = λ more. rw (append_assoc m.outcomes one more, append_assoc m.text (printed_of done.outcome) (flat_map printed_of more)) (m.frames (done.outcome ∷ more));
          says = m.says ++ told_of done.outcome;
          told = tells_both errors before after then m.says (told_of done.outcome) m.told done.told;
          refusals = λ more. rw (append_assoc m.outcomes one more, append_assoc m.says (told_of done.outcome) (flat_map told_of more)) (m.refusals (done.outcome ∷ more));
          answer = λ more. rw (append_assoc m.outcomes one more) (m.answer (done.outcome ∷ more) ∙ or_more any_told (is_told done.outcome) (list_any is_told more) printed done.answer);
        }

    finish : lines ≡ [] → DoesEach known product contents old new errors before after list any_told
    finish none = record {
      outcomes = m.outcomes ++ [];
      are = m.are [] (rw none tt);
      printed = rw (m.frames [], append-nil m.text) m.printed;
      told = rw (m.refusals [], append-nil m.says) m.told;
      answer = sym (m.answer [] ∙ or_false any_told);
    }

pub loop-line-init : goal.loop-line-init
loop-line-init g c = (
  record {
    numbered = omega (arith, ap length c.new-lines.ensures);
    outcomes = [];
    are = λ more are. rw (← c.new-lines.ensures) are;
    text = [];
    printed = appends_none (g.W.Sink.contents (stream_of c.args.out.now));
    frames = λ more. refl;
    says = [];
    told = tells_none g.E.Sink.contents c.args.errors.now;
    refusals = λ more. refl;
    answer = λ more. refl;
  },
  refl,
)

pub overflow_add-number : goal.overflow_add-number
overflow_add-number g c = omega (arith, c.loop-line.invariant.0.numbered, length-lines_of c.args.list.now, c.requires.short)

pub loop-line-preserved : goal.loop-line-preserved
loop-line-preserved g c =
    let m = c.loop-line.invariant in
    let done = c.in_ok-was_printed.ensures in
    (step m.0 _ _ _ _ _ c.in-Some.ensures done.does, done.failed.1 ∙ m.1)

pub returns-clause-does : goal.returns-clause-does
returns-clause-does g c =
    let m = c.loop-line.invariant.0 in
    let all = finish m c.in_default.ensures.0 in
    record {
      outcomes = all.outcomes;
      are = all.are;
      printed = appends_kept _ _ _ _ all.printed c.flush.ensures.bytes;
      told = all.told;
      answer = all.answer;
    }
