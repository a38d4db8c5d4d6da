use Rattle.std.proofs.Common.{◌≡◌, ◌+◌, ℕ, List, [], ◌∷◌, ◌++◌, arith, refl, ap, ◌∙◌, length, Option, Bool, not, ◌||◌, append-nil, append_assoc, subst}
use Rattle.std.specs.Io.KnownBytes.{Appends}
use Rattle.books.specs.declared.table.Table.{Table}
use Rattle.corrections.specs.CleanList.{history_of}
use Rattle.streams.specs.Watched.{stream_of}
use Rattle.cards.specs.Board.{board}
use Rattle.books.specs.Table.{IsInStep, agreed_in, innings_in}
use Rattle.books.specs.Taking.{answer_to, with_taken}
use Rattle.commands.specs.Check.{printed, is_rejected, board_of_book, output_of, sheet}
use Rattle.streams.proofs.Appending.{appends_none, appends_both, appends_kept}
use Rattle.notation.proofs.Cuts.{length-lines_of}
use Rattle.commands.proofs.check.check_lines.Invariants.{Midway}
use Rattle.commands.proofs.check.check_lines.Goals as goal

module _
    {innings n : ℕ} {input : List ℕ} {lines : List (List ℕ)} {rejected : Bool} {old : Table} {o p : Option (List ℕ)}
    (m : Midway innings input lines n rejected old o p)
  where
    -- the step by one line: an equation gives what the table has after it
    step : (line : List ℕ) (rest : List (List ℕ)) (taken : Bool) (new : Table) (q : Option (List ℕ)) → lines ≡ line ∷ rest → IsInStep new → innings_in new ≡ innings_in old →
        let answer = answer_to (innings_in old) (agreed_in old) line in
        agreed_in new ≡ with_taken answer (agreed_in old) → Appends p q (printed (n + 1) answer) → taken ≡ not (is_rejected answer) →
        Midway innings input rest (n + 1) (rejected || not taken) new o q
    step line rest taken new q e in_step same has_old wrote was_old =
        let says = printed (n + 1) (answer_to innings (agreed_in old) line) in
        let has = rw m.same_match at has_old in
        let was = rw m.same_match at was_old in
        let told = rw e at m.told in
        record {
          numbered = omega (arith, m.numbered, ap length e);
          in_step = in_step;
          same_match = same ∙ m.same_match;
          taken = rw has (rw e at m.taken);
          text = m.text ++ says;
          written = appends_both o p q m.text says m.written (rw m.same_match at wrote);
          whole = rw (has, append_assoc m.text says) (rw e at m.whole);
          told = rw has (grind (arith, told, was));
        }

    finish : (q : Option (List ℕ)) → lines ≡ [] → Appends p q (board_of_book innings (agreed_in old)) → Appends o q (output_of innings input)
    finish q none wrote = rw (← m.whole, ← m.taken, none, append-nil) (appends_both o p q m.text (board_of_book innings (agreed_in old)) m.written wrote)

pub loop-line-init : goal.loop-line-init
loop-line-init g c = (
  record {
    numbered = omega (arith, ap length c.new-lines.ensures);
    in_step = c.requires.in_step;
    same_match = refl;
    taken = rw (c.requires.empty, c.new-lines.ensures) refl;
    text = [];
    written = appends_none (g.W.Sink.contents (stream_of c.args.out.now));
    whole = rw (c.requires.empty, c.new-lines.ensures) refl;
    told = rw (c.requires.empty, c.new-lines.ensures) refl;
  },
  refl,
)

pub overflow_add-number : goal.overflow_add-number
overflow_add-number g c = omega (arith, c.loop-line.invariant.0.numbered, length-lines_of c.args.input.now, c.requires.short)

pub loop-line-preserved : goal.loop-line-preserved
loop-line-preserved g c =
    let m = c.loop-line.invariant in
    let line = c.take_line.ensures in
    let taken = c.in_ok-taken.ensures in
    (step m.0 _ _ _ _ _ c.in-Some.ensures line.in_step line.same_match line.book taken.printed taken.taken, taken.failed.1 ∙ m.1)

pub returns-clause-written : goal.returns-clause-written
returns-clause-written g c =
    let m = c.loop-line.invariant.0 in
    let book = agreed_in c.loop-line.table in
    let says = c.in_ok-board_lines.ensures.text _ _ c.score.ensures.score in
    let prints = Appends (g.W.Sink.contents (stream_of c.loop-line.out)) (g.W.Sink.contents (stream_of c.board_lines.new.out)) in
    let plain = subst (λ s. prints (board s (innings_in c.loop-line.table) (history_of book))) c.requires.plain says in
    let shown = subst (λ n. prints (board (sheet (innings_in c.args.table.now)) n (history_of book))) m.same_match plain in
    appends_kept _ _ _ _ (finish m _ c.in_default.ensures.0 shown) c.flush.ensures.bytes
