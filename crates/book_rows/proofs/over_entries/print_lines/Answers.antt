use Rattle.std.proofs.Common.{◌≡◌, ℕ, List, [], arith, ap, ◌∙◌, refl}
use Rattle.notation.specs.declared.entry.Side.{Side}
use Rattle.ball_laws.specs.Laws.{state_after}
use Rattle.corrections.specs.declared.placed.Placed.{Placed}
use Rattle.corrections.specs.CleanList.{IsItemOf}
use Rattle.cards.specs.Sheet.{Sheet}
use Rattle.cards.proofs.Slots.{all_at}
use Rattle.book_rows.specs.OverEntries.{lines_behind, over_line}
use Rattle.corrections.proofs.PlayedLemmas.{stands_played}
use Rattle.book_rows.proofs.OverWalk.{tells_none, tells_one, tells_taken, tells_all}
use Rattle.book_rows.proofs.over_entries.print_lines.Goals as goal

pub loop-index-init : goal.loop-index-init
loop-index-init g c = (
  tells_none _ _ _ _ _ c.empty-crease.ensures.state c.none-count.ensures,
  omega (arith, ap (λ n. n.begun) c.none-count.ensures),
  omega (arith, ap (λ n. n.overs) c.none-count.ensures),
  omega (arith, ap (λ n. n.balls) c.none-count.ensures),
  refl,
)

pub print_if-requires-clause-item : goal.print_if-requires-clause-item
print_if-requires-clause-item g c =
    let entered = IsItemOf (g.B.BookOf.content c.args.book.now) in
    (all_at entered _ _ _ c.clean_items-items.ensures.items c.placed_at-placed.ensures).item

pub loop-index-preserved : goal.loop-index-preserved
loop-index-preserved g c =
    let book = g.B.BookOf.content c.args.book.now in
    let m = c.loop-index.invariant.0 in
    let here = c.placed_at-placed.ensures in
    let all = rw (← c.clean_items-items.ensures.value) at (stands_played _ book c.score.ensures.score.legal) in
    let striker = ap (λ e. e.striker) (c.ends.ensures.value ∙ ap (λ s. s.ends) m.crease) in
    let wrote = rw (m.count, striker) at c.in_ok-print_if.ensures.text in
    let moved = c.crease_after-crease.ensures (state_after m.history) m.crease (tells_taken m c.placed_at-placed.result here all) in
    let few = c.after-count.ensures.few in (
      tells_one m c.placed_at-placed.result here wrote moved (c.after-count.ensures.count m.history m.count),
      omega (arith, few.0, c.loop-index.invariant.1),
      omega (arith, few.1, c.loop-index.invariant.2),
      omega (arith, few.2, c.loop-index.invariant.3),
      c.in_ok-print_if.ensures.failed.1 ∙ c.loop-index.invariant.4,
    )

same_lines : (s : Sheet) (i n : ℕ) (a b : Side) (xs ys : List Placed) → xs ≡ ys → a ≡ b
    → lines_behind (over_line s a i n) [] xs ≡ lines_behind (over_line s b i n) [] ys
same_lines s i n a b xs ys items side =
    ap (λ zs. lines_behind (over_line s a i n) [] zs) items ∙ ap (λ c. lines_behind (over_line s c i n) [] ys) side

pub returns-clause-text : goal.returns-clause-text
returns-clause-text g c =
    let same = same_lines c.args.sheet.now c.args.innings c.args.number _ _ _ _ c.clean_items-items.ensures.value
    (c.side-side.ensures _ _ c.score.ensures.score) in
    rw same at (tells_all c.loop-index.invariant.0 c.loop-index-test.false)
