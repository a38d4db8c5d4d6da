-- Lines that say entries are lines that were typed.
use Rattle.std.proofs.Common.{arith, ◌≡◌, ◌++◌, ℕ, Bool, true, false, List, [], ◌∷◌, Option, None, refl, sym, subst, inl}
use Rattle.std.specs.Prelude.{bytes_eq, codes, if◌then◌else◌}
use Rattle.agree_core.specs.declared.messages.Message.{Message}
use Rattle.agree_core.specs.FileView.{FileView}
use Rattle.cards.specs.Sheet.{Sheet}
use Rattle.links.specs.Typing.{Line}
use Rattle.screen.specs.Words.{is_end, trimmed, word_of}
use Rattle.screen.specs.declared.word.Word.{Word}
use Rattle.ahead.specs.declared.taking.Sort.{Sort}
use Rattle.ahead.specs.Ahead.{bytes_of, casting, given_of, held_of, kept_of}
use Rattle.ahead.specs.Order.{AreAmong}
use Rattle.ahead.specs.Sorts.{by_word, casts, may_cast, says_again}
use Rattle.ahead.proofs.OrderLemmas.{among_front, among_joined, among_through, casting_more}
use Rattle.live.specs.Before.{VotesWereTyped, line_said, lines_said}
use Rattle.live.specs.Desks.{DeskCall, DeskProcess, DiskView, ProcessStep, Typed, desk_kind, typed}
use Rattle.live.specs.Runs.{Moment, Run, last_of, typed_in}
use Rattle.station_texts.specs.Saying.{IsNoWord}
use Rattle.station_texts.specs.declared.said.Said.{Said}

-- a line that is no word may say an entry
sort_casts : (undo quit again : Bool) (word : Option Word) → quit ≡ false → word ≡ None
    → casts (if undo then Sort.Undo else if quit then Sort.Quit else if again then Sort.Again else by_word word) ≡ true
sort_casts undo quit again word q w = grind arith

no_word_casts : (line : List ℕ) → IsNoWord line → may_cast line ≡ true
no_word_casts line h =
    sort_casts (bytes_eq (trimmed line) (codes "undo")) (is_end line) (says_again line) (word_of line) h.0 h.1

one_line : (line : List ℕ) → may_cast line ≡ true → AreAmong (line ∷ []) (casting (Line line ∷ []))
one_line line e = rw e (inl (refl, tt))

module _ {Disk : Type 0} (sheet : Sheet) (view : FileView Disk) (disks : DiskView Disk) (game innings : ℕ) where
  said_here : (k l : DeskProcess Disk) (call : DeskCall) (out : List Message) → ProcessStep sheet view disks game innings k call out l
      → AreAmong (line_said call) (casting (typed call))
  said_here k l (Typed line (Said.Penned entry settled)) out step = one_line line (no_word_casts line step.1.0.0)
  said_here k l (Typed line (Said.Refused entry why)) out step = one_line line (no_word_casts line step.1.0.0)
  said_here k l call out step = tt

  said_among : (k : DeskProcess Disk) (ms : List (Moment (DeskProcess Disk) DeskCall)) → Run (desk_kind sheet view disks game innings) k ms
      → AreAmong (lines_said ms) (casting (typed_in (desk_kind sheet view disks game innings) ms))
  said_among k [] run = tt
  said_among k (m ∷ ms) run =
      let before = typed_in (desk_kind sheet view disks game innings) ms in
      subst (λ (ys : List (List ℕ)). AreAmong (lines_said ms ++ line_said m.call) ys) (sym (casting_more before (typed m.call)))
      (among_joined (lines_said ms) (casting before) (line_said m.call) (casting (typed m.call)) (said_among k ms run.0)
      (said_here (last_of k ms) m.after m.call m.out run.2))

pub votes_typed : {Disk : Type 0} (view : FileView Disk) (disks : DiskView Disk) → VotesWereTyped view disks
votes_typed view disks = λ sheet game innings k ms log run same order.
    let kept = among_front (casting (given_of log)) (bytes_of (held_of log)) (kept_of log) order.given in
    let said = subst (λ xs. AreAmong (lines_said ms) (casting xs)) same (said_among sheet view disks game innings k ms run) in
    among_through (lines_said ms) (casting (given_of log)) (kept_of log) said kept
