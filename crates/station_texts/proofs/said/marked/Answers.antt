use Rattle.std.proofs.Common.{◌≡◌, ℕ, List, Option, Some, None, Ok, IfSome, refl, inl, true, false}
use Rattle.std.specs.Prelude.{is_some}
use Rattle.notation.specs.declared.entry.Entry.{Entry}
use Rattle.notation.specs.Written.{IsEntry, Token, text_of}
use Rattle.agree_core.specs.Ballots.{Ballot}
use Rattle.cards.specs.Sheet.{Sheet}
use Rattle.screen.specs.Words.{asked, ends_desk, is_end, word_of}
use Rattle.shorthand.specs.Full.{in_full}
use Rattle.shorthand.specs.Marks.{mark}
use Rattle.shorthand.specs.Words.{trimmed}
use Rattle.shorthand.proofs.Marked.{EachMark, of_mark}
use Rattle.station_texts.specs.Saying.{IsNoWord, LineMeans}
use Rattle.station_texts.proofs.said.marked.Goals as goal

-- no mark is a word that means no entry
abbrev IsOther : Token → Token → Token → Type 0
IsOther t kind runs = (ends_desk t ≡ false) × (asked t ≡ None)

each_other : EachMark IsOther
each_other = assumption

no_word : (line : List ℕ) (m : Option (Token × Token)) → mark (trimmed line) ≡ m → is_some m ≡ true → IsNoWord line
unfolding is_end word_of
no_word line (Some m) is some = of_mark IsOther each_other (trimmed line) m is
no_word line None is some = absurd (cc)

means : (s : Sheet) (book : List Entry) (votes : List Ballot) (line : List ℕ) (found : Option Entry)
    → IfSome found (λ e. is_some (mark (trimmed line)) ≡ true) → IfSome found (λ e. IsEntry e × ((s : Sheet) → in_full s book line ≡ Ok (text_of e)))
    → IfSome found (LineMeans s book votes false line)
means s book votes line None some is = tt
means s book votes line (Some e) some is = (no_word line (mark (trimmed line)) refl some, inl (line, refl, (is.0, is.1 s)))

pub returns : goal.returns
returns g c = λ s votes.
    let alone = c.marked_alone.ensures in
    rw c.if-differs.false (means s (g.B.BookOf.content c.args.book.now) votes c.args.line.now c.marked_alone.result alone.mark alone.entry)
