-- The book of both files, made of their agreed list.
use Rattle.std.proofs.Common.{◌≡◌, ℕ, List, [], None, Result, Ok, Err}
use Rattle.std.specs.Prelude.{IfErr, IfOk}
use Rattle.notation.specs.declared.entry.Entry.{Entry}
use Rattle.corrections.specs.Book.{Contents}
use Rattle.corrections.specs.Refusal.{book_refusal}
use Rattle.agree_core.specs.Agreed.{IsAgreedList}
use Rattle.agree_core.specs.Ballots.{AllVotes}
use Rattle.agree_core.specs.Books.{AllTaken}
use Rattle.cards.specs.Sheet.{Sheet}
use Rattle.books.specs.BothFiles.{HaveVotes, IsBookOfBoth, WhyNoBookOfBoth}
use Rattle.books.specs.declared.fault.BothFault.{BothFault}
use Rattle.books.specs.declared.fault.BothFault.TheVariants.{NoMemory, BadVotes}
use Rattle.books.specs.OneHistory.{Tears}
use Rattle.books.specs.inner.Both.{NamesRefused}

module _
    (s : Sheet) {a b : List ℕ} {v : AllVotes} {list given : List Entry} {innings : ℕ} (read : HaveVotes s.game a b v) (whole : Tears v None)
    (agreed : IsAgreedList v list) (same : given ≡ list) (side : innings ≡ s.innings)
  where
    pub made : (r : Result Contents BothFault) → IfOk r (λ book. book.entries ≡ given) →
        IfOk r (λ book. AllTaken (book_refusal innings) [] book.entries) → IfOk r (λ book. IsBookOfBoth s a b book.entries)
    made (Ok book) e t = record { votes = v; read = read; whole = whole; agreed = rw (e, same) agreed; taken = rw (← side) t }
    made (Err why) e t = tt

    pub not_made : (r : Result Contents BothFault) → IfErr r (NamesRefused (book_refusal innings) given) → IfErr r (WhyNoBookOfBoth s a b)
    not_made (Ok book) h = tt
    not_made (Err NoMemory) h = tt
    not_made (Err (BadVotes place)) h = record { votes = v; read = read; whole = whole; list = list; agreed = agreed; refused = rw (← side, ← same) h }
    not_made (Err why) h = absurd h
