-- What is printed of a book, and why nothing is: s is the sheet, and document is the table of its text.
use Rattle.std.specs.Prelude.{◌≡◌, ℕ, ⊤, List, [], ◌++◌, Option, codes}
use Rattle.notation.specs.declared.entry.Entry.{Entry}
use Rattle.cards.specs.Sheet.{Sheet}
use Rattle.toml.specs.Data.{Members}
use Rattle.streams.specs.declared.watched.Watched.{Watched}
use Rattle.streams.specs.Watched.{Prints}
use Rattle.books.specs.declared.{fault.BookFault.BookFault, source.Source.Source}
use Rattle.books.specs.declared.source.Source.TheVariants as sources
use Rattle.books.specs.Card.{card_text}
use Rattle.books.specs.CardBook.{IsBookFrom, WhyNoBook}
use Rattle.archive_deliveries.specs.Names.{told_apart}
use Rattle.delivery_rows.specs.Table.{table_text}
use Rattle.export.specs.Disagreement.{disagreement_of}
use Rattle.export.specs.Value.{IsExport}
use Rattle.page.specs.Page.{page_text}
use Rattle.setup.specs.Fault.{IsOfStreams}
use Rattle.setup.specs.declared.fault.StopFault.{StopFault}
use Rattle.setup.specs.declared.fault.StopFault.TheVariants.{NoMemory, Write, Votes, BadVotes, Line}
use Rattle.commands.specs.Lines.{lines_text}
use Rattle.commands.specs.declared.product.Product.{Product}
use Rattle.commands.specs.declared.product.Product.TheVariants.{Cards, Lines, Json, Page, Rows}

-- the text of a product of a book; Lines, read as pen lines, make that book again; JSON, page and tables tell the sides apart
abbrev pub IsTextOf : Product → Sheet → Members → List Entry → List ℕ → Type 0
IsTextOf Cards s document book text = text ≡ card_text s book
IsTextOf Lines s document book text = (text ≡ lines_text book) × IsBookFrom sources.Lines s text book
IsTextOf Json s document book text = (value : List ℕ) × (IsExport (told_apart s) document book value × (text ≡ value ++ codes "\n"))
IsTextOf Page s document book text = text ≡ page_text (told_apart s) document book
IsTextOf (Rows table) s document book text = text ≡ table_text table (told_apart s) document book

-- what standard error is told: for a product with an outcome, that the sheet's outcome has another winner than the Laws
abbrev pub beside : Product → Sheet → Members → List Entry → List ℕ
beside Cards s document book = []
beside Lines s document book = []
beside product s document book = disagreement_of (told_apart s) document book

module _
    {S : Type 0} (contents : S → Option (List ℕ)) (old new : Watched S) (product : Product) (s : Sheet) (document : Members)
    (told : List ℕ)
  where
    -- the product of this book is written, and told is what standard error is to be told
    pub record PrintsProduct (book : List Entry) : Type 0 where
      pub text : List ℕ
      pub made : IsTextOf product s document book text
      pub written : Prints contents old new text
      pub is_told : told ≡ beside product s document book

    -- the product of a book with this property is written
    pub record PrintsBook (IsBook : List Entry → Type 0) : Type 0 where
      pub book : List Entry
      pub made : IsBook book
      pub printed : PrintsProduct book

-- out of memory, or a write failed
abbrev pub IsOfPrinting : StopFault → Type 0
IsOfPrinting NoMemory = ⊤
IsOfPrinting Write = ⊤
IsOfPrinting fault = ⊥

-- out of memory, a read or a write failed, or an input has no book
abbrev pub IsOfBook : StopFault → Type 0
IsOfBook (Votes why) = ⊤
IsOfBook (BadVotes place) = ⊤
IsOfBook (Line number why) = ⊤
IsOfBook fault = IsOfStreams fault

-- out of memory, a read or a write failed, or the input has no book for this reason
abbrev pub WhyNotPrinted : Source → Sheet → List ℕ → StopFault → Type 0
WhyNotPrinted from s input (Votes why) = WhyNoBook from s input (BookFault.Votes why)
WhyNotPrinted from s input (BadVotes place) = WhyNoBook from s input (BookFault.BadVotes place)
WhyNotPrinted from s input (Line number why) = WhyNoBook from s input (BookFault.Line number why)
WhyNotPrinted from s input fault = IsOfStreams fault
