-- The frame of a match in a folder: a line about it, and then a product's text. Why a match has none, and how that is told.
use Rattle.std.specs.Prelude.{◌≡◌, ◌<◌, ◌⊎◌, ℕ, ⊤, List, ◌++◌, length, Ok, Err, String, codes, decimal, string_bytes, if◌then◌else◌}
use Rattle.std.specs.BTreeMap.{BTreeMap}
use Rattle.std.specs.declared.alloc.Global.{Global}
use Rattle.notation.specs.declared.entry.Entry.{Entry}
use Rattle.toml.specs.Data.{Members}
use Rattle.toml.specs.View.{table_view}
use Rattle.toml.specs.declared.value.Value.{Value}
use Rattle.cards.specs.Reading.{IsReading}
use Rattle.cards.specs.Sheet as sheets
use Rattle.books.specs.BothFiles.{IsBookOfBoth, WhyNoBookOfBoth}
use Rattle.export.specs.Document.{IsDocument}
use Rattle.setup.specs.Fault.{fault_line, worded_line}
use Rattle.setup.specs.SheetText.{IsSheetOf}
use Rattle.setup.specs.declared.fault.StopFault.{StopFault}
use Rattle.setup.specs.declared.short_sheet.TheConstants.{LONGEST_SHEET}
use Rattle.commands.specs.BothFiles.{is_of_second, stop_of}
use Rattle.commands.specs.Ends.{HavePlaces}
use Rattle.commands.specs.MatchFiles.{HasBytes, IsUnreadable, Known, path_in}
use Rattle.commands.specs.Product.{IsTextOf}
use Rattle.commands.specs.declared.both_files.BothPrintFault.TheVariants as both
use Rattle.commands.specs.declared.frames.{Frame.Frame, MatchFault.MatchFault}
use Rattle.commands.specs.declared.frames.MatchFault.TheVariants.{NoMemory, Read, Sheet, HandedOn, Book}
use Rattle.commands.specs.declared.match_files.MatchFile.{MatchFile}
use Rattle.commands.specs.declared.match_files.MatchFile.TheVariants as files
use Rattle.commands.specs.declared.product.Product.{Product}
use Rattle.commands.specs.declared.product.Product.TheVariants.{Cards, Lines}
use Rattle.commands.specs.declared.text_sink.TextSink.{TextSink}

-- what a text in memory holds
abbrev pub text_in : TextSink → List ℕ
text_in sink = string_bytes sink.text

-- what a product takes of the document that a sheet's bytes are: cards and lines nothing
abbrev pub IsDocumentFor : Product → List ℕ → BTreeMap (String Global) Value → Type 0
IsDocumentFor Cards bytes document = ⊤
IsDocumentFor Lines bytes document = ⊤
IsDocumentFor product bytes document = IsDocument bytes (Ok document)

-- a product's text of a match with these votes files, with how many places each has, and how many entries both have agreed
pub record IsFrameOf (product : Product) (sheet : sheets.Sheet) (document : Members) (a b : List ℕ) (frame : Frame) : Type 0 where
  pub book : List Entry
  pub made : IsBookOfBoth sheet a b book
  pub agreed : frame.agreed ≡ length book
  pub places : HavePlaces sheet.game a b frame.places.0 frame.places.1
  pub text : IsTextOf product sheet document book (string_bytes frame.text)

-- the folder has this sheet, and this of its document is for the product
pub record HasSheet (known : Known) (product : Product) (folder : List ℕ) (sheet : sheets.Sheet) (document : Members) : Type 0 where
  pub bytes : List ℕ
  pub has : HasBytes known (path_in folder files.Sheet) bytes
  pub read : IsSheetOf bytes sheet
  pub table : BTreeMap (String Global) Value
  pub handed_on : IsDocumentFor product bytes table
  pub is_document : document ≡ table_view table

-- the folder has these votes files
pub record HasVotes (known : Known) (folder a b : List ℕ) : Type 0 where
  pub first : HasBytes known (path_in folder files.A) a
  pub second : HasBytes known (path_in folder files.B) b

-- the frame of the match in a folder
pub record IsFrameIn (known : Known) (product : Product) (folder : List ℕ) (frame : Frame) : Type 0 where
  pub sheet : sheets.Sheet
  pub document : Members
  pub has_sheet : HasSheet known product folder sheet document
  pub a : List ℕ
  pub b : List ℕ
  pub has_votes : HasVotes known folder a b
  pub is : IsFrameOf product sheet document a b frame

-- the line about it: its folder, the places of a and of b, the agreed entries, and how many bytes follow; and then the text
abbrev pub frame_bytes : List ℕ → Frame → List ℕ
frame_bytes folder frame =
    folder ++ codes "\t" ++ decimal frame.places.0 ++ codes "\t" ++ decimal frame.places.1 ++ codes "\t" ++ decimal frame.agreed
    ++ codes "\t" ++ decimal (length (string_bytes frame.text)) ++ codes "\n" ++ string_bytes frame.text

-- ---- why a match has no frame

-- out of memory, or a sheet of these bytes isn't taken: it is too long, or refused
abbrev pub WhyNoSheet : List ℕ → MatchFault → Type 0
WhyNoSheet bytes NoMemory = ⊤
WhyNoSheet bytes (Read files.Sheet) = LONGEST_SHEET < length bytes
WhyNoSheet bytes (Sheet why words) = IsReading bytes (Err why)
WhyNoSheet bytes (HandedOn why words) = IsDocument bytes (Err why)
WhyNoSheet bytes fault = ⊥

-- out of memory, or both files have no book
abbrev pub WhyNoBook : sheets.Sheet → List ℕ → List ℕ → MatchFault → Type 0
WhyNoBook sheet a b NoMemory = ⊤
WhyNoBook sheet a b (Book why) = WhyNoBookOfBoth sheet a b why
WhyNoBook sheet a b fault = ⊥

-- out of memory, or this file can't be read
abbrev pub WhyUnread : Known → List ℕ → MatchFile → MatchFault → Type 0
WhyUnread known folder file NoMemory = ⊤
WhyUnread known folder file (Read unread) = (unread ≡ file) × IsUnreadable known (path_in folder file)
WhyUnread known folder file fault = ⊥

-- a file of the folder can't be read
pub record IsUnread (known : Known) (folder : List ℕ) (fault : MatchFault) : Type 0 where
  pub file : MatchFile
  pub why : WhyUnread known folder file fault

-- the sheet of the folder isn't taken
pub record IsSheetRefused (known : Known) (folder : List ℕ) (fault : MatchFault) : Type 0 where
  pub bytes : List ℕ
  pub has_sheet : HasBytes known (path_in folder files.Sheet) bytes
  pub why : WhyNoSheet bytes fault

-- the votes files of the folder have no book
pub record IsBookRefused (known : Known) (product : Product) (folder : List ℕ) (fault : MatchFault) : Type 0 where
  pub sheet : sheets.Sheet
  pub document : Members
  pub has_sheet : HasSheet known product folder sheet document
  pub a : List ℕ
  pub b : List ℕ
  pub has_votes : HasVotes known folder a b
  pub why : WhyNoBook sheet a b fault

abbrev pub WhyNoFrame : Known → Product → List ℕ → MatchFault → Type 0
WhyNoFrame known product folder fault =
    IsUnread known folder fault ⊎ (IsSheetRefused known folder fault ⊎ IsBookRefused known product folder fault)

-- ---- how that is told

-- the file that is at fault
abbrev pub file_at_fault : MatchFault → MatchFile
file_at_fault (Read file) = file
file_at_fault (Book why) = if is_of_second (both.Book why) then files.B else files.A
file_at_fault fault = files.Sheet

-- as a single run ends
abbrev pub stop_of_match : MatchFault → StopFault
stop_of_match NoMemory = StopFault.NoMemory
stop_of_match (Read file) = StopFault.Read
stop_of_match (Sheet why words) = StopFault.Sheet why
stop_of_match (HandedOn why words) = StopFault.Sheet why
stop_of_match (Book why) = stop_of (both.Book why)

-- what a single run tells of it, its file being at this path
abbrev pub reason_line : List ℕ → MatchFault → List ℕ
reason_line path (Sheet why words) = worded_line why (string_bytes words)
reason_line path (HandedOn why words) = worded_line why (string_bytes words)
reason_line path fault = fault_line path (stop_of_match fault)

-- the match's folder, and that line behind it
abbrev pub refusal_line : List ℕ → List ℕ → MatchFault → List ℕ
refusal_line folder path fault = folder ++ codes ": " ++ reason_line path fault
