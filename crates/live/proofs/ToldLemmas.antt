-- What is told as values of each row.
use Rattle.std.proofs.Common.{arith, ◌≡◌, ◌∷◌, [], ℕ, List, Option, refl}
use Rattle.std.specs.Prelude.{option_to_list}
use Rattle.arrayvec.specs.ArrayString.{ArrayString}
use Rattle.notation.specs.declared.entry.Entry.{Entry}
use Rattle.agree_core.specs.declared.{position.Position.Position, seat.Heard.Heard}
use Rattle.cards.specs.Sheet.{Sheet}
use Rattle.desk.specs.declared.refusal.Refusal.{Refusal}
use Rattle.links.specs.declared.aside.Aside.{Aside}
use Rattle.station_texts.specs.declared.{doubt.Evidence.Evidence, said.Said.Said, warned.Warned.Warned}
use Rattle.station_texts.specs.Asides.{aside_text, dropped_text}
use Rattle.station_texts.specs.Texts.{again_text, came_text, heard_text, refused_entry, said_text, shown_text, unopened_text, why_full}
use Rattle.station_texts.specs.ToldValues.{again_told, aside_told, came_told, dropped_told, heard_told, refused_told, said_told, shown_told, unopened_told}
use Rattle.wire.specs.declared.what.What.{What}
use Rattle.live.specs.Desks.{Given, Reminded, ToldAside, Typed, Unopened, entry_in, own_line, shown_by}
use Rattle.live.specs.Hidden.{RowsAreValues}

refused_silent : (book : List Entry) (e : Entry) (why : Refusal) → option_to_list (refused_told why) ≡ [] → refused_entry book e why ≡ []
refused_silent book e why none = grind arith

again_silent : (at : Position) (line : _) (full : Option Refusal) → option_to_list (again_told full) ≡ [] → again_text at line full ≡ []
again_silent at line full none = grind arith

said_silent : (sheet : Sheet) (innings : ℕ) (at : Position) (own other : Option Entry) (warned : Warned) (book : List Entry) (said : Said)
    → option_to_list (said_told at other said) ≡ [] → said_text sheet innings at own other warned book said ≡ []
said_silent sheet innings at own other warned book Said.Quit none = refl
said_silent sheet innings at own other warned book (Said.SayAgain line) none = again_silent at line (why_full at) none
said_silent sheet innings at own other warned book (Said.Refused e why) none = refused_silent book e why none
said_silent sheet innings at own other warned book said none = absurd (cc)

shown_silent : (warned : Warned) (evidence : Evidence) → option_to_list (shown_told warned evidence) ≡ [] → shown_text warned evidence ≡ []
shown_silent warned evidence none = grind arith

heard_silent : (sheet : Sheet) (innings place : ℕ) (own other : Option Entry) (book : List Entry) (warned : Warned) (evidence : Evidence) (heard : Heard)
    → option_to_list (heard_told place own other warned evidence heard) ≡ [] → heard_text sheet innings place own other book warned evidence heard ≡ []
heard_silent sheet innings place own other book warned evidence Heard.Agreed none = absurd (cc)
heard_silent sheet innings place own other book warned evidence Heard.Differ none = absurd (cc)
heard_silent sheet innings place own other book warned evidence Heard.TwoVotes none = grind arith
heard_silent sheet innings place own other book warned evidence Heard.Mine none = shown_silent warned evidence none
heard_silent sheet innings place own other book warned evidence Heard.Old none = shown_silent warned evidence none
heard_silent sheet innings place own other book warned evidence Heard.Ahead none = shown_silent warned evidence none
heard_silent sheet innings place own other book warned evidence heard none = refl

came_silent : (sheet : Sheet) (innings place : ℕ) (own other : Option Entry) (book : List Entry) (warned : Warned) (evidence : Evidence) (what : What)
    → option_to_list (came_told place own other warned evidence what) ≡ [] → came_text sheet innings place own other book warned evidence what ≡ []
came_silent sheet innings place own other book warned evidence (What.Bad fault) none = grind arith
came_silent sheet innings place own other book warned evidence (What.Heard heard) none = heard_silent sheet innings place own other book warned evidence heard none
came_silent sheet innings place own other book warned evidence What.Asked none = shown_silent warned evidence none
came_silent sheet innings place own other book warned evidence what none = refl

unopened_silent : (warned : Warned) → option_to_list (unopened_told warned) ≡ [] → unopened_text warned ≡ []
unopened_silent warned none = grind arith

dropped_silent : (columns : ℕ) (lines : List ArrayString) → option_to_list (dropped_told lines) ≡ [] → dropped_text columns lines ≡ []
dropped_silent columns [] none = refl
dropped_silent columns (l ∷ ls) none = absurd (cc)

aside_silent : (columns : ℕ) (aside : Aside) → option_to_list (aside_told aside) ≡ [] → aside_text columns aside ≡ []
aside_silent columns (Aside.Dropped lines) none = dropped_silent columns lines.items none
aside_silent columns aside none = absurd (cc)

pub rows_are_values : (Disk : Type 0) → RowsAreValues Disk
rows_are_values Disk sheet innings k l (Typed line said) none =
    said_silent sheet innings k.desk.seat.position (own_line k.desk) k.desk.seat.theirs k.warned l.desk.book said none
rows_are_values Disk sheet innings k l (Given bytes what) none =
    came_silent sheet innings k.desk.seat.position.place (own_line k.desk) (entry_in bytes) l.desk.book k.warned (shown_by k.desk bytes what) what none
rows_are_values Disk sheet innings k l Unopened none = unopened_silent k.warned none
rows_are_values Disk sheet innings k l (Reminded reminder) none = absurd (cc)
rows_are_values Disk sheet innings k l (ToldAside aside) none = aside_silent sheet.columns aside none
rows_are_values Disk sheet innings k l call none = refl
