-- The book of a match as one JSON value. s is the sheet, document the table of its text, given the fields copied from the
-- document's table [info], and told the outcome in [info].
use Rattle.std.specs.Prelude.{◌≡◌, ℕ, ◌^◌, Bool, nat_le, if◌then◌else◌, List, [], ◌∷◌, ◌++◌, codes, decimal}
use Rattle.notation.specs.declared.entry.Entry.{Entry}
use Rattle.corrections.specs.CleanList.{clean, history_of}
use Rattle.cards.specs.Sheet.{Sheet}
use Rattle.toml.specs.Data.{Members}
use Rattle.json.specs.Json.{Json}
use Rattle.json.specs.Tree.{json_tokens}
use Rattle.json.specs.Layout.{pretty}
use Rattle.json_fields.specs.Values.{Field, object_of, text_field, number_field}
use Rattle.archive_deliveries.specs.Notes.{notes}
use Rattle.export.specs.Given.{HandsOn, IsRuled, info_in}
use Rattle.export.specs.Meta.{meta_field}
use Rattle.export.specs.Info.{has_event, info_field}
use Rattle.export.specs.Falls.{falls_field}
use Rattle.export.specs.Limited.{limits_field}
use Rattle.export.specs.Innings.{innings_field}
use Rattle.export.specs.Entries.{book_field}
use Rattle.export.specs.Escapes.{shown}

-- every JSON reader reads numbers up to 2^53 exactly; many round larger numbers
abbrev pub is_exact : ℕ → Bool
is_exact n = nat_le n (2 ^ 53)

-- the match's number, as text where it isn't exact
abbrev pub game_field : ℕ → Field
game_field n = if is_exact n then number_field (codes "match_number") n else text_field (codes "match_number") (decimal n)

-- the title, only where an event is copied from [info], which then stands under `info` instead
abbrev pub title_fields : Sheet → List Field → List Field
title_fields s given = if has_event given then text_field (codes "title") s.title ∷ [] else []

-- the rest of the sheet: title, match number, innings a side and limits
abbrev pub sheet_fields : Sheet → List Field → List Field
sheet_fields s given =
    title_fields s given
    ++ game_field s.game ∷ []
    ++ number_field (codes "innings_a_side") s.innings ∷ []
    ++ limits_field s.limits

-- what the archive format can't hold: the rest of the sheet, the sheet's outcome beside that of the Laws, the falls of
-- wickets, and each entry as it was penned
abbrev pub own_field : Sheet → List Field → List Field → List Entry → Field
own_field s given told book = (
  codes "yermudosh",
  object_of (text_field (codes "program") (codes "yermudosh 1") ∷ []
      ++ sheet_fields s given
      ++ told
      ++ falls_field s (history_of book) ∷ []
      ++ book_field book ∷ []),
)

abbrev pub export_of : Sheet → Members → List Field → List Field → List Entry → Json
export_of s document given told book =
    object_of (meta_field document ∷ []
    ++ info_field s (history_of book) (info_in document) given ∷ []
    ++ innings_field s (history_of book) (notes [] (clean book)) ∷ []
    ++ own_field s given told book ∷ [])

-- the JSON value of a book, by its sheet and document, as the json library lays it out
pub record IsLaidOut (s : Sheet) (document : Members) (book : List Entry) (text : List ℕ) : Type 0 where
  pub given : List Field
  pub hands_on : HandsOn document given
  pub told : List Field
  pub ruled : IsRuled document told
  pub written : text ≡ pretty (json_tokens (export_of s document given told book))

-- the laid-out text, with the characters escaped that a terminal obeys
pub record IsExport (s : Sheet) (document : Members) (book : List Entry) (text : List ℕ) : Type 0 where
  pub laid : List ℕ
  pub laid_out : IsLaidOut s document book laid
  pub written : text ≡ shown laid
