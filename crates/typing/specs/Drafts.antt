-- The line being typed, and what each key does to it.
use Rattle.std.specs.Prelude.{◌+◌, ◌-◌, ◌==◌, ◌&&◌, ℕ, Bool, true, nat_lt, not, min, if◌then◌else◌, List, [], ◌∷◌, ◌++◌, length, take, drop, insert, remove, slice_index_or, Option, Some, None, codes}
use Rattle.arrayvec.specs.ArrayVec.{ArrayVec}
use Rattle.typing.specs.declared.key.Key.{Key}
use Rattle.typing.specs.declared.key.Key.TheVariants.{Sign, Erase, Delete, EraseWord, EraseLine, Front, End, Left, Right, Earlier, Later, Enter, Stop}
use Rattle.typing.specs.declared.editor.TheConstants.{LINE_ROOM, MOST_LINES}

-- the bytes of a line
abbrev pub bytes : ArrayVec ℕ → List ℕ
bytes line = line.items

-- the shown line, the cursor's place in it, the lines entered before, the oldest first, how many lines back the shown line is,
-- and the line being typed, kept aside meanwhile
pub record Draft : Type 0 where
  pub text : List ℕ
  pub cursor : ℕ
  pub earlier : List (List ℕ)
  pub back : ℕ
  pub aside : List ℕ

-- an empty line, and no earlier lines
abbrev pub blank : Draft
blank = record { text = []; cursor = 0; earlier = []; back = 0; aside = [] }

abbrev pub inserted : ℕ → Draft → Draft
inserted sign d =
    if length d.text == LINE_ROOM then d
    else record d { text = insert d.text d.cursor sign; cursor = d.cursor + 1 }

abbrev pub erased : Draft → Draft
erased d =
    if d.cursor == 0 then d
    else record d { text = remove d.text (d.cursor - 1); cursor = d.cursor - 1 }

abbrev pub deleted : Draft → Draft
deleted d = if nat_lt d.cursor (length d.text) then record d { text = remove d.text d.cursor } else d

-- where the last word begins, after `passed` bytes are read: at the last byte that isn't blank and follows a blank or nothing
abbrev pub last_start : ℕ → ℕ → Bool → List ℕ → ℕ
last_start start passed is_behind_blank [] = start
last_start start passed is_behind_blank (b ∷ bs) =
    last_start (if is_behind_blank && not (b == 32) then passed else start) (passed + 1) (b == 32) bs

abbrev pub word_start : List ℕ → ℕ
word_start text = last_start 0 0 true text

-- the word before the cursor is removed, with the blanks after it
abbrev pub without_word : Draft → Draft
without_word d =
    record d { text = take (word_start (take d.cursor d.text)) d.text ++ drop d.cursor d.text; cursor = word_start (take d.cursor d.text) }

-- this line is shown, with the cursor at its end
abbrev pub with_text : List ℕ → Draft → Draft
with_text text d = record d { text = text; cursor = length text }

-- the line this many lines back is shown
abbrev pub shown_back : ℕ → Draft → Draft
shown_back back d =
    with_text (if back == 0 then d.aside else slice_index_or d.earlier (length d.earlier - back) []) (record d { back = back })

abbrev pub earlier_shown : Draft → Draft
earlier_shown d =
    if d.back == length d.earlier then d
    else shown_back (d.back + 1) (record d { aside = if d.back == 0 then d.text else d.aside })

abbrev pub later_shown : Draft → Draft
later_shown d = if d.back == 0 then d else shown_back (d.back - 1) d

-- the entered lines, with this one: an empty one isn't kept, and beyond a hundred the oldest is dropped
abbrev pub kept : List (List ℕ) → List ℕ → List (List ℕ)
kept earlier [] = earlier
kept earlier (b ∷ bs) = (if length earlier == MOST_LINES then drop 1 earlier else earlier) ++ (b ∷ bs) ∷ []

-- the next line is begun
abbrev pub next_line : Draft → Draft
next_line d = record { text = []; cursor = 0; earlier = kept d.earlier d.text; back = 0; aside = [] }

-- the draft after a key
abbrev pub after : Draft → Key → Draft
after d (Sign b) = inserted b d
after d Erase = erased d
after d Delete = deleted d
after d EraseWord = without_word d
after d EraseLine = with_text [] d
after d Front = record d { cursor = 0 }
after d End = record d { cursor = length d.text }
after d Left = record d { cursor = d.cursor - 1 }
after d Right = record d { cursor = min (length d.text) (d.cursor + 1) }
after d Earlier = earlier_shown d
after d Later = later_shown d
after d Enter = next_line d
after d Stop = d

-- the line that a key enters, if any: Ctrl-D enters `quit` if nothing is typed
abbrev pub entered : Draft → Key → Option (List ℕ)
entered d Enter = Some d.text
entered d Stop = if length d.text == 0 then Some (codes "quit") else None
entered d key = None
