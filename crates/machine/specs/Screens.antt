-- What a screen has of what was written to it.
use Rattle.std.specs.Prelude.{◌≡◌, ◌≤◌, ℕ, true, List, ◌++◌, drop, length, map}
use Rattle.std.specs.List.{list_all}
use Rattle.machine.specs.Rows.{are_whole, is_plain, plain, shown_in, written_in}
use Rattle.machine.specs.declared.row_log.Written.{Written}
use Rattle.machine.specs.declared.screen.Screen.{Screen}

-- all that was written to a screen, from its log and what waits
abbrev pub text_of : Written → List ℕ
text_of written = written_in (written.rows).value ++ ((written.waits).value).items

module _ {O : Type 0} {g : _} where
  -- all that was written to it: rows that are shown or left out, and then what waits
  abbrev pub written_of : Screen O g → List ℕ
  written_of screen = written_in screen.log ++ screen.waits.items

  -- all that was written, each byte plain, with a row of two points in place of rows that are left out
  abbrev pub shown_of : Screen O g → List ℕ
  shown_of screen = shown_in screen.log ++ map plain screen.waits.items

  -- what its stream hasn't taken: the rest of the begun rows, and then what waits
  abbrev pub pending_of : Screen O g → List ℕ
  pending_of screen = drop screen.done screen.begun.items ++ map plain screen.waits.items

  -- Plain bytes are shown unchanged, and any other byte as a question mark; nothing is repeated, moved, or left out silently.
  -- Whatever is written, a terminal finds nothing to obey.
  pub record IsHeld (taken : O → List ℕ) (screen : Screen O g) : Type 0 where
    -- what its stream has taken and what is still to come is what was written, but for a row of two points in place of
    -- left-out rows
    pub shown : taken screen.outlet ++ pending_of screen ≡ shown_of screen
    -- each byte that its stream has taken is a newline or printable ASCII
    pub plain_alone : list_all is_plain (taken screen.outlet) ≡ true
    -- rows are shown or left out whole
    pub whole : are_whole screen.log ≡ true
    -- at most 32 KB wait, and 32 KB of begun rows with a row of two points
    pub few : length (pending_of screen) ≤ 65539
