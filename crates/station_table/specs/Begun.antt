-- The options that a station starts with: the named ones, and for the others the values of the sheet's `[stations]`. ms is the
-- sheet's top-level table.
use Rattle.std.specs.Prelude.{ℕ, List, [], ◌∷◌, Option, Some, None, option_map, codes}
use Rattle.agree_core.specs.declared.messages.DeskId.{DeskId}
use Rattle.agree_core.specs.declared.messages.DeskId.TheVariants.{A, B}
use Rattle.toml.specs.Data.{Members}
use Rattle.station_table.specs.Stations.{board_in, columns_in, text_in}
use Rattle.station_table.specs.declared.{board_options.BoardOptions.BoardOptions, desk_options.BoardNames.BoardNames, desk_options.DeskOptions.DeskOptions}

-- the first text, or else the other one
abbrev pub or_else : Option (List ℕ) → Option (List ℕ) → Option (List ℕ)
or_else None other = other
or_else (Some text) other = Some text

-- ---- a desk

pub record Desk : Type 0 where
  -- the files of its votes, of their copy, and of the key
  pub file : Option (List ℕ)
  pub copy : Option (List ℕ)
  pub key : Option (List ℕ)
  -- its own address, the other desk's, and those of at most four boards
  pub at : Option (List ℕ)
  pub other : Option (List ℕ)
  pub boards : List (Option (List ℕ))
  -- the width of its scorer's rows
  pub columns : Option ℕ

-- the names in `[stations]` of a desk's address, of the other desk's and of its copy; and the default name of its votes file
abbrev pub own : DeskId → List ℕ
own A = codes "a"
own B = codes "b"

abbrev pub others : DeskId → List ℕ
others A = codes "b"
others B = codes "a"

abbrev pub own_copy : DeskId → List ℕ
own_copy A = codes "copy_a"
own_copy B = codes "copy_b"

abbrev pub own_file : DeskId → List ℕ
own_file A = codes "a.votes"
own_file B = codes "b.votes"

-- the named boards if at least one is named, and the others otherwise
abbrev pub boards_or : List (Option (List ℕ)) → List (Option (List ℕ)) → List (Option (List ℕ))
boards_or (Some first ∷ more) others = Some first ∷ more
boards_or named others = others

abbrev pub boards_in : Members → List (Option (List ℕ))
boards_in ms = board_in 0 ms ∷ board_in 1 ms ∷ board_in 2 ms ∷ board_in 3 ms ∷ []

abbrev pub columns_or : Option ℕ → Option ℕ → Option ℕ
columns_or None other = other
columns_or (Some columns) other = Some columns

abbrev pub begun_with : DeskId → Desk → Members → Desk
begun_with desk named ms = record {
  file = or_else named.file (or_else (text_in (codes "votes") ms) (Some (own_file desk)));
  copy = or_else named.copy (or_else (text_in (own_copy desk) ms) (text_in (codes "copy") ms));
  key = or_else named.key (text_in (codes "key") ms);
  at = or_else named.at (text_in (own desk) ms);
  other = or_else named.other (text_in (others desk) ms);
  boards = boards_or named.boards (boards_in ms);
  columns = columns_or named.columns (columns_in ms);
}

-- ---- a board

pub record Board : Type 0 where
  -- its own address, both desks' addresses, and the key's file
  pub at : Option (List ℕ)
  pub a : Option (List ℕ)
  pub b : Option (List ℕ)
  pub key : Option (List ℕ)

-- the options of the board of this index, counted from 0
abbrev pub board_begun_with : ℕ → Board → Members → Board
board_begun_with n named ms = record {
  at = or_else named.at (board_in n ms);
  a = or_else named.a (text_in (codes "a") ms);
  b = or_else named.b (text_in (codes "b") ms);
  key = or_else named.key (text_in (codes "key") ms);
}

-- ---- the same records of the program's own options

abbrev pub boards_of : BoardNames → List (Option (List ℕ))
boards_of b =
    option_map (λ text. text.now) b.first ∷ option_map (λ text. text.now) b.second
    ∷ option_map (λ text. text.now) b.third ∷ option_map (λ text. text.now) b.fourth ∷ []

abbrev pub desk_of : DeskOptions → Desk
desk_of o = record {
  file = option_map (λ text. text.now) o.file;
  copy = option_map (λ text. text.now) o.copy;
  key = option_map (λ text. text.now) o.key;
  at = option_map (λ text. text.now) o.at;
  other = option_map (λ text. text.now) o.other;
  boards = boards_of o.boards;
  columns = o.columns;
}

abbrev pub board_of : BoardOptions → Board
board_of o = record {
  at = option_map (λ text. text.now) o.at;
  a = option_map (λ text. text.now) o.a;
  b = option_map (λ text. text.now) o.b;
  key = option_map (λ text. text.now) o.key;
}
