-- What standard error is told where one desk's votes file ends before the other's.
use Rattle.std.specs.Prelude.{◌≡◌, ℕ, ◌+◌, ◌-◌, nat_lt, if◌then◌else◌, List, [], ◌∷◌, ◌++◌, codes, decimal}
use Rattle.agree_core.specs.Ballots.{AllVotes, Ballot}
use Rattle.books.specs.BothFiles.{HaveVotes}

-- how many places a file has, up to the place of its last vote; its votes are listed newest first
abbrev pub places_of : List Ballot → ℕ
places_of [] = 0
places_of (b ∷ bs) = b.at.place + 1

-- the files of both desks of a match have n and m places
pub record HavePlaces (game : ℕ) (a b : List ℕ) (n m : ℕ) : Type 0 where
  pub votes : AllVotes
  pub read : HaveVotes game a b votes
  pub first : n ≡ places_of votes.a
  pub second : m ≡ places_of votes.b

abbrev pub ends_line : List ℕ → List ℕ → ℕ → List ℕ
ends_line short long places =
    short ++ codes " ends " ++ decimal places ++ codes " places before " ++ long ++ codes ": compare them" ++ codes "\n"

-- what is told of two files with n and m places: nothing if they differ by at most one, a vote that the other desk still lacks
abbrev pub ends_text : List ℕ → List ℕ → ℕ → ℕ → List ℕ
ends_text a b n m =
    if nat_lt 1 (m - n) then ends_line a b (m - n) else (if nat_lt 1 (n - m) then ends_line b a (n - m) else [])
