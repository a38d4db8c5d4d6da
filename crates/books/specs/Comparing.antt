-- What both desks' votes files have in common, and where they differ.
use Rattle.std.specs.Prelude.{◌≡◌, ℕ, zero, suc, Bool, ◌&&◌, if◌then◌else◌, List, [], ◌∷◌, ◌++◌, length, count_by, Option, Some, None, is_some, is_none, IfSome, codes, decimal}
use Rattle.std.specs.List.{flat_map}
use Rattle.notation.specs.declared.entry.{Entry.Entry, TheConstants.PLACES}
use Rattle.notation.specs.Written.{IsEntry, text_of}
use Rattle.agree_core.specs.declared.position.TheConstants.{ROUNDS}
use Rattle.agree_core.specs.Agreed.{IsAgreedList}
use Rattle.agree_core.specs.Ballots.{AllVotes}
use Rattle.books.specs.BothFiles.{HaveVotes}
use Rattle.books.specs.DeskVotes.{entry_at, is_alike}
use Rattle.books.specs.OneHistory.{Tears, torn_line}
use Rattle.books.specs.declared.compare.{Difference.Difference, Comparison.Comparison}

-- what the desks wrote there, unless they wrote alike
abbrev pub unless_alike : ℕ → ℕ → Option Entry → Option Entry → List Difference
unless_alike place round x y =
    if is_alike x y then [] else record { place = place; round = round; a = x; b = y } ∷ []

abbrev pub difference_at : AllVotes → ℕ → ℕ → List Difference
difference_at v place round = unless_alike place round (entry_at v.a place round) (entry_at v.b place round)

-- where the desks differ in the first n rounds of a place
unfoldable pub in_rounds : AllVotes → ℕ → ℕ → List Difference
in_rounds v place zero = []
in_rounds v place (suc n) = in_rounds v place n ++ difference_at v place n

-- where the desks differ in any round of the first n places
unfoldable pub in_places : AllVotes → ℕ → List Difference
in_places v zero = []
in_places v (suc n) = in_places v n ++ in_rounds v n ROUNDS

-- where the desks differ, in the order of places and rounds
abbrev pub differences : AllVotes → List Difference
differences v = in_places v PLACES

-- the comparison of both files of a match: how many entries their votes have agreed, where the votes differ, and
-- the first place that isn't of one history
pub record IsComparison (game : ℕ) (a b : List ℕ) (c : Comparison) : Type 0 where
  pub votes : AllVotes
  pub read : HaveVotes game a b votes
  pub list : List Entry
  pub agreed_list : IsAgreedList votes list
  pub agreed : c.agreed ≡ length list
  pub differences : c.differences.items ≡ differences votes
  pub torn : Tears votes c.torn

-- ---- as text

-- the line of an entry, or `nothing`
abbrev pub vote_text : Option Entry → List ℕ
vote_text None = codes "nothing"
vote_text (Some e) = text_of e

abbrev pub position_text : ℕ → ℕ → List ℕ
position_text place round = decimal place ++ codes " round " ++ decimal round

abbrev pub difference_line : Difference → List ℕ
difference_line d =
    position_text d.place d.round ++ codes ": a " ++ vote_text d.a ++ codes ", b " ++ vote_text d.b ++ codes "\n"

-- both desks wrote, or one of them alone
abbrev pub is_of_both : Difference → Bool
is_of_both d = is_some d.a && is_some d.b

abbrev pub is_of_a_alone : Difference → Bool
is_of_a_alone d = is_none d.b

abbrev pub is_of_b_alone : Difference → Bool
is_of_b_alone d = is_none d.a

-- how many entries are agreed, and how many differences there are of each kind
abbrev pub sum_of : ℕ → List Difference → List ℕ
sum_of agreed ds =
    codes "agreed " ++ decimal agreed ++ codes ", differed " ++ decimal (count_by is_of_both ds)
    ++ codes ", only a " ++ decimal (count_by is_of_a_alone ds)
    ++ codes ", only b " ++ decimal (count_by is_of_b_alone ds) ++ codes "\n"

-- the line that the files aren't of one history, if they aren't
abbrev pub torn_text : Option ℕ → List ℕ
torn_text None = []
torn_text (Some place) = torn_line place

-- one line for each difference, then the sum, and then the line that the files aren't of one history
abbrev pub comparison_text : ℕ → List Difference → Option ℕ → List ℕ
comparison_text agreed ds torn = flat_map difference_line ds ++ sum_of agreed ds ++ torn_text torn

-- the entries that the desks wrote there have numbers in their ranges
abbrev pub HasEntries : Difference → Type 0
HasEntries d = IfSome d.a IsEntry × IfSome d.b IsEntry
