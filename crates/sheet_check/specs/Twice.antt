-- Duplicates in a sheet's table of stations: an address of two stations, and a copy that is another of the desks' files.
use Rattle.std.specs.Prelude.{ℕ, ◌||◌, not, Bool, true, false, List, [], ◌∷◌, ◌++◌, Option, Some, None, option_and_then, codes, bytes_eq}
use Rattle.toml.specs.Data.{Members, at as item_at, get_member, as_str}
use Rattle.cards.specs.declared.fault.SheetFault.TheVariants.{BadText}
use Rattle.sheet_check.specs.Faults.{Fault, at, unless}
use Rattle.sheet_check.specs.Letters.{quoted}

-- the text at a key of that table; and the address of a board in it, counted from 0
abbrev pub text_in : List ℕ → Members → Option (List ℕ)
text_in key ms = option_and_then as_str (get_member key ms)

abbrev pub board_in : ℕ → Members → Option (List ℕ)
board_in n ms = option_and_then as_str (option_and_then (item_at n) (get_member (codes "boards") ms))

-- the text is among these
abbrev pub is_among : List ℕ → List (Option (List ℕ)) → Bool
is_among text [] = false
is_among text (None ∷ more) = is_among text more
is_among text (Some other ∷ more) = bytes_eq text other || is_among text more

-- the fault that a text, if there is one, is also among the others
abbrev pub twice : List ℕ → List ℕ → Option (List ℕ) → List (Option (List ℕ)) → List Fault
twice place words None others = []
twice place words (Some text) others = unless (not (is_among text others)) (at BadText place (quoted text ++ words))

-- the fault that two stations have the same address
abbrev pub address_twice : List ℕ → Option (List ℕ) → List (Option (List ℕ)) → List Fault
address_twice key text others = twice (codes "stations, " ++ key) (codes " is another station's too") text others

abbrev pub addresses_twice : Members → List Fault
addresses_twice ms =
    let a = text_in (codes "a") ms in
    let b = text_in (codes "b") ms in
    address_twice (codes "b") b (a ∷ [])
    ++ (address_twice (codes "boards") (board_in 0 ms) (a ∷ b ∷ [])
    ++ (address_twice (codes "boards") (board_in 1 ms) (a ∷ b ∷ board_in 0 ms ∷ [])
    ++ (address_twice (codes "boards") (board_in 2 ms) (a ∷ b ∷ board_in 0 ms ∷ board_in 1 ms ∷ [])
    ++ address_twice (codes "boards") (board_in 3 ms) (a ∷ b ∷ board_in 0 ms ∷ board_in 1 ms ∷ board_in 2 ms ∷ []))))

-- the votes file of a desk: the one that the table names, or else the desk's own
abbrev pub votes_file : Option (List ℕ) → List ℕ → Option (List ℕ)
votes_file None own = Some own
votes_file (Some named) own = Some named

-- the fault that a copy is a votes file or another copy
abbrev pub copy_twice : List ℕ → Option (List ℕ) → List (Option (List ℕ)) → List Fault
copy_twice key text others = twice (codes "stations, " ++ key) (codes " is another of the desks' files") text others

abbrev pub copies_twice : Members → List Fault
copies_twice ms =
    let votes = text_in (codes "votes") ms in
    let a = votes_file votes (codes "a.votes") in
    let b = votes_file votes (codes "b.votes") in
    let copy = text_in (codes "copy") ms in
    let as_copy = text_in (codes "copy_a") ms in
    copy_twice (codes "copy") copy (a ∷ b ∷ [])
    ++ (copy_twice (codes "copy_a") as_copy (a ∷ b ∷ copy ∷ [])
    ++ copy_twice (codes "copy_b") (text_in (codes "copy_b") ms) (a ∷ b ∷ copy ∷ as_copy ∷ []))

-- all duplicates of that table
abbrev pub twice_faults : Members → List Fault
twice_faults ms = addresses_twice ms ++ copies_twice ms
