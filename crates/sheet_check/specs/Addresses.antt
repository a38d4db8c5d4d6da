-- The texts in a sheet's table [stations] that are reported as no addresses: those of the desks and of at most four boards.
use Rattle.std.specs.Prelude.{◌≡◌, ◌⊎◌, ℕ, List, [], ◌∷◌, ◌++◌, Option, Some, None, option_and_then, codes}
use Rattle.std.specs.Net.Grammar.{IsSocketText}
use Rattle.std.specs.declared.net.socket_addr.SocketAddr.{SocketAddr}
use Rattle.toml.specs.Data.{Members, get_member, as_table}
use Rattle.cards.specs.declared.fault.SheetFault.TheVariants.{BadText}
use Rattle.sheet_check.specs.Faults.{Fault, at}
use Rattle.sheet_check.specs.Letters.{quoted}
use Rattle.sheet_check.specs.Twice.{board_in, text_in}

-- a text is an address and a port, as a desk reads it
abbrev pub IsAddress : List ℕ → Type 0
IsAddress text = (address : SocketAddr) × IsSocketText text address

-- the fault of a text that isn't an address
abbrev pub no_address : List ℕ → List ℕ → Fault
no_address key text = at BadText (codes "stations, " ++ key) (quoted text ++ codes " isn't an address with a port, such as 192.168.1.20:4711")

-- these are the faults of the text at a key, if there is one
abbrev pub TellsText : List ℕ → Option (List ℕ) → List Fault → Type 0
TellsText key None faults = faults ≡ []
TellsText key (Some text) faults =
    (IsAddress text × (faults ≡ [])) ⊎ ((IsAddress text → ⊥) × (faults ≡ no_address key text ∷ []))

-- these are the faults of each of the texts, in order
abbrev pub TellsEach : List (List ℕ × Option (List ℕ)) → List Fault → Type 0
TellsEach [] faults = faults ≡ []
TellsEach ((key, text) ∷ more) faults =
    (here after : List Fault) × (faults ≡ here ++ after) × TellsText key text here × TellsEach more after

-- the texts of the table that must be addresses, each with its key
abbrev pub addressed : Members → List (List ℕ × Option (List ℕ))
addressed ms =
    (codes "a", text_in (codes "a") ms) ∷ (codes "b", text_in (codes "b") ms)
    ∷ (codes "boards", board_in 0 ms) ∷ (codes "boards", board_in 1 ms)
    ∷ (codes "boards", board_in 2 ms) ∷ (codes "boards", board_in 3 ms) ∷ []

abbrev pub addressed_in : Option Members → List (List ℕ × Option (List ℕ))
addressed_in None = []
addressed_in (Some ms) = addressed ms

-- these are the faults of the addresses of a sheet: none if it has no table [stations]
abbrev pub TellsAddresses : Members → List Fault → Type 0
TellsAddresses ms = TellsEach (addressed_in (option_and_then as_table (get_member (codes "stations") ms)))
