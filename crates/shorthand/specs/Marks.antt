-- The marks of a delivery's runs: letters, or none, and a figure.
use Rattle.std.specs.Prelude.{Option, Some, None, List, [], ◌∷◌, codes}
use Rattle.notation.specs.Written.{Token}
use Rattle.match_laws.specs.History.{or_else}
use Rattle.shorthand.specs.Words.{in_row, said_runs}

-- the letters, and the kind that they stand for
abbrev pub letters : List (Token × Token)
letters =
    ([], codes "bat") ∷ (codes "b", codes "bye") ∷ (codes "lb", codes "leg") ∷ (codes "wd", codes "wide")
    ∷ (codes "nb", codes "nb") ∷ (codes "nbb", codes "nbbye") ∷ (codes "nblb", codes "nbleg") ∷ []

-- the figure, and the runs that it stands for: 4 and 6 are boundaries, and a dot is 0
abbrev pub figures : List (Token × Token)
figures =
    (codes ".", codes "0") ∷ (codes "0", codes "0") ∷ (codes "1", codes "1") ∷ (codes "2", codes "2") ∷ (codes "3", codes "3")
    ∷ (codes "4", codes "0 four") ∷ (codes "5", codes "5") ∷ (codes "6", codes "0 six") ∷ []

abbrev pub both : Option Token → Option Token → Option (Token × Token)
both (Some kind) (Some runs) = Some (kind, runs)
both _ _ = None

-- a token cut before its last byte
abbrev pub cut : Token → Token × Token
cut [] = ([], [])
cut (b ∷ []) = ([], b ∷ [])
cut (b ∷ c ∷ bs) = (b ∷ (cut (c ∷ bs)).0, (cut (c ∷ bs)).1)

-- the kind and the runs of letters and a figure
abbrev pub written_mark : Token → Option (Token × Token)
written_mark t = both (in_row letters (cut t).0) (in_row figures (cut t).1)

-- the kind and the runs of a mark, said in a word or written
abbrev pub mark : Token → Option (Token × Token)
mark t = or_else (said_runs t) (written_mark t)
