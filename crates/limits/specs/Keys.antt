-- The names of the keys of the table `limits` in a sheet, and the texts of why a key is unfit.
use Rattle.std.specs.Prelude.{ℕ, List, codes}
use Rattle.limits.specs.declared.{key.Key.Key, unfit.Unfit.Unfit}
use Rattle.limits.specs.declared.unfit.Unfit.TheVariants.{NoMemory, OtherKind, OutOfRange}

abbrev pub name_of : Key → List ℕ
name_of Key.Table = codes "limits"
name_of Key.Overs = codes "limits.overs"
name_of Key.OversABowler = codes "limits.overs_a_bowler"
name_of Key.FreeHits = codes "limits.free_hits"
name_of Key.Powerplays = codes "limits.powerplays"

abbrev pub why_text : Unfit → List ℕ
why_text NoMemory = codes "can't be read"
why_text OtherKind = codes "is of another kind"
why_text OutOfRange = codes "is out of range"
