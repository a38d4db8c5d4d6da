-- The partnerships of an innings, item by item.
use Rattle.std.proofs.Common.{◌≡◌, ℕ, ◌+◌, List, ◌++◌, Option, Some, append_assoc, drop}
use Rattle.std.specs.Prelude.{slice_get}
use Rattle.corrections.proofs.ListLemmas.{next}
use Rattle.page.specs.declared.{moments.Moment.Moment, stands.Stand.Stand, stands.Partnership.Partnership}
use Rattle.page.specs.Stands.{ended_in, in_list, partnerships, partnerships_from, stand_in}

-- one more item
pub one_more : (i : ℕ) (ms : List Moment) (k : ℕ) (m : Moment) (s later : Stand) (old new : List Partnership) (e : Option Partnership) →
    slice_get ms k ≡ Some m → e ≡ ended_in i m s → later ≡ stand_in i m s → new ≡ old ++ in_list e →
    old ++ partnerships_from i s (drop k ms) ≡ partnerships i ms → new ++ partnerships_from i later (drop (k + 1) ms) ≡ partnerships i ms
one_more i ms k m s later old new e here ends goes put so_far = rw (put, ends, goes, append_assoc) (rw (next ms k m here) at so_far)
