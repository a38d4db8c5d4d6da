-- What the export copies from a sheet's table [info], value by value.
use Rattle.std.proofs.Common.{◌≡◌, ℕ, Bool, true, false, List, [], ◌∷◌, ◌++◌, refl, Some, None, if◌then◌else◌, append_assoc, codes}
use Rattle.toml.specs.Data.{Data, Members, no_members, member, get_member}
use Rattle.json.specs.Json.{Json}
use Rattle.json.specs.Token.{Token, key}
use Rattle.json.specs.Tree.{json_tokens}
use Rattle.json_fields.specs.Values.{Field}
use Rattle.json_fields.proofs.Putting.{adds_fields, no_fields, one_field}
use Rattle.export.specs.Given.{IsValueOf, AreFieldsOf, is_own, others}
use Rattle.export.specs.inner.Putting.{PutsGiven, PutsHanded, PutsRuled}

-- a member whose key is the export's own is left out
pub left_out : (name : List ℕ) (d : Data) (old : List Token) → is_own name ≡ true → PutsHanded name d old old
left_out name d old own = ([], rw own refl, no_fields old)

pub put_so : (name : List ℕ) (d : Data) (old mid new : List Token) → is_own name ≡ false → mid ≡ old ++ key name ∷ [] →
    (w : (v : Json) × IsValueOf d v × (new ≡ mid ++ json_tokens v)) → PutsHanded name d old new
put_so name d old mid new other named w =
    ((name, w.0) ∷ [], rw other (w.0, [], refl, w.1, refl), rw w.2 (rw (named, one_field (name, w.0), append_assoc old) refl))

handed_more : (own : Bool) (name : List ℕ) (d : Data) (ms : Members) (gs fs : List Field) → AreFieldsOf (if own then no_members else member name d no_members) gs →
    AreFieldsOf ms fs → AreFieldsOf (if own then ms else member name d ms) (gs ++ fs)
handed_more true name d ms gs fs none more = rw none more
handed_more false name d ms gs fs (v, nothing, is, value, empty) more = rw (is, empty) (v, fs, refl, value, more)

-- one member, and the members after it
pub puts_more : (name : List ℕ) (d : Data) (ms : Members) (old mid new : List Token) → PutsHanded name d old mid → PutsGiven ms mid new →
    PutsGiven (member name d ms) old new
puts_more name d ms old mid new one more =
    (one.0 ++ more.0, handed_more (is_own name) name d (others ms) one.0 more.0 one.1 more.1, adds_fields old mid new one.0 more.0 one.2 more.2)

-- the outcome among the members, where there is one
pub puts_ruled : (ms : Members) (d : Data) (old mid new : List Token) → get_member (codes "outcome") ms ≡ Some d → mid ≡ old ++ key (codes "outcome") ∷ [] →
    (w : (v : Json) × IsValueOf d v × (new ≡ mid ++ json_tokens v)) → PutsRuled ms old new
puts_ruled ms d old mid new is named w =
    ((codes "outcome", w.0) ∷ [], rw is (w.0, [], refl, w.1, refl), rw w.2 (rw (named, one_field (codes "outcome", w.0), append_assoc old) refl))

pub puts_none : (ms : Members) (old : List Token) → get_member (codes "outcome") ms ≡ None → PutsRuled ms old old
puts_none ms old is = ([], rw is refl, no_fields old)
