-- What the export appends from a sheet's table [info] to the tokens `old`.
use Rattle.std.specs.Prelude.{◌≡◌, ℕ, ◌++◌, ◌∷◌, [], List, Float}
use Rattle.ball_laws.specs.History.{History}
use Rattle.cards.specs.Sheet.{Sheet}
use Rattle.notation.specs.declared.entry.Entry.{Entry}
use Rattle.toml.specs.Data.{Data, Items, Members, no_members, member}
use Rattle.json.specs.Json.{Json}
use Rattle.json.specs.Token.{Token}
use Rattle.json.specs.Tree.{json_tokens, items_tokens, members_tokens}
use Rattle.json_fields.specs.Values.{Field, items_of, members_of, fields_tokens, values_tokens}
use Rattle.export.specs.Given.{IsFloatOf, IsValueOf, AreValuesOf, AreFieldsOf, HandsOn, IsRuled, others, ruled}
use Rattle.export.specs.Info.{info_field}
use Rattle.export.specs.Value.{export_of, own_field}

abbrev pub PutsFloat : Float → List Token → List Token → Type 0
PutsFloat x old new = (v : Json) × IsFloatOf x v × (new ≡ old ++ json_tokens v)

abbrev pub PutsValue : Data → List Token → List Token → Type 0
PutsValue d old new = (v : Json) × IsValueOf d v × (new ≡ old ++ json_tokens v)

-- the items of an array, with the closing bracket
abbrev pub PutsItems : Items → List Token → List Token → Type 0
PutsItems ds old new = (vs : List Json) × AreValuesOf ds vs × (new ≡ old ++ items_tokens (items_of vs))

abbrev pub PutsMembers : Members → List Token → List Token → Type 0
PutsMembers ms old new = (fs : List Field) × AreFieldsOf ms fs × (new ≡ old ++ members_tokens (members_of fs))

-- the members that are copied: all but the export's own keys
abbrev pub PutsGiven : Members → List Token → List Token → Type 0
PutsGiven ms old new = (fs : List Field) × AreFieldsOf (others ms) fs × (new ≡ old ++ fields_tokens fs)

abbrev pub PutsHanded : List ℕ → Data → List Token → List Token → Type 0
PutsHanded key d old new = PutsGiven (member key d no_members) old new

-- the field `info`, with what is copied from the members of the table [info]
abbrev pub PutsInfo : Sheet → History → Members → List Token → List Token → Type 0
PutsInfo s h ms old new = (given : List Field) × AreFieldsOf (others ms) given × (new ≡ old ++ fields_tokens (info_field s h ms given ∷ []))

-- the outcome among the members of the table [info], unchanged
abbrev pub PutsRuled : Members → List Token → List Token → Type 0
PutsRuled ms old new = (told : List Field) × AreFieldsOf (ruled ms) told × (new ≡ old ++ fields_tokens told)

-- the field `yermudosh`, for what the archive format can't hold
abbrev pub PutsOwn : Sheet → List Field → Members → List Entry → List Token → List Token → Type 0
PutsOwn s given ms book old new =
    (told : List Field) × AreFieldsOf (ruled ms) told × (new ≡ old ++ fields_tokens (own_field s given told book ∷ []))

abbrev pub PutsExport : Sheet → List Entry → Members → List Token → List Token → Type 0
PutsExport s book document old new =
    (given : List Field) × HandsOn document given × (told : List Field) × IsRuled document told
    × (new ≡ old ++ values_tokens (export_of s document given told book ∷ []))
