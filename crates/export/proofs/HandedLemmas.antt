-- The value at a key of `info`.
use Rattle.std.proofs.Common.{◌≡◌, ℕ, Bool, true, false, cond, if◌then◌else◌, arith, append_assoc, bytes_eq, List}
use Rattle.std.proofs.Common.{Some, None, inl, inr, codes, sym, ap, ◌∙◌, subst}
use Rattle.std.specs.Prelude.{is_some}
use Rattle.std.specs.List.{list_any}
use Rattle.std.proofs.lemmas.Bool.{cases_Bool}
use Rattle.std.proofs.lemmas.Map.Text.{is_eq-slice_cmp}
use Rattle.std.proofs.lemmas.Slice.Eq.{bytes_eq-Decides}
use Rattle.ball_laws.specs.History.{History}
use Rattle.cards.specs.Sheet.{Sheet}
use Rattle.toml.specs.Data.{Data, Members, no_members, member, get_member}
use Rattle.json.specs.Json.{Json}
use Rattle.json_fields.specs.Values.{Field, members_of}
use Rattle.export.specs.Given.{IsValueOf, AreFieldsOf, HandsOn, info_in, is_own, others}
use Rattle.export.specs.Info.{info_of}
use Rattle.export.specs.Laws.{member_at, at, HasEachKey, LeavesOwn}

get_member-cons : (key name : List ℕ) (d : Data) (ms : Members) → get_member key (member name d ms) ≡ cond (bytes_eq key name) (Some d) (get_member key ms)
get_member-cons key name d ms = grind (arith, is_eq-slice_cmp key name)

module _ (key : List ℕ) where
  abbrev has : List Field → Bool
  has fs = list_any (λ f. bytes_eq key f.0) fs

  abbrev under : List Field → Json
  under fs = member_at key (members_of fs)

  -- the copied members have the table's value at a key, unless the key is the export's own
  others-at : (ms : Members) → get_member key (others ms) ≡ (if is_own key then None else get_member key ms)
  others-at no_members = grind arith
  others-at (member name d ms) =
      grind (arith, others-at ms, get_member-cons key name d ms, get_member-cons key name d (others ms), bytes_eq-Decides key name)

  -- fields have the keys of their members, with their values
  has_all : (ms : Members) (fs : List Field) → AreFieldsOf ms fs → has fs ≡ is_some (get_member key ms)
  has_all no_members fs are = ap has are
  has_all (member name d ms) fs (v, rest, whole, here, more) =
      rw whole (grind (arith, get_member-cons key name d ms, has_all ms rest more))

  stands : (d : Data) (ms : Members) (fs : List Field) → AreFieldsOf ms fs → get_member key ms ≡ Some d → IsValueOf d (under fs)
  stands d no_members fs are is = absurd (cc)
  stands d (member name e ms) fs (v, rest, whole, here, more) is =
      let either : cond (bytes_eq key name) (Some e) (get_member key ms) ≡ Some d = sym (get_member-cons key name e ms) ∙ is in
      elim (cases_Bool (bytes_eq key name)) [
        | inl same ↦
            let value : Some e ≡ Some d = rw same at either in
            let one : e ≡ d = cc in
            rw (whole, same) (rw one at here)
        | inr apart ↦ rw (whole, apart) (stands d ms rest more (rw apart at either))
      ]

  pub has_key : (ms : Members) (fs : List Field) → AreFieldsOf (others ms) fs → is_own key ≡ false → has fs ≡ is_some (get_member key ms)
  has_key ms fs are other = grind (arith, has_all (others ms) fs are, others-at ms)

pub leaves_own : (document : Members) (given : List Field) → HandsOn document given → LeavesOwn given
leaves_own document given are key own =
    grind (arith, has_all key (others (info_in document)) given are, others-at key (info_in document))

-- ---- the export's own fields stand under other keys

module _ (key : List ℕ) where
  -- a key that is copied differs from each key that isn't
  none_of : (name : List ℕ) (given : List Field) → list_any (λ f. bytes_eq key f.0) given ≡ true →
      list_any (λ f. bytes_eq name f.0) given ≡ false → bytes_eq key name ≡ false
  none_of name given here none = grind (arith, bytes_eq-Decides key name)

  past_own : (s : Sheet) (h : History) (info : Members) (given : List Field) → is_own key ≡ false → list_any (λ f. bytes_eq key f.0) given ≡ true →
      at key (info_of s h info given) ≡ under key given
  past_own s h info given other here =
      grind (
        arith,
        append_assoc,
        none_of (codes "event") given here,
        none_of (codes "overs") given here,
      )

pub has_each_key : (s : Sheet) (h : History) (document : Members) (given : List Field) → HandsOn document given → HasEachKey s h document given
has_each_key s h document given are key d here other =
    let ms = info_in document in
    let held = has_key key ms given are other ∙ ap is_some here in
    subst (IsValueOf d) (sym (past_own key s h ms given other held)) (stands key d (others ms) given are (grind (arith, others-at key ms)))
