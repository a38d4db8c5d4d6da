-- The values under `meta`.
use Rattle.std.proofs.Common.{◌≡◌, true, Option, Some, None, is_some, option_and_then, codes, refl, sym, ap, ◌∙◌, arith, subst}
use Rattle.std.specs.Prelude.{unwrap_or}
use Rattle.std.proofs.lemmas.Bool.{true≢false}
use Rattle.toml.specs.Data.{Members}
use Rattle.json_fields.specs.Values.{number_value}
use Rattle.sheet_check.specs.Handed.{day_of, is_fine, is_fine_document, meta_at, revision_of}
use Rattle.export.specs.Given.{IsValueOf}
use Rattle.export.specs.Laws.{TellsDay, TellsOfFile, in_meta}
use Rattle.export.specs.Meta.{revision_in}
use Rattle.export.proofs.DayLemmas.{value_of_day, value_of_revision}

-- the value of an option that has one
told : {A : Type 0} (o : Option A) → is_some o ≡ true → (x : A) × (o ≡ Some x)
told None e = absurd (true≢false (sym e))
told (Some x) e = (x, refl)

fine_parts : (document : Members) → is_fine_document document ≡ true
    → (is_fine day_of (meta_at (codes "created") document) ≡ true) × (is_fine revision_of (meta_at (codes "revision") document) ≡ true)
fine_parts document fine = (grind arith, grind arith)

at_revision : (document : Members) → in_meta (codes "revision") document ≡ number_value (revision_in document)
at_revision document = grind arith

pub tells_day : (document : Members) → is_fine_document document ≡ true → TellsDay document
tells_day document fine d here =
    let (day, is) = told (day_of d) (sym (ap (is_fine day_of) here) ∙ (fine_parts document fine).0) in
    (day, is, rw (ap (option_and_then day_of) here ∙ is))

pub tells_of_file : (document : Members) → is_fine_document document ≡ true → TellsOfFile document
tells_of_file document fine = record {
  created = λ d here.
      let (day, is, stands) = tells_day document fine d here in
      subst (IsValueOf d) (sym stands) (value_of_day d day is);
  revision = λ d here.
      let (n, is) = told (revision_of d) (sym (ap (is_fine revision_of) here) ∙ (fine_parts document fine).1) in
      let value = ap (λ o. unwrap_or (option_and_then revision_of o) 1) here ∙ ap (λ o. unwrap_or o 1) is in
      subst (IsValueOf d) (sym (at_revision document ∙ ap number_value value)) (value_of_revision d n is);
  undated = λ none. rw (ap (option_and_then day_of) none);
  first = λ none.
      at_revision document ∙ ap (λ o. number_value (unwrap_or (option_and_then revision_of o) 1)) none;
}
