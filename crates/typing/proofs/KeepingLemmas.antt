-- A terminal that is kept, and all that it heard.
use Rattle.std.proofs.Common.{◌≡◌, ◌++◌, ℕ, Bool, true, List, [], ◌∷◌, Option, refl, sym, ap, ◌∙◌, subst}
use Rattle.std.specs.Io.KnownBytes.{Appends}
use Rattle.streams.proofs.Appending.{appends_both, appends_none}
use Rattle.typing.specs.Courses.{Heard, bytes_of, handed_by, handed_from, next, pieces_by, pieces_from, standing_behind}
use Rattle.typing.specs.Terminals.{Standing}
use Rattle.typing.proofs.CourseLemmas.{bytes_more, handed_more, standing_more}

-- the terminal that began so, whether all was handed, and the desk's and the screen's bytes before and after
pub record IsKept (begun : Standing) (heard : List Heard) (s : Standing) (is_handed : Bool)
    (lines lines' screen screen' : Option (List ℕ)) : Type 0 where
  pub standing : s ≡ standing_behind begun heard
  pub handed : is_handed ≡ true → Appends lines lines' (handed_from begun heard)
  pub shown : Appends screen screen' (bytes_of (pieces_from begun heard))

pub begins : (begun : Standing) (heard : List Heard) (lines screen : Option (List ℕ)) → heard ≡ [] → IsKept begun heard begun true lines lines screen screen
begins begun heard lines screen e = subst (λ (h : List Heard). IsKept begun h begun true lines lines screen screen) (sym e)
    (record { standing = refl; handed = λ _. appends_none lines; shown = appends_none screen })

pub goes_on : (begun : Standing) (heard heard' : List Heard) (x : Heard) (s s' : Standing) (h h' : Bool) (o p p' q r r' : Option (List ℕ)) →
    IsKept begun heard s h o p q r → heard' ≡ heard ++ x ∷ [] → s' ≡ next s x →
    (h' ≡ true → (h ≡ true) × Appends p p' (handed_by s x)) → Appends r r' (bytes_of (pieces_by s x)) →
    IsKept begun heard' s' h' o p' q r'
goes_on begun heard heard' x s s' h h' o p p' q r r' k e n hands shows =
    let handed_so : handed_from begun heard ++ handed_by s x ≡ handed_from begun (heard ++ x ∷ []) =
    ap (λ t. handed_from begun heard ++ handed_by t x) k.standing ∙ sym (handed_more begun heard x) in
    let shown_so : bytes_of (pieces_from begun heard) ++ bytes_of (pieces_by s x) ≡ bytes_of (pieces_from begun (heard ++ x ∷ [])) =
    ap (λ t. bytes_of (pieces_from begun heard) ++ bytes_of (pieces_by t x)) k.standing ∙ sym (bytes_more begun heard x) in
    subst (λ (hs : List Heard). IsKept begun hs s' h' o p' q r') (sym e) (record {
      standing = n ∙ (ap (λ t. next t x) k.standing ∙ sym (standing_more begun heard x));
      handed = λ y. subst (λ (u : List ℕ). Appends o p' u) handed_so (appends_both o p p' _ _ (k.handed (hands y).0) (hands y).1);
      shown = subst (λ (u : List ℕ). Appends q r' u) shown_so (appends_both q r r' _ _ k.shown shows);
    })
