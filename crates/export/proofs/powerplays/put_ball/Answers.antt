use Rattle.std.proofs.Common.{◌≡◌, ℕ, zero, suc, ◌^◌, ◌<◌, true, false, [], ◌∷◌, ◌++◌, length, get_or, decimal, codes, refl, sym, ◌∙◌, subst, arith, append_assoc, append-nil}
use Rattle.std.proofs.lemmas.Fmt.{decimal_digit, decimal_is_IsNumeral, first_decimal}
use Rattle.fast_float.specs.Text.{Parts}
use Rattle.json.proofs.Printed.Floats.{IsNumber-plain}
use Rattle.json.specs.Print.{IsNumber}
use Rattle.export.proofs.powerplays.put_ball.Goals as goal

-- a number that begins with a zero digit has no other digit
zero_alone : (n : ℕ) → n < 2 ^ 64 → get_or (decimal n) 0 0 ≡ 48 → length (decimal n) ≡ 1
zero_alone zero h first = rw (decimal_digit 0 (omega arith))
zero_alone (suc n) h first = absurd (omega (arith, first_decimal (suc n) (omega arith) h))

IsNumber-pointed : (n m : ℕ) → n < 2 ^ 64 → m < 2 ^ 64 → IsNumber ((decimal n ++ codes ".") ++ decimal m)
IsNumber-pointed n m h k =
    let whole = (decimal_is_IsNumeral n h).0 in
    let behind = (decimal_is_IsNumeral m k).0 in
    let p : Parts = record {
      whole = decimal n;
      point = true;
      fraction = decimal m;
      exponent_negative = false;
      exponent = [];
      len = length (decimal n ++ 46 ∷ decimal m);
    } in
    IsNumber-plain _ (
      false,
      p,
      simp (append_assoc, append-nil),
      record {
        well_formed = record {
          whole_digits = whole.1;
          fraction_digits = behind.1;
          exponent_digits = tt;
          no_point = λ e. absurd (cc);
          no_exponent = λ e. refl;
          len_is = simp append-nil;
        };
        whole = whole.0;
        no_leading_zero = zero_alone n h;
        fraction = λ e. behind.0;
        marked = λ e. absurd (cc);
      },
    )

pub token-requires-2 : goal.token-requires-2
token-requires-2 c =
    let numbered = IsNumber-pointed c.from.result c.from-2.result (omega (arith, c.from.ensures)) (omega (arith, c.from-2.ensures)) in
    subst IsNumber (sym (c.as_str.ensures.value ∙ c.in_ok-text.ensures)) numbered
