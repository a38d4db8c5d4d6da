-- A TOML value read as a day or a revision has that JSON value: a text that is a day is the day's text.
use Rattle.std.proofs.Common.{◌≡◌, ℕ, ◌+◌, ◌-◌, ◌*◌, ◌/◌, ◌%◌, ◌<◌, Bool, true, false, cond, ◌==◌, nat_le}
use Rattle.std.proofs.Common.{pos, List, [], ◌∷◌, ◌++◌, Option, Some, None, option_map, option_and_then, get_or}
use Rattle.std.proofs.Common.{sym, ap, ◌∙◌, arith, append_assoc, append-nil, lt-ltb}
use Rattle.std.specs.Char.{is_ascii_digit}
use Rattle.std.specs.Fmt.{decimal}
use Rattle.std.proofs.lemmas.Bool.Decides.{nat_tests}
use Rattle.std.proofs.lemmas.Option.{cond_some, none-some, option_and_then_some}
use Rattle.toml_datetime.specs.declared.datetime.{Date.Date, Time.Time, Datetime.Datetime}
use Rattle.toml_datetime.specs.Valid.{is_valid_date}
use Rattle.toml_datetime.specs.Parse.{after_byte, after_date, colon, dash, full_date}
use Rattle.toml_datetime.specs.Parse.{parse_datetime, partial_time, two_digits, whole}
use Rattle.toml_datetime.specs.Text.{date_text, datetime_text, two_wide}
use Rattle.toml.specs.Data as toml
use Rattle.toml.specs.Data.{Data}
use Rattle.json.specs.Json.{string, number}
use Rattle.json_fields.specs.Values.{number_value}
use Rattle.export.specs.Given.{IsValueOf}
use Rattle.sheet_check.specs.Handed.{local_date, day_of, revision_of}

digits_back : (a b : ℕ) → is_ascii_digit a ≡ true → is_ascii_digit b ≡ true
    → (10 * (a - 48) + (b - 48) < 100) × (two_wide (10 * (a - 48) + (b - 48)) ≡ a ∷ b ∷ [])
unfolding two_wide
digits_back a b ha hb =
    let tens : (48 < a + 1) × (a < 58) = (grind (arith, nat_tests), grind (arith, nat_tests)) in
    let ones : (48 < b + 1) × (b < 58) = (grind (arith, nat_tests), grind (arith, nat_tests)) in
    let small : 10 * (a - 48) + (b - 48) < 100 = omega (arith, tens, ones) in
    let first : 48 + (10 * (a - 48) + (b - 48)) / 10 ≡ a = omega (arith, tens, ones) in
    let second : 48 + (10 * (a - 48) + (b - 48)) % 10 ≡ b = omega (arith, tens, ones) in
    (small, rw (lt-ltb _ 100 small, first, second))

two_back : (text : List ℕ) (p : ℕ × List ℕ) → two_digits text ≡ Some p → (p.0 < 100) × (text ≡ two_wide p.0 ++ p.1)
unfolding two_digits
two_back (a ∷ b ∷ rest) p e = grind (arith, digits_back a b)
two_back text p e = absurd (none-some p e)

after_back : (byte : ℕ) (text rest : List ℕ) → after_byte byte text ≡ Some rest → text ≡ byte ∷ rest
after_back byte text rest e = grind (arith, nat_tests)

marked_back : (text : List ℕ) (p : ℕ × List ℕ) → option_and_then two_digits (after_byte dash text) ≡ Some p → text ≡ dash ∷ two_wide p.0 ++ p.1
marked_back text p e = option_and_then_some two_digits (after_byte dash text) p e λ rest behind read.
    after_back dash text rest behind ∙ ap (λ ds. dash ∷ ds) (two_back rest p read).1

in_a_row : (century year month day rest : List ℕ)
    → century ++ (year ++ (dash ∷ month ++ (dash ∷ day ++ rest))) ≡ (century ++ (year ++ (dash ∷ month ++ dash ∷ day))) ++ rest
in_a_row century year month day rest = simp append_assoc

full_date_back : (text : List ℕ) (p : Date × List ℕ) → full_date text ≡ Some p → text ≡ date_text p.0 ++ p.1
unfolding full_date date_text
full_date_back text p e =
    option_and_then_some _ (two_digits text) p e λ century is₁ e₁.
    option_and_then_some _ (two_digits century.1) p e₁ λ year is₂ e₂.
    option_and_then_some _ (option_and_then two_digits (after_byte 45 year.1)) p e₂ λ month is₃ e₃.
    option_and_then_some _ (option_and_then two_digits (after_byte 45 month.1)) p e₃ λ day is₄ e₄.
    let date : Date = record { year = 100 * century.0 + year.0; month = month.0; day = day.0 } in
    let (valid, same) = cond_some (is_valid_date date) (date, day.1) p e₄ in
    let (small, behind) = two_back century.1 year is₂ in
    let hundreds : (100 * century.0 + year.0) / 100 ≡ century.0 = omega (arith, small) in
    let units : (100 * century.0 + year.0) % 100 ≡ year.0 = omega (arith, small) in
    rw (← same, hundreds, units, (two_back text century is₁).1, behind, marked_back year.1 month is₃, marked_back month.1 day is₄) (in_a_row (two_wide century.0) (two_wide year.0) (two_wide month.0) (two_wide day.0) day.1)

-- ---- a date-time that is only a day

after_day : (d : Date) (more : List ℕ) (dt : Datetime) (day : Date) → after_date d more ≡ Some dt → local_date dt ≡ Some day → (more ≡ []) × (d ≡ day)
unfolding after_date
after_day d more dt day e is = grind arith

parsed_day : (b : Bool) (o : Option Time) (text : List ℕ) (dt : Datetime) (day : Date)
    → cond b (option_map (λ t. record { date = None; time = Some t; offset = None }) o)
    (option_and_then (λ date. after_date date.0 date.1) (full_date text)) ≡ Some dt
    → local_date dt ≡ Some day → text ≡ date_text day
parsed_day true o text dt day e is = grind arith
parsed_day false o text dt day e is = option_and_then_some _ (full_date text) dt e λ p read rest.
    let (none, same) = after_day p.0 p.1 dt day rest is in
    full_date_back text p read ∙ (ap (λ ds. date_text p.0 ++ ds) none ∙ (append-nil (date_text p.0) ∙ ap date_text same))

day_text : (text : List ℕ) (day : Date) → day_of (toml.string text) ≡ Some day → text ≡ date_text day
unfolding parse_datetime
day_text text day e = option_and_then_some local_date (parse_datetime text) day e λ dt parsed is.
    parsed_day (get_or text 2 0 == colon) (whole (partial_time text)) text dt day parsed is

-- ---- the values

pub value_of_day : (d : Data) (day : Date) → day_of d ≡ Some day → IsValueOf d (string (date_text day))
unfolding datetime_text
value_of_day (toml.string text) day e = ap string (sym (day_text text day e))
value_of_day (toml.datetime dt) day e = grind (arith, append-nil)
value_of_day d day e = absurd (none-some day e)

pub value_of_revision : (d : Data) (n : ℕ) → revision_of d ≡ Some n → IsValueOf d (number_value n)
value_of_revision (toml.integer (pos m)) n e = ap (λ k. number (decimal k)) (sym (cond_some (nat_le 1 m) m n e).1)
value_of_revision d n e = absurd (none-some n e)
