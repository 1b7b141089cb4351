-- A number that is printed is read back.
use Rattle.std.proofs.Common.{◌≡◌, ℕ, ◌<◌, ◌≤◌, ◌^◌, true, Some, arith, refl, rules}
use Rattle.std.specs.Prelude.{decimal}
use Rattle.std.specs.Char.{is_ascii_digit}
use Rattle.std.specs.List.{list_all}
use Rattle.std.specs.Str.Parse.{digits_value}
use Rattle.std.proofs.lemmas.Fmt.{decimal_nonempty, digits_decimal, digits_value-decimal, length-decimal-le}
use Rattle.std.proofs.lemmas.Grind.{common_steps}
use Rattle.std.proofs.lemmas.Str.Parse.{IsNumeralModel, numerals_by_value}
use Rattle.mq_base.specs.Text.{is_number, number_of}

-- decimal digits write a number as its value
pub decimals : IsNumeralModel (λ ds. list_all is_ascii_digit ds ≡ true) (digits_value 10)
decimals = numerals_by_value _ (search rules)

pub decimal-digits : (n : ℕ) → n < 2 ^ 64 → list_all is_ascii_digit (decimal n) ≡ true
decimal-digits n fits = digits_decimal decimals n fits

-- a number in decimal is a number, with its value
pub number_again : (n limit : ℕ) → n ≤ limit → limit < 10 ^ 19 → (is_number (decimal n) limit ≡ true) × (digits_value 10 (decimal n) ≡ n)
number_again n limit h small =
    let fits : n < 2 ^ 64 = omega arith in
    let value = digits_value-decimal decimals n fits in
    let digits = digits_decimal decimals n fits in
    let short = length-decimal-le 19 n (omega arith) (omega arith) fits in
    let some = decimal_nonempty n fits in
    (grind (arith, common_steps, value, digits, short, some), value)

pub number_of-decimal : (n limit : ℕ) → n ≤ limit → limit < 10 ^ 19 → number_of (decimal n) limit ≡ Some n
number_of-decimal n limit h small =
    let (number, value) = number_again n limit h small in
    rw (number, value) refl
