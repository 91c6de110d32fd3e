use Rattle.std.proofs.Common.{◌≡◌, List, ℕ, take, drop, ap, sym, ◌∙◌, subst, leb-true, arith}
use Rattle.std.specs.Prelude.{nat_le}
use Rattle.std.specs.Char.{is_ascii_digit}
use Rattle.std.specs.List.{prefix_len}
use Rattle.std.specs.Str.Parse.{AllDigits, digits_value}
use Rattle.sp_labels.proofs.Digits.{is_decimal, front-AllDigits, no-decimal, past-limit, decimal-front, some-if, none-if}
use Rattle.sp_labels.proofs.reading.first_number.Goals as goal

-- The digits that were cut off are those at the front.
digits-are : (text digits : List ℕ) (count : ℕ) → digits ≡ take count text → count ≡ prefix_len is_ascii_digit text → digits ≡ take (prefix_len is_ascii_digit text) text
digits-are text digits count cut is = cut ∙ ap (λ n. take n text) is

pub returns-then-not-is_decimal : goal.returns-then-not-is_decimal
returns-then-not-is_decimal c =
    let digits = digits-are c.args.text.now c.split_at.result.0.now c.digit_count.result c.split_at.ensures.front c.digit_count.ensures.value in
    no-decimal c.args.text.now c.args.limit (omega arith) (ap is_decimal (sym digits) ∙ sym c.if-not-is_decimal.ensures)

pub number_of-requires : goal.number_of-requires
number_of-requires c =
    let digits = digits-are c.args.text.now c.split_at.result.0.now c.digit_count.result c.split_at.ensures.front c.digit_count.ensures.value in
    subst (AllDigits 10) (sym digits) (front-AllDigits c.args.text.now)

pub returns-in_err-number_of : goal.returns-in_err-number_of
returns-in_err-number_of c =
    let digits = digits-are c.args.text.now c.split_at.result.0.now c.digit_count.result c.split_at.ensures.front c.digit_count.ensures.value in
    let value = digits_value 10 c.split_at.result.0.now in
    let past = none-if (nat_le value c.args.limit) value c.in_err-number_of.ensures in
    let none = past-limit c.args.text.now c.args.limit (omega arith) (ap (λ ds. nat_le (digits_value 10 ds) c.args.limit) (sym digits) ∙ past) in
    rw c.from_residual.ensures none

pub returns : goal.returns
returns c =
    let text = c.args.text.now in
    let digits = digits-are text c.split_at.result.0.now c.digit_count.result c.split_at.ensures.front c.digit_count.ensures.value in
    let value = digits_value 10 c.split_at.result.0.now in
    let (low, is) = some-if (nat_le value c.args.limit) value c.in_ok-number_of.field-0 c.in_ok-number_of.ensures in
    let number : c.in_ok-number_of.field-0 ≡ digits_value 10 (take (prefix_len is_ascii_digit text) text) = is ∙ ap (digits_value 10) digits in
    let rest : c.split_at.result.1.now ≡ drop (prefix_len is_ascii_digit text) text = c.split_at.ensures.back ∙ ap (λ n. drop n text) c.digit_count.ensures.value in
    let within = leb-true (digits_value 10 (take (prefix_len is_ascii_digit text) text)) c.args.limit (ap (λ ds. nat_le (digits_value 10 ds) c.args.limit) (sym digits) ∙ low) in
    let front = decimal-front text c.args.limit (omega arith) (ap is_decimal (sym digits) ∙ sym c.if-not-is_decimal.ensures) within in
    rw (number, rest) front
