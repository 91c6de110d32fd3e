-- The digits at the front of a text, and their value.
use Rattle.std.proofs.Common.{◌≡◌, ℕ, zero, suc, ◌+◌, ◌-◌, ◌*◌, ◌^◌, ◌<◌, ◌≤◌, ◌&&◌, ◌==◌, Bool, true, false, not, cond, List, [], ◌∷◌, ◌++◌, length, take, drop, get_or, ⊎_elim, refl, ap, ap₂, sym, ◌∙◌, subst, eq-eqb, ltb-true, ltb-false, lt-ltb, leb-true, le-leb, ne_eqb, take-append-drop, arith}
use Rattle.std.specs.Prelude.{Some, None, unwrap_or, decimal, nat_lt, nat_le, slice_index}
use Rattle.std.specs.Char.{is_ascii_digit, digit_value}
use Rattle.std.specs.Int.{IsInRange}
use Rattle.std.specs.List.{prefix_len}
use Rattle.std.specs.Str.Parse.{AllDigits, digits_value, digits_value_after}
use Rattle.std.proofs.lemmas.Bool.{cases_Bool, and_parts}
use Rattle.std.proofs.lemmas.Fmt.{decimal_is_IsNumeral, decimal_nonempty, decimal_digit, first_decimal, decimal-digits_value}
use Rattle.std.proofs.lemmas.List.{take_at, drop_at, drop_more, drop_all}
use Rattle.std.proofs.lemmas.List.Sums.{prefix_len_stops}
use Rattle.std.proofs.lemmas.Str.{digit_value_digit}
use Rattle.std.proofs.lemmas.Str.Parse.{digit_at, numerals_by_value, tells_digits}
use Rattle.spec_labels.specs.LabelReading.{BeginsNoDigit}
use Rattle.spec_labels.proofs.LabelTexts.{prefix_len-digits}
use Rattle.sp_labels.specs.Fronts.{NumberFront}

-- The digits at the front are digits.
pub front-AllDigits : (text : List ℕ) → AllDigits 10 (take (prefix_len is_ascii_digit text) text)
front-AllDigits [] = tt
front-AllDigits (byte ∷ text) = by (is_ascii_digit byte) refl (front-AllDigits text)
  where
    value : is_ascii_digit byte ≡ true → digit_value byte < 10
    value is =
        let (low, high) = and_parts _ _ is in
        let above : 48 ≤ byte = leb-true 48 byte low in
        let below : byte ≤ 57 = leb-true byte 57 high in
        omega (arith, digit_value_digit byte (above, below), below)

    by : (b : Bool) → is_ascii_digit byte ≡ b → AllDigits 10 (take (prefix_len is_ascii_digit text) text) → AllDigits 10 (take (cond b (1 + prefix_len is_ascii_digit text) 0) (byte ∷ text))
    by true is rest =
        let count : 1 + prefix_len is_ascii_digit text ≡ suc (prefix_len is_ascii_digit text) = omega arith in
        subst (λ n. AllDigits 10 (take n (byte ∷ text))) (sym count) (value is, rest)
    by false is rest = tt

-- The value of digits is no less than that of their front.
value-grows : (n : ℕ) (ds : List ℕ) → n ≤ digits_value_after 10 n ds
value-grows n [] = omega arith
value-grows n (c ∷ cs) = omega (arith, value-grows (n * 10 + digit_value c) cs)

-- The value so far, and the digits that are left.
pub record ValueSoFar (digits : List ℕ) (number at : ℕ) : Type 0 where
  pub value : digits_value_after 10 number (drop at digits) ≡ digits_value 10 digits

-- One digit more.
pub value-step : {digits : List ℕ} {number at : ℕ} (value : ℕ) → value ≡ get_or digits at 0 - 48 → AllDigits 10 digits → at < length digits → ValueSoFar digits number at
    → ValueSoFar digits (number * 10 + value) (at + 1)
value-step {digits} {number} {at} value here all less sofar =
    let digit = get_or digits at 0 in
    let range : IsInRange 48 57 digit = digit_at digits at all less in
    let is : digit_value digit ≡ value = omega (arith, digit_value_digit digit range, here) in
    record {
      value = ap (λ d. digits_value_after 10 (number * 10 + d) (drop (at + 1) digits)) (sym is)
          ∙ sym (ap (digits_value_after 10 number) (drop_more digits at 0 less)) ∙ sofar.value;
    }

-- A number that is past the limit already stays past it.
pub value-past : (limit : ℕ) {digits : List ℕ} {number at : ℕ} → ValueSoFar digits number at → limit < number → nat_le (digits_value 10 digits) limit ≡ false
value-past limit {digits} {number} {at} sofar past =
    ⊎_elim
    (λ low. absurd (omega (arith, leb-true (digits_value 10 digits) limit low, value-grows number (drop at digits), sofar.value, past)))
    (λ other. other)
    (cases_Bool (nat_le (digits_value 10 digits) limit))

-- What stands at the front of a text that begins with a number.
pub front-is : {text rest : List ℕ} {limit number : ℕ} → limit < 2 ^ 64 → NumberFront text limit number rest
    → (take (prefix_len is_ascii_digit text) text ≡ decimal number) × (drop (prefix_len is_ascii_digit text) text ≡ rest)
front-is {text} {rest} {limit} {number} small front =
    let fits : number < 2 ^ 64 = omega (arith, front.low, small) in
    let numeral = decimal_is_IsNumeral number fits in
    let count : prefix_len is_ascii_digit text ≡ length (decimal number) =
    ap (prefix_len is_ascii_digit) (sym front.written) ∙ prefix_len-digits (decimal number) rest numeral.0.1 front.ends in (
      ap₂ (λ n t. take n t) count (sym front.written) ∙ take_at (decimal number) rest (length (decimal number)) refl,
      ap₂ (λ n t. drop n t) count (sym front.written) ∙ drop_at (decimal number) rest (length (decimal number)) refl,
    )

-- Digits as `decimal` writes them: there is one, and no leading zero.
abbrev pub is_decimal : List ℕ → Bool
is_decimal digits = nat_lt 0 (length digits) && not (nat_lt 1 (length digits) && slice_index digits 0 == 48)

and_false : (b : Bool) → not (b && false) ≡ true
and_false true = refl
and_false false = refl

decimal-is_decimal : (n : ℕ) → n < 2 ^ 64 → is_decimal (decimal n) ≡ true
decimal-is_decimal n small = ap₂ (λ a b. a && b) (lt-ltb 0 (length (decimal n)) (decimal_nonempty n small)) (no_zero n small)
  where
    no_zero : (n : ℕ) → n < 2 ^ 64 → not (nat_lt 1 (length (decimal n)) && slice_index (decimal n) 0 == 48) ≡ true
    no_zero zero small = ap (λ ds. not (nat_lt 1 (length ds) && slice_index ds 0 == 48)) (decimal_digit 0 (omega arith))
    no_zero (suc n) small =
        let above : 48 < slice_index (decimal (suc n)) 0 = first_decimal (suc n) (omega arith) small in
        let other : (slice_index (decimal (suc n)) 0 == 48) ≡ false = ne_eqb (slice_index (decimal (suc n)) 0) 48 (λ e. omega (arith, above, e)) in
        ap (λ b. not (nat_lt 1 (length (decimal (suc n))) && b)) other ∙ and_false (nat_lt 1 (length (decimal (suc n))))

-- Without such digits at the front there is no number.
pub no-decimal : (text : List ℕ) (limit : ℕ) → limit < 2 ^ 64 → is_decimal (take (prefix_len is_ascii_digit text) text) ≡ false
    → (number : ℕ) (rest : List ℕ) → NumberFront text limit number rest → ⊥
no-decimal text limit small none number rest front =
    let (digits, left) = front-is small front in
    let passes : is_decimal (take (prefix_len is_ascii_digit text) text) ≡ true = ap is_decimal digits ∙ decimal-is_decimal number (omega (arith, front.low, small)) in
    let no_more : true ≡ false = sym passes ∙ none in cc

-- With digits past the limit there is none either.
pub past-limit : (text : List ℕ) (limit : ℕ) → limit < 2 ^ 64 → nat_le (digits_value 10 (take (prefix_len is_ascii_digit text) text)) limit ≡ false
    → (number : ℕ) (rest : List ℕ) → NumberFront text limit number rest → ⊥
past-limit text limit small past number rest front =
    let (digits, left) = front-is small front in
    let fits : number < 2 ^ 64 = omega (arith, front.low, small) in
    let value : digits_value 10 (take (prefix_len is_ascii_digit text) text) ≡ number = ap (digits_value 10) digits ∙ (decimal_is_IsNumeral number fits).1 in
    let within : nat_le (digits_value 10 (take (prefix_len is_ascii_digit text) text)) limit ≡ true = ap (λ n. nat_le n limit) value ∙ le-leb number limit front.low in
    let no_more : true ≡ false = sym within ∙ past in cc

-- What `is_decimal` says.
decimal-parts : (digits : List ℕ) → is_decimal digits ≡ true → (0 < length digits) × (get_or digits 0 0 ≡ 48 → length digits ≡ 1)
decimal-parts digits is =
    let (some, plain) = and_parts _ _ is in
    let long : 0 < length digits = ltb-true 0 (length digits) some in (
      long,
      λ zero_first. ⊎_elim
          (λ more.
          let both : (nat_lt 1 (length digits) && slice_index digits 0 == 48) ≡ true = ap₂ (λ a b. a && b) more (eq-eqb (slice_index digits 0) 48 zero_first) in
          let no_more : false ≡ true = sym (ap not both) ∙ plain in cc)
          (λ one. omega (arith, long, ltb-false 1 (length digits) one))
          (cases_Bool (nat_lt 1 (length digits))),
    )

-- Else the front is the number that the digits write.
pub decimal-front : (text : List ℕ) (limit : ℕ) → limit < 2 ^ 64 → is_decimal (take (prefix_len is_ascii_digit text) text) ≡ true
    → digits_value 10 (take (prefix_len is_ascii_digit text) text) ≤ limit
    → NumberFront text limit (digits_value 10 (take (prefix_len is_ascii_digit text) text)) (drop (prefix_len is_ascii_digit text) text)
decimal-front text limit small is low =
    let count = prefix_len is_ascii_digit text in
    let digits = take count text in
    let (some, plain) = decimal-parts digits is in
    record {
      low = low;
      written = ap (λ ds. ds ++ drop count text)
          (decimal-digits_value (numerals_by_value (AllDigits 10) tells_digits) digits (front-AllDigits text) some plain (omega (arith, low, small)))
          ∙ take-append-drop count text;
      ends = ⊎_elim stops ends_too (cases_Bool (nat_lt count (length text)));
    }
  where
    stops : nat_lt (prefix_len is_ascii_digit text) (length text) ≡ true → BeginsNoDigit (drop (prefix_len is_ascii_digit text) text)
    stops less =
        let count = prefix_len is_ascii_digit text in
        let within : count < length text = ltb-true count (length text) less in
        record { none = ap (λ b. is_ascii_digit b) (ap (λ (t : List ℕ). get_or t 0 0) (drop_more text count 0 within)) ∙ prefix_len_stops is_ascii_digit text 0 within }

    ends_too : nat_lt (prefix_len is_ascii_digit text) (length text) ≡ false → BeginsNoDigit (drop (prefix_len is_ascii_digit text) text)
    ends_too all =
        let count = prefix_len is_ascii_digit text in
        record { none = ap (λ (t : List ℕ). is_ascii_digit (get_or t 0 0)) (drop_all count text (ltb-false count (length text) all)) }

-- What an answer under a condition says of the condition.
pub some-if : (b : Bool) (x y : ℕ) → Some y ≡ cond b (Some x) None → (b ≡ true) × (y ≡ x)
some-if true x y h = (refl, ap (λ o. unwrap_or o y) h)
some-if false x y h = cc

pub none-if : (b : Bool) (x : ℕ) → None ≡ cond b (Some x) None → b ≡ false
none-if true x h = cc
none-if false x h = refl
