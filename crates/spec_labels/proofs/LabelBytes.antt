-- The bytes of a written label: digits, capital letters, dots and brackets.
use Rattle.std.proofs.Common.{◌≡◌, ◌≢◌, ℕ, zero, suc, ◌+◌, ◌-◌, ◌/◌, ◌%◌, ◌<◌, ◌≤◌, ◌==◌, Bool, true, false, cond, List, [], ◌∷◌, ◌++◌, length, refl, sym, ap, subst, lt-ltb, leb-true, arith, length-append}
use Rattle.std.specs.Prelude.{All, codes, decimal, nat_le, slice_index, flat_map}
use Rattle.std.specs.Str.{IsUtf8}
use Rattle.std.specs.Fmt.{digits, digits_onto, digit_glyph}
use Rattle.std.proofs.lemmas.List.Elements.{All-nil, All-cons, All-append, All-weaker}
use Rattle.std.proofs.lemmas.Str.{IsUtf8-from_ascii}
use Rattle.std.proofs.lemmas.Str.Ascii.{IsAscii-from_all}
use Rattle.spec_labels.specs.Labels.{LabelOf, label_text, step_text, step_letters}
use Rattle.spec_labels.proofs.LabelTexts.{step_letters-above, step_letters-below}

-- A byte that labels are written with: neither a space, an end of a line nor a `-`, `<` or `>`.
pub record IsLabelByte (byte : ℕ) : Type 0 where
  pub low : 40 ≤ byte
  pub high : byte ≤ 90
  pub dash : byte ≢ 45
  pub less : byte ≢ 60
  pub greater : byte ≢ 62

-- The byte of a digit.
pub record IsDigit (byte : ℕ) : Type 0 where
  pub low : 48 ≤ byte
  pub high : byte ≤ 57

digit : (byte : ℕ) → IsDigit byte → IsLabelByte byte
digit byte is =
    let low = is.low in
    let high = is.high in
    record {
      low = omega (arith, low);
      high = omega (arith, high);
      dash = λ e. omega (arith, e, low);
      less = λ e. omega (arith, e, high);
      greater = λ e. omega (arith, e, high);
    }

capital : (byte : ℕ) → 65 ≤ byte → byte ≤ 90 → IsLabelByte byte
capital byte low high = record {
  low = omega (arith, low);
  high = high;
  dash = λ e. omega (arith, e, low);
  less = λ e. omega (arith, e, low);
  greater = λ e. omega (arith, e, low);
}

alone : (byte : ℕ) → IsLabelByte byte → All IsLabelByte (byte ∷ [])
alone byte is = All-cons IsLabelByte byte [] is (All-nil IsLabelByte)

bracket : (byte : ℕ) → 40 ≤ byte → byte ≤ 41 → All IsLabelByte (byte ∷ [])
bracket byte low high = alone byte (record {
  low = low;
  high = omega (arith, high);
  dash = λ e. omega (arith, e, high);
  less = λ e. omega (arith, e, high);
  greater = λ e. omega (arith, e, high);
})

dot : All IsLabelByte (46 ∷ [])
dot = alone 46 (record { low = omega arith; high = omega arith; dash = λ e. omega (arith, e); less = λ e. omega (arith, e); greater = λ e. omega (arith, e) })

-- Numbers in decimal: digits, and at least one.
record IsNumber (text : List ℕ) : Type 0 where
  some : 0 < length text
  bytes : All IsDigit text

either : (b : Bool) (one other : List ℕ) → IsNumber one → IsNumber other → IsNumber (cond b one other)
either true one other first second = first
either false one other first second = second

glyph : (d : ℕ) → d < 10 → IsDigit (digit_glyph false d)
glyph d low = subst IsDigit (sym (ap (λ b. cond b (48 + d) (87 + d)) (lt-ltb d 10 low))) (record { low = omega arith; high = omega (arith, low) })

more : (n : ℕ) (text : List ℕ) → All IsDigit text → IsNumber (digit_glyph false (n % 10) ∷ text)
more n text all = record { some = omega arith; bytes = All-cons IsDigit (digit_glyph false (n % 10)) text (glyph (n % 10) (omega arith)) all }

onto : (k n : ℕ) (text : List ℕ) → IsNumber text → IsNumber (digits_onto k 10 false n text)
onto zero n text is = is
onto (suc k) n text is =
    let longer = digit_glyph false (n % 10) ∷ text in
    let one = more n text is.bytes in
    either (n / 10 == 0) longer (digits_onto k 10 false (n / 10) longer) one (onto k (n / 10) longer one)

last_digit : (k n : ℕ) → IsNumber (digits_onto (suc k) 10 false n [])
last_digit k n =
    let last = digit_glyph false (n % 10) ∷ [] in
    let one = more n [] (All-nil IsDigit) in
    either (n / 10 == 0) last (digits_onto k 10 false (n / 10) last) one (onto k (n / 10) last one)

number : (n : ℕ) → IsNumber (decimal n)
unfolding digits
number n = last_digit 63 n

pub decimal-digits : (n : ℕ) → All IsDigit (decimal n)
decimal-digits n = (number n).bytes

decimal-bytes : (n : ℕ) → All IsLabelByte (decimal n)
decimal-bytes n = All-weaker IsDigit IsLabelByte digit (decimal n) (decimal-digits n)

-- Steps and labels.
step-bytes : (step : ℕ) → All IsLabelByte (step_text step)
step-bytes step = by (step == 0) (nat_le step 24) refl
  where
    by : (none few : Bool) → nat_le step 24 ≡ few → All IsLabelByte (cond none (codes ".") (cond few (slice_index step_letters (step - 1) ∷ []) (codes "(" ++ decimal step ++ codes ")")))
    by true few is = dot
    by false true is =
        let low : step ≤ 24 = leb-true step 24 is in
        let place : step - 1 < 24 = omega (arith, low) in
        let letter = slice_index step_letters (step - 1) in
        alone letter (capital letter (step_letters-above (step - 1) place) (step_letters-below (step - 1) place))
    by false false is =
        All-append IsLabelByte (codes "(" ++ decimal step) (codes ")")
        (All-append IsLabelByte (codes "(") (decimal step) (bracket 40 (omega arith) (omega arith)) (decimal-bytes step)) (bracket 41 (omega arith) (omega arith))

steps-bytes : (path : List ℕ) → All IsLabelByte (flat_map step_text path)
steps-bytes [] = All-nil IsLabelByte
steps-bytes (step ∷ path) = All-append IsLabelByte (step_text step) (flat_map step_text path) (step-bytes step) (steps-bytes path)

pub label-bytes : (it : LabelOf) → All IsLabelByte (label_text it)
label-bytes it = All-append IsLabelByte (decimal it.number) (flat_map step_text it.path) (decimal-bytes it.number) (steps-bytes it.path)

pub label-some : (it : LabelOf) → 0 < length (label_text it)
label-some it =
    let size = length-append (decimal it.number) (flat_map step_text it.path) in
    let some = (number it.number).some in
    omega (arith, size, some)

pub label-utf8 : (it : LabelOf) → IsUtf8 (label_text it)
label-utf8 it =
    IsUtf8-from_ascii (label_text it)
    (IsAscii-from_all (label_text it) (All-weaker IsLabelByte (λ b. b < 128) (λ b is. let high = is.high in omega (arith, high)) (label_text it) (label-bytes it)))
