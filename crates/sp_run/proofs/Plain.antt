-- The texts of replies that tell what was done are short, and stand in JSON as they are.
use Rattle.std.proofs.Common.{◌≡◌, ℕ, zero, suc, ◌+◌, ◌-◌, ◌/◌, ◌%◌, ◌≤◌, ◌==◌, ◌&&◌, Bool, true, false, cond, inl, inr, List, [], ◌∷◌, ◌++◌, length, nat_lt, nat_le, refl, ap₂, ◌∙◌, arith, decimal, length-append}
use Rattle.std.specs.Prelude.{codes, slice_index_or, ⊤}
use Rattle.std.proofs.lemmas.List.Concat.{flat_map-append}
use Rattle.std.specs.Fmt.{digits, digits_onto, digit_glyph}
use Rattle.std.specs.List.{list_all}
use Rattle.std.proofs.lemmas.Bool.{and_parts, or_cases, leb-true, ltb-true, ltb-false, eqb-true}
use Rattle.json.proofs.OnLiterals.{json_on_literals}
use Rattle.json.proofs.Printed.Strings.{escape_byte_plain}
use Rattle.json.specs.Print.{escape_byte, escape}
use Rattle.spec_text.specs.Lines.{LineState}
use Rattle.spec_sheets.specs.Rounds.{ordinal, round_colour, round_colours, round_name}
use Rattle.spec_records.specs.Fields.{is_hex_digit}
use Rattle.spec_records.specs.RecordFile.{digest_of}
use Rattle.spec_records.proofs.Digests.{digest_of-is_digest}
use Rattle.sp_wire.specs.Done.{IsPlain}

-- A text of at most so many bytes that stands in JSON as it is.
record Short (most : ℕ) (text : List ℕ) : Type 0 where
  same : escape text ≡ text
  low : length text ≤ most

short-none : Short 0 []
short-none = record { same = refl; low = omega arith }

short-byte : (most b : ℕ) (text : List ℕ) → escape_byte b ≡ b ∷ [] → Short most text → Short (most + 1) (b ∷ text)
short-byte most b text plain it = record { same = ap₂ (λ xs ys. xs ++ ys) plain it.same; low = let low = it.low in omega (arith, low) }

short-more : (most more : ℕ) (text : List ℕ) → most ≤ more → Short most text → Short more text
short-more most more text le it = record { same = it.same; low = let low = it.low in omega (arith, low, le) }

short-append : (n m : ℕ) (xs ys : List ℕ) → Short n xs → Short m ys → Short (n + m) (xs ++ ys)
short-append n m [] ys one two = short-more m (n + m) ys (omega arith) two
short-append n m (x ∷ xs) ys one two = record {
  same = joined (x ∷ xs) one.same;
  low = let whole = length-append (x ∷ xs) ys in let low = one.low in let few = two.low in omega (arith, whole, low, few);
}
  where
    joined : (zs : List ℕ) → escape zs ≡ zs → escape (zs ++ ys) ≡ zs ++ ys
    joined zs same = flat_map-append escape_byte zs ys ∙ ap₂ (λ a b. a ++ b) same two.same

-- ---- numbers

digit-byte : (x : ℕ) → 48 ≤ x → x ≤ 57 → escape_byte x ≡ x ∷ []
digit-byte x low high = escape_byte_plain x (λ e. absurd (omega (arith, e, low))) (λ e. absurd (omega (arith, e, high))) (omega (arith, low))

letter-byte : (x : ℕ) → 97 ≤ x → escape_byte x ≡ x ∷ []
letter-byte x low = escape_byte_plain x (λ e. absurd (omega (arith, e, low))) (λ e. absurd (omega (arith, e, low))) (omega (arith, low))

plain-glyph : (d : ℕ) → escape_byte (digit_glyph false d) ≡ digit_glyph false d ∷ []
plain-glyph d = by (nat_lt d 10) refl
  where
    by : (b : Bool) → nat_lt d 10 ≡ b → escape_byte (cond b (48 + d) (87 + d)) ≡ cond b (48 + d) (87 + d) ∷ []
    by true is = digit-byte (48 + d) (omega arith) (let low = ltb-true d 10 is in omega (arith, low))
    by false is = letter-byte (87 + d) (let low = ltb-false d 10 is in omega (arith, low))

short-digits_onto : (k n most : ℕ) (acc : List ℕ) → Short most acc → Short (k + most) (digits_onto k 10 false n acc)
short-digits_onto zero n most acc it = short-more most (0 + most) acc (omega arith) it
short-digits_onto (suc k) n most acc it =
    let more = short-byte most (digit_glyph false (n % 10)) acc (plain-glyph (n % 10)) it in
    by (n / 10 == 0) more (short-digits_onto k (n / 10) (most + 1) (digit_glyph false (n % 10) ∷ acc) more)
  where
    by : (b : Bool) → Short (most + 1) (digit_glyph false (n % 10) ∷ acc) → Short (k + (most + 1)) (digits_onto k 10 false (n / 10) (digit_glyph false (n % 10) ∷ acc))
        → Short (suc k + most) (cond b (digit_glyph false (n % 10) ∷ acc) (digits_onto k 10 false (n / 10) (digit_glyph false (n % 10) ∷ acc)))
    by true one rest = short-more (most + 1) (suc k + most) _ (omega arith) one
    by false one rest = short-more (k + (most + 1)) (suc k + most) _ (omega arith) rest

short-decimal : (n : ℕ) → Short 64 (decimal n)
unfolding digits
short-decimal n = short-digits_onto 64 n 0 [] short-none

-- ---- the names of rounds

short-ending : (two three : Bool) → Short 2 (cond two (codes "nd") (cond three (codes "rd") (codes "th")))
unfolding json_on_literals
short-ending true three = record { same = refl; low = omega arith }
short-ending false true = record { same = refl; low = omega arith }
short-ending false false = record { same = refl; low = omega arith }

short-ordinal : (n : ℕ) → Short 66 (ordinal n)
short-ordinal n = short-append 64 2 (decimal n) _ (short-decimal n) (short-ending (n == 2) (n == 3))

abbrev AllShort : List (List ℕ) → Type 0
AllShort [] = ⊤
AllShort (text ∷ texts) = Short 9 text × AllShort texts

short-at : (texts : List (List ℕ)) (i : ℕ) → AllShort texts → Short 9 (slice_index_or texts i [])
short-at [] i all = short-more 0 9 [] (omega arith) short-none
short-at (text ∷ texts) zero all = all.0
short-at (text ∷ texts) (suc i) all = short-at texts i all.1

colours : AllShort round_colours
unfolding json_on_literals
colours = (
  record { same = refl; low = omega arith },
  (
    record { same = refl; low = omega arith },
    (
      record { same = refl; low = omega arith },
      (
        record { same = refl; low = omega arith },
        (
          record { same = refl; low = omega arith },
          (
            record { same = refl; low = omega arith },
            (
              record { same = refl; low = omega arith },
              (
                record { same = refl; low = omega arith },
                (
                  record { same = refl; low = omega arith },
                  (record { same = refl; low = omega arith }, tt),
                ),
              ),
            ),
          ),
        ),
      ),
    ),
  ),
)

short-colour : (round : ℕ) → Short 9 (round_colour round)
short-colour round = short-at round_colours round colours

short-space : Short 1 (codes " ")
unfolding json_on_literals
short-space = record { same = refl; low = omega arith }

pub plain-round : (round : ℕ) → IsPlain (round_name round)
plain-round round = by (nat_le round 9)
  where
    by : (b : Bool) → IsPlain (cond b (round_colour round) (ordinal ((round - 1) / 9 + 1) ++ codes " " ++ round_colour ((round - 1) % 9 + 1)))
    by true = let it = short-colour round in record { same = it.same; short = let low = it.low in omega (arith, low) }
    by false =
        let it = short-append 67 9 _ _ (short-append 66 1 _ _ (short-ordinal ((round - 1) / 9 + 1)) short-space) (short-colour ((round - 1) % 9 + 1)) in
        record { same = it.same; short = let low = it.low in omega (arith, low) }

-- ---- digests

hex-byte : (x : ℕ) → is_hex_digit x ≡ true → escape_byte x ≡ x ∷ []
hex-byte x is = elim (or_cases (nat_le 48 x && nat_le x 57) (nat_le 97 x && nat_le x 102) is) [
  | inl e ↦ let parts = and_parts (nat_le 48 x) (nat_le x 57) e in digit-byte x (leb-true 48 x parts.0) (leb-true x 57 parts.1)
  | inr e ↦ let parts = and_parts (nat_le 97 x) (nat_le x 102) e in letter-byte x (leb-true 97 x parts.0)
]

hex-same : (text : List ℕ) → list_all is_hex_digit text ≡ true → escape text ≡ text
hex-same [] is = refl
hex-same (x ∷ text) is = let parts = and_parts (is_hex_digit x) (list_all is_hex_digit text) is in ap₂ (λ xs ys. xs ++ ys) (hex-byte x parts.0) (hex-same text parts.1)

pub plain-digest : (lines : List LineState) → IsPlain (digest_of lines)
plain-digest lines =
    let digest = digest_of lines in
    let parts = and_parts (length digest == 64) (list_all is_hex_digit digest) (digest_of-is_digest lines) in
    let long = eqb-true (length digest) 64 parts.0 in record { same = hex-same digest parts.1; short = omega (arith, long) }
