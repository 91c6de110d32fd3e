-- The bytes of the names of rounds: letters, digits and spaces.
use Rattle.std.proofs.Common.{◌≡◌, ◌≢◌, ℕ, ◌+◌, ◌-◌, ◌/◌, ◌%◌, ◌<◌, ◌≤◌, ◌==◌, ◌&&◌, Bool, true, false, cond, List, [], ◌∷◌, ◌++◌, length, refl, leb-true, ltb-true, arith, length-append}
use Rattle.std.specs.Prelude.{All, codes, decimal, nat_le, nat_lt}
use Rattle.std.specs.List.{list_all}
use Rattle.std.proofs.lemmas.Bool.{and_parts}
use Rattle.std.proofs.lemmas.List.Elements.{All-nil, All-cons, All-append, All-weaker}
use Rattle.std.proofs.lemmas.List.Sums.{AllPass-from_list_all}
use Rattle.spec_labels.proofs.LabelBytes.{IsDigit, decimal-digits}
use Rattle.spec_sheets.specs.Rounds.{ordinal, round_colour, round_colours, round_name}

-- A byte that the names of rounds are written with: neither an end of a line nor a full stop, `&`, `<` or `>`.
pub record IsRoundByte (byte : ℕ) : Type 0 where
  pub low : 32 ≤ byte
  pub high : byte ≤ 122
  pub ampersand : byte ≢ 38
  pub stop : byte ≢ 46
  pub less : byte ≢ 60
  pub greater : byte ≢ 62

digit : (byte : ℕ) → IsDigit byte → IsRoundByte byte
digit byte is =
    let low = is.low in
    let high = is.high in
    record {
      low = omega (arith, low);
      high = omega (arith, high);
      ampersand = λ e. omega (arith, e, low);
      stop = λ e. omega (arith, e, low);
      less = λ e. omega (arith, e, high);
      greater = λ e. omega (arith, e, high);
    }

abbrev is_letter : ℕ → Bool
is_letter byte = nat_le 65 byte && nat_le byte 122

letter : (byte : ℕ) → is_letter byte ≡ true → IsRoundByte byte
letter byte is =
    let (from, to) = and_parts (nat_le 65 byte) (nat_le byte 122) is in
    let low = leb-true 65 byte from in
    record {
      low = omega (arith, low);
      high = leb-true byte 122 to;
      ampersand = λ e. omega (arith, e, low);
      stop = λ e. omega (arith, e, low);
      less = λ e. omega (arith, e, low);
      greater = λ e. omega (arith, e, low);
    }

letters : (text : List ℕ) → list_all is_letter text ≡ true → All IsRoundByte text
letters text all = All-weaker (λ b. is_letter b ≡ true) IsRoundByte letter text (AllPass-from_list_all is_letter text all)

space : All IsRoundByte (32 ∷ [])
space =
    All-cons IsRoundByte 32 []
    (record { low = omega arith; high = omega arith; ampersand = λ e. omega (arith, e); stop = λ e. omega (arith, e); less = λ e. omega (arith, e); greater = λ e. omega (arith, e) })
    (All-nil IsRoundByte)

-- A text of such bytes that isn't empty.
pub record IsRoundName (text : List ℕ) : Type 0 where
  pub some : 0 < length text
  pub bytes : All IsRoundByte text

abbrev is_colour : List ℕ → Bool
is_colour text = nat_lt 0 (length text) && list_all is_letter text

colours : list_all is_colour round_colours ≡ true
colours = refl

colour : (round : ℕ) → round ≤ 9 → IsRoundName (round_colour round)
colour round low =
    let text = round_colour round in
    let (some, all) = and_parts (nat_lt 0 (length text)) (list_all is_letter text) (AllPass-from_list_all is_colour round_colours colours round [] (omega (arith, low))) in
    record { some = ltb-true 0 (length text) some; bytes = letters text all }

ending : (n : ℕ) → All IsRoundByte (cond (n == 2) (codes "nd") (cond (n == 3) (codes "rd") (codes "th")))
ending n = by (n == 2) (n == 3)
  where
    by : (second third : Bool) → All IsRoundByte (cond second (codes "nd") (cond third (codes "rd") (codes "th")))
    by true third = letters (codes "nd") refl
    by false true = letters (codes "rd") refl
    by false false = letters (codes "th") refl

later : (round : ℕ) → IsRoundName (ordinal ((round - 1) / 9 + 1) ++ codes " " ++ round_colour ((round - 1) % 9 + 1))
later round =
    let turn = (round - 1) / 9 + 1 in
    let place = (round - 1) % 9 + 1 in
    let low : place ≤ 9 = omega arith in
    let last = colour place low in
    let number = All-weaker IsDigit IsRoundByte digit (decimal turn) (decimal-digits turn) in
    let front = All-append IsRoundByte (ordinal turn) (codes " ") (All-append IsRoundByte (decimal turn) _ number (ending turn)) space in
    let size = length-append (ordinal turn ++ codes " ") (round_colour place) in
    record { some = omega (arith, size, last.some); bytes = All-append IsRoundByte (ordinal turn ++ codes " ") (round_colour place) front last.bytes }

pub round-name : (round : ℕ) → IsRoundName (round_name round)
round-name round = by (nat_le round 9) refl
  where
    by : (few : Bool) → nat_le round 9 ≡ few → IsRoundName (cond few (round_colour round) (ordinal ((round - 1) / 9 + 1) ++ codes " " ++ round_colour ((round - 1) % 9 + 1)))
    by true is = colour round (leb-true round 9 is)
    by false is = later round
