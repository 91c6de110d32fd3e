-- Parts of a text that end between characters: what is cut off at their ends is ASCII.
use Rattle.std.specs.Prelude.{◌≡◌, ℕ, zero, suc, ◌+◌, ◌-◌, ◌<◌, ◌≤◌, ◌==◌, true, ◌&&◌, ◌||◌, nat_lt, nat_le, List, length, take, drop, reverse, max, slice_index}
use Rattle.std.specs.List.{prefix_len, suffix_len}
use Rattle.std.specs.Char.{is_ascii_alphanumeric}
use Rattle.std.specs.Int.{is_in_range}
use Rattle.std.specs.Str.{IsUtf8, IsCharBoundary}
use Rattle.std.proofs.Common.{sym, ap, subst, ◌∙◌, inl, inr, arith, add-zero, length-drop, length-take-le, get_or-take, get_or-drop}
use Rattle.std.proofs.lemmas.Bool.{cases_lt, cases_Bool, cond-true, cond-false, eqb-true, ltb-true, leb-true, and_parts, or_cases}
use Rattle.std.proofs.lemmas.List.{get_or-reverse, length-reverse}
use Rattle.std.proofs.lemmas.List.Edits.{get_or-between}
use Rattle.std.proofs.lemmas.List.Sums.{prefix_len_passes, prefix_len-le-length, suffix_len-le-length}
use Rattle.std.proofs.lemmas.Str.{IsCharBoundary-start, IsCharBoundary-end, IsCharBoundary-before_ascii, IsCharBoundary-after_ascii}
use Rattle.spec_script.specs.declared.Cut.{Cut}
use Rattle.spec_script.specs.Trim.{is_space, whole, cut_text, trim_cut, trim_all, trim}
use Rattle.spec_script.specs.Letters.{begins, ends}
use Rattle.spec_script.specs.Headings.{is_number_byte, number_bytes, number_len}
use Rattle.spec_script.proofs.SpanLaws.{length-slice_range}

-- The part begins and ends between characters, where it has a byte.
abbrev pub EndsFit : List ℕ → Cut → Type 0
EndsFit text cut = cut.from < cut.to → IsCharBoundary text cut.from × IsCharBoundary text cut.to

-- So many bytes at the beginning of the text are ASCII.
abbrev pub AsciiFront : List ℕ → ℕ → Type 0
AsciiFront text n = (k : ℕ) → k < n → slice_index text k < 128

-- So many bytes at the end of the text are ASCII.
abbrev pub AsciiBack : List ℕ → ℕ → Type 0
AsciiBack text n = (k : ℕ) → k < n → slice_index text (length text - 1 - k) < 128

-- Behind ASCII bytes.
forward : (text : List ℕ) (at n : ℕ) → IsUtf8 text → IsCharBoundary text at → at + n ≤ length text → ((k : ℕ) → k < n → slice_index text (at + k) < 128) → IsCharBoundary text (at + n)
forward text at zero u b fits ascii = subst (IsCharBoundary text) (sym (add-zero at)) b
forward text at (suc n) u b fits ascii =
    let same : at + n + 1 ≡ at + suc n = omega arith in
    subst (IsCharBoundary text) same (IsCharBoundary-after_ascii text (at + n) u (omega arith) (ascii n (omega arith)))

-- Before ASCII bytes.
backward : (text : List ℕ) (at n : ℕ) → IsCharBoundary text at → n ≤ at → ((k : ℕ) → k < n → slice_index text (at - 1 - k) < 128) → IsCharBoundary text (at - n)
backward text at zero b fits ascii = let same : at ≡ at - 0 = omega arith in subst (IsCharBoundary text) same b
backward text at (suc n) b fits ascii =
    let low = b.0 in
    let same : at - 1 - n ≡ at - suc n = omega arith in
    subst (IsCharBoundary text) same (IsCharBoundary-before_ascii text (at - 1 - n) (omega arith) (ascii n (omega arith)))

-- At the later of two places.
pub boundary-max : (text : List ℕ) (a b : ℕ) → IsCharBoundary text a → IsCharBoundary text b → IsCharBoundary text (max a b)
boundary-max text a b p q =
    elim (cases_lt a b) [
      | inl less ↦ let same : b ≡ max a b = omega arith in subst (IsCharBoundary text) same q
      | inr more ↦ let same : a ≡ max a b = omega arith in subst (IsCharBoundary text) same p
    ]

-- A space is ASCII.
space_below : (b : ℕ) → is_space b ≡ true → b < 128
space_below b h =
    elim (or_cases (b == 32) (b == 9) h) [ inl e ↦ omega (arith, eqb-true b 32 e) | inr e ↦ omega (arith, eqb-true b 9 e) ]

-- A part without its spaces.
trim-ends : (text : List ℕ) (cut : Cut) → IsUtf8 text → cut.from ≤ cut.to → IsCharBoundary text cut.from → IsCharBoundary text cut.to → IsCharBoundary text (trim_cut text cut).from × IsCharBoundary text (trim_cut text cut).to
trim-ends text cut u order start end =
    let bytes = cut_text text cut in
    let n = prefix_len is_space bytes in
    let m = suffix_len is_space bytes in
    let fits = end.0 in
    let size : length bytes ≡ cut.to - cut.from = length-slice_range text cut.from cut.to order fits in
    let few = prefix_len-le-length is_space bytes in
    let fewer = suffix_len-le-length is_space bytes in
    let begin : IsCharBoundary text (cut.from + n) =
    forward text cut.from n u start (omega arith)
    (λ k h. subst (λ b. b < 128) (get_or-between text cut.from cut.to k 0 (omega arith)) (space_below _ (prefix_len_passes is_space bytes k 0 h))) in
    let finish : IsCharBoundary text (cut.to - m) =
    backward text cut.to m end (omega arith)
    (λ k h.
    let turned = get_or-reverse bytes k 0 (omega arith) in
    let there = get_or-between text cut.from cut.to (length bytes - 1 - k) 0 (omega arith) in
    let place : cut.from + (length bytes - 1 - k) ≡ cut.to - 1 - k = omega arith in
    subst (λ b. b < 128) (turned ∙ there ∙ ap (slice_index text) place) (space_below _ (prefix_len_passes is_space (reverse bytes) k 0 h))) in
    (begin, boundary-max text (cut.from + n) (cut.to - m) begin finish)

pub trim-fit : (text : List ℕ) (cut : Cut) → IsUtf8 text → EndsFit text cut → EndsFit text (trim_cut text cut)
trim-fit text cut u fit some =
    let order : cut.from < cut.to = omega arith in
    let ends = fit order in
    trim-ends text cut u (omega arith) ends.0 ends.1

-- The whole text without its spaces.
pub trim_all-ends : (text : List ℕ) → IsUtf8 text → IsCharBoundary text (trim_all text).from × IsCharBoundary text (trim_all text).to
trim_all-ends text u =
    let fits : 0 ≤ length text = omega arith in
    trim-ends text (whole text) u fits (IsCharBoundary-start text u) (IsCharBoundary-end text)

-- What is left of a trimmed text without so many ASCII bytes at its ends.
pub inner-fit : (text : List ℕ) (skip spare : ℕ) → IsUtf8 text → AsciiFront (trim text) skip → AsciiBack (trim text) spare → EndsFit text (record { from = (trim_all text).from + skip; to = (trim_all text).to - spare })
inner-fit text skip spare u front back some =
    let from = (trim_all text).from in
    let to = (trim_all text).to in
    let ends = trim_all-ends text u in
    let fits = ends.1.0 in
    let size : length (trim text) ≡ to - from = length-slice_range text from to (omega arith) fits in (
      forward text from skip u ends.0 (omega arith) (λ k h. subst (λ b. b < 128) (get_or-between text from to k 0 (omega arith)) (front k h)),
      backward text to spare ends.1 (omega arith)
          (λ k h.
          let there = get_or-between text from to (length (trim text) - 1 - k) 0 (omega arith) in
          let place : from + (length (trim text) - 1 - k) ≡ to - 1 - k = omega arith in
          subst (λ b. b < 128) (there ∙ ap (slice_index text) place) (back k h)),
    )

-- Nothing is cut off.
pub front-none : (text : List ℕ) → AsciiFront text 0
front-none text k h = absurd (omega arith)

pub back-none : (text : List ℕ) → AsciiBack text 0
back-none text k h = absurd (omega arith)

-- The first byte, or the last.
pub front-one : (byte : ℕ) (text : List ℕ) → byte < 128 → begins byte text ≡ true → AsciiFront text 1
front-one byte text low is k h =
    let zero : 0 ≡ k = omega arith in
    let first : slice_index text 0 ≡ byte = eqb-true (slice_index text 0) byte (and_parts (nat_lt 0 (length text)) (slice_index text 0 == byte) is).1 in
    subst (λ i. slice_index text i < 128) zero (omega arith)

pub back-one : (byte : ℕ) (text : List ℕ) → byte < 128 → ends byte text ≡ true → AsciiBack text 1
back-one byte text low is k h =
    let zero : length text - 1 ≡ length text - 1 - k = omega arith in
    let last : slice_index text (length text - 1) ≡ byte = eqb-true (slice_index text (length text - 1)) byte (and_parts (nat_lt 0 (length text)) (slice_index text (length text - 1) == byte) is).1 in
    subst (λ i. slice_index text i < 128) zero (omega arith)

-- The bytes at the end of a text are those at the end of more of it.
pub back-drop : (text : List ℕ) (skip n : ℕ) → n ≤ length (drop skip text) → AsciiBack (drop skip text) n → AsciiBack text n
back-drop text skip n fits back k h =
    let size = length-drop skip text in
    let place : skip + (length (drop skip text) - 1 - k) ≡ length text - 1 - k = omega arith in
    subst (λ b. b < 128) (get_or-drop skip text (length (drop skip text) - 1 - k) 0 ∙ ap (slice_index text) place) (back k h)

-- A byte of a written number is ASCII.
in_range-below : (from to b : ℕ) → is_in_range from to b ≡ true → b ≤ to
in_range-below from to b is = leb-true b to (and_parts (nat_le from b) (nat_le b to) is).1

alphanumeric-below : (b : ℕ) → is_ascii_alphanumeric b ≡ true → b < 128
alphanumeric-below b is =
    elim (or_cases (is_in_range 48 57 b || is_in_range 65 90 b) (is_in_range 97 122 b) is) [
      | inl low ↦ elim (or_cases (is_in_range 48 57 b) (is_in_range 65 90 b) low) [
        | inl digit ↦ omega (arith, in_range-below 48 57 b digit)
        | inr upper ↦ omega (arith, in_range-below 65 90 b upper)
      ]
      | inr lower ↦ omega (arith, in_range-below 97 122 b lower)
    ]

number_byte-below : (b : ℕ) → is_number_byte b ≡ true → b < 128
number_byte-below b is =
    elim (or_cases (is_ascii_alphanumeric b || (b == 45)) (b == 46) is) [
      | inl most ↦ elim (or_cases (is_ascii_alphanumeric b) (b == 45) most) [
        | inl letter ↦ alphanumeric-below b letter
        | inr dash ↦ omega (arith, eqb-true b 45 dash)
      ]
      | inr dot ↦ omega (arith, eqb-true b 46 dot)
    ]

-- A text ends in a written number of that length, with a `#` at each end of it.
pub record EndsIn (text : List ℕ) (n : ℕ) : Type 0 where
  pub fits : n + 2 ≤ length text
  pub ascii : AsciiBack text (n + 2)

number-ends : (text : List ℕ) → ends 35 text ≡ true → ends 35 (take (length text - (number_bytes text + 1)) text) ≡ true → EndsIn text (number_bytes text)
number-ends text last first =
    let n = number_bytes text in
    let front = take (length text - 1) text in
    let before = take (length text - (n + 1)) text in
    let some : 0 < length before = ltb-true 0 (length before) (and_parts (nat_lt 0 (length before)) (slice_index before (length before - 1) == 35) first).0 in
    let size : length before ≡ length text - (n + 1) = length-take-le (length text - (n + 1)) text (omega arith) in
    let size' : length front ≡ length text - 1 = length-take-le (length text - 1) text (omega arith) in
    let mark : slice_index before (length before - 1) ≡ 35 = eqb-true (slice_index before (length before - 1)) 35 (and_parts (nat_lt 0 (length before)) (slice_index before (length before - 1) == 35) first).1 in
    let ascii : AsciiBack text (n + 2) = λ k h.
    elim (cases_lt k 1) [
      | inl end ↦ back-one 35 text (omega arith) last k end
      | inr more ↦ elim (cases_lt k (n + 1)) [
        | inl inside ↦
            let low : k - 1 < prefix_len is_number_byte (reverse front) = omega arith in
            let bound = prefix_len-le-length is_number_byte (reverse front) in
            let turned = get_or-reverse front (k - 1) 0 (omega (arith, length-reverse front)) in
            let place : length front - 1 - (k - 1) ≡ length text - 1 - k = omega arith in
            subst (λ b. b < 128) (turned ∙ ap (slice_index front) place ∙ get_or-take (length text - 1) text (length text - 1 - k) 0 (omega arith))
            (number_byte-below _ (prefix_len_passes is_number_byte (reverse front) (k - 1) 0 low))
        | inr first_mark ↦
            let place : length before - 1 ≡ length text - 1 - k = omega arith in
            let here = get_or-take (length text - (n + 1)) text (length text - 1 - k) 0 (omega arith) in
            let byte : slice_index text (length text - 1 - k) ≡ 35 = sym here ∙ ap (slice_index before) (sym place) ∙ mark in
            omega arith
      ]
    ] in
    record { fits = omega arith; ascii = ascii }

-- A text that has a written number ends in it.
pub number_len-ends : (text : List ℕ) → 0 < number_len text → EndsIn text (number_len text)
number_len-ends text some =
    let n = number_bytes text in
    let marked = ends 35 text && nat_lt 0 n && ends 35 (take (length text - (n + 1)) text) in
    elim (cases_Bool marked) [
      | inl is ↦
          let parts = and_parts (ends 35 text && nat_lt 0 n) (ends 35 (take (length text - (n + 1)) text)) is in
          subst (EndsIn text) (sym (cond-true marked n 0 is))
          (number-ends text (and_parts (ends 35 text) (nat_lt 0 n) parts.0).0 parts.1)
      | inr none ↦ absurd (omega (arith, cond-false marked n 0 none))
    ]
