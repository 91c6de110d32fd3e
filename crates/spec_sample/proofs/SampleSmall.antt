-- The script of a sample is small: it has no `#`, and few rows.
use Rattle.std.proofs.Common.{◌≡◌, ℕ, zero, suc, ◌+◌, ◌*◌, ◌%◌, ◌==◌, ◌<◌, ◌≤◌, Bool, true, false, cond, List, [], ◌∷◌, ◌++◌, length, get_or, refl, ap, arith, lit<, lit≤}
use Rattle.std.specs.Prelude.{All, codes, decimal, sum_by}
use Rattle.std.specs.Str.Parse.{AllDigits}
use Rattle.std.proofs.lemmas.Bool.{ne_eqb}
use Rattle.std.proofs.lemmas.Fmt.{decimal_is_IsNumeral, length-decimal-le}
use Rattle.std.proofs.lemmas.List.Sums.{sum_by-cons, sum_by-append}
use Rattle.std.proofs.lemmas.Str.Parse.{tells_digits}
use Rattle.spec_sample.specs.Sample.{room_lines, second_cue, sample_lines}
use Rattle.spec_sample.proofs.Unnumbered.{HasNone}
use Rattle.spec_sample.proofs.WrapFew.{weight_if, byte_weight, byte_weights}
use Rattle.spec_sample.proofs.RowsFew.{IsPrintable, line_weight}
use Rattle.spec_sample.proofs.SampleReading.{printable, other, plain-rooms}

pub sample-none : (n : ℕ) → n ≤ 2000 → All HasNone (sample_lines n)
sample-none n few k d inside = record { none = other (get_or (sample_lines n) k d) (plain-rooms n (omega (arith, few)) k d inside).plain }

pub sample-printable : (n : ℕ) → n ≤ 2000 → All IsPrintable (sample_lines n)
sample-printable n few k d inside = record { printable = printable (get_or (sample_lines n) k d) (plain-rooms n (omega (arith, few)) k d inside).plain }

-- ---- what the lines of a room weigh

digits-weight : (digits : List ℕ) → AllDigits 10 digits → byte_weights digits ≡ length digits
digits-weight [] all = refl
digits-weight (byte ∷ digits) all =
    let parts = tells_digits.parts byte digits all in
    let one : byte_weight byte ≡ 1 = ap weight_if (ne_eqb byte 32 (λ same. omega (arith, same, parts.0))) in
    omega (arith, sum_by-cons byte_weight byte digits, one, digits-weight digits parts.1)

numbered-weight : (i : ℕ) (front back : List ℕ) (most : ℕ) → i < 10000 → 28 + byte_weights front + byte_weights back ≤ most → line_weight (front ++ decimal i ++ back) ≤ most
numbered-weight i front back most small low =
    let digits = length-decimal-le 4 i (lit< tt) (omega arith) (omega arith) in
    let weight = digits-weight (decimal i) (decimal_is_IsNumeral i (omega arith)).0.1 in
    omega (arith, digits, weight, low, sum_by-append byte_weight (front ++ decimal i) back, sum_by-append byte_weight front (decimal i))

cue-weight : (i : ℕ) → line_weight (second_cue i) ≤ 54
cue-weight i =
    let P : Bool → Type 0 = λ b. line_weight (cond b (codes "BERT ^") (codes "BERT")) ≤ 54 in
    elim (i % 5 == 0) as P [ true ↦ lit≤ tt | false ↦ lit≤ tt ]

-- Lines that weigh no more than this.
record Weigh (texts : List (List ℕ)) (most : ℕ) : Type 0 where
  few : sum_by line_weight texts ≤ most

weigh : (text : List ℕ) (texts : List (List ℕ)) (most more : ℕ) → line_weight text ≤ most → Weigh texts more → Weigh (text ∷ texts) (most + more)
weigh text texts most more own others = let few = others.few in record { few = omega (arith, sum_by-cons line_weight text texts, own, few) }

room-weight : (i : ℕ) → i < 10000 → Weigh (room_lines i) 974
room-weight i small =
    weigh _ _ 150 824 (numbered-weight i (codes "INT. ROOM ") (codes " - DAY") 150 small (lit≤ tt))
    (weigh [] _ 24 800 (lit≤ tt)
    (weigh _ _ 200 600 (numbered-weight i (codes "The lamp in room ") (codes " is lit.") 200 small (lit≤ tt))
    (weigh [] _ 24 576 (lit≤ tt)
    (weigh (codes "ANNA") _ 28 548 (lit≤ tt)
    (weigh (codes "(to BERT)") _ 57 491 (lit≤ tt)
    (weigh _ _ 300 191 (numbered-weight i (codes "I have counted ") (codes " lamps today. They are all lit.") 300 small (lit≤ tt))
    (weigh [] _ 24 167 (lit≤ tt)
    (weigh (second_cue i) _ 54 113 (cue-weight i)
    (weigh (codes "Count them again.") _ 89 24 (lit≤ tt)
    (weigh [] [] 24 0 (lit≤ tt) (record { few = lit≤ tt })))))))))))

pub sample-weight : (n : ℕ) → n < 10000 → sum_by line_weight (sample_lines n) ≤ 974 * n
sample-weight zero small = omega arith
sample-weight (suc n) small =
    let room = (room-weight (suc n) small).few in
    omega (arith, sum_by-append line_weight (sample_lines n) (room_lines (suc n)), sample-weight n (omega (arith, small)), room)
