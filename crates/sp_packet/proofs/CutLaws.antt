-- A place where bytes are cut.
use Rattle.std.proofs.Common.{◌≡◌, inl, inr, ℕ, ◌+◌, ◌-◌, ◌<◌, ◌≤◌, Bool, false, cond, List, [], ◌∷◌, ◌++◌, length, take, drop, get_or, Option, Some, None, refl, ap, ap₂, sym, subst, ◌∙◌, lt-ltb, le-ltb, length-drop, arith}
use Rattle.std.specs.Prelude.{All, position}
use Rattle.std.specs.List.{list_any, position_or_len, before_first, after_first, slice_split}
use Rattle.std.proofs.lemmas.Bool.{cases_lt}
use Rattle.std.proofs.lemmas.List.Sums.{passes_at_first, fails_before_first, split_at_first}
use Rattle.std.proofs.lemmas.List.Splits.{slice_split_none, slice_split_first}
use Rattle.spec_packet.proofs.Words.{any-behind}
use Rattle.std.specs.Str.{IsUtf8}
use Rattle.std.proofs.lemmas.List.{drop_more, take_rest, take-append-drop}
use Rattle.std.proofs.lemmas.List.Folds.{list_any_none}
use Rattle.spec_labels.specs.Labels.{LabelOf}
use Rattle.spec_labels.specs.LabelReading.{IsReading, label_read}
use Rattle.spec_labels.proofs.LabelBytes.{label-utf8}
use Rattle.spec_labels.proofs.LabelReadings.{label_read-IsReading}
use Rattle.spec_packet.specs.SheetReadings.{last_word, later_word}
use Rattle.sp_packet.specs.Cuts.{IsUncut, IsCut}

pub record FoundAt (p : ℕ → Bool) (bytes : List ℕ) (place : ℕ) : Type 0 where
  pub is : position_or_len p bytes ≡ place
  pub within : position_or_len p bytes < length bytes

pub found : (p : ℕ → Bool) (bytes : List ℕ) (place : ℕ) → position p bytes ≡ Some place → FoundAt p bytes place
found p bytes place is =
    let n = position_or_len p bytes in
    elim (cases_lt n (length bytes)) [
      | inl less ↦
          let here : Some n ≡ Some place = sym (ap (λ b. cond b (Some n) None) (lt-ltb n (length bytes) less)) ∙ is in
          let same : n ≡ place = cc in
          record { is = same; within = less }
      | inr past ↦ absurd (let bad : None ≡ Some place = sym (ap (λ b. cond b (Some n) None) (le-ltb n (length bytes) past)) ∙ is in let no_way : ⊥ = cc in no_way)
    ]

pub cut-some : (p : ℕ → Bool) (bytes : List ℕ) (place : ℕ) → position p bytes ≡ Some place → IsCut p bytes (take place bytes) (drop (place + 1) bytes)
cut-some p bytes place is =
    let at = found p bytes place is in
    let front : take place bytes ≡ before_first p bytes = ap (λ n. take n bytes) (sym at.is) in
    let back : drop (place + 1) bytes ≡ after_first p bytes = ap (λ n. drop (n + 1) bytes) (sym at.is) in
    let within = at.within in
    let same = at.is in
    record {
      some = ap (list_any p) (split_at_first p bytes 0 within) ∙ any-behind p (before_first p bytes) (get_or bytes (position_or_len p bytes) 0) (after_first p bytes) (passes_at_first p bytes 0 within);
      front = front;
      back = back;
      parts = slice_split_first p bytes 0 within ∙ ap₂ (λ (a b : List ℕ). a ∷ slice_split p b) (sym front) (sym back);
      shorter = omega (arith, length-drop (place + 1) bytes, within, same);
    }

pub cut-none : (p : ℕ → Bool) (bytes : List ℕ) → position p bytes ≡ None → IsUncut p bytes
cut-none p bytes is =
    let n = position_or_len p bytes in
    let all : All (λ b. p b ≡ false) bytes = elim (cases_lt n (length bytes)) [
      | inl less ↦ absurd (let bad : Some n ≡ None = sym (ap (λ b. cond b (Some n) None) (lt-ltb n (length bytes) less)) ∙ is in let no_way : ⊥ = cc in no_way)
      | inr past ↦ λ k d within. fails_before_first p bytes k d (omega (arith, past, within))
    ] in
    record { none = list_any_none p bytes all; alone = slice_split_none p bytes all }

-- The last word of a header.
last-some : (xs ys word : List ℕ) → last_word ys ≡ Some word → last_word (xs ++ ys) ≡ Some word
last-some [] ys word is = is
last-some (x ∷ xs) ys word is = ap (later_word x (xs ++ ys)) (last-some xs ys word is)

pub word-at : (header : List ℕ) (at : ℕ) → 0 < at → at ≤ length header → get_or header (at - 1) 0 ≡ 32 → last_word (drop at header) ≡ None
    → Some (take (length header - at) (drop at header)) ≡ last_word header
word-at header at some low space none =
    let rest = drop at header in
    let back : at - 1 + 1 ≡ at = omega (arith, some) in
    let parts : drop (at - 1) header ≡ 32 ∷ rest =
    drop_more header (at - 1) 0 (omega (arith, some, low)) ∙ ap₂ (λ b n. b ∷ drop n header) space back in
    let whole : header ≡ take (at - 1) header ++ (32 ∷ rest) = sym (take-append-drop (at - 1) header) ∙ ap (λ (l : List ℕ). take (at - 1) header ++ l) parts in
    let here : last_word (32 ∷ rest) ≡ Some rest = ap (later_word 32 rest) none in
    ap (λ (w : List ℕ). Some w) (take_rest header at) ∙ sym (ap last_word whole ∙ last-some (take (at - 1) header) (32 ∷ rest) rest here)

-- Bytes that aren't UTF-8 spell no label.
pub no-label : (bytes : List ℕ) → (IsUtf8 bytes → ⊥) → None ≡ label_read bytes
no-label bytes never = by (label_read bytes) (label_read-IsReading bytes)
  where
    by : (label : Option LabelOf) → IsReading bytes label → None ≡ label
    by None reading = refl
    by (Some it) reading = absurd (never (subst IsUtf8 reading.written (label-utf8 it)))
