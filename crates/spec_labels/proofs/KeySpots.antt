-- Rows and anchors, by the spots of their keys.
use Rattle.std.proofs.Common.{◌≡◌, ℕ, ◌<◌, ◌≤◌, Bool, true, false, not, cond, eqb, List, length, get_or, inl, inr, refl, sym, ap, subst, ◌∙◌, arith}
use Rattle.std.specs.List.{position_or_len}
use Rattle.std.proofs.lemmas.Bool.{cases_Bool, cases_eq, eqb-true}
use Rattle.std.proofs.lemmas.List.Sums.{prefix_len_passes, passes_at_first}
use Rattle.spec_text.specs.Lines.{LineState}
use Rattle.spec_labels.specs.declared.RowKey.{RowKey}
use Rattle.spec_labels.specs.PageRecords.{PageRecordOf, line_at, end_line, is_before, anchor_of, record_start}
use Rattle.spec_labels.specs.Spots.{Spot, is_ahead, AtMost}
use Rattle.spec_text.specs.EditedLines.{HasIds}
use Rattle.spec_labels.specs.Anchors.{AreKeys, ArePresent, spot_of}
use Rattle.spec_labels.proofs.SpotLaws.{Lower, ahead-is, ahead-from, ahead-not, ahead-then}
use Rattle.spec_labels.proofs.CarryLaws.{end-nowhere}

-- Where a row with a key stands.
abbrev pub key_spot : List LineState → RowKey → Spot
key_spot lines key = record { place = line_at lines key.line; row = key.row }

abbrev pub no_key : RowKey
no_key = record { line = end_line; row = 0 }

pub ahead-back : (one other : Spot) → is_ahead one other ≡ true → is_ahead other one ≡ false
ahead-back one other ahead = ahead-not other one (λ low. let first = ahead-is one other ahead in by first low)
  where
    by : Lower one other → Lower other one → ⊥
    by (inl a) (inl b) = omega (arith, a, b)
    by (inl a) (inr b) = omega (arith, a, b.0)
    by (inr a) (inl b) = omega (arith, a.0, b)
    by (inr a) (inr b) = omega (arith, a.1, b.1)

module _ (next : ℕ) (lines : List LineState) (keys : List RowKey) (ids : HasIds next lines) (are : AreKeys lines keys) (present : ArePresent lines keys) where
  -- Rows in front of a record's start stand before its anchor.
  pub start-below : (it : PageRecordOf) (p : ℕ) → p < record_start lines keys it → p < length keys → is_ahead (key_spot lines (get_or keys p no_key)) (spot_of lines it) ≡ true
  start-below it p less inside = elim (cases_Bool (eqb it.line end_line)) [
    | inl end ↦
        let e = ap (line_at lines) (eqb-true it.line end_line end) ∙ end-nowhere next lines ids in
        let there = present.all p no_key inside in
        ahead-from (key_spot lines (get_or keys p no_key)) (spot_of lines it) (inl (omega (arith, e, there)))
    | inr line ↦
        let start : record_start lines keys it ≡ position_or_len (λ key. not (is_before lines key (anchor_of it))) keys =
        ap (λ b. cond b (length keys) (position_or_len (λ key. not (is_before lines key (anchor_of it))) keys)) line in
        let passes = prefix_len_passes (λ key. not (not (is_before lines key (anchor_of it)))) keys p no_key (omega (arith, less, start)) in
        twice (is_before lines (get_or keys p no_key) (anchor_of it)) passes
  ]
    where
      twice : (b : Bool) → not (not b) ≡ true → b ≡ true
      twice true h = refl
      twice false h = cc

  -- Those from it on don't.
  pub start-above : (it : PageRecordOf) (p : ℕ) → record_start lines keys it ≤ p → p < length keys → is_ahead (key_spot lines (get_or keys p no_key)) (spot_of lines it) ≡ false
  start-above it p low inside = elim (cases_Bool (eqb it.line end_line)) [
    | inl end ↦
        let start : record_start lines keys it ≡ length keys = ap (λ b. cond b (length keys) (position_or_len (λ key. not (is_before lines key (anchor_of it))) keys)) end in
        absurd (omega (arith, start, low, inside))
    | inr line ↦
        let first = position_or_len (λ key. not (is_before lines key (anchor_of it))) keys in
        let start : record_start lines keys it ≡ first =
        ap (λ b. cond b (length keys) (position_or_len (λ key. not (is_before lines key (anchor_of it))) keys)) line in
        let within : first < length keys = omega (arith, start, low, inside) in
        let passes = passes_at_first (λ key. not (is_before lines key (anchor_of it))) keys no_key within in
        let here : is_before lines (get_or keys first no_key) (anchor_of it) ≡ false = once (is_before lines (get_or keys first no_key) (anchor_of it)) passes in
        elim (cases_eq first p) [
          | inl same ↦ subst (λ n. is_before lines (get_or keys n no_key) (anchor_of it) ≡ false) same here
          | inr differ ↦
              let rise = are.rise first p no_key (omega (arith, start, low, differ)) inside in
              elim (cases_Bool (is_ahead (key_spot lines (get_or keys p no_key)) (spot_of lines it))) [
                | inl yes_is ↦
                    absurd (let bad : true ≡ false = sym (ahead-then (key_spot lines (get_or keys first no_key)) (key_spot lines (get_or keys p no_key)) (spot_of lines it) rise yes_is) ∙ here in let no_more : ⊥ = cc in no_more)
                | inr no_is ↦ no_is
              ]
        ]
  ]
    where
      once : (b : Bool) → not b ≡ true → b ≡ false
      once true h = cc
      once false h = refl

  -- Rows in order.
  pub rows-order : (p q : ℕ) → p ≤ q → q < length keys → AtMost (key_spot lines (get_or keys p no_key)) (key_spot lines (get_or keys q no_key))
  rows-order p q low inside = elim (cases_eq p q) [
    | inl same ↦
        subst (λ n. AtMost (key_spot lines (get_or keys n no_key)) (key_spot lines (get_or keys q no_key))) (sym same)
        (ahead-not (key_spot lines (get_or keys q no_key)) (key_spot lines (get_or keys q no_key)) (λ less. elim less [ inl l ↦ omega (arith, l) | inr l ↦ omega (arith, l.1) ]))
    | inr differ ↦ ahead-back (key_spot lines (get_or keys p no_key)) (key_spot lines (get_or keys q no_key)) (are.rise p q no_key (omega (arith, low, differ)) inside)
  ]
