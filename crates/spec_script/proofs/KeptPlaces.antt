-- Places of a kept text, and where they stand in the line.
use Rattle.std.proofs.Common.{◌≡◌, ℕ, ◌+◌, ◌-◌, ◌<◌, List, [], ◌∷◌, ◌++◌, length, slice_index, slice_range, Some, unwrap_or, sym, ap, subst, ◌∙◌, inl, inr, arith, length-append, get_or-append-add}
use Rattle.std.proofs.lemmas.Bool.{cases_lt, cond-true, cond-false, lt-ltb, le-ltb}
use Rattle.std.proofs.lemmas.List.{get_or_append_left}
use Rattle.std.proofs.lemmas.List.Edits.{get_or-between}
use Rattle.spec_text.specs.Parts.{SpanOf, Parts}
use Rattle.spec_script.specs.Spans.{span_len, text_in, place_in}
use Rattle.spec_script.specs.Visible.{place_of}
use Rattle.spec_script.proofs.SpanLaws.{length-slice_range}

-- A byte of the first part.
pub place_in-first : (span : SpanOf) (spans : List SpanOf) (k : ℕ) → k < span_len span → place_in (span ∷ spans) k ≡ Some (span.0 + k)
place_in-first span spans k h = cond-true _ (Some (span.0 + k)) (place_in spans (k - span_len span)) (lt-ltb k (span_len span) h)

-- A byte behind the first part.
pub place_in-later : (span : SpanOf) (spans : List SpanOf) (k j : ℕ) → k ≡ span_len span + j → place_in (span ∷ spans) k ≡ place_in spans j
place_in-later span spans k j same =
    let rest : k - span_len span ≡ j = omega arith in
    cond-false _ (Some (span.0 + k)) (place_in spans (k - span_len span)) (le-ltb k (span_len span) (omega arith)) ∙ ap (place_in spans) rest

-- Each byte of the kept text has a place.
pub place_in-some : (text : List ℕ) (spans : List SpanOf) (at k : ℕ) → Parts text at spans → k < length (text_in text spans) → (place : ℕ) × (place_in spans k ≡ Some place)
place_in-some text [] at k p h = absurd (omega arith)
place_in-some text (span ∷ spans) at k p h =
    let len = length-slice_range text span.0 span.1 p.1.order p.1.end.0 in
    let whole = length-append (slice_range text span.0 span.1) (text_in text spans) in
    elim (cases_lt k (span_len span)) [
      | inl here ↦ (span.0 + k, place_in-first span spans k here)
      | inr behind ↦
          let split : k ≡ span_len span + (k - span_len span) = omega arith in
          let rest = place_in-some text spans span.1 (k - span_len span) p.2 (omega arith) in
          (rest.0, place_in-later span spans k (k - span_len span) split ∙ rest.1)
    ]

-- The place is that of a byte of the parts' text.
pub place_in-byte : (text : List ℕ) (spans : List SpanOf) (at k place : ℕ) → Parts text at spans → place_in spans k ≡ Some place → (place < length text) × (slice_index text place ≡ slice_index (text_in text spans) k)
place_in-byte text [] at k place p is = absurd (cc (is))
place_in-byte text (span ∷ spans) at k place p is =
    let bytes = slice_range text span.0 span.1 in
    let rest = text_in text spans in
    let n = span_len span in
    let order = p.1.order in
    let fits = p.1.end.0 in
    let len = length-slice_range text span.0 span.1 order fits in
    elim (cases_lt k n) [
      | inl here ↦
          let found : Some (span.0 + k) ≡ Some place = sym (place_in-first span spans k here) ∙ is in
          let same : span.0 + k ≡ place = cc (found) in
          (omega arith, ap (slice_index text) (sym same) ∙ sym (get_or-between text span.0 span.1 k 0 (omega arith)) ∙ sym (get_or_append_left bytes rest 0 k (omega arith)))
      | inr behind ↦
          let split : k ≡ n + (k - n) = omega arith in
          let shift : length bytes + (k - n) ≡ k = omega arith in
          let later = place_in-byte text spans span.1 (k - n) place p.2 (sym (place_in-later span spans k (k - n) split) ∙ is) in
          (later.0, later.1 ∙ sym (get_or-append-add bytes rest (k - n) 0) ∙ ap (slice_index (bytes ++ rest)) shift)
    ]

-- The place of a byte of the kept text lies in the line.
pub place_of-low : (text : List ℕ) (spans : List SpanOf) (k : ℕ) → Parts text 0 spans → k < length (text_in text spans) → place_of spans k < length text
place_of-low text spans k p h =
    let found = place_in-some text spans 0 k p h in
    let low = (place_in-byte text spans 0 k found.0 p found.1).0 in
    subst (λ o. unwrap_or o 0 < length text) (sym found.1) low
