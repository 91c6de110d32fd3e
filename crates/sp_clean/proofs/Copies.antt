-- Copying the parts of a line to the front of a buffer.
use Rattle.std.specs.Prelude.{◌≡◌, ℕ, List, [], ◌∷◌, ◌++◌, length, take, drop, slice_index_or, slice_range, ◌<◌, ◌≤◌, ◌+◌, ◌-◌}
use Rattle.std.proofs.Common.{sym, ap, ◌∙◌, arith}
use Rattle.std.proofs.lemmas.List.{append-nil, length-append, length-take, length-drop, take_more}
use Rattle.std.proofs.lemmas.List.Concat.{flat_map-append}
use Rattle.std.proofs.lemmas.Slice.{take-put_mid}
use borrow.Rule.Slice.PartMut.{put_mid, same_len_mid}
use Rattle.spec_text.specs.Parts.{SpanOf}
use Rattle.spec_script.specs.Spans.{text_in}
use Rattle.spec_script.proofs.SpanLaws.{text_in-step}

-- The first parts are copied, and there is room for the others.
pub record Copied (text : List ℕ) (kept : List SpanOf) (i used : ℕ) (buffer : List ℕ) : Type 0 where
  pub full : length buffer ≡ 4096
  pub fits : used + length (text_in text (drop i kept)) ≤ 4096
  pub copied : take used buffer ≡ text_in text (take i kept)

-- One part more.
pub copied-more : (text : List ℕ) (kept : List SpanOf) (i used : ℕ) (d : SpanOf) (buffer part written : List ℕ) → Copied text kept i used buffer → i < length kept →
    part ≡ slice_range text (slice_index_or kept i d).0 (slice_index_or kept i d).1 → written ≡ part →
    Copied text kept (i + 1) (used + length part) (put_mid used (used + length part - used) buffer written)
copied-more text kept i used d buffer part written w h p e =
    let span = slice_index_or kept i d in
    let step = text_in-step text kept i d h in
    let lengths = ap length step in
    let both = length-append (slice_range text span.0 span.1) (text_in text (drop (i + 1) kept)) in
    let size = ap length p in
    let same = ap length e in
    let full = w.full in
    let room = w.fits in
    let n = used + length part - used in
    let middle : length written ≡ length (take n (drop used buffer)) = omega (arith, length-take n (drop used buffer), length-drop used buffer) in
    let all : used + length part ≡ used + length written = omega arith in
    record {
      full = same_len_mid used n buffer written middle ∙ full;
      fits = omega arith;
      copied =
          take-put_mid used n buffer written (used + length part) all (omega arith)
          ∙ ap (λ (l : List ℕ). l ++ written) w.copied
          ∙ ap (λ (l : List ℕ). text_in text (take i kept) ++ l) (e ∙ p ∙ sym (append-nil (slice_range text span.0 span.1)))
          ∙ sym (flat_map-append (λ (s : SpanOf). slice_range text s.0 s.1) (take i kept) (span ∷ []))
          ∙ sym (ap (text_in text) (take_more kept i d h));
    }
