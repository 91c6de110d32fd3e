-- What of a line's parts and runs lies in a window of it are parts of the line.
use Rattle.std.specs.Prelude.{◌≡◌, ℕ, ◌+◌, ◌-◌, ◌<◌, ◌≤◌, List, [], ◌∷◌, ◌++◌, map, min, max, length, Some, unwrap_or, slice_index, slice_range}
use Rattle.std.specs.Str.{IsUtf8, IsCharBoundary}
use Rattle.std.proofs.Common.{cond, refl, sym, ap, ap₂, subst, ◌∙◌, inl, inr, arith, length-append, get_or-append-add}
use Rattle.std.proofs.lemmas.Bool.{cases_lt, cond-true, cond-false, lt-ltb, le-ltb}
use Rattle.std.proofs.lemmas.List.{get_or_append_left, map-append}
use Rattle.std.proofs.lemmas.List.Edits.{get_or-between}
use Rattle.std.proofs.lemmas.Str.{IsCharBoundary-start}
use Rattle.spec_text.specs.Parts.{SpanOf, Parts}
use Rattle.spec_text.proofs.PartsLaws.{Parts-lower}
use Rattle.spec_script.specs.declared.Run.{Run}
use Rattle.spec_script.specs.declared.Cut.{Cut}
use Rattle.spec_script.specs.Runs.{span_of, RunParts}
use Rattle.spec_script.specs.Spans.{part, span_len, text_in, place_in}
use Rattle.spec_script.specs.Visible.{plain_runs, place_of, window, clip_spans, run_part, clip_runs}
use Rattle.spec_script.proofs.SpanLaws.{length-slice_range}
use Rattle.spec_script.proofs.KeptPlaces.{place_in-first, place_in-later, place_in-some, place_in-byte}
use Rattle.spec_script.proofs.CutEnds.{EndsFit, boundary-max}

-- At the earlier of two places.
pub boundary-min : (text : List ℕ) (a b : ℕ) → IsCharBoundary text a → IsCharBoundary text b → IsCharBoundary text (min a b)
boundary-min text a b p q =
    elim (cases_lt a b) [
      | inl less ↦ let same : a ≡ min a b = omega arith in subst (IsCharBoundary text) same p
      | inr more ↦ let same : b ≡ min a b = omega arith in subst (IsCharBoundary text) same q
    ]

-- A place where one text may be cut, of a byte that stands at a place of another.
boundary-moved : (xs ys : List ℕ) (i j : ℕ) → i < length xs → j < length ys → slice_index ys j ≡ slice_index xs i → IsCharBoundary xs i → IsCharBoundary ys j
boundary-moved xs ys i j low low' same b =
    let bytes = b.1 low in
    (omega arith, λ _ h. subst (λ n. 192 ≤ n) (sym same) (bytes (subst (λ n. 128 ≤ n) same h)))

-- Before a byte of the parts' text.
pub place_of-starts : (line : List ℕ) (spans : List SpanOf) (k : ℕ) → Parts line 0 spans → k < length (text_in line spans) → IsCharBoundary (text_in line spans) k → IsCharBoundary line (place_of spans k)
place_of-starts line spans k p low b =
    let found = place_in-some line spans 0 k p low in
    let here = place_in-byte line spans 0 k found.0 p found.1 in
    subst (λ o. IsCharBoundary line (unwrap_or o 0)) (sym found.1) (boundary-moved (text_in line spans) line k found.0 low here.0 here.1 b)

-- Behind a byte of the parts' text.
place_in-ends : (line : List ℕ) (spans : List SpanOf) (at k place : ℕ) → Parts line at spans → k < length (text_in line spans) → IsCharBoundary (text_in line spans) (k + 1) → place_in spans k ≡ Some place → IsCharBoundary line (place + 1)
place_in-ends line [] at k place p low b is = absurd (omega arith)
place_in-ends line (span ∷ spans) at k place p low b is =
    let bytes = slice_range line span.0 span.1 in
    let rest = text_in line spans in
    let n = span_len span in
    let order = p.1.order in
    let fits = p.1.end.0 in
    let size : length bytes ≡ n = length-slice_range line span.0 span.1 order fits in
    let whole = length-append bytes rest in
    elim (cases_lt k n) [
      | inl here ↦
          let found : Some (span.0 + k) ≡ Some place = sym (place_in-first span spans k here) ∙ is in
          let same : span.0 + k ≡ place = cc (found) in
          elim (cases_lt (k + 1) n) [
            | inl more ↦
                let byte : slice_index (bytes ++ rest) (k + 1) ≡ slice_index line (span.0 + (k + 1)) =
                get_or_append_left bytes rest 0 (k + 1) (omega arith) ∙ get_or-between line span.0 span.1 (k + 1) 0 (omega arith) in
                let next : span.0 + (k + 1) ≡ place + 1 = omega arith in
                subst (IsCharBoundary line) next (boundary-moved (bytes ++ rest) line (k + 1) (span.0 + (k + 1)) (omega arith) (omega arith) (sym byte) b)
            | inr last ↦ let end : span.1 ≡ place + 1 = omega arith in subst (IsCharBoundary line) end p.1.end
          ]
      | inr behind ↦
          let split : k ≡ n + (k - n) = omega arith in
          let shift : length bytes + (k - n + 1) ≡ k + 1 = omega arith in
          let byte : slice_index (bytes ++ rest) (k + 1) ≡ slice_index rest (k - n + 1) =
          ap (slice_index (bytes ++ rest)) (sym shift) ∙ get_or-append-add bytes rest (k - n + 1) 0 in
          let later : IsCharBoundary rest (k - n + 1) =
          (omega arith, λ l h. subst (λ b. 192 ≤ b) byte (b.1 (omega arith) (subst (λ b. 128 ≤ b) (sym byte) h))) in
          place_in-ends line spans span.1 (k - n) place p.2 (omega arith) later (sym (place_in-later span spans k (k - n) split) ∙ is)
    ]

pub place_of-ends : (line : List ℕ) (spans : List SpanOf) (k : ℕ) → Parts line 0 spans → k < length (text_in line spans) → IsCharBoundary (text_in line spans) (k + 1) → IsCharBoundary line (place_of spans k + 1)
place_of-ends line spans k p low b =
    let found = place_in-some line spans 0 k p low in
    subst (λ o. IsCharBoundary line (unwrap_or o 0 + 1)) (sym found.1) (place_in-ends line spans 0 k found.0 p low b found.1)

-- A window begins and ends between characters.
pub window-ends : (line : List ℕ) (spans : List SpanOf) (cut : Cut) → IsUtf8 line → Parts line 0 spans → EndsFit (text_in line spans) cut → IsCharBoundary line (window spans cut).0 × IsCharBoundary line (window spans cut).1
window-ends line spans cut u p fit =
    let P : SpanOf → Type 0 = λ w. IsCharBoundary line w.0 × IsCharBoundary line w.1 in
    let full : SpanOf = (place_of spans cut.from, place_of spans (cut.to - 1) + 1) in
    elim (cases_lt cut.from cut.to) [
      | inl some ↦
          let ends = fit some in
          let fits = ends.1.0 in
          let last : cut.to ≡ cut.to - 1 + 1 = omega arith in
          subst (λ b. P (cond b full (0, 0))) (sym (lt-ltb cut.from cut.to some)) (
            place_of-starts line spans cut.from p (omega arith) ends.0,
            place_of-ends line spans (cut.to - 1) p (omega arith) (subst (IsCharBoundary (text_in line spans)) last ends.1),
          )
      | inr none ↦
          let start = IsCharBoundary-start line u in
          subst (λ b. P (cond b full (0, 0))) (sym (le-ltb cut.from cut.to none)) (start, start)
    ]

-- A part, if it has a byte, and parts behind it.
pub part_then : (text : List ℕ) (low from to : ℕ) (after : List SpanOf) → low ≤ from → (from < to → IsCharBoundary text from × IsCharBoundary text to × Parts text to after) → (to ≤ from → Parts text low after) → Parts text low (part from to ++ after)
part_then text low from to after h some none =
    elim (cases_lt from to) [
      | inl order ↦
          let (start, end, rest) = some order in
          subst (λ b. Parts text low (cond b ((from, to) ∷ []) [] ++ after)) (sym (lt-ltb from to order))
          (h, record { order = omega arith; start = start; end = end }, rest)
      | inr order ↦ subst (λ b. Parts text low (cond b ((from, to) ∷ []) [] ++ after)) (sym (le-ltb from to order)) (none order)
    ]

-- What of the parts lies in a window.
pub clip_spans-Parts : (line : List ℕ) (w : SpanOf) (spans : List SpanOf) (at : ℕ) → IsCharBoundary line w.0 → IsCharBoundary line w.1 → Parts line at spans → Parts line at (clip_spans w spans)
clip_spans-Parts line w [] at start end p = tt
clip_spans-Parts line w (span ∷ spans) at start end p =
    let low = p.0 in
    let order = p.1.order in
    let rest = clip_spans-Parts line w spans span.1 start end p.2 in
    part_then line at (max span.0 w.0) (min span.1 w.1) (clip_spans w spans) (omega arith)
    (λ _. (
      boundary-max line span.0 w.0 p.1.start start,
      boundary-min line span.1 w.1 p.1.end end,
      Parts-lower line (clip_spans w spans) (min span.1 w.1) span.1 (omega arith) rest,
    ))
    (λ _. Parts-lower line (clip_spans w spans) at span.1 (omega arith) rest)

-- Runs are clipped as their parts are.
span_of-run_part : (style from to : ℕ) → map span_of (run_part style from to) ≡ part from to
span_of-run_part style from to =
    elim (cases_lt from to) [
      | inl some ↦ ap (map span_of) (cond-true _ (record { from = from; to = to; style = style } ∷ []) [] (lt-ltb from to some)) ∙ sym (cond-true _ ((from, to) ∷ []) [] (lt-ltb from to some))
      | inr none ↦ ap (map span_of) (cond-false _ (record { from = from; to = to; style = style } ∷ []) [] (le-ltb from to none)) ∙ sym (cond-false _ ((from, to) ∷ []) [] (le-ltb from to none))
    ]

span_of-clip_runs : (w : SpanOf) (runs : List Run) → map span_of (clip_runs w runs) ≡ clip_spans w (map span_of runs)
span_of-clip_runs w [] = refl
span_of-clip_runs w (run ∷ runs) =
    map-append span_of (run_part run.style (max run.from w.0) (min run.to w.1)) (clip_runs w runs)
    ∙ ap₂ (λ (x y : List SpanOf). x ++ y) (span_of-run_part run.style (max run.from w.0) (min run.to w.1)) (span_of-clip_runs w runs)

pub clip_runs-RunParts : (line : List ℕ) (w : SpanOf) (runs : List Run) → IsCharBoundary line w.0 → IsCharBoundary line w.1 → RunParts line runs → RunParts line (clip_runs w runs)
clip_runs-RunParts line w runs start end p =
    subst (Parts line 0) (sym (span_of-clip_runs w runs)) (clip_spans-Parts line w (map span_of runs) 0 start end p)

-- Parts as runs without a style.
span_of-plain_runs : (spans : List SpanOf) → map span_of (plain_runs spans) ≡ spans
span_of-plain_runs [] = refl
span_of-plain_runs (span ∷ spans) = ap (λ (ss : List SpanOf). span ∷ ss) (span_of-plain_runs spans)

pub plain_runs-RunParts : (line : List ℕ) (spans : List SpanOf) → Parts line 0 spans → RunParts line (plain_runs spans)
plain_runs-RunParts line spans p = subst (Parts line 0) (sym (span_of-plain_runs spans)) p
