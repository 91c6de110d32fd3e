-- The rows before which page breaks stand are no more than the body's rows, and never fall.
use Rattle.std.proofs.Common.{ℕ, ◌+◌, ◌≤◌, Bool, true, false, cond, List, [], ◌∷◌, length, ap, arith, length-append}
use Rattle.std.specs.Prelude.{All, AllPairs}
use Rattle.std.specs.List.{flat_map}
use Rattle.std.proofs.lemmas.List.Elements.{All-nil, All-cons}
use Rattle.std.proofs.lemmas.List.Kept.{AllPairs-cons}
use Rattle.spec_text.specs.Lines.{LineState}
use Rattle.spec_script.specs.LongestRuns.{Group}
use Rattle.spec_sheets.specs.Speakers.{Spoken, text_elements}
use Rattle.spec_sheets.specs.Layout.{kind_of, is_page_break, rows_behind, breaks_from, layout_in, layout_of, placed_in}
use Rattle.spec_sheets.proofs.LaidRows.{body_rows, layout-body, rows_behind-count}

-- Breaks from a place on to another, which never fall.
record BreaksRise (low high : ℕ) (breaks : List ℕ) : Type 0 where
  above : All (λ (stop : ℕ). low ≤ stop) breaks
  below : All (λ (stop : ℕ). stop ≤ high) breaks
  rise : AllPairs (λ (one other : ℕ). one ≤ other) breaks

rise-none : (low high : ℕ) → BreaksRise low high []
rise-none low high = record { above = All-nil (λ (stop : ℕ). low ≤ stop); below = All-nil (λ (stop : ℕ). stop ≤ high); rise = λ i j d below inside. absurd (omega arith) }

rise-lower : (low from high : ℕ) (breaks : List ℕ) → low ≤ from → BreaksRise from high breaks → BreaksRise low high breaks
rise-lower low from high breaks order rise = record { above = λ k d h. let here = rise.above k d h in omega (arith, here, order); below = rise.below; rise = rise.rise }

rise-next : (low high : ℕ) (breaks : List ℕ) → low ≤ high → BreaksRise low high breaks → BreaksRise low high (low ∷ breaks)
rise-next low high breaks order rise = record {
  above = All-cons (λ (stop : ℕ). low ≤ stop) low breaks (omega arith) rise.above;
  below = All-cons (λ (stop : ℕ). stop ≤ high) low breaks order rise.below;
  rise = AllPairs-cons (λ (one other : ℕ). one ≤ other) low breaks rise.above rise.rise;
}

-- By whether an element is a page break.
rise-if : (t : Bool) (low from high : ℕ) (breaks : List ℕ) → low ≤ from → from ≤ high → BreaksRise from high breaks → BreaksRise low high (cond t (low ∷ breaks) breaks)
rise-if true low from high breaks order within rise = rise-next low high breaks (omega (arith, order, within)) (rise-lower low from high breaks order rise)
rise-if false low from high breaks order within rise = rise-lower low from high breaks order rise

breaks_from-rise : (lines : List LineState) (count high : ℕ) (elements : List (Group Spoken)) → count + length (flat_map (body_rows lines) elements) ≤ high → BreaksRise count high (breaks_from lines count elements)
breaks_from-rise lines count high [] few = rise-none count high
breaks_from-rise lines count high (element ∷ elements) few =
    let size = length-append (body_rows lines element) (flat_map (body_rows lines) elements) in
    let behind = rows_behind lines count element in
    let is = rows_behind-count lines count element in
    rise-if (is_page_break (kind_of element)) count behind high (breaks_from lines behind elements) (omega (arith, is)) (omega (arith, is, size, few))
    (breaks_from-rise lines behind high elements (omega (arith, is, size, few)))

layout-breaks : (lines : List LineState) (elements : List (Group Spoken)) → BreaksRise 0 (length (placed_in (layout_in lines elements).body)) (layout_in lines elements).breaks
layout-breaks lines elements =
    let bodies = ap length (layout-body lines elements) in
    breaks_from-rise lines 0 (length (placed_in (layout_in lines elements).body)) elements (omega (arith, bodies))

-- No page break stands behind the last row.
pub layout_in-within : (lines : List LineState) (elements : List (Group Spoken))
    → All (λ (stop : ℕ). stop ≤ length (placed_in (layout_in lines elements).body)) (layout_in lines elements).breaks
layout_in-within lines elements = (layout-breaks lines elements).below

pub layout_of-within : (speakers : Bool) (lines : List LineState) → All (λ (stop : ℕ). stop ≤ length (placed_in (layout_of speakers lines).body)) (layout_of speakers lines).breaks
layout_of-within speakers lines = layout_in-within lines (text_elements speakers lines)
