-- Numbers and marks of the rows of a state.
use Rattle.std.proofs.Common.{◌≡◌, ℕ, ◌-◌, ◌≤◌, max, List, [], ◌∷◌, length, get_or, sym, ap, ◌∙◌, arith}
use Rattle.std.specs.Prelude.{All, fold, slice_range, drop}
use Rattle.std.proofs.lemmas.List.{length-map, get_or-map}
use Rattle.std.proofs.lemmas.List.Elements.{All-head, All-tail, All-take, All-drop}
use Rattle.spec_labels.specs.declared.RowKey.{RowKey}
use Rattle.spec_pages.specs.Rows.{Row}
use Rattle.spec_sheets.specs.Shown.{Shown, mark_of, row_key, no_row}
use Rattle.spec_sheets.proofs.RowFacts.{LowRow, layout_of-low}
use Rattle.spec_sheets.proofs.ShownLaws.{shown_rows-marks, length-shown_rows}
use Rattle.spec_state.specs.State.{State, text_of}
use Rattle.spec_state.specs.Headings.{heading_labels}
use Rattle.spec_state.specs.StateSheets.{greatest_mark, layout_in, rows_in, keys_in}
use Rattle.spec_state.specs.KeptStates.{IsKept}
use Rattle.spec_state.proofs.StateKeys.{body_in, state-row_keys}

state-low : (state : State) → IsKept state → All (LowRow state.round) (body_in state)
state-low state kept = layout_of-low state.speakers (text_of state) state.round kept.text kept.marks

-- The marks of rows are at most the round.
pub rows-marks : (state : State) → IsKept state → All (λ (it : Shown). it.mark ≤ state.round) (rows_in state)
rows-marks state kept k d inside =
    let rows = rows_in state in
    let made = body_in state in
    let same = shown_rows-marks state.lines (heading_labels state.lines state.scenes) (layout_in state).body in
    let count = length-shown_rows state.lines (heading_labels state.lines state.scenes) (layout_in state).body in
    let at = sym (get_or-map mark_of rows k d 0 inside) ∙ ap (λ (l : List ℕ). get_or l k 0) same ∙ get_or-map (λ (row : Row). row.mark) made k no_row 0 (omega (arith, inside, count)) in
    let low = (state-low state kept k no_row (omega (arith, inside, count))).low in
    omega (arith, at, low)

-- The numbers of rows in their lines are below 4,096.
pub keys-low : (state : State) → IsKept state → All (λ (key : RowKey). key.row ≤ 4095) (keys_in state)
keys-low state kept k d inside =
    let keys = keys_in state in
    let made = body_in state in
    let same = state-row_keys state in
    let count : length keys ≡ length made = ap length same ∙ length-map made (row_key state.lines) in
    let at = ap (λ (key : RowKey). key.row) (ap (λ (l : List RowKey). get_or l k d) same ∙ get_or-map (row_key state.lines) made k no_row d (omega (arith, inside, count))) in
    let low = (state-low state kept k no_row (omega (arith, inside, count))).row in
    omega (arith, at, low)

-- So is the greatest mark of some of them.
fold-low : (round least : ℕ) (rows : List Shown) → least ≤ round → All (λ (it : Shown). it.mark ≤ round) rows → fold (λ mark (it : Shown). max mark it.mark) least rows ≤ round
fold-low round least [] low all = low
fold-low round least (it ∷ rows) low all =
    let here = All-head (λ (x : Shown). x.mark ≤ round) it rows all in
    fold-low round (max least it.mark) rows (omega (arith, low, here)) (All-tail (λ (x : Shown). x.mark ≤ round) it rows all)

pub greatest-low : (round from to : ℕ) (rows : List Shown) → All (λ (it : Shown). it.mark ≤ round) rows → greatest_mark (slice_range rows from to) ≤ round
greatest-low round from to rows all =
    fold-low round 0 (slice_range rows from to) (omega arith) (All-take (λ (it : Shown). it.mark ≤ round) (to - from) (drop from rows) (All-drop (λ (it : Shown). it.mark ≤ round) from rows all))
