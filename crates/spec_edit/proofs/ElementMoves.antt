-- What an element has whose blocks an edit leaves.
use Rattle.std.proofs.Common.{◌≡◌, ◌⊎◌, ℕ, ◌+◌, ◌-◌, ◌<◌, ◌≤◌, Bool, true, false, cond, Option, List, [], ◌∷◌, ◌++◌, map, inl, inr, refl, sym, ap, ap₂, subst, ◌∙◌, arith}
use Rattle.std.specs.Prelude.{All}
use Rattle.std.proofs.lemmas.Bool.{lt-ltb, le-ltb}
use Rattle.std.proofs.lemmas.List.{map-append}
use Rattle.std.proofs.lemmas.List.Elements.{All-nil, All-cons, All-head, All-tail, All-append}
use Rattle.spec_text.specs.Lines.{LineState, line_texts}
use Rattle.spec_text.specs.Ranges.{RangeOf, IsOutside, place_after}
use Rattle.spec_script.specs.LongestRuns.{Group, members}
use Rattle.spec_script.specs.Stanzas.{PlacedBlock}
use Rattle.spec_script.specs.Elements.{placed_at, line_of_block}
use Rattle.spec_script.proofs.RunSteps.{map_group}
use Rattle.spec_pages.specs.Rows.{Row, is_title, placed_rows}
use Rattle.spec_pages.specs.Rows as rows
use Rattle.spec_labels.specs.Labels.{LabelOf}
use Rattle.spec_sheets.specs.Cells.{ShownCell}
use Rattle.spec_sheets.specs.Speakers.{Spoken}
use Rattle.spec_sheets.specs.Layout.{is_page_break, laid_beside}
use Rattle.spec_sheets.specs.Shown.{Shown, element_cue}
use Rattle.spec_sheets.proofs.ElementPlaces.{LinesRise, placed_to}
use Rattle.spec_edit.specs.Items.{Item, page_break, row as shown_row}
use Rattle.spec_edit.specs.TextItems.{Script, spoken_by, element_label, text_rows, row_item, row_items, break_items, element_items}
use Rattle.spec_edit.proofs.Steps.{item_after, IsLeft}
use Rattle.spec_edit.specs.RowLines.{RowAt}
use Rattle.spec_edit.proofs.RowMoves.{row_to, SameText, texts_at, single-on, pair-on, BlockMoves, single-moved, pair-moved}
use Rattle.spec_edit.proofs.RowPlaces.{BlockAt, alone-at, beside-at, single-at, pair-at}
use Rattle.spec_edit.proofs.ItemMoves.{LinesMoved, cue-moved, shown-moved}

pub after-front : (range : RangeOf) (place : ℕ) → place < range.first → place_after range place ≡ place
after-front range place low = ap (λ b. cond b place (place + range.new - range.old)) (lt-ltb place range.first low)

pub after-behind : (range : RangeOf) (place : ℕ) → range.first + range.old ≤ place → place_after range place ≡ place + range.new - range.old
after-behind range place high = ap (λ b. cond b place (place + range.new - range.old)) (le-ltb place range.first (omega (arith, high)))

-- A block and an element after an edit that leaves them.
abbrev pub block_after : RangeOf → PlacedBlock → PlacedBlock
block_after range placed = placed_at (place_after range placed.first) placed.block

abbrev pub element_after : RangeOf → Group PlacedBlock → Group PlacedBlock
element_after range element = map_group (block_after range) element

-- A block stands before the lines that an edit replaces, or behind them.
pub record BlockLeft (range : RangeOf) (placed : PlacedBlock) : Type 0 where
  pub lines : LinesRise placed
  pub some : placed.block.first < placed.block.last + 1
  pub side : (placed_to placed ≤ range.first) ⊎ (range.first + range.old ≤ placed.first)

-- Blocks beside one another: none, or a pair in order.
abbrev pub LeftBeside : RangeOf → PlacedBlock → List PlacedBlock → Type 0
LeftBeside range placed [] = Unit {0}
LeftBeside range placed (right ∷ []) = BlockLeft range right × (placed.first ≤ right.first)
LeftBeside range placed (right ∷ other ∷ more) = ⊥

pub record ElementLeft (range : RangeOf) (element : Group PlacedBlock) : Type 0 where
  pub first : BlockLeft range element.first
  pub beside : LeftBeside range element.first element.more

-- The rows of a block with those beside it, where it is continued or not.
abbrev pub rows_beside : List LineState → Spoken → List Spoken → List Row
rows_beside lines it more = placed_rows (laid_beside lines it more)

module _ (range : RangeOf) where
  outside : (placed : PlacedBlock) → BlockLeft range placed → BlockAt (IsOutside range) placed
  outside placed it n low high = elim it.side [
    | inl front ↦ inl (omega (arith, front, high))
    | inr behind ↦ inr (omega (arith, behind))
  ]

  pub place-in : (placed : PlacedBlock) (n : ℕ) → BlockLeft range placed → placed.block.first ≤ n → n < placed.block.last + 1 → place_after range (placed.first + n) ≡ place_after range placed.first + n
  place-in placed n it low high = elim it.side [
    | inl front ↦
        let some = it.some in
        let here = after-front range (placed.first + n) (omega (arith, front, high)) in
        let first = after-front range placed.first (omega (arith, front, some)) in
        omega (arith, here, first)
    | inr behind ↦
        let here = after-behind range (placed.first + n) (omega (arith, behind)) in
        let first = after-behind range placed.first behind in
        omega (arith, here, first, behind)
  ]

  -- A block's line after the edit.
  pub line-after : (placed : PlacedBlock) → BlockLeft range placed → line_of_block (block_after range placed) ≡ place_after range (line_of_block placed)
  line-after placed it = sym (place-in placed placed.block.first it (omega arith) it.some)

  order-after : (left right : PlacedBlock) → BlockLeft range left → BlockLeft range right → left.first ≤ right.first → place_after range left.first ≤ place_after range right.first
  order-after left right l r order =
      let left_some = l.some in
      let right_some = r.some in
      elim l.side [
        | inl front ↦
            let here = after-front range left.first (omega (arith, front, left_some)) in
            elim r.side [
              | inl other ↦ let there = after-front range right.first (omega (arith, other, right_some)) in omega (arith, here, there, order)
              | inr other ↦ let there = after-behind range right.first other in omega (arith, here, there, front, other, left_some)
            ]
        | inr behind ↦
            let here = after-behind range left.first behind in
            let there = after-behind range right.first (omega (arith, behind, order)) in
            omega (arith, here, there, order)
      ]

  module _ (old new : Script) (moved : LinesMoved (IsOutside range) (place_after range) old.lines new.lines) where
    block-moves : (placed : PlacedBlock) → BlockLeft range placed → BlockMoves (place_after range) old.lines new.lines placed (block_after range placed)
    block-moves placed it = record {
      block = refl;
      rise = it.lines;
      stands = record {
        place = λ n low high. place-in placed n it low high;
        line = λ n low high. subst (λ p. rows.line_state new.lines p ≡ rows.line_state old.lines (placed.first + n)) (place-in placed n it low high)
            (moved.line (placed.first + n) (outside placed it n low high));
      };
      some = it.some;
    }

    abbrev Same : ℕ → Type 0
    Same place = SameText (place_after range) (texts_at old.lines) (texts_at new.lines) place

    same-in : (placed : PlacedBlock) → BlockLeft range placed → BlockAt Same placed
    same-in placed it n low high = ap (λ (line : LineState). line.text) (moved.line (placed.first + n) (outside placed it n low high))

    -- The same speeches of an element are continued.
    abbrev pub SpeaksSame : PlacedBlock → Type 0
    SpeaksSame placed = new.continued (line_of_block (block_after range placed)) ≡ old.continued (line_of_block placed)

    rows-moved : (placed : PlacedBlock) (more : List PlacedBlock) → BlockLeft range placed → LeftBeside range placed more → All SpeaksSame (placed ∷ more)
        → rows_beside new.lines (spoken_by new (block_after range placed)) (map (spoken_by new) (map (block_after range) more))
        ≡ map (row_to (place_after range)) (rows_beside old.lines (spoken_by old placed) (map (spoken_by old) more))
    rows-moved placed [] it beside speaks =
        let own = old.continued (line_of_block placed) in
        ap (λ (c : Bool). rows_beside new.lines (record { placed = block_after range placed; continued = c }) []) (All-head SpeaksSame placed [] speaks)
        ∙ single-on new.lines (block_after range placed) own
        ∙ single-moved (place_after range) old.lines new.lines placed (block_after range placed) own (block-moves placed it) (alone-at Same old.lines placed (same-in placed it) it.lines it.some)
        ∙ ap (map (row_to (place_after range))) (sym (single-on old.lines placed own))
    rows-moved placed (right ∷ []) it beside speaks =
        let own = old.continued (line_of_block placed) in
        let second = old.continued (line_of_block right) in
        let there = beside.0 in
        ap₂ (λ (c d : Bool). rows_beside new.lines (record { placed = block_after range placed; continued = c }) (record { placed = block_after range right; continued = d } ∷ []))
        (All-head SpeaksSame placed (right ∷ []) speaks) (All-head SpeaksSame right [] (All-tail SpeaksSame placed (right ∷ []) speaks))
        ∙ pair-on new.lines (block_after range placed) own (block_after range right) second (order-after placed right it there beside.1)
        ∙ pair-moved (place_after range) old.lines new.lines placed right (block_after range placed) (block_after range right) own second (block-moves placed it) (block-moves right there)
        (beside-at Same old.lines placed right (same-in placed it) (same-in right there) it.lines there.lines)
        ∙ ap (map (row_to (place_after range))) (sym (pair-on old.lines placed own right second beside.1))
    rows-moved placed (right ∷ other ∷ more) it beside speaks = absurd beside

    rows-at : (placed : PlacedBlock) (more : List PlacedBlock) → BlockLeft range placed → LeftBeside range placed more
        → All (RowAt (IsOutside range)) (rows_beside old.lines (spoken_by old placed) (map (spoken_by old) more))
    rows-at placed [] it beside =
        let own = old.continued (line_of_block placed) in
        subst (All (RowAt (IsOutside range))) (sym (single-on old.lines placed own)) (single-at (IsOutside range) old.lines placed own (outside placed it) it.lines it.some)
    rows-at placed (right ∷ []) it beside =
        let own = old.continued (line_of_block placed) in
        let second = old.continued (line_of_block right) in
        subst (All (RowAt (IsOutside range))) (sym (pair-on old.lines placed own right second beside.1))
        (pair-at (IsOutside range) old.lines placed own right second (outside placed it) (outside right beside.0) it.lines (beside.0).lines)
    rows-at placed (right ∷ other ∷ more) it beside = absurd beside

    bodies-moved : (element : Group PlacedBlock) → ElementLeft range element → All SpeaksSame (members element)
        → text_rows new (element_after range element) ≡ map (row_to (place_after range)) (text_rows old element)
    bodies-moved element it speaks =
        ap (λ (made : List Row). cond (is_title element.first.block.kind) [] made) (rows-moved element.first element.more it.first it.beside speaks) ∙ by (is_title element.first.block.kind)
      where
        own : List Row
        own = rows_beside old.lines (spoken_by old element.first) (map (spoken_by old) element.more)

        by : (b : Bool) → cond b [] (map (row_to (place_after range)) own) ≡ map (row_to (place_after range)) (cond b [] own)
        by true = refl
        by false = refl

    pub bodies-at : (element : Group PlacedBlock) → ElementLeft range element → All (RowAt (IsOutside range)) (text_rows old element)
    bodies-at element it = by (is_title element.first.block.kind) (rows-at element.first element.more it.first it.beside)
      where
        own : List Row
        own = rows_beside old.lines (spoken_by old element.first) (map (spoken_by old) element.more)

        by : (b : Bool) → All (RowAt (IsOutside range)) own → All (RowAt (IsOutside range)) (cond b [] own)
        by true all = All-nil (RowAt (IsOutside range))
        by false all = all

    breaks-moved : (placed : PlacedBlock) → BlockLeft range placed → break_items (block_after range placed) ≡ map (item_after range) (break_items placed)
    breaks-moved placed it =
        ap (λ p. cond (is_page_break placed.block.kind) (record { spot = record { place = p; row = 0 }; sight = page_break } ∷ []) []) (line-after placed it) ∙ by (is_page_break placed.block.kind)
      where
        by : (b : Bool) → cond b (record { spot = record { place = place_after range (line_of_block placed); row = 0 }; sight = page_break } ∷ []) []
            ≡ map (item_after range) (cond b (record { spot = record { place = line_of_block placed; row = 0 }; sight = page_break } ∷ []) [])
        by true = refl
        by false = refl

    each-row : (cue : List ShownCell) (label : Option LabelOf) (those : List Row) → All (RowAt (IsOutside range)) those
        → map (row_item new.lines cue label) (map (row_to (place_after range)) those) ≡ map (item_after range) (map (row_item old.lines cue label) those)
    each-row cue label [] all = refl
    each-row cue label (it ∷ those) all =
        ap₂ (λ (shown : Shown) (items : List Item). record { spot = record { place = place_after range it.line; row = it.row }; sight = shown_row shown } ∷ items)
        (shown-moved (IsOutside range) (place_after range) old.lines new.lines moved cue label it (All-head (RowAt (IsOutside range)) it those all))
        (each-row cue label those (All-tail (RowAt (IsOutside range)) it those all))

    -- It has the same items, moved.
    pub items-moved : (element : Group PlacedBlock) → ElementLeft range element → All SpeaksSame (members element)
        → new.label (line_of_block (block_after range element.first)) ≡ old.label (line_of_block element.first)
        → element_items new (element_after range element) ≡ map (item_after range) (element_items old element)
    items-moved element it speaks label =
        let to = place_after range in
        let own = text_rows old element in
        let at = bodies-at element it in
        let cue = element_cue (line_texts old.lines) own in
        ap₂ (λ (a b : List Item). a ++ b) (breaks-moved element.first it.first)
        (ap (λ (made : List Row). map (row_item new.lines (element_cue (line_texts new.lines) made) (element_label new (element_after range element))) made) (bodies-moved element it speaks)
        ∙ ap₂ (λ (c : List ShownCell) (l : Option LabelOf). map (row_item new.lines c l) (map (row_to to) own))
        (cue-moved (IsOutside range) to old.lines new.lines moved own at) label
        ∙ each-row cue (element_label old element) own at)
        ∙ sym (map-append (item_after range) (break_items element.first) (row_items old element))

    -- They stand outside the replaced lines.
    pub items-left : (element : Group PlacedBlock) → ElementLeft range element → All (IsLeft range) (element_items old element)
    items-left element it =
        All-append (IsLeft range) (break_items element.first) (row_items old element) (by (is_page_break element.first.block.kind))
        (each (text_rows old element) (bodies-at element it))
      where
        line_left : IsOutside range (line_of_block element.first)
        line_left = outside element.first it.first element.first.block.first (omega arith) (it.first).some

        cue : List ShownCell
        cue = element_cue (line_texts old.lines) (text_rows old element)

        by : (b : Bool) → All (IsLeft range) (cond b (record { spot = record { place = line_of_block element.first; row = 0 }; sight = page_break } ∷ []) [])
        by true = All-cons (IsLeft range) (record { spot = record { place = line_of_block element.first; row = 0 }; sight = page_break }) [] line_left (All-nil (IsLeft range))
        by false = All-nil (IsLeft range)

        each : (those : List Row) → All (RowAt (IsOutside range)) those → All (IsLeft range) (map (row_item old.lines cue (element_label old element)) those)
        each [] all = All-nil (IsLeft range)
        each (one ∷ those) all =
            All-cons (IsLeft range) (row_item old.lines cue (element_label old element) one) (map (row_item old.lines cue (element_label old element)) those) ((All-head (RowAt (IsOutside range)) one those all).row)
            (each those (All-tail (RowAt (IsOutside range)) one those all))
