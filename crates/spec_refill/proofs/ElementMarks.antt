-- The marks of elements, and what stands in a text by marks.
use Rattle.std.proofs.Common.{◌≡◌, ℕ, suc, ◌+◌, Bool, true, false, cond, Option, append_assoc, arith, List, [], ◌∷◌, ◌++◌, length, map, get_or, refl, sym, ap, ap₂, subst, ◌∙◌}
use Rattle.std.specs.Prelude.{All, filter}
use Rattle.std.specs.List.{flat_map, list_any}
use Rattle.std.proofs.lemmas.List.{map-append}
use Rattle.std.proofs.lemmas.List.Elements.{All-nil, All-cons, All-head, All-tail}
use Rattle.spec_text.specs.Lines.{LineState, line_texts}
use Rattle.spec_text.specs.Ranges.{RangeOf}
use Rattle.spec_text.proofs.ListLaws.{pairs-map}
use Rattle.spec_script.specs.LongestRuns.{Group}
use Rattle.spec_script.specs.Stanzas.{PlacedBlock}
use Rattle.spec_script.specs.Elements.{line_of_block}
use Rattle.spec_pages.specs.declared.Shape.{Shape}
use Rattle.spec_pages.specs.Columns.{has_rows}
use Rattle.spec_pages.specs.Rows.{Row, spoken_rows, with_speakers, is_title, title_row, block_alone, blocks_beside, single_rows, shifted_row, placed_rows}
use Rattle.spec_labels.specs.Labels.{LabelOf}
use Rattle.spec_labels.specs.Spots.{Spot, is_ahead, spot_after}
use Rattle.spec_sheets.specs.Cells.{ShownCell}
use Rattle.spec_sheets.specs.Layout.{is_page_break, laid_out, laid_beside}
use Rattle.spec_sheets.specs.Shown.{element_cue, shape_of}
use Rattle.spec_edit.specs.Items.{Sight, page_break as break_sight, row as shown_row, Item, all_sights, shapes_among, breaks_among, start_of, is_front}
use Rattle.spec_edit.specs.TextItems.{Script, spoken_group, element_label, text_rows, row_item, row_items, break_items, element_items}
use Rattle.spec_edit.proofs.Steps.{AreRising as ItemsRising, IsLeft as ItemLeft, item_after}
use Rattle.spec_refill.specs.Exchanges.{silent, silent_group, body_rows, count_rows}
use Rattle.spec_refill.proofs.Marks.{Mark, page_break, row, spot_in, is_before, shapes, rows, breaks, start, mark_after, rows-append}
use Rattle.spec_refill.proofs.MarkStarts.{IsLeft, AreRising}

abbrev pub row_mark : Row → Mark
row_mark it = row (record { place = it.line; row = it.row }) it.shape

abbrev pub break_marks : PlacedBlock → List Mark
break_marks placed = cond (is_page_break placed.block.kind) (page_break (record { place = line_of_block placed; row = 0 }) ∷ []) []

-- What an element has in the body.
abbrev pub element_marks : List LineState → Group PlacedBlock → List Mark
element_marks lines element = break_marks element.first ++ map row_mark (body_rows lines element)

-- What elements have.
abbrev pub marks_of : List LineState → List (Group PlacedBlock) → List Mark
marks_of lines elements = flat_map (element_marks lines) elements

-- ---- rows don't turn on who goes on

abbrev marks_at : ℕ → List Row → List Mark
marks_at first those = map row_mark (map (shifted_row first) those)

spoken-marks : (lines : List LineState) (base first : ℕ) (speakers : List Bool) (those : List Row) → marks_at base (spoken_rows lines first speakers those) ≡ marks_at base those
spoken-marks lines base first speakers [] = refl
spoken-marks lines base first speakers (it ∷ those) = refl

speakers-marks : (lines : List LineState) (base first : ℕ) (speakers : List Bool) (those : List Row) → marks_at base (with_speakers lines first speakers those) ≡ marks_at base those
speakers-marks lines base first speakers those = by (list_any (λ goes_on. goes_on) speakers)
  where
    by : (b : Bool) → marks_at base (cond b (spoken_rows lines first speakers those) those) ≡ marks_at base those
    by true = spoken-marks lines base first speakers those
    by false = refl

single-marks : (lines : List LineState) (placed : PlacedBlock) (one other : Bool)
    → marks_at placed.first (single_rows lines placed.first placed.block one) ≡ marks_at placed.first (single_rows lines placed.first placed.block other)
single-marks lines placed one other = by (has_rows placed.block.kind) (is_title placed.block.kind)
  where
    made : List Row
    made = block_alone lines placed.first placed.block

    by : (a b : Bool) → marks_at placed.first (cond a (cond b (map title_row made) (with_speakers lines placed.first (one ∷ []) made)) [])
        ≡ marks_at placed.first (cond a (cond b (map title_row made) (with_speakers lines placed.first (other ∷ []) made)) [])
    by false b = refl
    by true true = refl
    by true false = speakers-marks lines placed.first placed.first (one ∷ []) made ∙ sym (speakers-marks lines placed.first placed.first (other ∷ []) made)

beside-marks : (lines : List LineState) (c : PlacedBlock → Bool) (placed : PlacedBlock) (more : List PlacedBlock)
    → map row_mark (placed_rows (laid_beside lines (record { placed = placed; continued = c placed }) (map (λ (it : PlacedBlock). record { placed = it; continued = c it }) more)))
    ≡ map row_mark (placed_rows (laid_beside lines (silent placed) (map silent more)))
beside-marks lines c placed [] = single-marks lines placed (c placed) false
beside-marks lines c placed (right ∷ more) =
    let made = blocks_beside lines placed.first placed.block right.first right.block in
    speakers-marks lines placed.first placed.first (c placed ∷ c right ∷ []) made ∙ sym (speakers-marks lines placed.first placed.first (false ∷ false ∷ []) made)

pub rows-marks : (script : Script) (element : Group PlacedBlock) → map row_mark (text_rows script element) ≡ map row_mark (body_rows script.lines element)
rows-marks script element = by (is_title element.first.block.kind)
  where
    by : (b : Bool) → map row_mark (cond b [] (placed_rows (laid_out script.lines (spoken_group script element)))) ≡ map row_mark (cond b [] (placed_rows (laid_out script.lines (silent_group element))))
    by true = refl
    by false = beside-marks script.lines (λ (it : PlacedBlock). script.continued (line_of_block it)) element.first element.more

-- ---- items by marks

abbrev mark_by : Spot → Sight → Mark
mark_by spot break_sight = page_break spot
mark_by spot (shown_row it) = row spot (shape_of it)

abbrev pub mark_of : Item → Mark
mark_of item = mark_by item.spot item.sight

row-items-marks : (lines : List LineState) (cue : List ShownCell) (label : Option LabelOf) (those : List Row) → map mark_of (map (row_item lines cue label) those) ≡ map row_mark those
row-items-marks lines cue label [] = refl
row-items-marks lines cue label (it ∷ those) = ap (λ (l : List Mark). row_mark it ∷ l) (row-items-marks lines cue label those)

break-items-marks : (placed : PlacedBlock) → map mark_of (break_items placed) ≡ break_marks placed
break-items-marks placed = by (is_page_break placed.block.kind)
  where
    by : (b : Bool) → map mark_of (cond b (record { spot = record { place = line_of_block placed; row = 0 }; sight = break_sight } ∷ []) [])
        ≡ cond b (page_break (record { place = line_of_block placed; row = 0 }) ∷ []) []
    by true = refl
    by false = refl

pub items-marks : (script : Script) (element : Group PlacedBlock) → map mark_of (element_items script element) ≡ element_marks script.lines element
items-marks script element =
    map-append mark_of (break_items element.first) (row_items script element)
    ∙ ap₂ (λ (a b : List Mark). a ++ b) (break-items-marks element.first)
    (row-items-marks script.lines (element_cue (line_texts script.lines) (text_rows script element)) (element_label script element) (text_rows script element) ∙ rows-marks script element)

pub text-marks : (script : Script) (elements : List (Group PlacedBlock)) → map mark_of (flat_map (element_items script) elements) ≡ marks_of script.lines elements
text-marks script [] = refl
text-marks script (element ∷ elements) =
    map-append mark_of (element_items script element) (flat_map (element_items script) elements) ∙ ap₂ (λ (a b : List Mark). a ++ b) (items-marks script element) (text-marks script elements)

-- Rows, page breaks and starts of items are those of their marks.
pub marks-shapes : (items : List Item) → shapes_among (all_sights items) ≡ shapes (map mark_of items)
marks-shapes [] = refl
marks-shapes (item ∷ items) = by item.sight (marks-shapes items)
  where
    by : (sight : Sight) → shapes_among (all_sights items) ≡ shapes (map mark_of items) → shapes_among (sight ∷ all_sights items) ≡ shapes (mark_by item.spot sight ∷ map mark_of items)
    by break_sight rest = rest
    by (shown_row it) rest = ap (λ (l : List Shape). shape_of it ∷ l) rest

pub marks-breaks : (count : ℕ) (items : List Item) → breaks_among count (all_sights items) ≡ breaks count (map mark_of items)
marks-breaks count [] = refl
marks-breaks count (item ∷ items) = by item.sight (marks-breaks count items) (marks-breaks (count + 1) items)
  where
    by : (sight : Sight) → breaks_among count (all_sights items) ≡ breaks count (map mark_of items) → breaks_among (count + 1) (all_sights items) ≡ breaks (count + 1) (map mark_of items)
        → breaks_among count (sight ∷ all_sights items) ≡ breaks count (mark_by item.spot sight ∷ map mark_of items)
    by break_sight same more = ap (λ (l : List ℕ). count ∷ l) same
    by (shown_row it) same more = more

spot-by : (spot : Spot) (sight : Sight) → spot_in (mark_by spot sight) ≡ spot
spot-by spot break_sight = refl
spot-by spot (shown_row it) = refl

front-marks : (spot : Spot) (items : List Item) → map mark_of (filter (is_front spot) items) ≡ filter (is_before spot) (map mark_of items)
front-marks spot [] = refl
front-marks spot (item ∷ items) =
    by (is_ahead item.spot spot) (front-marks spot items)
    ∙ sym (ap (λ b. cond b (mark_of item ∷ filter (is_before spot) (map mark_of items)) (filter (is_before spot) (map mark_of items))) (ap (λ s. is_ahead s spot) (spot-by item.spot item.sight)))
  where
    by : (b : Bool) → map mark_of (filter (is_front spot) items) ≡ filter (is_before spot) (map mark_of items)
        → map mark_of (cond b (item ∷ filter (is_front spot) items) (filter (is_front spot) items)) ≡ cond b (mark_of item ∷ filter (is_before spot) (map mark_of items)) (filter (is_before spot) (map mark_of items))
    by true rest = ap (λ (l : List Mark). mark_of item ∷ l) rest
    by false rest = rest

pub marks-start : (items : List Item) (spot : Spot) → start_of items spot ≡ start (map mark_of items) spot
marks-start items spot = ap length (marks-shapes (filter (is_front spot) items)) ∙ ap rows (front-marks spot items)

pub marks-rise : (items : List Item) → ItemsRising items → AreRising (map mark_of items)
marks-rise items rise =
    pairs-map (λ (one other : Mark). is_ahead (spot_in one) (spot_in other) ≡ true) mark_of items
    (λ i j d less inside. ap₂ (λ (a b : Spot). is_ahead a b) (spot-by (get_or items i d).spot (get_or items i d).sight) (spot-by (get_or items j d).spot (get_or items j d).sight) ∙ rise i j d less inside)

pub after-mark : (range : RangeOf) (item : Item) → mark_of (item_after range item) ≡ mark_after range (mark_of item)
after-mark range item = by item.sight
  where
    by : (sight : Sight) → mark_by (spot_after range item.spot) sight ≡ mark_after range (mark_by item.spot sight)
    by break_sight = refl
    by (shown_row it) = refl

pub after-marks : (range : RangeOf) (items : List Item) → map mark_of (map (item_after range) items) ≡ map (mark_after range) (map mark_of items)
after-marks range [] = refl
after-marks range (item ∷ items) = ap₂ (λ (a : Mark) (b : List Mark). a ∷ b) (after-mark range item) (after-marks range items)

pub marks-left : (range : RangeOf) (items : List Item) → All (ItemLeft range) items → All (IsLeft range) (map mark_of items)
marks-left range [] left = All-nil (IsLeft range)
marks-left range (item ∷ items) left =
    All-cons (IsLeft range) (mark_of item) (map mark_of items) (subst (λ (s : Spot). ItemLeft range (record { spot = s; sight = item.sight })) (sym (spot-by item.spot item.sight)) (All-head (ItemLeft range) item items left))
    (marks-left range items (All-tail (ItemLeft range) item items left))

-- ---- counts

row-shapes : (those : List Row) → length (shapes (map row_mark those)) ≡ length those
row-shapes [] = refl
row-shapes (it ∷ those) = ap suc (row-shapes those)

break-rows : (placed : PlacedBlock) → rows (break_marks placed) ≡ 0
break-rows placed = by (is_page_break placed.block.kind)
  where
    by : (b : Bool) → rows (cond b (page_break (record { place = line_of_block placed; row = 0 }) ∷ []) []) ≡ 0
    by true = refl
    by false = refl

pub count-marks : (lines : List LineState) (elements : List (Group PlacedBlock)) → rows (marks_of lines elements) ≡ count_rows lines elements
count-marks lines [] = refl
count-marks lines (element ∷ elements) =
    let own = body_rows lines element in
    let behind = flat_map (body_rows lines) elements in
    rows-append (element_marks lines element) (marks_of lines elements)
    ∙ ap₂ (λ a b. a + b) (rows-append (break_marks element.first) (map row_mark own) ∙ ap₂ (λ a b. a + b) (break-rows element.first) (row-shapes own)) (count-marks lines elements)
    ∙ sums own behind
  where
    sums : (a b : List Row) → 0 + length a + length b ≡ length (a ++ b)
    sums [] b = omega arith
    sums (x ∷ a) b = let rest = sums a b in omega (arith, rest)

pub marks-append : (lines : List LineState) (xs ys : List (Group PlacedBlock)) → marks_of lines (xs ++ ys) ≡ marks_of lines xs ++ marks_of lines ys
marks-append lines [] ys = refl
marks-append lines (x ∷ xs) ys = ap (λ (l : List Mark). element_marks lines x ++ l) (marks-append lines xs ys) ∙ sym (append_assoc (element_marks lines x) (marks_of lines xs) (marks_of lines ys))
