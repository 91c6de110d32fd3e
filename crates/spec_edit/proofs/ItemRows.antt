-- The rows and the breaks of what an element has.
use Rattle.std.proofs.Common.{◌≡◌, Bool, true, false, cond, List, [], ◌∷◌, ◌++◌, length, map, inl, inr, refl, sym, ap, ap₂, ◌∙◌, Option, suc}
use Rattle.std.proofs.lemmas.Bool.{cases_Bool, true≢false}
use Rattle.std.proofs.lemmas.List.{map-append}
use Rattle.spec_text.specs.Lines.{LineState, line_texts}
use Rattle.spec_script.specs.declared.Kind.{Kind}
use Rattle.spec_script.specs.declared.Kind.TheVariants as kinds
use Rattle.spec_script.specs.LongestRuns.{Group}
use Rattle.spec_script.specs.Stanzas.{PlacedBlock}
use Rattle.spec_script.specs.Elements.{line_of_block, is_dual, alone}
use Rattle.spec_script.proofs.ElementLaws.{dual-speech}
use Rattle.spec_pages.specs.declared.Shape.{Shape}
use Rattle.spec_pages.specs.Columns.{has_rows}
use Rattle.spec_pages.specs.Rows.{Row, is_title, finished_rows, shifted_row}
use Rattle.spec_labels.specs.Labels.{LabelOf}
use Rattle.spec_sheets.specs.Cells.{ShownCell}
use Rattle.spec_sheets.specs.Layout.{is_page_break}
use Rattle.spec_sheets.specs.Shown.{Shown, element_cue, shown_of, shape_of}
use Rattle.spec_edit.specs.Items.{Item, page_break, all_sights, sight_of, rows_among, shapes_among}
use Rattle.spec_edit.specs.TextItems.{Script, element_label, text_rows, row_item, row_items, break_items, element_items}
use Rattle.spec_edit.proofs.AmongLaws.{rows_among-append}

-- A page break has no row.
break-rowless : (kind : Kind) → is_page_break kind ≡ true → has_rows kind ≡ false
break-rowless kinds.PageBreak is = refl
break-rowless kinds.Heading is = absurd (true≢false (sym is))
break-rowless kinds.Action is = absurd (true≢false (sym is))
break-rowless kinds.Speech is = absurd (true≢false (sym is))
break-rowless kinds.Lyric is = absurd (true≢false (sym is))
break-rowless kinds.Transition is = absurd (true≢false (sym is))
break-rowless kinds.Centred is = absurd (true≢false (sym is))
break-rowless kinds.Section is = absurd (true≢false (sym is))
break-rowless kinds.Synopsis is = absurd (true≢false (sym is))
break-rowless kinds.Title is = absurd (true≢false (sym is))

cond-none : (b : Bool) → cond {A = List Row} b [] [] ≡ []
cond-none true = refl
cond-none false = refl

pub break-none : (script : Script) (block : PlacedBlock) → is_page_break block.block.kind ≡ true → text_rows script (alone block) ≡ []
break-none script block is =
    let made = finished_rows script.lines block.first block.block (script.continued (line_of_block block)) in
    ap (λ b. cond (is_title block.block.kind) [] (map (shifted_row block.first) (cond b made []))) (break-rowless block.block.kind is) ∙ cond-none (is_title block.block.kind)

pub break-some : (block : PlacedBlock) → is_page_break block.block.kind ≡ true → break_items block ≡ record { spot = record { place = line_of_block block; row = 0 }; sight = page_break } ∷ []
break-some block is = ap (λ b. cond b (record { spot = record { place = line_of_block block; row = 0 }; sight = page_break } ∷ []) []) is

pub no-break : (block : PlacedBlock) → is_page_break block.block.kind ≡ false → break_items block ≡ []
no-break block is = ap (λ b. cond b (record { spot = record { place = line_of_block block; row = 0 }; sight = page_break } ∷ []) []) is

-- A pair is two speeches.
pub pair-no-break : (left right : PlacedBlock) → is_dual left right ≡ true → break_items left ≡ []
pair-no-break left right dual = no-break left (ap is_page_break (dual-speech left right dual))

-- The rows of an element as its items show them.
abbrev pub shown_texts : Script → Group PlacedBlock → List Shown
shown_texts script element =
    map (shown_of script.lines (element_cue (line_texts script.lines) (text_rows script element)) (element_label script element)) (text_rows script element)

abbrev pub shape_in : Row → Shape
shape_in row = row.shape

rows-shown : (script : Script) (cue : List ShownCell) (label : Option LabelOf) (those : List Row)
    → rows_among (all_sights (map (row_item script.lines cue label) those)) ≡ map (shown_of script.lines cue label) those
rows-shown script cue label [] = refl
rows-shown script cue label (row ∷ those) = ap (λ (made : List Shown). shown_of script.lines cue label row ∷ made) (rows-shown script cue label those)

breaks-rows : (placed : PlacedBlock) → rows_among (all_sights (break_items placed)) ≡ []
breaks-rows placed = elim (cases_Bool (is_page_break placed.block.kind)) [
  | inl is ↦ ap (λ (items : List Item). rows_among (all_sights items)) (break-some placed is)
  | inr not ↦ ap (λ (items : List Item). rows_among (all_sights items)) (no-break placed not)
]

pub element-rows : (script : Script) (element : Group PlacedBlock) → rows_among (all_sights (element_items script element)) ≡ shown_texts script element
element-rows script element =
    ap rows_among (map-append sight_of (break_items element.first) (row_items script element))
    ∙ rows_among-append (all_sights (break_items element.first)) (all_sights (row_items script element))
    ∙ ap₂ (λ (a b : List Shown). a ++ b) (breaks-rows element.first)
    (rows-shown script (element_cue (line_texts script.lines) (text_rows script element)) (element_label script element) (text_rows script element))

pub shapes-rows : (lines : List LineState) (cue : List ShownCell) (label : Option LabelOf) (those : List Row) → shapes_among (all_sights (map (row_item lines cue label) those)) ≡ map shape_in those
shapes-rows lines cue label [] = refl
shapes-rows lines cue label (row ∷ those) = ap (λ (shapes : List Shape). row.shape ∷ shapes) (shapes-rows lines cue label those)

shown-count : (lines : List LineState) (cue : List ShownCell) (label : Option LabelOf) (those : List Row) → length (map shape_of (map (shown_of lines cue label) those)) ≡ length those
shown-count lines cue label [] = refl
shown-count lines cue label (row ∷ those) = ap suc (shown-count lines cue label those)

-- How many rows it has.
pub element-count : (script : Script) (element : Group PlacedBlock) → length (shapes_among (all_sights (element_items script element))) ≡ length (text_rows script element)
element-count script element =
    ap (λ (rows : List Shown). length (map shape_of rows)) (element-rows script element)
    ∙ shown-count script.lines (element_cue (line_texts script.lines) (text_rows script element)) (element_label script element) (text_rows script element)
