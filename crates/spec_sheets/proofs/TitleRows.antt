-- The rows of title pages have the shape of such rows, whatever speakers go on.
use Rattle.std.proofs.Common.{◌≡◌, ℕ, ◌<◌, Bool, true, false, cond, None, List, [], ◌∷◌, ◌++◌, length, map, refl, sym, ap, ap₂, ◌∙◌, subst, arith}
use Rattle.std.specs.Prelude.{All}
use Rattle.std.specs.List.{flat_map, list_any}
use Rattle.std.proofs.lemmas.List.{length-map, get_or-map, map-append}
use Rattle.std.proofs.lemmas.List.Elements.{All-nil, All-cons, All-append}
use Rattle.spec_text.specs.Lines.{LineState, TextState, IsText, line_texts}
use Rattle.spec_script.specs.LongestRuns.{Group}
use Rattle.spec_script.specs.Stanzas.{PlacedBlock, blocks_of}
use Rattle.spec_script.specs.Elements.{elements_in}
use Rattle.spec_script.proofs.ElementLaws.{dual-speech}
use Rattle.spec_script.proofs.RunSteps.{one_alone, two_together, map_group}
use Rattle.spec_pages.specs.declared.Shape.{Shape}
use Rattle.spec_pages.specs.Columns.{has_rows}
use Rattle.spec_pages.specs.Rows.{Row, is_title, title_shape, title_row, block_alone, blocks_beside, spoken_rows, with_speakers, shifted_row}
use Rattle.spec_pages.proofs.TitleEnds.{AreTitleShapes}
use Rattle.spec_sheets.specs.Speakers.{Spoken, text_elements}
use Rattle.spec_sheets.specs.Layout.{layout_of, placed_in}
use Rattle.spec_sheets.specs.Shown.{no_row}
use Rattle.spec_sheets.proofs.ElementPlaces.{Steps, blocks_of-stand, spoken_elements-rise}
use Rattle.spec_sheets.proofs.LaidRows.{element_rows, title_rows, layout-titles}
use Rattle.spec_sheets.proofs.RowLaws.{IsText-texts}
use Rattle.spec_sheets.proofs.SpokenLaws.{placed_of, spoken_elements-placed}

pub record IsTitleRow (row : Row) : Type 0 where
  pub shape : row.shape ≡ title_shape row.shape

made-titles : (first : ℕ) (made : List Row) → All IsTitleRow (map (shifted_row first) (map title_row made))
made-titles first [] = All-nil IsTitleRow
made-titles first (row ∷ later) = All-cons IsTitleRow (shifted_row first (title_row row)) (map (shifted_row first) (map title_row later)) (record { shape = refl }) (made-titles first later)

-- A block by itself.
single-titles : (lines : List LineState) (it : Spoken) → All IsTitleRow (title_rows lines (one_alone it))
single-titles lines it = by (is_title it.placed.block.kind) (has_rows it.placed.block.kind)
  where
    own : List Row
    own = block_alone lines it.placed.first it.placed.block

    by : (t r : Bool) → All IsTitleRow (cond t (map (shifted_row it.placed.first) (cond r (cond t (map title_row own) (with_speakers lines it.placed.first (it.continued ∷ []) own)) [])) [])
    by false r = All-nil IsTitleRow
    by true false = All-nil IsTitleRow
    by true true = made-titles it.placed.first own

title-steps : (lines : List LineState) → Steps (line_texts lines) (λ low high elements. All IsTitleRow (flat_map (title_rows lines) elements))
title-steps lines = record {
  none = λ low high order. All-nil IsTitleRow;
  single = λ low high it others stands order behind. All-append IsTitleRow (title_rows lines (one_alone it)) (flat_map (title_rows lines) others) (single-titles lines it) behind;
  double = λ low high left right others l r dual places order apart behind.
      let speech = dual-speech left.placed right.placed dual in
      let none : title_rows lines (two_together left right) ≡ [] = ap (λ kind. cond (is_title kind) (element_rows lines (two_together left right)) []) speech in
      All-append IsTitleRow (title_rows lines (two_together left right)) (flat_map (title_rows lines) others) (subst (All IsTitleRow) (sym none) (All-nil IsTitleRow)) behind;
}

pub layout_of-titles : (speakers : Bool) (text : TextState) → IsText text → All IsTitleRow (placed_in (layout_of speakers text.lines).titles)
layout_of-titles speakers text is =
    let texts = line_texts text.lines in
    let are = IsText-texts text is in
    subst (All IsTitleRow) (sym (layout-titles text.lines (text_elements speakers text.lines)))
    (spoken_elements-rise speakers text.lines (λ low high elements. All IsTitleRow (flat_map (title_rows text.lines) elements)) (title-steps text.lines) None _ _ _ (blocks_of texts) (blocks_of-stand texts are.utf8 are.few))

-- So they do to page ends.
pub layout_of-title_shapes : (speakers : Bool) (text : TextState) → IsText text → AreTitleShapes (map (λ (row : Row). row.shape) (placed_in (layout_of speakers text.lines).titles))
layout_of-title_shapes speakers text is k d inside =
    let rows = placed_in (layout_of speakers text.lines).titles in
    let low : k < length rows = omega (arith, inside, length-map rows (λ (row : Row). row.shape)) in
    let at = get_or-map (λ (row : Row). row.shape) rows k no_row d low in
    at ∙ (layout_of-titles speakers text is k no_row low).shape ∙ sym (ap title_shape at)

-- ---- speakers who go on

-- What page ends see of the title rows of an element.
abbrev title_shapes : List LineState → Group Spoken → List Shape
title_shapes lines element = map (λ (row : Row). row.shape) (title_rows lines element)

-- A block whose speaker doesn't go on.
abbrev silent : PlacedBlock → Spoken
silent placed = record { placed = placed; continued = false }

shapes-shifted : (first : ℕ) (rows : List Row) → map (λ (row : Row). row.shape) (map (shifted_row first) rows) ≡ map (λ (row : Row). row.shape) rows
shapes-shifted first [] = refl
shapes-shifted first (row ∷ rows) = ap (λ (shapes : List Shape). row.shape ∷ shapes) (shapes-shifted first rows)

shapes-said : (lines : List LineState) (first : ℕ) (speakers : List Bool) (rows : List Row) → map (λ (row : Row). row.shape) (with_speakers lines first speakers rows) ≡ map (λ (row : Row). row.shape) rows
shapes-said lines first speakers rows = by (list_any (λ goes_on. goes_on) speakers) rows
  where
    by : (b : Bool) (those : List Row) → map (λ (row : Row). row.shape) (cond b (spoken_rows lines first speakers those) those) ≡ map (λ (row : Row). row.shape) those
    by false those = refl
    by true [] = refl
    by true (row ∷ later) = refl

shapes-beside : (lines : List LineState) (it : Spoken) (more : List Spoken)
    → title_shapes lines (record { first = it; more = more }) ≡ title_shapes lines (map_group silent (map_group placed_of (record { first = it; more = more })))
shapes-beside lines it [] = by (is_title it.placed.block.kind) (has_rows it.placed.block.kind)
  where
    own : List Row
    own = block_alone lines it.placed.first it.placed.block

    those : Bool → Bool → Bool → List Shape
    those continued t r =
        map (λ (row : Row). row.shape) (cond t (map (shifted_row it.placed.first) (cond r (cond t (map title_row own) (with_speakers lines it.placed.first (continued ∷ []) own)) [])) [])

    by : (t r : Bool) → those it.continued t r ≡ those false t r
    by false r = refl
    by true false = refl
    by true true = refl
shapes-beside lines it (right ∷ others) = by (is_title it.placed.block.kind)
  where
    first : ℕ
    first = it.placed.first

    both : List Row
    both = blocks_beside lines first it.placed.block right.placed.first right.placed.block

    as_said : (speakers : List Bool) → map (λ (row : Row). row.shape) (map (shifted_row first) (with_speakers lines first speakers both)) ≡ map (λ (row : Row). row.shape) both
    as_said speakers = shapes-shifted first (with_speakers lines first speakers both) ∙ shapes-said lines first speakers both

    those : List Bool → Bool → List Shape
    those speakers t = map (λ (row : Row). row.shape) (cond t (map (shifted_row first) (with_speakers lines first speakers both)) [])

    by : (t : Bool) → those (it.continued ∷ right.continued ∷ []) t ≡ those (false ∷ false ∷ []) t
    by false = refl
    by true = as_said (it.continued ∷ right.continued ∷ []) ∙ sym (as_said (false ∷ false ∷ []))

shapes-by_blocks : (lines : List LineState) (elements : List (Group Spoken))
    → map (λ (row : Row). row.shape) (flat_map (title_rows lines) elements) ≡ flat_map (λ element. title_shapes lines (map_group silent element)) (map (map_group placed_of) elements)
shapes-by_blocks lines [] = refl
shapes-by_blocks lines (element ∷ elements) =
    map-append (λ (row : Row). row.shape) (title_rows lines element) (flat_map (title_rows lines) elements)
    ∙ ap₂ (λ (one other : List Shape). one ++ other) (shapes-beside lines element.first element.more) (shapes-by_blocks lines elements)

layout-by_blocks : (speakers : Bool) (lines : List LineState)
    → map (λ (row : Row). row.shape) (placed_in (layout_of speakers lines).titles) ≡ flat_map (λ element. title_shapes lines (map_group silent element)) (elements_in (blocks_of (line_texts lines)))
layout-by_blocks speakers lines =
    let elements = text_elements speakers lines in
    ap (map (λ (row : Row). row.shape)) (layout-titles lines elements) ∙ shapes-by_blocks lines elements
    ∙ ap (flat_map (λ element. title_shapes lines (map_group silent element))) (spoken_elements-placed speakers lines None (blocks_of (line_texts lines)))

-- What page ends see of a title page doesn't turn on whether speakers who go on are told.
pub layout_of-title_same : (one other : Bool) (lines : List LineState) → map (λ (row : Row). row.shape) (placed_in (layout_of one lines).titles) ≡ map (λ (row : Row). row.shape) (placed_in (layout_of other lines).titles)
layout_of-title_same one other lines = layout-by_blocks one lines ∙ sym (layout-by_blocks other lines)
