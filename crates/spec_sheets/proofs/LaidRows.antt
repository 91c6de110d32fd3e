-- The rows of a layout are those of its elements, one behind another.
use Rattle.std.proofs.Common.{◌≡◌, ℕ, ◌+◌, Bool, true, false, not, cond, List, [], ◌∷◌, ◌++◌, length, map, filter, ap, ◌∙◌, sym, refl, arith}
use Rattle.std.specs.List.{flat_map}
use Rattle.std.proofs.lemmas.List.{length-map}
use Rattle.spec_text.specs.Lines.{LineState}
use Rattle.spec_script.specs.LongestRuns.{Group}
use Rattle.spec_pages.specs.Rows.{Row, shifted_row, placed_rows}
use Rattle.spec_sheets.specs.Speakers.{Spoken}
use Rattle.spec_sheets.specs.Layout.{laid_out, is_title_element, in_body, rows_behind, layout_in, placed_in}

-- The rows of an element, with places in the text.
abbrev pub element_rows : List LineState → Group Spoken → List Row
element_rows lines element = placed_rows (laid_out lines element)

-- Those that stand on title pages, and those in the body.
abbrev pub title_rows : List LineState → Group Spoken → List Row
title_rows lines element = cond (is_title_element element) (element_rows lines element) []

abbrev pub body_rows : List LineState → Group Spoken → List Row
body_rows lines element = cond (is_title_element element) [] (element_rows lines element)

pub layout-titles : (lines : List LineState) (elements : List (Group Spoken)) → placed_in (layout_in lines elements).titles ≡ flat_map (title_rows lines) elements
layout-titles lines [] = refl
layout-titles lines (element ∷ elements) = by (is_title_element element) ∙ ap (λ (rows : List Row). title_rows lines element ++ rows) (layout-titles lines elements)
  where
    by : (t : Bool) → placed_in (map (laid_out lines) (cond t (element ∷ filter is_title_element elements) (filter is_title_element elements)))
        ≡ cond t (element_rows lines element) [] ++ placed_in (layout_in lines elements).titles
    by true = refl
    by false = refl

pub layout-body : (lines : List LineState) (elements : List (Group Spoken)) → placed_in (layout_in lines elements).body ≡ flat_map (body_rows lines) elements
layout-body lines [] = refl
layout-body lines (element ∷ elements) = by (is_title_element element) ∙ ap (λ (rows : List Row). body_rows lines element ++ rows) (layout-body lines elements)
  where
    by : (t : Bool) → placed_in (map (laid_out lines) (cond (not t) (element ∷ filter in_body elements) (filter in_body elements)))
        ≡ cond t [] (element_rows lines element) ++ placed_in (layout_in lines elements).body
    by true = refl
    by false = refl

pub length-element_rows : (lines : List LineState) (element : Group Spoken) → length (element_rows lines element) ≡ length (laid_out lines element).rows
length-element_rows lines element = length-map (laid_out lines element).rows (shifted_row (laid_out lines element).first)

-- How many body rows stand before what is behind an element.
pub rows_behind-count : (lines : List LineState) (count : ℕ) (element : Group Spoken) → rows_behind lines count element ≡ count + length (body_rows lines element)
rows_behind-count lines count element = by (is_title_element element)
  where
    by : (t : Bool) → cond (not t) (count + length (laid_out lines element).rows) count ≡ count + length (cond t [] (element_rows lines element))
    by true = omega arith
    by false = ap (λ n. count + n) (sym (length-element_rows lines element))
