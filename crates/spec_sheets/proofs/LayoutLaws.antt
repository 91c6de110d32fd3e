-- The rows of a text show parts of its lines.
use Rattle.std.proofs.Common.{ℕ, Bool, Option, None, List, [], length, get_or, sym, subst}
use Rattle.std.specs.Prelude.{All}
use Rattle.std.proofs.lemmas.List.Elements.{All-nil, All-cons}
use Rattle.spec_text.specs.Lines.{LineState, TextState, IsText, line_texts}
use Rattle.spec_script.specs.LongestRuns.{Group}
use Rattle.spec_script.specs.Stanzas.{PlacedBlock, blocks_of}
use Rattle.spec_script.proofs.RunSteps.{one_alone, two_together}
use Rattle.spec_sheets.specs.Cells.{RowShows}
use Rattle.spec_sheets.specs.Speakers.{Spoken, spoken_elements}
use Rattle.spec_sheets.specs.Layout.{is_title_element, layout_in, layout_of, placed_in}
use Rattle.spec_pages.proofs.CellLaws.{All-flat_map}
use Rattle.spec_sheets.proofs.RowLaws.{AreTexts, IsText-texts, rows-if, own-placed, single-own, dual-own}
use Rattle.spec_sheets.proofs.ElementPlaces.{BlocksStand, Steps, blocks_of-stand, spoken_elements-rise}
use Rattle.spec_sheets.proofs.LaidRows.{element_rows, title_rows, body_rows, layout-titles, layout-body}

-- The rows of elements show parts of lines.
abbrev ElementShows : List LineState → Group Spoken → Type 0
ElementShows lines element = All (RowShows (line_texts lines)) (element_rows lines element)

abbrev AllShow : List LineState → ℕ → ℕ → List (Group Spoken) → Type 0
AllShow lines low high elements = All (ElementShows lines) elements

show-steps : (lines : List LineState) → AreTexts (line_texts lines) → Steps (line_texts lines) (AllShow lines)
show-steps lines are = record {
  none = λ low high order. All-nil (ElementShows lines);
  single = λ low high it others stands order behind.
      All-cons (ElementShows lines) (one_alone it) others (own-placed (line_texts lines) it.placed.first _ (single-own lines it.placed it.continued are stands.lies)) behind;
  double = λ low high left right others l r dual places order apart behind.
      All-cons (ElementShows lines) (two_together left right) others
      (own-placed (line_texts lines) left.placed.first _ (dual-own lines left.placed right.placed left.continued right.continued are l.lies r.lies places)) behind;
}

-- Which of them stand on title pages.
titles-show : (lines : List LineState) (elements : List (Group Spoken)) → AllShow lines 0 0 elements → All (RowShows (line_texts lines)) (placed_in (layout_in lines elements).titles)
titles-show lines elements all =
    subst (All (RowShows (line_texts lines))) (sym (layout-titles lines elements))
    (All-flat_map (RowShows (line_texts lines)) (title_rows lines) elements
    (λ k d h. rows-if (RowShows (line_texts lines)) (is_title_element (get_or elements k d)) _ [] (all k d h) (All-nil (RowShows (line_texts lines)))))

body-show : (lines : List LineState) (elements : List (Group Spoken)) → AllShow lines 0 0 elements → All (RowShows (line_texts lines)) (placed_in (layout_in lines elements).body)
body-show lines elements all =
    subst (All (RowShows (line_texts lines))) (sym (layout-body lines elements))
    (All-flat_map (RowShows (line_texts lines)) (body_rows lines) elements
    (λ k d h. rows-if (RowShows (line_texts lines)) (is_title_element (get_or elements k d)) [] _ (All-nil (RowShows (line_texts lines))) (all k d h)))

-- All rows of blocks that stand in a text show parts of its lines.
pub layout_in-show : (speakers : Bool) (lines : List LineState) (last : Option (List ℕ)) (low high place : ℕ) (blocks : List PlacedBlock) → AreTexts (line_texts lines)
    → BlocksStand (line_texts lines) low high place blocks
    → let layout = layout_in lines (spoken_elements speakers lines last blocks) in
    All (RowShows (line_texts lines)) (placed_in layout.titles) × All (RowShows (line_texts lines)) (placed_in layout.body)
layout_in-show speakers lines last low high place blocks are stand =
    let elements = spoken_elements speakers lines last blocks in
    let all = spoken_elements-rise speakers lines (AllShow lines) (show-steps lines are) last low high place blocks stand in
    (titles-show lines elements all, body-show lines elements all)

-- All rows of a text show parts of its lines.
pub layout_of-show : (speakers : Bool) (text : TextState) → IsText text
    → All (RowShows (line_texts text.lines)) (placed_in (layout_of speakers text.lines).titles) × All (RowShows (line_texts text.lines)) (placed_in (layout_of speakers text.lines).body)
layout_of-show speakers text is =
    let texts = line_texts text.lines in
    let are = IsText-texts text is in
    layout_in-show speakers text.lines None 0 (length texts) 0 (blocks_of texts) are (blocks_of-stand texts are.utf8 are.few)
