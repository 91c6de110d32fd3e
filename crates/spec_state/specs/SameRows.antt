-- When rows are the same to an edit (docs/RULES.md, "Edits and records").
use Rattle.std.specs.Prelude.{ℕ, Bool, true, false, not, ◌&&◌, ◌==◌, if◌then◌else◌, List, [], ◌∷◌, map, bytes_eq}
use Rattle.std.specs.Ordering.{is_eq}
use Rattle.spec_pages.specs.declared.RowKind.{RowKind}
use Rattle.spec_pages.specs.declared.RowKind.TheVariants.{Heading, Action, Cue, Parenthetical, Dialogue, Sung, Dual, Lyric, Transition, Centred}
use Rattle.spec_pages.specs.declared.Shape.{Shape}
use Rattle.spec_labels.specs.declared.RowKey.{RowKey}
use Rattle.spec_labels.specs.Labels.{label_cmp}
use Rattle.spec_sheets.specs.Cells.{ShownText, slice, label, ShownPart, ShownCell}
use Rattle.spec_sheets.specs.Shown.{Shown}

-- What an edit sees of a row: its key, its shape with its lead, its mark, and its cells without the scene number.
pub record BareRow : Type 0 where
  pub key : RowKey
  pub shape : Shape
  pub mark : ℕ
  pub cells : List ShownCell

abbrev pub bare_of : Shown → BareRow
bare_of it = record { key = it.key; shape = it.shape; mark = it.mark; cells = it.bare }

abbrev pub kind_place : RowKind → ℕ
kind_place Heading = 0
kind_place Action = 1
kind_place Cue = 2
kind_place Parenthetical = 3
kind_place Dialogue = 4
kind_place Sung = 5
kind_place Dual = 6
kind_place Lyric = 7
kind_place Transition = 8
kind_place Centred = 9

abbrev pub same_flag : Bool → Bool → Bool
same_flag one other = if one then other else not other

abbrev pub same_key : RowKey → RowKey → Bool
same_key one other = (one.line == other.line) && (one.row == other.row)

abbrev pub same_shape : Shape → Shape → Bool
same_shape one other =
    (one.lead == other.lead) && ((kind_place one.kind == kind_place other.kind) && ((one.index == other.index) && ((one.rest == other.rest) && same_flag one.sentence_end other.sentence_end)))

abbrev pub same_text : ShownText → ShownText → Bool
same_text (slice one) (slice other) = bytes_eq one other
same_text (label one) (label other) = is_eq (label_cmp one other)
same_text _ _ = false

-- Cells are compared part by part, as their runs are cut: widths are counted run by run.
abbrev pub same_part : ShownPart → ShownPart → Bool
same_part one other = (one.style == other.style) && same_text one.text other.text

abbrev pub same_parts : List ShownPart → List ShownPart → Bool
same_parts [] [] = true
same_parts (a ∷ one) (b ∷ other) = same_part a b && same_parts one other
same_parts _ _ = false

abbrev pub same_cell : ShownCell → ShownCell → Bool
same_cell one other = (one.column == other.column) && same_parts one.parts other.parts

abbrev pub same_cells : List ShownCell → List ShownCell → Bool
same_cells [] [] = true
same_cells (a ∷ one) (b ∷ other) = same_cell a b && same_cells one other
same_cells _ _ = false

abbrev pub same_row : BareRow → BareRow → Bool
same_row one other = same_key one.key other.key && (same_shape one.shape other.shape && ((one.mark == other.mark) && same_cells one.cells other.cells))

abbrev pub same_list : List BareRow → List BareRow → Bool
same_list [] [] = true
same_list (a ∷ one) (b ∷ other) = same_row a b && same_list one other
same_list _ _ = false

-- The rows are the same by key, shape, mark, and cells without the scene number.
abbrev pub same_rows : List Shown → List Shown → Bool
same_rows one other = same_list (map bare_of one) (map bare_of other)
