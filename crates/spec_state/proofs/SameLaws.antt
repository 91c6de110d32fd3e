-- A row is the same as itself.
use Rattle.std.proofs.Common.{◌≡◌, Bool, true, false, ◌&&◌, List, [], ◌∷◌, refl, ap, eq-eqb}
use Rattle.std.specs.Prelude.{nat_eq}
use Rattle.std.specs.Ordering.{is_eq}
use Rattle.std.proofs.lemmas.Bool.{and_from}
use Rattle.std.proofs.lemmas.Cmp.{tied_itself}
use Rattle.std.proofs.lemmas.Slice.Eq.{bytes_eq-Decides}
use Rattle.spec_pages.specs.declared.Shape.{Shape}
use Rattle.spec_labels.specs.declared.RowKey.{RowKey}
use Rattle.spec_labels.proofs.LabelOrder.{label_cmp_total}
use Rattle.spec_sheets.specs.Cells.{ShownText, slice, label, ShownPart, ShownCell}
use Rattle.spec_state.specs.SameRows.{BareRow, kind_place, same_flag, same_key, same_shape, same_text, same_part, same_parts, same_cell, same_cells, same_row, same_list}

flag-itself : (flag : Bool) → same_flag flag flag ≡ true
flag-itself true = refl
flag-itself false = refl

key-itself : (key : RowKey) → same_key key key ≡ true
key-itself key = and_from (nat_eq key.line key.line) (nat_eq key.row key.row) (eq-eqb key.line key.line refl) (eq-eqb key.row key.row refl)

shape-itself : (it : Shape) → same_shape it it ≡ true
shape-itself it =
    let kind = kind_place it.kind in
    let a = and_from (nat_eq it.rest it.rest) (same_flag it.sentence_end it.sentence_end) (eq-eqb it.rest it.rest refl) (flag-itself it.sentence_end) in
    let b = and_from (nat_eq it.index it.index) (nat_eq it.rest it.rest && same_flag it.sentence_end it.sentence_end) (eq-eqb it.index it.index refl) a in
    let c = and_from (nat_eq kind kind) (nat_eq it.index it.index && (nat_eq it.rest it.rest && same_flag it.sentence_end it.sentence_end)) (eq-eqb kind kind refl) b in
    and_from (nat_eq it.lead it.lead) (nat_eq kind kind && (nat_eq it.index it.index && (nat_eq it.rest it.rest && same_flag it.sentence_end it.sentence_end))) (eq-eqb it.lead it.lead refl) c

text-itself : (text : ShownText) → same_text text text ≡ true
text-itself (slice bytes) = (bytes_eq-Decides bytes bytes).1 refl
text-itself (label it) = ap is_eq (tied_itself label_cmp_total it)

part-itself : (part : ShownPart) → same_part part part ≡ true
part-itself part = and_from (nat_eq part.style part.style) (same_text part.text part.text) (eq-eqb part.style part.style refl) (text-itself part.text)

parts-itself : (parts : List ShownPart) → same_parts parts parts ≡ true
parts-itself [] = refl
parts-itself (part ∷ parts) = and_from (same_part part part) (same_parts parts parts) (part-itself part) (parts-itself parts)

cell-itself : (cell : ShownCell) → same_cell cell cell ≡ true
cell-itself cell = and_from (nat_eq cell.column cell.column) (same_parts cell.parts cell.parts) (eq-eqb cell.column cell.column refl) (parts-itself cell.parts)

cells-itself : (cells : List ShownCell) → same_cells cells cells ≡ true
cells-itself [] = refl
cells-itself (cell ∷ cells) = and_from (same_cell cell cell) (same_cells cells cells) (cell-itself cell) (cells-itself cells)

row-itself : (row : BareRow) → same_row row row ≡ true
row-itself row =
    let a = and_from (nat_eq row.mark row.mark) (same_cells row.cells row.cells) (eq-eqb row.mark row.mark refl) (cells-itself row.cells) in
    let b = and_from (same_shape row.shape row.shape) (nat_eq row.mark row.mark && same_cells row.cells row.cells) (shape-itself row.shape) a in
    and_from (same_key row.key row.key) (same_shape row.shape row.shape && (nat_eq row.mark row.mark && same_cells row.cells row.cells)) (key-itself row.key) b

pub list-itself : (rows : List BareRow) → same_list rows rows ≡ true
list-itself [] = refl
list-itself (row ∷ rows) = and_from (same_row row row) (same_list rows rows) (row-itself row) (list-itself rows)
