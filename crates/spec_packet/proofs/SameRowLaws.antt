-- Rows that an edit takes for the same are the same.
use Rattle.std.proofs.Common.{◌≡◌, Bool, true, false, ◌&&◌, ◌==◌, List, [], ◌∷◌, map, refl, sym, ap, ap₂, ◌∙◌, eqb-true, Ordering, Less, Equal, Greater}
use Rattle.std.specs.Prelude.{slice_index_or}
use Rattle.std.specs.Ordering.{is_eq}
use Rattle.std.proofs.lemmas.Bool.{and_parts}
use Rattle.std.proofs.lemmas.Slice.Eq.{bytes_eq-Decides}
use Rattle.spec_pages.specs.declared.RowKind.{RowKind}
use Rattle.spec_pages.specs.declared.RowKind.TheVariants.{Heading, Action, Cue, Parenthetical, Dialogue, Sung, Dual, Lyric, Transition, Centred}
use Rattle.spec_pages.specs.declared.Shape.{Shape}
use Rattle.spec_labels.specs.Labels.{label_cmp}
use Rattle.spec_labels.specs.declared.RowKey.{RowKey}
use Rattle.spec_labels.proofs.LabelOrder.{label_cmp-Equal}
use Rattle.spec_sheets.specs.Cells.{ShownText, slice, label, ShownPart, ShownCell}
use Rattle.spec_sheets.specs.Shown.{Shown}
use Rattle.spec_state.specs.SameRows.{BareRow, bare_of, kind_place, same_flag, same_key, same_shape, same_text, same_part, same_parts, same_cell, same_cells, same_row, same_list, same_rows}

kinds : List RowKind
kinds = Heading ∷ Action ∷ Cue ∷ Parenthetical ∷ Dialogue ∷ Sung ∷ Dual ∷ Lyric ∷ Transition ∷ Centred ∷ []

kind-back : (kind : RowKind) → slice_index_or kinds (kind_place kind) Heading ≡ kind
unfolding kinds
kind-back Heading = refl
kind-back Action = refl
kind-back Cue = refl
kind-back Parenthetical = refl
kind-back Dialogue = refl
kind-back Sung = refl
kind-back Dual = refl
kind-back Lyric = refl
kind-back Transition = refl
kind-back Centred = refl

one-kind : (one other : RowKind) → (kind_place one == kind_place other) ≡ true → one ≡ other
one-kind one other same = sym (kind-back one) ∙ ap (λ n. slice_index_or kinds n Heading) (eqb-true (kind_place one) (kind_place other) same) ∙ kind-back other

one-flag : (one other : Bool) → same_flag one other ≡ true → one ≡ other
one-flag true true same = refl
one-flag true false same = cc
one-flag false true same = cc
one-flag false false same = refl

one-key : (one other : RowKey) → same_key one other ≡ true → one ≡ other
one-key one other same =
    let p = and_parts (one.line == other.line) (one.row == other.row) same in
    let line = eqb-true one.line other.line p.0 in
    let row = eqb-true one.row other.row p.1 in
    λ i. record { line = line i; row = row i }

one-shape : (one other : Shape) → same_shape one other ≡ true → one ≡ other
one-shape one other same =
    let a = and_parts (one.lead == other.lead) ((kind_place one.kind == kind_place other.kind) && ((one.index == other.index) && ((one.rest == other.rest) && same_flag one.sentence_end other.sentence_end))) same in
    let b = and_parts (kind_place one.kind == kind_place other.kind) ((one.index == other.index) && ((one.rest == other.rest) && same_flag one.sentence_end other.sentence_end)) a.1 in
    let c = and_parts (one.index == other.index) ((one.rest == other.rest) && same_flag one.sentence_end other.sentence_end) b.1 in
    let d = and_parts (one.rest == other.rest) (same_flag one.sentence_end other.sentence_end) c.1 in
    let lead = eqb-true one.lead other.lead a.0 in
    let kind = one-kind one.kind other.kind b.0 in
    let index = eqb-true one.index other.index c.0 in
    let rest = eqb-true one.rest other.rest d.0 in
    let ends = one-flag one.sentence_end other.sentence_end d.1 in
    λ i. record { lead = lead i; kind = kind i; index = index i; rest = rest i; sentence_end = ends i }

tied : (o : Ordering) → is_eq o ≡ true → o ≡ Equal
tied Less same = cc
tied Equal same = refl
tied Greater same = cc

one-text : (one other : ShownText) → same_text one other ≡ true → one ≡ other
one-text (slice one) (slice other) same = ap slice ((bytes_eq-Decides one other).0 same)
one-text (slice one) (label other) same = cc
one-text (label one) (slice other) same = cc
one-text (label one) (label other) same = ap label (label_cmp-Equal one other (tied (label_cmp one other) same))

one-part : (one other : ShownPart) → same_part one other ≡ true → one ≡ other
one-part one other same =
    let p = and_parts (one.style == other.style) (same_text one.text other.text) same in
    let style = eqb-true one.style other.style p.0 in
    let text = one-text one.text other.text p.1 in
    λ i. record { style = style i; text = text i }

one-parts : (one other : List ShownPart) → same_parts one other ≡ true → one ≡ other
one-parts [] [] same = refl
one-parts [] (b ∷ other) same = cc
one-parts (a ∷ one) [] same = cc
one-parts (a ∷ one) (b ∷ other) same =
    let p = and_parts (same_part a b) (same_parts one other) same in
    ap₂ (λ (x : ShownPart) (xs : List ShownPart). x ∷ xs) (one-part a b p.0) (one-parts one other p.1)

one-cell : (one other : ShownCell) → same_cell one other ≡ true → one ≡ other
one-cell one other same =
    let p = and_parts (one.column == other.column) (same_parts one.parts other.parts) same in
    let column = eqb-true one.column other.column p.0 in
    let parts = one-parts one.parts other.parts p.1 in
    λ i. record { column = column i; parts = parts i }

one-cells : (one other : List ShownCell) → same_cells one other ≡ true → one ≡ other
one-cells [] [] same = refl
one-cells [] (b ∷ other) same = cc
one-cells (a ∷ one) [] same = cc
one-cells (a ∷ one) (b ∷ other) same =
    let p = and_parts (same_cell a b) (same_cells one other) same in
    ap₂ (λ (x : ShownCell) (xs : List ShownCell). x ∷ xs) (one-cell a b p.0) (one-cells one other p.1)

one-row : (one other : BareRow) → same_row one other ≡ true → one ≡ other
one-row one other same =
    let a = and_parts (same_key one.key other.key) (same_shape one.shape other.shape && ((one.mark == other.mark) && same_cells one.cells other.cells)) same in
    let b = and_parts (same_shape one.shape other.shape) ((one.mark == other.mark) && same_cells one.cells other.cells) a.1 in
    let c = and_parts (one.mark == other.mark) (same_cells one.cells other.cells) b.1 in
    let key = one-key one.key other.key a.0 in
    let shape = one-shape one.shape other.shape b.0 in
    let mark = eqb-true one.mark other.mark c.0 in
    let cells = one-cells one.cells other.cells c.1 in
    λ i. record { key = key i; shape = shape i; mark = mark i; cells = cells i }

one-list : (one other : List BareRow) → same_list one other ≡ true → one ≡ other
one-list [] [] same = refl
one-list [] (b ∷ other) same = cc
one-list (a ∷ one) [] same = cc
one-list (a ∷ one) (b ∷ other) same =
    let p = and_parts (same_row a b) (same_list one other) same in
    ap₂ (λ (x : BareRow) (xs : List BareRow). x ∷ xs) (one-row a b p.0) (one-list one other p.1)

pub rows-told : (one other : List Shown) → same_rows one other ≡ true → map bare_of one ≡ map bare_of other
rows-told one other same = one-list (map bare_of one) (map bare_of other) same
