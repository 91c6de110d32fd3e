use Rattle.std.proofs.Common.{◌+◌, false, cond, List, [], ◌∷◌, ◌++◌, map, ap, ap₂, sym, ◌∙◌, subst}
use Rattle.std.proofs.lemmas.List.Elements.{All-head, All-tail}
use Rattle.spec_text.specs.Lines.{line_texts}
use Rattle.spec_pages.specs.Rows.{Row, shifted_cell, shifted_row}
use Rattle.spec_sheets.specs.Cells.{RowShows, ShownCell, cells_end, continued, fixed_cell, shown_cell}
use Rattle.spec_sheets.specs.RowBytes.{ShownRow}
use Rattle.sp_print.proofs.CueLaws.{All-last, last_cue-shifted, repeated}
use Rattle.sp_print.proofs.cue.cue_row.Goals as goal

pub is_continued-goes_on-requires : goal.is_continued-goes_on-requires
is_continued-goes_on-requires c =
    let P : Row → Type 0 = RowShows (line_texts c.args.lines.now.lines) in
    let first = c.args.first in
    let row = c.args.row.now in
    let others = c.args.others.now in
    let placed = shifted_row first row in
    let later = map (shifted_row first) others in
    subst P (last_cue-shifted first row others ∙ ap (shifted_row first) (sym c.last_cue.ensures))
    (All-last P placed later (All-head P placed later c.requires.show) (All-tail P placed later c.requires.show))

pub returns : goal.returns
returns c =
    let texts = line_texts c.args.lines.now.lines in
    let first = c.args.first in
    let t = c.is_continued-goes_on.result in
    let row = λ (cells : List ShownCell). let r : ShownRow = record { cells = cells; star = false } in r in
    let is = repeated texts first c.args.row.now c.last_cue.result.now c.args.others.now t c.requires.cue c.last_cue.ensures (sym c.is_continued-goes_on.ensures) in
    let own = c.as_slice.ensures ∙ ap (λ (r : Row). r.cells) c.row.view_is in
    let end = c.cue_end.ensures.cells ∙ ap (λ cs. cond t [] (fixed_cell (cells_end (map (shown_cell texts) (map (shifted_cell first) cs)) + 1) continued ∷ [])) own in
    ap₂ (λ (cs ls : List ShownCell). row (cs ++ ls)) c.row_cells.ensures end ∙ ap row (sym is)
