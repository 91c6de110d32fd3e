use Rattle.std.proofs.Common.{◌≡◌, ℕ, ◌+◌, ◌<◌, Some, List, length, get_or, ap, sym, ◌∙◌, subst}
use Rattle.std.specs.Prelude.{nat_eq}
use Rattle.std.proofs.lemmas.List.{get_or_default}
use Rattle.spec_text.specs.Lines.{line_texts}
use Rattle.spec_text.specs.Parts.{Lies}
use Rattle.spec_script.specs.declared.Run.{Run}
use Rattle.spec_script.specs.Runs.{span_of}
use Rattle.spec_script.proofs.RunPlaces.{run-lies}
use Rattle.spec_pages.specs.Rows.{Cell}
use Rattle.spec_pages.specs.Rows.{shifted_cell}
use Rattle.spec_sheets.specs.Cells.{ShowsParts, slice, shown_part, text_at}
use Rattle.sp_print.specs.Views.{ViewOf, part_view}
use Rattle.sp_print.proofs.PartsLent.{slice_get-runs_views}
use Rattle.sp_print.proofs.row_cells.run_part.Goals as goal

-- The run at a place of a cell lies in its line.
run-there : (texts : List (List ℕ)) (first : ℕ) (cell : Cell) (line place : ℕ) (text : List ℕ) (runs : List Run) (other : Run) → ShowsParts texts (shifted_cell first cell) → place < length cell.runs
    → line ≡ cell.line → text_at texts (first + line) ≡ text → runs ≡ cell.runs → Lies text (span_of (get_or runs place other))
run-there texts first cell line place text runs other shows within at is same =
    let lies = run-lies (text_at texts (first + cell.line)) 0 cell.runs place other shows.parts within in
    let Q : List Run → Type 0 = λ (those : List Run). Lies (text_at texts (first + cell.line)) (span_of (get_or those place other)) in
    let R : List ℕ → Type 0 = λ t. Lies t (span_of (get_or runs place other)) in
    subst R (ap (λ n. text_at texts (first + n)) (sym at) ∙ is) (subst Q (sym same) lies)

-- What is read there is that run.
run-read : (runs those : List Run) (place : ℕ) (other : Run) → those ≡ runs → place < length runs → get_or those place other ≡ get_or runs place (get_or those place other)
run-read runs those place other same within =
    ap (λ (all : List Run). get_or all place other) same ∙ get_or_default runs place other (get_or those place other) within

pub range-requires-clause-start_le_end : goal.range-requires-clause-start_le_end
range-requires-clause-start_le_end c =
    let texts = line_texts c.args.lines.now.lines in
    let at = ap (λ (x : Cell). x.line) c.cell.view_is in
    (run-there texts c.args.first c.args.cell.now c.cell.inside.line c.args.place c.line_text-text.result.now c.runs.result.now _ c.requires.shows c.requires.within at c.line_text-text.ensures.text c.runs.ensures).order

pub range-requires-clause-start_boundary : goal.range-requires-clause-start_boundary
range-requires-clause-start_boundary c = λ _.
    let texts = line_texts c.args.lines.now.lines in
    let at = ap (λ (x : Cell). x.line) c.cell.view_is in
    (run-there texts c.args.first c.args.cell.now c.cell.inside.line c.args.place c.line_text-text.result.now c.runs.result.now _ c.requires.shows c.requires.within at c.line_text-text.ensures.text c.runs.ensures).start

pub range-requires-clause-end_boundary : goal.range-requires-clause-end_boundary
range-requires-clause-end_boundary c =
    let texts = line_texts c.args.lines.now.lines in
    let at = ap (λ (x : Cell). x.line) c.cell.view_is in
    (run-there texts c.args.first c.args.cell.now c.cell.inside.line c.args.place c.line_text-text.result.now c.runs.result.now _ c.requires.shows c.requires.within at c.line_text-text.ensures.text c.runs.ensures).end

pub returns-clause-view : goal.returns-clause-view
returns-clause-view c =
    let texts = line_texts c.args.lines.now.lines in
    let cell = c.args.cell.now in
    let place = c.args.place in
    let other : Run = record { from = 0; to = 0; style = 0 } in
    let run = get_or c.runs.result.now place other in
    let first = nat_eq place 0 in
    let at = ap (λ (x : Cell). x.line) c.cell.view_is in
    let column = ap (λ (x : Cell). x.column) c.cell.view_is in
    slice_get-runs_views texts (shifted_cell c.args.first cell) place run c.requires.within (run-read cell.runs c.runs.result.now place other c.runs.ensures c.requires.within)
    ∙ ap (λ text. Some (part_view cell.column first (shown_part text run))) (ap (λ n. text_at texts (c.args.first + n)) (sym at) ∙ c.line_text-text.ensures.text)
    ∙ ap (λ n. Some (part_view n first (shown_part c.line_text-text.result.now run))) (sym column)
    ∙ ap (λ text. let v : ViewOf = record { column = c.cell.inside.column; first = first; style = run.style; text = slice text } in Some v) (sym c.range.ensures.value)
