use Rattle.std.proofs.Common.{◌≡◌, List, Bool, nat_eq, ◌∙◌, ap, subst}
use Rattle.std.specs.Prelude.{IfOk}
use Rattle.std.specs.List.{ends_with}
use Rattle.spec_script.specs.declared.Run.{Run}
use Rattle.spec_pages.specs.Wrapping.{WrappedRow}
use Rattle.spec_sheets.specs.Cells.{continued}
use Rattle.spec_sheets.specs.Speakers.{shown_text}
use Rattle.sp_layout.proofs.LastRows.{last_row-get}
use Rattle.sp_layout.proofs.speakers.last_row_continued.Goals as goal

pub returns-in-Some : goal.returns-in-Some
returns-in-Some c =
    let runs = c.as_slice.ensures ∙ ap (λ (row : WrappedRow). row.runs) c.row.view_is in
    let shown = ap (λ (those : List Run). ends_with nat_eq (shown_text c.args.text.now those) continued) runs in
    subst (λ (ends : Bool). IfOk c.ends_continued.result (λ it. it ≡ ends)) (shown ∙ last_row-get c.args.text.now c.args.rows.now c.in-Some.row.now c.in-Some.ensures.value) c.ends_continued.ensures
