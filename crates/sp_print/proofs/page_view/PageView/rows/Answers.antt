use Rattle.std.proofs.Common.{length, ap, sym, ◌∙◌}
use Rattle.spec_sheets.specs.PageRows.{page_height}
use Rattle.spec_sheets.specs.Sheets.{Sheet}
use Rattle.spec_sheets.proofs.PageHeights.{page_body-height}
use Rattle.sp_print.specs.Slots.{lent_rows}
use Rattle.sp_print.proofs.page_view.PageView.rows.Goals as goal

pub returns-in-Some : goal.returns-in-Some
returns-in-Some c =
    let round = c.self.inside.round in
    c.page_height.ensures ∙ ap page_height c.again.ensures ∙ sym (page_body-height round c.in-Some.rows)
    ∙ ap (λ rows. length (lent_rows round rows)) (sym c.in-Some.is) ∙ ap (λ (s : Sheet). length s.rows) c.self.view_is
