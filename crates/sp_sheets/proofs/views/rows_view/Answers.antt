use Rattle.std.proofs.Common.{◌∙◌, List, ap, sym, subst}
use Rattle.std.specs.Prelude.{Option, slice_range}
use Rattle.std.specs.Option.{option_copied, option_map}
use Rattle.spec_text.specs.Lines.{line_texts}
use Rattle.spec_labels.specs.Labels.{LabelOf}
use Rattle.spec_sheets.specs.Shown.{Shown, shown_rows}
use Rattle.spec_sheets.specs.PageRows.{page_body}
use Rattle.spec_sheets.specs.Sheets.{Sheet}
use Rattle.sp_layout.specs.Bodies.{PageOf, IsPageOf}
use Rattle.sp_print.specs.Views.{label_of}
use Rattle.sp_sheets.proofs.PageRows.{page-show, page-rows}
use Rattle.sp_sheets.proofs.views.rows_view.Goals as goal

pub new-requires-clause-show : goal.new-requires-clause-show
new-requires-clause-show c =
    page-show (line_texts c.args.lines.now.lines) c.args.body.now.elements c.args.from c.args.to (record { elements = c.page.inside.elements.now; from = c.page.inside.from; to = c.page.inside.to; headings = c.page.inside.headings })
    (subst (IsPageOf c.args.body.now.elements c.args.from c.args.to) (sym c.page.view_is) c.page-page.ensures.part) c.requires.show

pub returns : goal.returns
returns c =
    let lines = c.args.lines.now.lines in
    let elements = c.args.body.now.elements in
    let page : PageOf = record { elements = c.page.inside.elements.now; from = c.page.inside.from; to = c.page.inside.to; headings = c.page.inside.headings } in
    let is : IsPageOf elements c.args.from c.args.to page = subst (IsPageOf elements c.args.from c.args.to) (sym c.page.view_is) c.page-page.ensures.part in
    let sheet : List Shown → Sheet = λ rows. record { label = option_map label_of c.args.label; round = c.args.round; rows = page_body c.args.round rows } in
    c.new.ensures
    ∙ ap (λ (labels : Option (List LabelOf)). sheet (slice_range (shown_rows lines labels page.elements) page.from page.to)) c.labels_past-numbers.ensures
    ∙ ap sheet (page-rows lines (option_copied c.args.labels) elements c.args.from c.args.to page c.requires.order is)
