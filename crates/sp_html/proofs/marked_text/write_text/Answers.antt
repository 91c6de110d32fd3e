use Rattle.std.proofs.Common.{ap, sym, ◌∙◌}
use Rattle.spec_labels.specs.Labels.{label_text}
use Rattle.sp_kit.proofs.Writing.{writes_as}
use Rattle.spec_sheets.specs.Cells.{shown_bytes}
use Rattle.spec_sheets.specs.RowBytes.{untabbed}
use Rattle.spec_html.specs.HtmlSheets.{escaped}
use Rattle.spec_html.proofs.PlainLabels.{escaped-plain, untabbed-plain}
use Rattle.spec_html.proofs.PlainLabels as plain
use Rattle.sp_print.specs.Views.{text_of}
use Rattle.sp_print.proofs.PrintedLabels as printed
use Rattle.sp_html.proofs.marked_text.write_text.Goals as goal

pub returns-in-Label : goal.returns-in-Label
returns-in-Label g c =
    let it = c.in-Label.label.now in
    let text = label_text it in
    writes_as
    (sym (ap (λ t. escaped (untabbed (shown_bytes (text_of t)))) c.in-Label.is ∙ escaped-plain (untabbed text) (untabbed-plain text (plain.label it))
    ∙ printed.untabbed-printable text (printed.label it).printable)) c.write.ensures
