use Rattle.std.proofs.Common.{◌++◌}
use Rattle.sp_kit.proofs.Writing.{writes_then, writes_failed}
use Rattle.spec_sheets.specs.Cells.{shown_bytes}
use Rattle.spec_sheets.specs.RowBytes.{untabbed}
use Rattle.spec_html.specs.HtmlSheets.{escaped}
use Rattle.spec_html.specs.Marks.{closing, marks_of}
use Rattle.sp_print.specs.Views.{text_of}
use Rattle.sp_html.proofs.marked_text.write_marked.Goals as goal

pub returns-in_err-write_opening : goal.returns-in_err-write_opening
returns-in_err-write_opening g c =
    writes_failed (escaped (untabbed (shown_bytes (text_of c.args.text))) ++ closing (marks_of c.args.style)) c.in_err-write_opening.ensures c.from_residual.ensures.0

pub returns-in_err-write_text : goal.returns-in_err-write_text
returns-in_err-write_text g c =
    writes_then c.in_ok-write_opening.ensures (writes_failed (closing (marks_of c.args.style)) c.in_err-write_text.ensures c.from_residual-in_err-write_text.ensures.0)

pub returns : goal.returns
returns g c = writes_then c.in_ok-write_opening.ensures (writes_then c.in_ok-write_text.ensures c.write_closing.ensures)
