-- How a sheet is written, by its form.
use Rattle.std.specs.Prelude.{ℕ, List}
use Rattle.spec_sheets.specs.Sheets.{Sheet, sheet_bytes}
use Rattle.spec_html.specs.HtmlSheets.{sheet_html}
use Rattle.sp_run.specs.declared.sheets.SheetForm.{SheetForm}
use Rattle.sp_run.specs.declared.sheets.SheetForm.TheVariants as forms

abbrev pub sheet_in : SheetForm → Sheet → List ℕ
sheet_in forms.Printed = sheet_bytes
sheet_in forms.Html = sheet_html
