use Rattle.std.proofs.Common.{◌++◌, ap, sym}
use Rattle.std.specs.Prelude.{codes}
use Rattle.std.specs.List.{flat_map}
use Rattle.sp_kit.proofs.Writing.{writes_as, writes_then, writes_failed}
use Rattle.spec_sheets.specs.RowBytes.{row_bytes}
use Rattle.spec_sheets.specs.Sheets.{header_row}
use Rattle.spec_html.specs.HtmlSheets.{row_html_line}
use Rattle.spec_html.proofs.HeaderPlain.{header-html}
use Rattle.sp_html.proofs.sheet.write_sheet.Goals as goal

pub returns-in_err-write_whole : goal.returns-in_err-write_whole
returns-in_err-write_whole g c =
    let sheet = c.args.page.now in
    let rest = codes "</b>\n\n" ++ (flat_map row_html_line sheet.rows ++ codes "</pre>") in
    writes_as (ap (λ xs. codes "<pre><b>" ++ (xs ++ rest)) (sym (header-html sheet))) (writes_failed (row_bytes (header_row sheet) ++ rest) c.in_err-write_whole.ensures c.from_residual.ensures.0)

pub returns-in_err-write_header_row : goal.returns-in_err-write_header_row
returns-in_err-write_header_row g c =
    let sheet = c.args.page.now in
    let rest = codes "</b>\n\n" ++ (flat_map row_html_line sheet.rows ++ codes "</pre>") in
    writes_as (ap (λ xs. codes "<pre><b>" ++ (xs ++ rest)) (sym (header-html sheet)))
    (writes_then c.in_ok-write_whole.ensures (writes_failed rest c.in_err-write_header_row.ensures c.from_residual-in_err-write_header_row.ensures.0))

pub returns-in_err-write_whole-2 : goal.returns-in_err-write_whole-2
returns-in_err-write_whole-2 g c =
    let sheet = c.args.page.now in
    let rest = flat_map row_html_line sheet.rows ++ codes "</pre>" in
    writes_as (ap (λ xs. codes "<pre><b>" ++ (xs ++ (codes "</b>\n\n" ++ rest))) (sym (header-html sheet)))
    (writes_then c.in_ok-write_whole.ensures (writes_then c.in_ok-write_header_row.ensures (writes_failed rest c.in_err-write_whole-2.ensures c.from_residual-in_err-write_whole-2.ensures.0)))

pub returns-in_err-write_marked_rows : goal.returns-in_err-write_marked_rows
returns-in_err-write_marked_rows g c =
    let sheet = c.args.page.now in
    let rest = flat_map row_html_line sheet.rows ++ codes "</pre>" in
    writes_as (ap (λ xs. codes "<pre><b>" ++ (xs ++ (codes "</b>\n\n" ++ rest))) (sym (header-html sheet)))
    (writes_then c.in_ok-write_whole.ensures (writes_then c.in_ok-write_header_row.ensures (writes_then c.in_ok-write_whole-2.ensures
    (writes_failed (codes "</pre>") c.in_err-write_marked_rows.ensures c.from_residual-in_err-write_marked_rows.ensures.0))))

pub returns : goal.returns
returns g c =
    let sheet = c.args.page.now in
    let rest = flat_map row_html_line sheet.rows ++ codes "</pre>" in
    writes_as (ap (λ xs. codes "<pre><b>" ++ (xs ++ (codes "</b>\n\n" ++ rest))) (sym (header-html sheet)))
    (writes_then c.in_ok-write_whole.ensures (writes_then c.in_ok-write_header_row.ensures (writes_then c.in_ok-write_whole-2.ensures
    (writes_then c.in_ok-write_marked_rows.ensures c.write_whole-3.ensures))))
