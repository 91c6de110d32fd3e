use Rattle.std.specs.Prelude.{Err}
use Rattle.std.specs.List.{flat_map}
use Rattle.spec_html.specs.HtmlSheets.{before_sheets, behind_sheets, pages_html, sheet_html}
use Rattle.spec_html.proofs.PagesLaws.{pages-styles}
use Rattle.spec_state.specs.StateSheets.{sheets_of_state}
use Rattle.sp_run.proofs.WrittenParts.{as_error, written-both, written-first}
use Rattle.sp_run.proofs.sheets.write_pages.Goals as goal
use Rattle.std.proofs.Common.{◌++◌}

pub returns-in_err-write_text-clause-written : goal.returns-in_err-write_text-clause-written
returns-in_err-write_text-clause-written g c =
    let sheets = sheets_of_state c.args.script.now in
    let old = g.O.Sink.state c.args.output.now in
    let mid = g.O.Sink.state c.write_text.new.output in
    as_error old mid (pages_html sheets) c.in_err-write_text.field-0.0 c.from_residual.result c.from_residual.ensures.1
    (written-first old mid before_sheets (flat_map sheet_html sheets ++ behind_sheets) c.in_err-write_text.field-0.0 c.in_err-write_text.ensures)

pub returns-in_err-write_text-clause-shows : goal.returns-in_err-write_text-clause-shows
returns-in_err-write_text-clause-shows g c = pages-styles (sheets_of_state c.args.script.now)

pub returns-in_err-write_all-clause-written : goal.returns-in_err-write_all-clause-written
returns-in_err-write_all-clause-written g c =
    let sheets = sheets_of_state c.args.script.now in
    let old = g.O.Sink.state c.args.output.now in
    let mid = g.O.Sink.state c.write_text.new.output in
    let new = g.O.Sink.state c.write_all.new.output in
    as_error old new (pages_html sheets) c.in_err-write_all.field-0.0 c.from_residual-in_err-write_all.result c.from_residual-in_err-write_all.ensures.1
    (written-both old mid new before_sheets (flat_map sheet_html sheets ++ behind_sheets) (Err c.in_err-write_all.field-0.0) c.in_ok-write_text.ensures
    (written-first mid new (flat_map sheet_html sheets) behind_sheets c.in_err-write_all.field-0.0 c.in_err-write_all.ensures))

pub returns-in_err-write_all-clause-shows : goal.returns-in_err-write_all-clause-shows
returns-in_err-write_all-clause-shows g c = pages-styles (sheets_of_state c.args.script.now)

pub returns-clause-written : goal.returns-clause-written
returns-clause-written g c =
    let sheets = sheets_of_state c.args.script.now in
    let old = g.O.Sink.state c.args.output.now in
    let mid = g.O.Sink.state c.write_text.new.output in
    let all = g.O.Sink.state c.write_all.new.output in
    let new = g.O.Sink.state c.write_text-2.new.output in
    written-both old mid new before_sheets (flat_map sheet_html sheets ++ behind_sheets) c.write_text-2.result c.in_ok-write_text.ensures
    (written-both mid all new (flat_map sheet_html sheets) behind_sheets c.write_text-2.result c.in_ok-write_all.ensures c.write_text-2.ensures)

pub returns-clause-shows : goal.returns-clause-shows
returns-clause-shows g c = pages-styles (sheets_of_state c.args.script.now)
