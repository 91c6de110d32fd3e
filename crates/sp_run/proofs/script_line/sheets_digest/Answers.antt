use Rattle.std.proofs.Common.{◌∙◌, subst}
use Rattle.sha2.specs.Hashers.{Holds256}
use Rattle.spec_state.specs.StateSheets.{sheets_of_state}
use Rattle.spec_state.proofs.SheetTexts.{sheet-at-utf8}
use Rattle.sp_run.proofs.ToldSamples.{bytes-more}
use Rattle.sp_run.proofs.script_line.sheets_digest.Goals as goal

pub sheet_text-requires : goal.sheet_text-requires
sheet_text-requires c = sheet-at-utf8 c.args.script.now c.loop-i.i c.in-Some.page c.body_sheets-sheets.ensures.whole c.in-Some.ensures.some

pub loop-i-preserved : goal.loop-i-preserved
loop-i-preserved c =
    subst (Holds256 c.update.new.self) (bytes-more (sheets_of_state c.args.script.now) c.loop-i.i c.in-Some.page c.as_bytes.result.now c.in-Some.ensures.some (c.as_bytes.ensures.value ∙ c.in_ok-text.ensures))
    (c.update.ensures _ c.loop-i.invariant)
