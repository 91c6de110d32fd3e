-- What a run wrote of a script, by relations: what follows of the contract of `run` (docs/RULES.md, "The program").
use Rattle.std.proofs.Common.{◌≡◌, List, Some, subst}
use Rattle.std.specs.Io.KnownBytes.{Appends}
use Rattle.std.specs.List.{flat_map}
use Rattle.std.specs.declared.alloc.Global.{Global}
use Rattle.std.specs.declared.string.String.{String}
use Rattle.spec_text.specs.Lines.{line_texts}
use Rattle.spec_script.proofs.TextBlocks.{text-blocks, text-blocks-only}
use Rattle.spec_sheets.specs.RowColumns.{sheet_written}
use Rattle.spec_state.specs.StateSheets.{sheets_of_state}
use Rattle.spec_state.proofs.RelatedSheets.{sheets-related, sheets-related-only}
use Rattle.spec_state.proofs.SheetColumns.{sheets-written}
use Rattle.spec_html.specs.HtmlSheets.{pages_html}
use Rattle.sp_run.specs.declared.form.View.{View}
use Rattle.sp_run.specs.declared.form.View.TheVariants as views
use Rattle.sp_run.specs.declared.status.Status.{Status}
use Rattle.sp_run.specs.declared.status.Status.TheVariants as statuses
use Rattle.sp_run.specs.Forms.{OriginOf, show}
use Rattle.sp_run.specs.Answering.{AnswersWords, asked_in}
use Rattle.sp_run.specs.RelatedViews.{WroteSheets, HasBlocks}
use Rattle.sp_run.specs.World.{World}
use Rattle.sp_run.proofs.RunLaws.{run-shown}

module _ {I O F S : Type 0} {words : List (String Global)} {old new : World I O F S} {status : Status} (it : AnswersWords words old new status) where
  -- What was written are the script's sheets, row by row by their columns; no others are its sheets.
  pub run-sheets : (origin : OriginOf) (is : asked_in words ≡ Some (show views.Sheets origin)) (done : status ≡ statuses.Done)
      → WroteSheets (run-shown it views.Sheets origin is done).state (flat_map sheet_written) old.told new.told
  run-sheets origin is done =
      let shown = run-shown it views.Sheets origin is done in
      record {
        sheets = sheets_of_state shown.state;
        are = sheets-related shown.state shown.whole.text;
        only = sheets-related-only shown.state shown.whole.text;
        wrote = subst (Appends old.told.sink.taken new.told.sink.taken) (sheets-written shown.state shown.whole) shown.wrote;
      }

  -- So is the page for a browser.
  pub run-pages : (origin : OriginOf) (is : asked_in words ≡ Some (show views.Html origin)) (done : status ≡ statuses.Done)
      → WroteSheets (run-shown it views.Html origin is done).state pages_html old.told new.told
  run-pages origin is done =
      let shown = run-shown it views.Html origin is done in
      record {
        sheets = sheets_of_state shown.state;
        are = sheets-related shown.state shown.whole.text;
        only = sheets-related-only shown.state shown.whole.text;
        wrote = shown.wrote;
      }

  -- Whatever view was written, the blocks of the script are those that the relations give.
  pub run-blocks : (view : View) (origin : OriginOf) (is : asked_in words ≡ Some (show view origin)) (done : status ≡ statuses.Done) → HasBlocks (run-shown it view origin is done).state
  run-blocks view origin is done =
      let texts = line_texts (run-shown it view origin is done).state.lines in
      record { are = text-blocks texts; only = text-blocks-only texts }
