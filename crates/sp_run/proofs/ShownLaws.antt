-- What a script's views show that were written whole: what follows of the contract of `run` (docs/RULES.md, "The program").
use Rattle.std.proofs.Common.{◌≡◌, ◌≤◌, ◌||◌, true, List, ◌∷◌, ◌++◌, length, map, Some}
use Rattle.std.specs.Prelude.{All, is_some}
use Rattle.std.specs.List.{flat_map}
use Rattle.std.specs.declared.alloc.Global.{Global}
use Rattle.std.specs.declared.string.String.{String}
use Rattle.spec_script.specs.LongestRuns.{Group}
use Rattle.spec_pages.specs.Pages.{rows_on}
use Rattle.spec_sheets.specs.Speakers.{Spoken}
use Rattle.spec_sheets.specs.Sheets.{Sheet}
use Rattle.spec_state.specs.StateSheets.{body_sheets, sheets_of_state}
use Rattle.spec_state.proofs.SheetsLow.{sheets-low}
use Rattle.spec_machine.specs.Outlines.{outline_entries}
use Rattle.spec_html.specs.HtmlReading.{styled_text}
use Rattle.spec_html.specs.StyledSheets.{sheet_styled}
use Rattle.spec_html.proofs.PagesLaws.{pages-styles}
use Rattle.spec_cast.specs.Places.{state_elements, has_heading, has_speech, row_count, StandsOnOne, heading_sheets, told_sheets}
use Rattle.spec_cast.specs.Said.{said_of}
use Rattle.spec_cast.specs.Sides.{SaidOf, sides_count}
use Rattle.spec_cast.proofs.Counts.{sides-add}
use Rattle.spec_cast.proofs.SheetLaws.{element-one, said-placed, outline-sheets}
use Rattle.sp_run.specs.declared.form.View.{View}
use Rattle.sp_run.specs.declared.form.View.TheVariants as views
use Rattle.sp_run.specs.declared.status.Status.{Status}
use Rattle.sp_run.specs.declared.status.Status.TheVariants as statuses
use Rattle.sp_run.specs.Forms.{OriginOf, show}
use Rattle.sp_run.specs.Views.{view_bytes}
use Rattle.sp_run.specs.Answering.{AnswersWords, asked_in}
use Rattle.sp_run.specs.Promises.{IsPromised}
use Rattle.sp_run.specs.World.{World}
use Rattle.sp_run.proofs.PromiseLaws.{promises_kept}
use Rattle.sp_run.proofs.RunLaws.{run-shown}

module _ {I O F S : Type 0} {words : List (String Global)} {old new : World I O F S} {status : Status} (it : AnswersWords words old new status) where
  -- What is promised of states that keep the rules holds of that whose view was written.
  pub run-promised : (view : View) (origin : OriginOf) (is : asked_in words ≡ Some (show view origin)) (done : status ≡ statuses.Done) → IsPromised (run-shown it view origin is done).state
  run-promised view origin is done = promises_kept (run-shown it view origin is done).state (run-shown it view origin is done).whole

  -- No sheet of it has more rows below its header than its paper holds.
  pub run-low : (view : View) (origin : OriginOf) (is : asked_in words ≡ Some (show view origin)) (done : status ≡ statuses.Done)
      → All (λ (sheet : Sheet). length sheet.rows ≤ rows_on (run-shown it view origin is done).state.paper) (sheets_of_state (run-shown it view origin is done).state)
  run-low view origin is done = sheets-low (run-shown it view origin is done).state (run-shown it view origin is done).whole

  -- The page for a browser that was written shows its sheets, one behind the other, each part with its style, and nothing else.
  pub run-pages-shown : (origin : OriginOf) (is : asked_in words ≡ Some (show views.Html origin)) (done : status ≡ statuses.Done)
      → styled_text (view_bytes views.Html (run-shown it views.Html origin is done).state) ≡ flat_map sheet_styled (sheets_of_state (run-shown it views.Html origin is done).state)
  run-pages-shown origin is done = pages-styles (sheets_of_state (run-shown it views.Html origin is done).state)

  -- The numbers of speeches in the sides that were written add up to that of all its speeches.
  pub run-sides-add : (origin : OriginOf) (is : asked_in words ≡ Some (show views.Cast origin)) (done : status ≡ statuses.Done)
      → sides_count (said_of (run-shown it views.Cast origin is done).state) ≡ length (said_of (run-shown it views.Cast origin is done).state)
  run-sides-add origin is done = sides-add (said_of (run-shown it views.Cast origin is done).state)

  -- Each speech in the sides that were written begins on one of its sheets, and the first label of that stands there.
  pub run-speeches-placed : (origin : OriginOf) (is : asked_in words ≡ Some (show views.Cast origin)) (done : status ≡ statuses.Done)
      → All (λ (said : SaidOf). is_some said.sheet ≡ true) (said_of (run-shown it views.Cast origin is done).state)
  run-speeches-placed origin is done = said-placed (run-shown it views.Cast origin is done).state (run-shown it views.Cast origin is done).whole

  -- The outline that was written tells of each heading, in order, the sheet with the first row of its element.
  pub run-headings-placed : (origin : OriginOf) (is : asked_in words ≡ Some (show views.Outline origin)) (done : status ≡ statuses.Done)
      → map Some (told_sheets (outline_entries (run-shown it views.Outline origin is done).state)) ≡ heading_sheets (run-shown it views.Outline origin is done).state
  run-headings-placed origin is done = outline-sheets (run-shown it views.Outline origin is done).state (run-shown it views.Outline origin is done).whole

  -- Each heading and each speech of a script whose view was written begins on one sheet, and on no other.
  pub run-begins-once : (view : View) (origin : OriginOf) (is : asked_in words ≡ Some (show view origin)) (done : status ≡ statuses.Done) (before : List (Group Spoken)) (element : Group Spoken)
      (later : List (Group Spoken)) → state_elements (run-shown it view origin is done).state ≡ before ++ element ∷ later → has_heading element || has_speech element ≡ true
      → StandsOnOne (body_sheets (run-shown it view origin is done).state) (row_count (run-shown it view origin is done).state.lines before)
  run-begins-once view origin is done before element later split begins =
      element-one (run-shown it view origin is done).state (run-shown it view origin is done).whole before element later split begins
