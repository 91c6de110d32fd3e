-- A lock of pages and a new round leave the first rows of pages as they were.
use Rattle.std.proofs.Common.{◌≡◌, ℕ, ◌<◌, Option, Some, None, List, [], map, length, refl, sym, ap, ◌∙◌}
use Rattle.std.specs.Prelude.{IfSome}
use Rattle.spec_pages.specs.Pages.{rows_on}
use Rattle.spec_labels.specs.PageRecords.{PageRecordOf, extended_page_records}
use Rattle.spec_sheets.specs.Shown.{Shown, key_of}
use Rattle.spec_state.specs.State.{State}
use Rattle.spec_state.specs.StateSheets.{layout_in, rows_in, pages_in, sheets_in}
use Rattle.spec_state.specs.Openings.{pages_extended, pages_locked, round_begun}
use Rattle.spec_state.specs.SoundStates.{AreLocked, IsSound}
use Rattle.spec_state.proofs.StateKeys.{state-keys}
use Rattle.spec_state.proofs.OpeningLaw.{lock-rows, round-rows, rows-stay}
use Rattle.spec_locked_pages.specs.Segments.{pages_of}

-- A lock of pages.
pub lock-starts : (state : State) → IsSound state → state.pages ≡ None → 0 < length (rows_in state) → pages_of (pages_locked state) ≡ pages_of state
lock-starts state sound unlocked some =
    let rows = rows_in state in
    let breaks = (layout_in state).breaks in
    let limit = rows_on state.paper in
    ap (λ (rs : List Shown). pages_in limit state.lines rs breaks (pages_locked state).pages) (rows-stay state sound)
    ∙ ap (λ (pages : Option (List PageRecordOf)). pages_in limit state.lines rows breaks (Some (extended_page_records [] (sheets_in limit state.lines rows breaks pages) (map key_of rows)))) unlocked
    ∙ (lock-rows state.paper state.lines rows breaks (state-keys state sound.text) some).pages
    ∙ ap (pages_in limit state.lines rows breaks) (sym unlocked)

-- A new round.
pub round-starts : (state : State) → IsSound state → pages_of (round_begun state) ≡ pages_of state
round-starts state sound =
    ap (λ (rs : List Shown). pages_in limit state.lines rs breaks (pages_extended state state.pages)) (rows-stay state sound) ∙ by state.pages refl sound.pages
  where
    limit : ℕ
    limit = rows_on state.paper

    breaks : List ℕ
    breaks = (layout_in state).breaks

    by : (pages : Option (List PageRecordOf)) → state.pages ≡ pages → IfSome pages AreLocked → pages_in limit state.lines (rows_in state) breaks (pages_extended state pages) ≡ pages_of state
    by None is locked = ap (pages_in limit state.lines (rows_in state) breaks) (sym is)
    by (Some records) is locked =
        let rows = rows_in state in
        ap (λ (pages : Option (List PageRecordOf)). pages_in limit state.lines rows breaks (Some (extended_page_records records (sheets_in limit state.lines rows breaks pages) (map key_of rows)))) is
        ∙ (round-rows state.paper state.lines rows breaks records (state-keys state sound.text) locked).pages
        ∙ ap (pages_in limit state.lines rows breaks) (sym is)
