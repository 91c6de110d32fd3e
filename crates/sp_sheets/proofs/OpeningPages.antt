-- Locks and rounds leave the first rows of pages as they were.
use Rattle.std.proofs.Common.{◌≡◌, Option, None, Result, Ok, Err, List, ◌++◌, refl, sym, ap, ◌∙◌}
use Rattle.spec_pages.specs.Pages.{page_starts, rows_on}
use Rattle.spec_labels.specs.declared.RowKey.{RowKey}
use Rattle.spec_labels.specs.Scenes.{SceneRecordOf}
use Rattle.spec_state.specs.State.{State}
use Rattle.spec_state.specs.Keeping.{IsWhole}
use Rattle.spec_state.specs.Openings.{pages_locked, round_begun, scenes_locked}
use Rattle.spec_state.specs.StateSheets.{layout_in, keys_in}
use Rattle.spec_state.proofs.StateLaws.{whole-sound}
use Rattle.spec_wire.specs.Replies.{RefusalOf}
use Rattle.spec_machine.specs.Refusals.{pages_refusal, round_refusal, scenes_refusal}
use Rattle.spec_machine.proofs.RefusalLaws.{free-pages}
use Rattle.spec_locked_pages.specs.Segments.{pages_of}
use Rattle.spec_refill.proofs.LockedStarts.{lock-starts, round-starts}
use Rattle.sp_layout.specs.Bodies.{shapes_in}
use Rattle.sp_sheets.specs.Firsts.{key_starts}
use Rattle.sp_sheets.proofs.MadePages.{pages-are}
use Rattle.sp_records.specs.declared.opening_fault.OpeningFault.{OpeningFault}
use Rattle.sp_sheets.specs.Openings.{IsOpening}
use Rattle.sp_sheets.proofs.OpeningMade.{scenes-keys, with_scenes}

opened : (refusal : Option RefusalOf) (after old new : State) (result : Result (Unit {0}) OpeningFault) → IsOpening refusal after old new result → (refusal ≡ None → pages_of after ≡ pages_of old)
    → pages_of new ≡ pages_of old
opened refusal after old new (Ok it) is stays = ap pages_of is.1 ∙ stays is.0
opened refusal after old new (Err fault) is stays = ap pages_of is.1

scenes-starts : (state : State) (scenes : Option (List SceneRecordOf)) → pages_of (with_scenes state scenes) ≡ pages_of state
scenes-starts state scenes =
    let body = (layout_in state).body in
    let breaks = (layout_in state).breaks in
    pages-are (with_scenes state scenes) body state.pages breaks (key_starts state.lines (keys_in (with_scenes state scenes)) state.pages) refl refl refl refl
    ∙ ap (λ (keys : List RowKey). page_starts (rows_on state.paper) (shapes_in body) (breaks ++ key_starts state.lines keys state.pages)) (scenes-keys state scenes)
    ∙ sym (pages-are state body state.pages breaks (key_starts state.lines (keys_in state) state.pages) refl refl refl refl)

pub scenes-stay : (old new : State) (result : Result (Unit {0}) OpeningFault) → IsOpening (scenes_refusal old) (scenes_locked old) old new result → pages_of new ≡ pages_of old
scenes-stay old new result is = opened (scenes_refusal old) (scenes_locked old) old new result is (λ free. scenes-starts old (scenes_locked old).scenes)

pub pages-stay : (old new : State) (result : Result (Unit {0}) OpeningFault) → IsWhole old → IsOpening (pages_refusal old) (pages_locked old) old new result → pages_of new ≡ pages_of old
pages-stay old new result whole is =
    opened (pages_refusal old) (pages_locked old) old new result is (λ free. let can = free-pages old free in lock-starts old (whole-sound old whole) can.unlocked can.rows)

pub round-stay : (old new : State) (result : Result (Unit {0}) OpeningFault) → IsWhole old → IsOpening (round_refusal old) (round_begun old) old new result → pages_of new ≡ pages_of old
round-stay old new result whole is = opened (round_refusal old) (round_begun old) old new result is (λ free. round-starts old (whole-sound old whole))
