-- What the sheets of a state ask for, and are.
use Rattle.std.proofs.Common.{◌≡◌, ℕ, List, Option, Some, refl, ap, sym, subst, ◌∙◌}
use Rattle.std.specs.Prelude.{IfSome, option_map}
use Rattle.spec_labels.specs.PageRecords.{PageRecordOf, SheetOf}
use Rattle.spec_state.specs.State.{State}
use Rattle.spec_state.specs.Keeping.{IsWhole}
use Rattle.spec_state.specs.StateSheets.{body_sheets, layout_in, keys_in}
use Rattle.spec_locked_pages.specs.Segments.{pages_of}
use Rattle.sp_layout.specs.Bodies.{row_count}
use Rattle.sp_sheets.specs.Firsts.{first_rows, key_starts}
use Rattle.sp_sheets.specs.Locked.{AreSheetsBefore, LockedSheets}
use Rattle.sp_sheets.proofs.MadePages.{marked_or_locked, pages-are}
use Rattle.sp_sheets.proofs.MadeLaws.{AskedOfPages, asked-of, sheets-made}

pub state-asks : {V : Type 0} (items : V → List PageRecordOf) (state : State) (records : Option V) (pages : List ℕ) → IsWhole state → state.pages ≡ option_map items records → pages ≡ pages_of state
    → AskedOfPages items (layout_in state).body records (first_rows state) pages
state-asks items state records pages whole kept are =
    let body = (layout_in state).body in
    let breaks = (layout_in state).breaks in
    let firsts : first_rows state ≡ key_starts state.lines (keys_in state) (option_map items records) = ap (key_starts state.lines (keys_in state)) kept in
    asked-of items state records body breaks (first_rows state) pages whole kept refl refl firsts (are ∙ pages-are state body (option_map items records) breaks (first_rows state) refl kept refl firsts)

pub state-sheets : (state : State) (o : Option (List PageRecordOf)) (pages : List ℕ) → state.pages ≡ o → pages ≡ pages_of state → marked_or_locked (layout_in state).body o (first_rows state) pages ≡ body_sheets state
state-sheets state o pages kept are =
    let body = (layout_in state).body in
    let breaks = (layout_in state).breaks in
    let firsts : first_rows state ≡ key_starts state.lines (keys_in state) o = ap (key_starts state.lines (keys_in state)) kept in
    sheets-made state body o breaks (first_rows state) pages refl kept refl firsts (are ∙ pages-are state body o breaks (first_rows state) refl kept refl firsts)

-- The same where pages are locked.
pub locked-asks : (state : State) (records those : List PageRecordOf) (rows : ℕ) (firsts pages : List ℕ) → IsWhole state → state.pages ≡ Some records → pages ≡ pages_of state
    → rows ≡ row_count (layout_in state).body → those ≡ records → firsts ≡ first_rows state → LockedSheets rows those firsts pages
locked-asks state records those rows firsts pages whole kept are count same begin =
    subst (λ (n : ℕ). LockedSheets n those firsts pages) (sym count)
    (subst (λ (rs : List PageRecordOf). LockedSheets (row_count (layout_in state).body) rs firsts pages) (sym same)
    (subst (λ (fs : List ℕ). LockedSheets (row_count (layout_in state).body) records fs pages) (sym begin)
    (state-asks (λ (it : List PageRecordOf). it) state (Some records) pages whole kept are).locked))

pub locked-were : (o : Option (List PageRecordOf)) (records those : List PageRecordOf) (begin firsts pages : List ℕ) (sheets : List SheetOf) → o ≡ Some records → those ≡ records → firsts ≡ begin
    → IfSome o (λ it. AreSheetsBefore it begin pages sheets) → AreSheetsBefore those firsts pages sheets
locked-were o records those begin firsts pages sheets kept same is were =
    subst (λ (fs : List ℕ). AreSheetsBefore those fs pages sheets) (sym is)
    (subst (λ (rs : List PageRecordOf). AreSheetsBefore rs begin pages sheets) (sym same)
    (subst (λ (it : Option (List PageRecordOf)). IfSome it (λ those. AreSheetsBefore those begin pages sheets)) kept were))
