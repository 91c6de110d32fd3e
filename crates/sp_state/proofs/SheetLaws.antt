-- The sheets that an edit, an undo or a redo finds.
use Rattle.std.proofs.Common.{◌≡◌, ℕ, List, Option, Some, None, refl, sym, ap, ap₂, subst, ◌∙◌}
use Rattle.spec_text.specs.Edits.{Replacement}
use Rattle.spec_labels.specs.declared.Moved.{Moved}
use Rattle.spec_labels.specs.PageRecords.{PageRecordOf, SheetOf, Covers, carried_records, put_back_records, record_starts, sheets_of_records}
use Rattle.spec_labels.proofs.PageRecordLaws.{carried-labels, put_back-labels}
use Rattle.spec_labels.proofs.SheetCover.{sheets-Cover}
use Rattle.std.specs.declared.alloc.Global.{Global}
use Rattle.std.specs.declared.vec.Vec.{Vec}
use Rattle.std.specs.Prelude.{◌+◌, IfSome, length, map, option_map}
use Rattle.std.proofs.lemmas.Option.{IfSome_then}
use Rattle.spec_state.specs.State.{State}
use Rattle.spec_state.specs.Changes.{carried_state, edited_state, pages_raised, raised_records, rows_by_record, text_after}
use Rattle.spec_state.specs.Keeping.{IsWhole}
use Rattle.spec_state.specs.StateLabels.{page_label_of}
use Rattle.spec_state.specs.StateSheets.{body_sheets, keys_in, layout_in, pages_in, rows_in, sheets_in}
use Rattle.spec_pages.specs.Pages.{rows_on}
use Rattle.spec_state.proofs.EditKeeps.{raised-labels}
use Rattle.spec_state.proofs.StateLaws.{state-AreKeptPages, state-AreStarts, state-ArePages}
use Rattle.spec_locked_pages.specs.Segments.{pages_of}
use Rattle.sp_sheets.specs.Firsts.{first_rows, key_starts}
use Rattle.sp_sheets.specs.Locked.{AreSheetsBefore}
use Rattle.sp_sheets.specs.Numbered.{AreUnmarked}
use Rattle.sp_sheets.proofs.UnmarkedLaws.{body-unmarked}

-- An edit locks no pages.
pub edited-unlocked : (state : State) (it : Replacement) → (edited_state state it).pages ≡ None → state.pages ≡ None
edited-unlocked state it = by state.pages
  where
    by : (pages : Option (List PageRecordOf)) → pages_raised state (carried_state state it) pages (option_map (carried_records (text_after state it).lines (it.first + length it.texts)) pages) ≡ None → pages ≡ None
    by None is = is
    by (Some records) is = absurd (let bad : ⊥ = cc in bad)

-- Nor does what is put back in page records.
pub none-mapped : (change : List PageRecordOf → List PageRecordOf) (pages : Option (List PageRecordOf)) → option_map change pages ≡ None → pages ≡ None
none-mapped change None is = is
none-mapped change (Some records) is = absurd (let bad : ⊥ = cc in bad)

-- The sheets of a state before the first round are those of its pages, without a mark.
pub sheets-before : (old : State) (sheets : List SheetOf) (pages : List ℕ) → IsWhole old → old.pages ≡ None → old.round ≡ 0 → sheets ≡ body_sheets old → pages ≡ pages_of old → AreUnmarked sheets pages
sheets-before old sheets pages whole unlocked first are starts =
    subst (AreUnmarked sheets) (sym starts) (subst (λ (those : List SheetOf). AreUnmarked those (pages_of old)) (sym are) (body-unmarked old whole unlocked first))

-- Where pages are locked, the sheets of a state are those of page records with the labels of its own, by its first rows and pages.
records-before : (old : State) (records news : List PageRecordOf) (firsts pages : List ℕ) (sheets : List SheetOf) → IsWhole old → old.pages ≡ Some records → map page_label_of records ≡ map page_label_of news
    → firsts ≡ first_rows old → pages ≡ pages_of old → sheets ≡ body_sheets old → AreSheetsBefore news firsts pages sheets
records-before old records news firsts pages sheets whole is labels first starts are =
    let limit = rows_on old.paper in
    let breaks = (layout_in old).breaks in
    let rows = rows_in old in
    let begin = record_starts old.lines (keys_in old) records in
    let those = pages_in limit old.lines rows breaks (Some records) in
    let made : sheets ≡ sheets_of_records (length rows) records begin those = are ∙ ap (sheets_in limit old.lines rows breaks) is in
    record {
      rows = length rows;
      olds = records;
      labels = labels;
      are = made ∙ ap₂ (sheets_of_records (length rows) records) (sym (first ∙ ap (key_starts old.lines (keys_in old)) is)) (sym (starts ∙ ap (pages_in limit old.lines rows breaks) is));
      cover = subst (λ (them : List SheetOf). Covers 0 them (length rows)) (sym made)
          (sheets-Cover (length rows) records begin those (state-AreKeptPages old records whole is).some (state-AreStarts old records whole is) (state-ArePages old records whole));
    }

-- So they are for the page records after an edit.
pub locked-before : (old : State) (it : Replacement) (firsts pages : List ℕ) (sheets : List SheetOf) → IsWhole old → firsts ≡ first_rows old → pages ≡ pages_of old → sheets ≡ body_sheets old
    → IfSome (edited_state old it).pages (λ those. AreSheetsBefore those firsts pages sheets)
locked-before old it firsts pages sheets whole first starts are = by old.pages refl
  where
    by : (records : Option (List PageRecordOf)) → old.pages ≡ records
        → IfSome (pages_raised old (carried_state old it) records (option_map (carried_records (text_after old it).lines (it.first + length it.texts)) records)) (λ those. AreSheetsBefore those firsts pages sheets)
    by None is = tt
    by (Some records) is =
        let carried = carried_records (text_after old it).lines (it.first + length it.texts) records in
        let before = rows_by_record old records in
        let after = rows_by_record (carried_state old it) carried in
        let labels = raised-labels old.round before after carried ∙ carried-labels (text_after old it).lines (it.first + length it.texts) records in
        records-before old records (raised_records old.round before after carried) firsts pages sheets whole is (sym labels) first starts are

-- So they are where two lists of anchors and rounds are put back, by the first rows that are known.
pub turned-before : (old : State) (first second : List Moved) (known : Option (Vec ℕ Global)) (pages : List ℕ) (sheets : List SheetOf) → IsWhole old → IfSome known (λ firsts. firsts.items ≡ first_rows old) → pages ≡ pages_of old
    → sheets ≡ body_sheets old
    → IfSome known (λ firsts. IfSome (option_map (λ (records : List PageRecordOf). put_back_records second (put_back_records first records)) old.pages) (λ those. AreSheetsBefore those firsts.items pages sheets))
turned-before old first second known pages sheets whole are_first starts are = IfSome_then known are_first (λ firsts is. by firsts.items is old.pages refl)
  where
    by : (firsts : List ℕ) → firsts ≡ first_rows old → (records : Option (List PageRecordOf)) → old.pages ≡ records
        → IfSome (option_map (λ (those : List PageRecordOf). put_back_records second (put_back_records first those)) records) (λ those. AreSheetsBefore those firsts pages sheets)
    by firsts are_those None is = tt
    by firsts are_those (Some records) is =
        let turned = put_back_records first records in
        records-before old records (put_back_records second turned) firsts pages sheets whole is (sym (put_back-labels second 0 turned ∙ put_back-labels first 0 records)) are_those starts are

-- What holds of the first rows that are known holds of these, where they are those.
pub known-before : (known : Option (Vec ℕ Global)) (firsts : List ℕ) (P : List ℕ → Type 0) → IfSome known (λ those. P those.items) → option_map (λ (those : Vec ℕ Global). those.items) known ≡ Some firsts → P firsts
known-before None firsts P holds is = absurd (let bad : ⊥ = cc in bad)
known-before (Some those) firsts P holds is = subst P (let same : those.items ≡ firsts = cc in same) holds
