use Rattle.std.proofs.Common.{◌≡◌, ◌<◌, ℕ, List, Some, None, refl, length, ap, sym, subst, ◌∙◌}
use Rattle.std.specs.Prelude.{All, option_map}
use Rattle.std.proofs.lemmas.List.{length-map}
use Rattle.spec_pages.specs.Rows.{Row}
use Rattle.spec_labels.specs.PageRecords.{PageRecordOf, sheets_of_records}
use Rattle.spec_sheets.specs.Layout.{placed_in}
use Rattle.spec_records.specs.Kept.{RecordsOf}
use Rattle.spec_state.specs.State.{State}
use Rattle.spec_state.specs.StateSheets.{body_sheets, layout_in}
use Rattle.sp_layout.specs.Bodies.{marks_in, row_count}
use Rattle.sp_layout.specs.LaidOut.{LayoutOf}
use Rattle.sp_layout.specs.Kept.{laid_of}
use Rattle.sp_sheets.specs.Firsts.{first_rows}
use Rattle.sp_sheets.specs.Numbered.{AreMovedOutside, marked_sheets}
use Rattle.sp_sheets.proofs.LaidLaws.{state-asks, state-sheets, locked-asks, locked-were}
use Rattle.sp_sheets.proofs.MadeLaws.{done-same}
use Rattle.sp_sheets.proofs.MarkedLaws.{rows-unmarked}
use Rattle.sp_sheets.proofs.made.renew_body_sheets.Goals as goal

pub renew_sheets-requires : goal.renew_sheets-requires
renew_sheets-requires c =
    let state : State = c.args.laid.now in
    let pages = c.args.pages.now in
    let body = (layout_in state).body in
    let whole = c.records-records.ensures.whole in
    let kept = sym (ap (λ (r : RecordsOf). r.pages) (c.records.view_is ∙ c.records-records.ensures.records)) in
    let laid = ap laid_of c.layout.view_is ∙ c.layout-layout.ensures in
    let marks : c.marks-marks.result.now.items ≡ marks_in body = c.marks-marks.ensures ∙ ap (λ (l : LayoutOf). marks_in l.body.elements) laid in
    let are = (state-asks (λ those. those.items) state c.records.inside.pages pages whole kept c.requires.pages).are in
    record {
      stale = subst (λ (ms : List ℕ). AreMovedOutside c.args.sheets.now.items (marked_sheets ms 1 pages) c.args.stale) (sym marks) c.requires.stale;
      rising = are.rising;
      within = subst (λ (n : ℕ). All (λ (page : ℕ). page < n) pages) (sym (ap length marks ∙ length-map (placed_in body) (λ (row : Row). row.mark))) are.within;
      few = are.few;
      unmarked = λ none. (
          let round : state.round ≡ 0 = sym (ap (λ (r : RecordsOf). r.round) c.records-records.ensures.records) ∙ rw none at c.may_be_marked.ensures in
          subst (All (λ (mark : ℕ). mark ≡ 0)) (sym marks) (rows-unmarked state body whole refl round));
    }

pub returns-in-None : goal.returns-in-None
returns-in-None c =
    let state : State = c.args.laid.now in
    let pages = c.args.pages.now in
    let kept = sym (ap (λ (r : RecordsOf). r.pages) (c.records.view_is ∙ c.records-records.ensures.records)) in
    let laid = ap laid_of c.layout.view_is ∙ c.layout-layout.ensures in
    let marks : c.marks-marks.result.now.items ≡ marks_in (layout_in state).body = c.marks-marks.ensures ∙ ap (λ (l : LayoutOf). marks_in l.body.elements) laid in
    record {
      made = done-same c.renew_sheets.result c.renew_sheets.new.sheets.items (marked_sheets c.marks-marks.result.now.items 1 pages) (body_sheets state)
          (ap (λ (ms : List ℕ). marked_sheets ms 1 pages) marks ∙ state-sheets state None pages (kept ∙ ap (option_map (λ those. those.items)) c.in-None.is) c.requires.pages)
          c.renew_sheets.ensures.made;
      same = c.renew_sheets.ensures.same;
    }

pub renew_locked-requires : goal.renew_locked-requires
renew_locked-requires c =
    let state : State = c.args.laid.now in
    let records = c.in-Some.those.items in
    let kept = sym (ap (λ (r : RecordsOf). r.pages) (c.records.view_is ∙ c.records-records.ensures.records)) ∙ ap (option_map (λ those. those.items)) c.in-Some.is in
    let laid = ap laid_of c.layout.view_is ∙ c.layout-layout.ensures in
    let rows = c.rows-rows.ensures ∙ ap (λ (l : LayoutOf). row_count l.body.elements) laid in
    record {
      asked = locked-asks state records c.deref.result.now c.rows-rows.result c.firsts.result.now c.args.pages.now c.records-records.ensures.whole kept c.requires.pages rows c.deref.ensures.value c.firsts.ensures;
      kept = λ keeps. locked-were state.pages records c.deref.result.now (first_rows state) c.firsts.result.now c.args.pages.now c.args.sheets.now.items kept c.deref.ensures.value c.firsts.ensures (c.requires.kept keeps);
    }

pub returns-in-Some : goal.returns-in-Some
returns-in-Some c =
    let state : State = c.args.laid.now in
    let pages = c.args.pages.now in
    let records = c.in-Some.those.items in
    let kept = sym (ap (λ (r : RecordsOf). r.pages) (c.records.view_is ∙ c.records-records.ensures.records)) ∙ ap (option_map (λ those. those.items)) c.in-Some.is in
    let laid = ap laid_of c.layout.view_is ∙ c.layout-layout.ensures in
    let rows = c.rows-rows.ensures ∙ ap (λ (l : LayoutOf). row_count l.body.elements) laid in
    record {
      made = done-same c.renew_locked.result c.renew_locked.new.sheets.items (sheets_of_records c.rows-rows.result c.deref.result.now c.firsts.result.now pages) (body_sheets state)
          (ap (λ (n : ℕ). sheets_of_records n c.deref.result.now c.firsts.result.now pages) rows
          ∙ ap (λ (rs : List PageRecordOf). sheets_of_records (row_count (layout_in state).body) rs c.firsts.result.now pages) c.deref.ensures.value
          ∙ ap (λ (fs : List ℕ). sheets_of_records (row_count (layout_in state).body) records fs pages) c.firsts.ensures
          ∙ state-sheets state (Some records) pages kept c.requires.pages)
          c.renew_locked.ensures.made;
      same = c.renew_locked.ensures.same;
    }
