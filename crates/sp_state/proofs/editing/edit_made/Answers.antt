use Rattle.std.proofs.Common.{None, Some, ◌≡◌, ℕ, List, Option, ap, sym, subst, ◌∙◌}
use Rattle.std.specs.Prelude.{IfSome}
use Rattle.spec_text.specs.Edits.{Replacement, replacement_of}
use Rattle.spec_text.specs.Ranges.{range_of}
use Rattle.spec_state.specs.State.{State}
use Rattle.spec_state.specs.Changes.{edited_state}
use Rattle.spec_state.specs.Headings.{heading_labels}
use Rattle.spec_state.specs.StateSheets.{title_starts}
use Rattle.spec_state.specs.Keeping.{state_of}
use Rattle.spec_locked_pages.specs.Segments.{pages_of}
use Rattle.sp_text.specs.Changing.{edit_of}
use Rattle.sp_text.specs.Gap.{text_of}
use Rattle.sp_layout.specs.Changes.{with_change}
use Rattle.sp_layout.specs.Kept.{laid_of}
use Rattle.sp_sheets.specs.Firsts.{first_rows, laid_in}
use Rattle.sp_sheets.specs.Made.{IsNumberedOf, MadeOf}
use Rattle.sp_sheets.specs.Locked.{AreSheetsBefore}
use Rattle.sp_state.specs.Fills.{AreStartsBefore, EditFills, EditFillsAtMost}
use Rattle.sp_state.proofs.FillLaws.{fills-edited, fills-within, none-filled}
use Rattle.sp_state.proofs.LabelLaws.{labels-after}
use Rattle.sp_state.proofs.RefilledLaws.{can-edit, stale-edited}
use Rattle.sp_state.proofs.TitleLaws.{titles-after, titles-were}
use Rattle.sp_state.proofs.SheetLaws.{edited-unlocked, locked-before, sheets-before}
use Rattle.std.proofs.lemmas.Bool.Decides.{Decides-eqb}
use Rattle.std.proofs.lemmas.Slice.Eq.{slice_eq-Decides}
use Rattle.std.proofs.lemmas.Result.{err_from_is_err_and}
use Rattle.sp_text_entry.specs.Reads.{EditReads, EditReadsAtMost}
use Rattle.sp_state.proofs.EntryLaws.{entry-leads}
use Rattle.sp_exchange.specs.Reads.{IsRefused}
use Rattle.sp_exchange.proofs.ReadLaws.{none-read}
use Rattle.sp_state.proofs.editing.edit_made.Goals as goal

-- Nothing is asked of what isn't known.
none-known : {V : Type 0} (known : Option V) (P : V → Type 0) → known ≡ None → IfSome known P
none-known None P is = tt
none-known (Some those) P is = absurd (let bad : ⊥ = cc in bad)

pub firsts_before-requires-clause-laid : goal.firsts_before-requires-clause-laid
firsts_before-requires-clause-laid g c = ap (λ (m : MadeOf). m.layout) c.made.view_is ∙ (rw c.lines.ensures.lines c.requires.made.layout)

pub edit_entry-requires-clause-laid : goal.edit_entry-requires-clause-laid
edit_entry-requires-clause-laid g c = ap (λ (m : MadeOf). m.layout) c.made.view_is ∙ c.requires.made.layout

pub refilled-requires-clause-stale : goal.refilled-requires-clause-stale
refilled-requires-clause-stale g c =
    let old : State = state_of (text_of c.args.text.now.lines) c.args.records.now in
    let new : State = state_of (text_of c.edit_entry.new.text.lines) c.edit_entry.new.records in
    let it : Replacement = replacement_of c.args.text.now.lines.lines (edit_of c.args.edit) in
    let done = c.in_ok-entry.ensures in
    let rows = c.in_ok-entry.field-0.rows in
    subst (λ (s : State). AreStartsBefore s rows c.args.starts.now.pages.starts) (sym c.new-laid.ensures)
    (λ stops are. stale-edited old new it rows c.args.starts.now.pages.starts stops c.requires.whole (can-edit (text_of c.args.text.now.lines) c.args.records.now (edit_of c.args.edit) new done.refuses done.whole done.state) done.state c.requires.pages done.rows are)

pub refilled-requires-clause-labels : goal.refilled-requires-clause-labels
refilled-requires-clause-labels g c keeps =
    let old : State = state_of (text_of c.args.text.now.lines) c.args.records.now in
    let new : State = state_of (text_of c.edit_entry.new.text.lines) c.edit_entry.new.records in
    let was = ap (λ (m : MadeOf). m.layout) c.made.view_is ∙ c.requires.made.layout in
    let numbered = subst (IsNumberedOf old) (sym (ap (λ (m : MadeOf). m.numbered) c.made.view_is)) c.requires.made.numbered in
    let done = c.in_ok-entry.ensures in
    let layout = laid_of c.edit_entry.new.layout in
    let change = c.in_ok-entry.field-0.layout in
    subst (λ (s : State). c.made.inside.numbered.labels ≡ heading_labels s.lines s.scenes) (sym c.new-laid.ensures)
    (labels-after old new layout (with_change layout change) c.made.inside.numbered.labels c.requires.whole.text done.whole done.laid
    (done.layout_back ∙ was) (ap (λ (s : State). s.scenes) done.state) numbered.labels (c.keeps_headings-keeps_labels.ensures.0 keeps))

pub refilled-requires-clause-titles : goal.refilled-requires-clause-titles
refilled-requires-clause-titles g c keeps =
    let old : State = state_of (text_of c.args.text.now.lines) c.args.records.now in
    let new : State = state_of (text_of c.edit_entry.new.text.lines) c.edit_entry.new.records in
    let was = ap (λ (m : MadeOf). m.layout) c.made.view_is ∙ c.requires.made.layout in
    let numbered = subst (IsNumberedOf old) (sym (ap (λ (m : MadeOf). m.numbered) c.made.view_is)) c.requires.made.numbered in
    let done = c.in_ok-entry.ensures in
    let layout = laid_of c.edit_entry.new.layout in
    let change = c.in_ok-entry.field-0.layout in
    let starts = c.made.inside.numbered.title_starts in
    let were = titles-were old (with_change layout change) new.paper starts (done.layout_back ∙ was) (ap (λ (s : State). s.paper) done.state) numbered.title_starts in
    subst (λ (s : State). starts ≡ title_starts s) (sym c.new-laid.ensures) (titles-after new layout change starts done.laid were (c.leaves_titles-keeps_titles.ensures.0 keeps))

pub refilled-requires-clause-sheets : goal.refilled-requires-clause-sheets
refilled-requires-clause-sheets g c none first =
    let old : State = state_of (text_of c.args.text.now.lines) c.args.records.now in
    let it : Replacement = replacement_of c.args.text.now.lines.lines (edit_of c.args.edit) in
    let numbered = subst (IsNumberedOf old) (sym (ap (λ (m : MadeOf). m.numbered) c.made.view_is)) c.requires.made.numbered in
    let led = c.new-laid.ensures ∙ c.in_ok-entry.ensures.state in
    sheets-before old c.made.inside.numbered.sheets c.args.starts.now.pages.starts c.requires.whole
    (edited-unlocked old it (sym (ap (λ (s : State). s.pages) led) ∙ none)) (sym (ap (λ (s : State). s.round) led) ∙ first)
    numbered.sheets c.requires.pages

pub refilled-requires-clause-kept : goal.refilled-requires-clause-kept
refilled-requires-clause-kept g c keeps =
    let old : State = state_of (text_of c.args.text.now.lines) c.args.records.now in
    let new : State = state_of (text_of c.edit_entry.new.text.lines) c.edit_entry.new.records in
    let it : Replacement = replacement_of c.args.text.now.lines.lines (edit_of c.args.edit) in
    let numbered = subst (IsNumberedOf old) (sym (ap (λ (m : MadeOf). m.numbered) c.made.view_is)) c.requires.made.numbered in
    let sheets = c.made.inside.numbered.sheets in
    let pages = c.args.starts.now.pages.starts in
    let same = (slice_eq-Decides Decides-eqb c.as_slice.result.now c.as_slice-2.result.now c.eq-keeps_firsts.result c.eq-keeps_firsts.ensures).0 keeps in
    let after = c.in_ok-entry.field-0.firsts.items in
    let first : after ≡ first_rows old = sym c.as_slice-2.ensures.value ∙ sym same ∙ c.as_slice.ensures.value ∙ (rw c.lines.ensures.lines at c.in_ok-before.ensures.found) in
    let Were : State → List ℕ → Type 0 = λ s firsts. IfSome s.pages (λ those. AreSheetsBefore those firsts pages sheets) in
    let were = subst (λ (s : State). Were s after) (sym c.in_ok-entry.ensures.state) (locked-before old it after pages sheets c.requires.whole first c.requires.pages numbered.sheets) in
    subst (λ (s : State). Were s (first_rows s)) (sym c.new-laid.ensures) (subst (Were new) c.in_ok-entry.ensures.firsts were)

pub returns-in_err-entry : goal.returns-in_err-entry
returns-in_err-entry g c =
    let old : State = state_of (text_of c.args.text.now.lines) c.args.records.now in
    let it : Replacement = replacement_of c.args.text.now.lines.lines (edit_of c.args.edit) in
    let was = ap (λ (m : MadeOf). m.layout) c.made.view_is ∙ c.requires.made.layout in
    let numbered = subst (IsNumberedOf old) (sym (ap (λ (m : MadeOf). m.numbered) c.made.view_is)) c.requires.made.numbered in
    let left = c.in_err-entry.ensures in
    let now : State = state_of (text_of c.edit_entry.new.text.lines) c.edit_entry.new.records in
    let p = err_from_is_err_and c.from_residual-in_err-entry.result c.from_residual-in_err-entry.ensures.1 in
    rw (p.1, p.2) (record {
      refuses = left.refuses;
      state = tt;
      whole = tt;
      back = tt;
      range = tt;
      window = tt;
      few = tt;
      made = record {
        layout = left.same_layout ∙ was ∙ sym (ap laid_in left.same);
        numbered = subst (λ (s : State). IsNumberedOf s c.made.inside.numbered) (sym left.same) numbered;
      };
      firsts = none-known c.firsts_before.new.known (λ those. those.items ≡ first_rows now) c.firsts_before.ensures.forgotten;
      pages = c.requires.pages ∙ sym (ap pages_of left.same);
      same = left.same;
      reads = tt;
      at_most = c.edit_entry.ensures.at_most;
      unread = c.edit_entry.ensures.unread;
      fills = tt;
      fills_at_most = subst (EditFillsAtMost old it (g.S.Steps.fills c.args.steps.now)) (sym c.edit_entry.ensures.fills) (none-filled old (edited_state old it) (range_of it) (g.S.Steps.fills c.args.steps.now));
      unfilled = λ refused. c.edit_entry.ensures.fills;
    })

pub returns-in-Ok : goal.returns-in-Ok
returns-in-Ok g c =
    let old : State = state_of (text_of c.args.text.now.lines) c.args.records.now in
    let new : State = state_of (text_of c.edit_entry.new.text.lines) c.edit_entry.new.records in
    let it : Replacement = replacement_of c.args.text.now.lines.lines (edit_of c.args.edit) in
    let was = ap (λ (m : MadeOf). m.layout) c.made.view_is ∙ c.requires.made.layout in
    let rows = c.in_ok-entry.field-0.rows in
    let done = c.in_ok-entry.ensures in
    let filled = rw c.new-laid.ensures at c.in-Ok.ensures in
    let most = rw c.new-laid.ensures at c.refilled.ensures.at_most in
    let reads = g.S.Steps.reads c.args.steps.now in
    let fills = g.S.Steps.fills c.args.steps.now in
    record {
      refuses = done.refuses;
      state = done.state;
      whole = done.whole;
      back = entry-leads new old c.in_ok-entry.field-0.text c.in_ok-entry.field-0.layout c.in-Ok.swapped (laid_of c.edit_entry.new.layout) (laid_of c.made.inside.layout) c.refilled.new.pages.starts
          done.back done.laid was done.can_change done.layout_back filled.pages filled.can (filled.back ∙ c.requires.pages);
      range = done.range;
      window = done.window;
      few = done.few;
      made = record { layout = done.laid; numbered = filled.numbered };
      firsts = done.firsts;
      pages = filled.pages;
      same = tt;
      reads = subst (EditReads old it reads) (sym c.refilled.ensures.reads) done.reads;
      at_most = subst (EditReadsAtMost old it reads) (sym c.refilled.ensures.reads) c.edit_entry.ensures.at_most;
      unread = λ refused. absurd (subst IsRefused done.refuses refused);
      fills = subst (λ (n : ℕ). EditFills old it n (g.S.Steps.fills c.refilled.new.steps)) c.edit_entry.ensures.fills
          (fills-edited old new it rows c.args.starts.now.pages.starts (g.S.Steps.fills c.edit_entry.new.steps) (g.S.Steps.fills c.refilled.new.steps) done.state c.requires.pages done.rows filled.fills);
      fills_at_most = subst (λ (n : ℕ). EditFillsAtMost old it n (g.S.Steps.fills c.refilled.new.steps)) c.edit_entry.ensures.fills
          (fills-within old new it rows c.args.starts.now.pages.starts (g.S.Steps.fills c.edit_entry.new.steps) (g.S.Steps.fills c.refilled.new.steps) done.state c.requires.pages done.rows most);
      unfilled = λ refused. absurd (subst IsRefused done.refuses refused);
    }

pub returns : goal.returns
returns g c =
    let old : State = state_of (text_of c.args.text.now.lines) c.args.records.now in
    let new : State = state_of (text_of c.edit_entry.new.text.lines) c.edit_entry.new.records in
    let now : State = state_of (text_of c.take_back.new.text.lines) c.take_back.new.records in
    let it : Replacement = replacement_of c.args.text.now.lines.lines (edit_of c.args.edit) in
    let was = ap (λ (m : MadeOf). m.layout) c.made.view_is ∙ c.requires.made.layout in
    let numbered = subst (IsNumberedOf old) (sym (ap (λ (m : MadeOf). m.numbered) c.made.view_is)) c.requires.made.numbered in
    let rows = c.in_ok-entry.field-0.rows in
    let done = c.in_ok-entry.ensures in
    let left = c.in-Err.ensures in
    let most = rw c.new-laid.ensures at c.refilled.ensures.at_most in
    let same : now ≡ old = c.take_back.ensures.state ∙ done.back.there in
    record {
      refuses = tt;
      state = tt;
      whole = tt;
      back = tt;
      range = tt;
      window = tt;
      few = tt;
      made = record {
        layout = c.take_back.ensures.layout ∙ done.layout_back ∙ was ∙ sym (ap laid_in same);
        numbered = subst (IsNumberedOf now) (sym left.same_numbered) (subst (λ (s : State). IsNumberedOf s c.made.inside.numbered) (sym same) numbered);
      };
      firsts = none-known c.firsts_before.new.known (λ those. those.items ≡ first_rows now) c.firsts_before.ensures.forgotten;
      pages = left.same ∙ c.requires.pages ∙ sym (ap pages_of same);
      same = same;
      reads = tt;
      at_most = subst (EditReadsAtMost old it (g.S.Steps.reads c.args.steps.now)) (sym c.refilled.ensures.reads) c.edit_entry.ensures.at_most;
      unread = λ refused. absurd (subst IsRefused done.refuses refused);
      fills = tt;
      fills_at_most = subst (λ (n : ℕ). EditFillsAtMost old it n (g.S.Steps.fills c.refilled.new.steps)) c.edit_entry.ensures.fills
          (fills-within old new it rows c.args.starts.now.pages.starts (g.S.Steps.fills c.edit_entry.new.steps) (g.S.Steps.fills c.refilled.new.steps) done.state c.requires.pages done.rows most);
      unfilled = λ refused. absurd (subst IsRefused done.refuses refused);
    }

pub returns-in_err-before-clause-at_most : goal.returns-in_err-before-clause-at_most
returns-in_err-before-clause-at_most g c = none-read _ _ _ _

pub returns-in_err-before-clause-fills_at_most : goal.returns-in_err-before-clause-fills_at_most
returns-in_err-before-clause-fills_at_most g c = none-filled _ _ _ _
