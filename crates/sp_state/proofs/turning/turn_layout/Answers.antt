use Rattle.std.proofs.Common.{◌≡◌, ℕ, List, Some, refl, sym, ap, subst, ◌∙◌}
use Rattle.std.specs.Prelude.{IfSome}
use Rattle.std.proofs.lemmas.Bool.{OnTrue_at}
use Rattle.spec_state.specs.State.{State}
use Rattle.spec_state.specs.Headings.{heading_labels}
use Rattle.spec_state.specs.Keeping.{state_of}
use Rattle.spec_state.specs.StateSheets.{title_starts}
use Rattle.sp_text.specs.Gap.{text_of}
use Rattle.sp_layout.specs.LaidOut.{LayoutOf}
use Rattle.sp_layout.specs.Changes.{with_change}
use Rattle.sp_layout.specs.Kept.{laid_of}
use Rattle.sp_sheets.specs.Firsts.{first_rows}
use Rattle.sp_sheets.specs.HeadingIds.{laid_labels}
use Rattle.sp_sheets.specs.Locked.{AreSheetsBefore}
use Rattle.sp_sheets.proofs.LaidHeadings.{labels-stay}
use Rattle.sp_sheets.specs.Titles.{laid_titles}
use Rattle.sp_state.proofs.EntryLaws.{same-leads}
use Rattle.sp_state.proofs.SheetLaws.{known-before}
use Rattle.sp_state.proofs.TitleLaws.{titles-after}
use Rattle.sp_state.proofs.turning.turn_layout.Goals as goal

pub turned_pages-requires-clause-labels : goal.turned_pages-requires-clause-labels
turned_pages-requires-clause-labels c keeps =
    let state : State = state_of (text_of c.args.text.now.lines) c.args.records.now in
    let layout = laid_of c.change.new.self in
    let other = c.in-Ok.other in
    let numbered = c.args.numbered.now in
    subst (λ (s : State). numbered.labels ≡ heading_labels s.lines s.scenes) (sym c.new-laid.ensures)
    (labels-stay state layout (with_change layout other) numbered.labels c.requires.whole.text (c.in-Ok.ensures.layout ∙ c.requires.laid)
    (c.requires.labels ∙ ap (λ (l : LayoutOf). laid_labels l state.scenes) (sym c.in-Ok.ensures.back)) (c.keeps_headings-keeps_labels.ensures.0 keeps))

pub turned_pages-requires-clause-titles : goal.turned_pages-requires-clause-titles
turned_pages-requires-clause-titles c keeps =
    let state : State = state_of (text_of c.args.text.now.lines) c.args.records.now in
    let layout = laid_of c.change.new.self in
    let other = c.in-Ok.other in
    let numbered = c.args.numbered.now in
    subst (λ (s : State). numbered.title_starts ≡ title_starts s) (sym c.new-laid.ensures)
    (titles-after state layout other numbered.title_starts (c.in-Ok.ensures.layout ∙ c.requires.laid)
    (c.requires.titles ∙ ap (λ (l : LayoutOf). laid_titles l state.paper) (sym c.in-Ok.ensures.back)) (c.leaves_titles-keeps_titles.ensures.0 keeps))

pub turned_pages-requires-clause-kept : goal.turned_pages-requires-clause-kept
turned_pages-requires-clause-kept c keeps =
    let state : State = state_of (text_of c.args.text.now.lines) c.args.records.now in
    let numbered = c.args.numbered.now in
    let starts = c.args.starts.now in
    let known = OnTrue_at keeps c.firsts_stay-keeps_firsts.ensures ∙ ap Some c.deref.ensures.value in
    let Were : State → List ℕ → Type 0 = λ s firsts. IfSome s.pages (λ them. AreSheetsBefore them firsts starts.pages.starts numbered.sheets) in
    let were = known-before starts.firsts c.in-Ok-laid_firsts.firsts.items (Were state) c.requires.kept known in
    subst (λ (s : State). Were s (first_rows s)) (sym c.new-laid.ensures) (subst (Were state) (rw c.lines.ensures.lines at c.in-Ok-laid_firsts.ensures) were)

pub returns-in-Ok-turned_pages : goal.returns-in-Ok-turned_pages
returns-in-Ok-turned_pages c =
    let changed = c.in-Ok.ensures in
    let turned = rw c.new-laid.ensures at c.in-Ok-turned_pages.ensures in
    record {
      laid = changed.layout ∙ c.requires.laid;
      places = changed.places;
      layout_back = changed.back;
      can_change = changed.can;
      pages = turned.pages;
      back = turned.back;
      can = turned.can;
      firsts = rw c.lines.ensures.lines at c.in-Ok-laid_firsts.ensures;
      numbered = turned.numbered;
      same_numbered = tt;
      same = tt;
      same_layout = tt;
      handed_back = tt;
      again = tt;
      leads_again = tt;
    }

pub returns-in-Err : goal.returns-in-Err
returns-in-Err c =
    let left = c.in-Err.ensures in
    let layout = laid_of c.args.layout.now in
    let again = same-leads layout c.in-Err.field-0.back c.args.back.layout left.handed_back c.requires.can_change in
    record {
      laid = tt;
      places = tt;
      layout_back = tt;
      can_change = tt;
      pages = tt;
      back = tt;
      can = tt;
      firsts = tt;
      numbered = tt;
      same_numbered = refl;
      same = refl;
      same_layout = left.same;
      handed_back = refl;
      again = again.can;
      leads_again = again.same;
    }
