use Rattle.std.proofs.Common.{◌≡◌, ap, sym, subst, ◌∙◌, refl}
use Rattle.std.specs.Prelude.{IfSome}
use Rattle.spec_state.specs.State.{State, text_of as state_text}
use Rattle.spec_state.specs.Keeping.{state_of}
use Rattle.sp_text.specs.Gap.{text_of}
use Rattle.sp_layout.specs.LaidOut.{LayoutOf}
use Rattle.sp_layout.specs.Changes.{CanChange, with_change}
use Rattle.sp_layout.specs.Kept.{laid_of}
use Rattle.sp_sheets.specs.Firsts.{laid_in}
use Rattle.sp_sheets.specs.Made.{IsMadeOf, IsNumberedOf, MadeOf}
use Rattle.sp_sheets.specs.Locked.{AreSheetsBefore}
use Rattle.sp_text_entry.specs.TextEntries.{IsSameTextEntry, IsTextTurned}
use Rattle.sp_state.specs.Entries.{EntryState, CanTurn, HoldsFew, turned_range, turned_state}
use Rattle.sp_state.proofs.EntryLaws.{entry-leads, turn-again}
use Rattle.sp_state.proofs.FewLaws.{holds-few}
use Rattle.sp_state.proofs.LabelLaws.{labels-were}
use Rattle.sp_state.proofs.TitleLaws.{titles-were}
use Rattle.sp_state.proofs.SheetLaws.{none-mapped, sheets-before, turned-before}
use Rattle.sp_text_entry.proofs.TextEntryLaws.{turned-twice}
use Rattle.spec_locked_pages.specs.Segments.{pages_of}
use Rattle.sp_state.proofs.editing.turn_made.Goals as goal

pub turn_layout-requires-clause-labels : goal.turn_layout-requires-clause-labels
turn_layout-requires-clause-labels c =
    let state : State = state_of (text_of c.args.text.now.lines) c.args.records.now in
    let was = ap (λ (m : MadeOf). m.layout) c.made.view_is ∙ c.requires.made.layout in
    let numbered = subst (IsNumberedOf state) (sym (ap (λ (m : MadeOf). m.numbered) c.made.view_is)) c.requires.made.numbered in
    labels-were state (laid_of c.made.inside.layout) c.made.inside.numbered.labels c.turn_entry.new.records.scenes c.lines-lines.ensures.keeps was (ap (λ (s : State). s.scenes) c.in-Ok.ensures.state) numbered.labels

pub turn_layout-requires-clause-titles : goal.turn_layout-requires-clause-titles
turn_layout-requires-clause-titles c =
    let state : State = state_of (text_of c.args.text.now.lines) c.args.records.now in
    let was = ap (λ (m : MadeOf). m.layout) c.made.view_is ∙ c.requires.made.layout in
    let numbered = subst (IsNumberedOf state) (sym (ap (λ (m : MadeOf). m.numbered) c.made.view_is)) c.requires.made.numbered in
    titles-were state (laid_of c.made.inside.layout) c.turn_entry.new.records.paper c.made.inside.numbered.title_starts was (ap (λ (s : State). s.paper) c.in-Ok.ensures.state) numbered.title_starts

pub turn_layout-requires-clause-sheets : goal.turn_layout-requires-clause-sheets
turn_layout-requires-clause-sheets c none first =
    let state : State = state_of (text_of c.args.text.now.lines) c.args.records.now in
    let numbered = subst (IsNumberedOf state) (sym (ap (λ (m : MadeOf). m.numbered) c.made.view_is)) c.requires.made.numbered in
    let led = c.in-Ok.ensures.state in
    sheets-before state c.made.inside.numbered.sheets c.args.starts.now.pages.starts c.requires.was_whole
    (none-mapped _ state.pages (sym (ap (λ (s : State). s.pages) led) ∙ none)) (sym (ap (λ (s : State). s.round) led) ∙ first)
    numbered.sheets c.requires.pages

pub turn_layout-requires-clause-kept : goal.turn_layout-requires-clause-kept
turn_layout-requires-clause-kept c =
    let state : State = state_of (text_of c.args.text.now.lines) c.args.records.now in
    let numbered = subst (IsNumberedOf state) (sym (ap (λ (m : MadeOf). m.numbered) c.made.view_is)) c.requires.made.numbered in
    let firsts = c.args.starts.now.firsts in
    let pages = c.args.starts.now.pages.starts in
    subst (λ (s : State). IfSome firsts (λ those. IfSome s.pages (λ them. AreSheetsBefore them those.items pages c.made.inside.numbered.sheets))) (sym c.in-Ok.ensures.state)
    (turned-before state c.entry.inside.text.first c.entry.inside.text.second firsts pages c.made.inside.numbered.sheets c.requires.was_whole c.requires.firsts c.requires.pages numbered.sheets)

pub returns-in-Ok-turn_layout : goal.returns-in-Ok-turn_layout
returns-in-Ok-turn_layout c =
    let state : State = state_of (text_of c.args.text.now.lines) c.args.records.now in
    let after : State = state_of (text_of c.turn_entry.new.text.lines) c.turn_entry.new.records in
    let led = c.in-Ok.ensures in
    let turned = c.in-Ok-turn_layout.ensures in
    let it = c.in-Ok-turn_layout.field-0 in
    let was = ap (λ (m : MadeOf). m.layout) c.made.view_is ∙ c.requires.made.layout in
    let entry : EntryState = record { text = c.entry.inside.text; layout = c.entry.inside.layout; pages = c.entry.inside.pages } in
    let can : CanTurn state entry = subst (CanTurn state) (sym c.entry.view_is) c.requires.can in
    record {
      state = led.state ∙ ap (turned_state state) c.entry.view_is;
      back = entry-leads after state c.in-Ok.other it.layout it.pages (laid_of c.turn_layout.new.layout) (laid_of c.made.inside.layout) c.turn_layout.new.starts.pages.starts
          led.back turned.laid was turned.can_change turned.layout_back turned.pages turned.can (turned.back ∙ c.requires.pages);
      range = led.range ∙ ap turned_range c.entry.view_is;
      few = λ held. holds-few state after entry c.in-Ok.other it.layout it.pages (laid_of c.made.inside.layout) (laid_of c.turn_layout.new.layout) can.text.text led.entry.text (ap state_text led.state)
          (subst (λ (l : LayoutOf). CanChange l entry.layout) (sym was) can.layout.can)
          (turned.laid ∙ ap laid_in led.state ∙ sym can.layout.are ∙ ap (λ (l : LayoutOf). with_change l entry.layout) (sym was)) turned.places turned.can_change turned.layout_back
          (subst (HoldsFew (text_of c.args.text.now.lines)) (sym c.entry.view_is) held);
      made = record { layout = turned.laid; numbered = turned.numbered };
      firsts = turned.firsts;
      pages = turned.pages;
      same = tt;
      handed_back = tt;
      again = tt;
    }

pub returns-in-Err-turn_layout : goal.returns-in-Err-turn_layout
returns-in-Err-turn_layout c =
    let state : State = state_of (text_of c.args.text.now.lines) c.args.records.now in
    let now : State = state_of (text_of c.turn_in_room-of_text.new.text.lines) c.turn_in_room-of_text.new.records in
    let other = c.in-Ok.other in
    let back = c.turn_in_room-of_text.result in
    let again = c.turn_in_room-of_text.ensures in
    let left = c.in-Err-turn_layout.ensures in
    let was = ap (λ (m : MadeOf). m.layout) c.made.view_is ∙ c.requires.made.layout in
    let numbered = subst (IsNumberedOf state) (sym (ap (λ (m : MadeOf). m.numbered) c.made.view_is)) c.requires.made.numbered in
    let entry : EntryState = record { text = c.entry.inside.text; layout = c.entry.inside.layout; pages = c.entry.inside.pages } in
    let can : CanTurn state entry = subst (CanTurn state) (sym c.entry.view_is) c.requires.can in
    let same : now ≡ state = again.state ∙ c.in-Ok.ensures.back.there in
    let own = turned-twice state c.entry.inside.text other back can.text c.in-Ok.ensures.entry (subst (λ (s : State). IsTextTurned s other back) c.in-Ok.ensures.state again.entry) in
    record {
      state = tt;
      back = tt;
      range = tt;
      few = λ held. tt;
      made = record {
        layout = left.same_layout ∙ was ∙ sym (ap laid_in same);
        numbered = subst (IsNumberedOf now) (sym left.same_numbered) (subst (λ (s : State). IsNumberedOf s c.made.inside.numbered) (sym same) numbered);
      };
      firsts = tt;
      pages = left.same ∙ c.requires.pages ∙ sym (ap pages_of same);
      same = same;
      handed_back = subst (λ (e : EntryState). IsSameTextEntry back e.text) c.entry.view_is own;
      again = turn-again state (laid_of c.made.inside.layout) (record { text = back; layout = c.in-Err-turn_layout.field-0.back.layout; pages = c.in-Err-turn_layout.field-0.back.pages }) entry was own
          (record { can = left.again; same = left.leads_again }) left.handed_back can;
    }

pub returns-in-Err : goal.returns-in-Err
returns-in-Err c =
    let state : State = state_of (text_of c.args.text.now.lines) c.args.records.now in
    let left = c.in-Err.ensures in
    let entry : EntryState = record { text = c.entry.inside.text; layout = c.entry.inside.layout; pages = c.entry.inside.pages } in
    let can : CanTurn state entry = subst (CanTurn state) (sym c.entry.view_is) c.requires.can in
    let back : EntryState = record { text = c.in-Err.field-0.back; layout = entry.layout; pages = entry.pages } in
    record {
      state = tt;
      back = tt;
      range = tt;
      few = λ held. tt;
      made = subst (λ (s : State). IsMadeOf s c.args.made.now) (sym left.same) c.requires.made;
      firsts = tt;
      pages = c.requires.pages ∙ sym (ap pages_of left.same);
      same = left.same;
      handed_back = subst (λ (e : EntryState). IsSameTextEntry c.in-Err.field-0.back e.text) c.entry.view_is left.handed_back;
      again = turn-again state (laid_in state) back entry refl left.handed_back (record { can = can.layout.can; same = refl }) refl can;
    }
