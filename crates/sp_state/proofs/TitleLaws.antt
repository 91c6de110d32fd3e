-- The title sheets of a state after an edit.
use Rattle.std.proofs.Common.{◌≡◌, ℕ, Bool, List, refl, sym, ap, ◌∙◌}
use Rattle.spec_text.specs.Lines.{TextState}
use Rattle.spec_pages.specs.declared.Paper.{Paper}
use Rattle.spec_records.specs.Kept.{RecordsOf}
use Rattle.spec_state.specs.State.{State}
use Rattle.spec_state.specs.Keeping.{state_of}
use Rattle.spec_state.specs.StateSheets.{title_starts}
use Rattle.sp_layout.specs.LaidOut.{LayoutOf}
use Rattle.sp_layout.specs.Changes.{ChangeOf, with_change}
use Rattle.sp_layout.specs.Kept.{laid_of}
use Rattle.sp_sheets.specs.Firsts.{IsLaidOf}
use Rattle.sp_sheets.specs.Titles.{LeavesTitles, laid_titles}
use Rattle.sp_sheets.proofs.TitleLaws.{titles-kept, titles-laid, titles-spoken}

-- Those of a state are those of its layout.
pub titles-were : (state : State) (layout : LayoutOf) (paper : Paper) (starts : List ℕ) → IsLaidOf state layout → paper ≡ state.paper → starts ≡ title_starts state → starts ≡ laid_titles layout paper
titles-were state layout paper starts laid on are = are ∙ sym (titles-laid state layout paper laid on)

-- Where no element of a title page comes or goes those of the state before are those of the state after it.
pub titles-after : (state : State) (layout : LayoutOf) (change : ChangeOf) (starts : List ℕ) → IsLaidOf state layout → starts ≡ laid_titles (with_change layout change) state.paper
    → LeavesTitles change.part.places (laid_of change.part.kept) → starts ≡ title_starts state
titles-after state layout change starts laid are leaves = are ∙ titles-kept layout change state.paper leaves ∙ titles-laid state layout state.paper laid refl

-- Whether cues say that their speakers go on moves none.
pub speakers-titles : (text : TextState) (old new : RecordsOf) (speakers : Bool) (starts : List ℕ) → new ≡ record old { speakers = speakers } → starts ≡ title_starts (state_of text old) → starts ≡ title_starts (state_of text new)
speakers-titles text old new speakers starts is are = are ∙ sym (titles-spoken (state_of text old) speakers) ∙ ap (λ (r : RecordsOf). title_starts (state_of text r)) (sym is)
