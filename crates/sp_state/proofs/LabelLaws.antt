-- The labels of headings after an edit.
use Rattle.std.proofs.Common.{◌≡◌, Option, List, sym, ap₂, ◌∙◌}
use Rattle.spec_labels.specs.Labels.{LabelOf}
use Rattle.spec_labels.specs.Scenes.{SceneRecordOf}
use Rattle.spec_state.specs.State.{State}
use Rattle.spec_state.specs.Headings.{heading_labels}
use Rattle.spec_state.specs.Keeping.{IsWhole}
use Rattle.spec_text.specs.Lines.{IsText}
use Rattle.spec_state.specs.State.{text_of as state_text}
use Rattle.sp_layout.specs.LaidOut.{LayoutOf}
use Rattle.sp_sheets.specs.Firsts.{laid_in}
use Rattle.sp_sheets.specs.HeadingIds.{laid_headings, laid_labels}
use Rattle.sp_sheets.proofs.LaidHeadings.{labels-laid, labels-stay}

-- The labels of a state are those of its layout.
pub labels-were : (state : State) (layout : LayoutOf) (labels : Option (List LabelOf)) (scenes : Option (List SceneRecordOf)) → IsText (state_text state) → layout ≡ laid_in state → scenes ≡ state.scenes → labels ≡ heading_labels state.lines state.scenes
    → labels ≡ laid_labels layout scenes
labels-were state layout labels scenes is laid same are = are ∙ labels-laid state is ∙ sym (ap₂ laid_labels laid same)

-- Where no heading comes or goes those of the state before are those of the state after it.
pub labels-after : (old new : State) (layout was : LayoutOf) (labels : Option (List LabelOf)) → IsText (state_text old) → IsWhole new → layout ≡ laid_in new → was ≡ laid_in old → new.scenes ≡ old.scenes
    → labels ≡ heading_labels old.lines old.scenes → laid_headings was ≡ laid_headings layout → labels ≡ heading_labels new.lines new.scenes
labels-after old new layout was labels before whole laid led scenes are same = labels-stay new layout was labels whole.text laid (labels-were old was labels new.scenes before led scenes are) same
