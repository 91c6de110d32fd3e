-- The title sheets of a layout, and of one with a part exchanged.
use Rattle.std.proofs.Common.{◌≡◌, ℕ, Bool, Option, Some, None, List, [], ◌++◌, map, take, drop, refl, sym, ap, subst, ◌∙◌}
use Rattle.std.proofs.lemmas.List.{take-append-drop}
use Rattle.spec_text.specs.Lines.{IsText}
use Rattle.spec_pages.specs.declared.Paper.{Paper}
use Rattle.spec_pages.specs.declared.Shape.{Shape}
use Rattle.spec_pages.specs.Pages.{page_starts, rows_on}
use Rattle.spec_pages.specs.Rows.{ElementOf}
use Rattle.spec_pages.proofs.TitleEnds.{AreTitleShapes}
use Rattle.spec_sheets.proofs.ShownLaws.{shown_rows-shapes}
use Rattle.spec_sheets.proofs.TitleRows.{layout_of-title_same, layout_of-title_shapes}
use Rattle.spec_state.specs.State.{State, text_of}
use Rattle.spec_state.specs.StateSheets.{layout_in, title_starts}
use Rattle.sp_layout.specs.Bodies.{shapes_in}
use Rattle.sp_layout.specs.Exchanges.{moved_element}
use Rattle.sp_layout.specs.LaidOut.{LayoutOf}
use Rattle.sp_layout.specs.Changes.{ChangeOf, SpeechOf, with_change, with_speech}
use Rattle.sp_layout.specs.Kept.{laid_of}
use Rattle.sp_sheets.specs.Firsts.{IsLaidOf, laid_in}
use Rattle.sp_sheets.specs.Titles.{LeavesTitles, laid_titles}
use Rattle.sp_sheets.proofs.LaidHeadings.{shapes-append, shapes-moved}

-- The rows of a title page that is laid out have the shape of such rows.
pub titles-shaped : (state : State) (layout : LayoutOf) → IsText (text_of state) → IsLaidOf state layout → AreTitleShapes (shapes_in layout.titles.elements)
titles-shaped state layout is laid =
    subst (λ (l : LayoutOf). AreTitleShapes (shapes_in l.titles.elements)) (sym laid) (layout_of-title_shapes state.speakers (text_of state) is)

-- The title sheets of a state are those of its layout.
pub titles-laid : (state : State) (layout : LayoutOf) (paper : Paper) → IsLaidOf state layout → paper ≡ state.paper → laid_titles layout paper ≡ title_starts state
titles-laid state layout paper laid on =
    ap (laid_titles layout) on ∙ ap (λ (l : LayoutOf). laid_titles l state.paper) laid
    ∙ ap (λ (shapes : List Shape). page_starts (rows_on state.paper) shapes []) (sym (shown_rows-shapes state.lines None (layout_in state).titles))

-- Without elements that come or go those of a title page are only moved.
titles-moved : (elements others : List ElementOf) (from to less more : ℕ) → others ≡ [] → from ≡ to → shapes_in (take from elements ++ (others ++ map (moved_element less more) (drop to elements))) ≡ shapes_in elements
titles-moved elements others from to less more none same =
    ap (λ (those : List ElementOf). shapes_in (take from elements ++ (those ++ map (moved_element less more) (drop to elements)))) none
    ∙ shapes-append (take from elements) (map (moved_element less more) (drop to elements))
    ∙ ap (λ (shapes : List Shape). shapes_in (take from elements) ++ shapes) (shapes-moved less more (drop to elements) ∙ ap (λ (n : ℕ). shapes_in (drop n elements)) (sym same))
    ∙ sym (shapes-append (take from elements) (drop from elements))
    ∙ ap shapes_in (take-append-drop from elements)

-- The rows of a speech are none of a title page.
spoken-titles : (layout : LayoutOf) (speech : Option SpeechOf) → (with_speech layout speech).titles.elements ≡ layout.titles.elements
spoken-titles layout None = refl
spoken-titles layout (Some speech) = refl

pub titles-kept : (layout : LayoutOf) (change : ChangeOf) (paper : Paper) → LeavesTitles change.part.places (laid_of change.part.kept) → laid_titles (with_change layout change) paper ≡ laid_titles layout paper
titles-kept layout change paper leaves =
    let at = change.part.places in
    let others = (laid_of change.part.kept).titles.elements in
    ap (λ (shapes : List Shape). page_starts (rows_on paper) shapes [])
    (ap (λ (elements : List ElementOf). shapes_in (take at.title_from elements ++ (others ++ map (moved_element at.less at.more) (drop at.title_to elements)))) (spoken-titles layout change.speech)
    ∙ titles-moved layout.titles.elements others at.title_from at.title_to at.less at.more leaves.none_come leaves.none_go)

-- Whether speakers who go on are told moves no title sheet.
pub titles-spoken : (state : State) (on : Bool) → title_starts (record state { speakers = on }) ≡ title_starts state
titles-spoken state on =
    let other : State = record state { speakers = on } in
    sym (titles-laid other (laid_in other) state.paper refl refl)
    ∙ ap (λ (shapes : List Shape). page_starts (rows_on state.paper) shapes []) (layout_of-title_same on state.speakers state.lines)
    ∙ titles-laid state (laid_in state) state.paper refl refl
