-- Page starts of a state, filled again.
use Rattle.std.proofs.Common.{◌≡◌, ℕ, Bool, None, List, length, map, refl, sym, ap, subst, ◌∙◌}
use Rattle.std.proofs.lemmas.List.{length-map}
use Rattle.spec_text.specs.Edits.{EditOf, Replacement, refusal_of, replacement_of}
use Rattle.spec_text.specs.Lines.{TextState, IsText, line_texts}
use Rattle.spec_text.proofs.TakenEdits.{taken-inside}
use Rattle.spec_pages.specs.declared.Shape.{Shape}
use Rattle.spec_pages.specs.Pages.{rows_on}
use Rattle.spec_sheets.specs.Shown.{shape_of}
use Rattle.spec_records.specs.Kept.{RecordsOf}
use Rattle.spec_state.specs.State.{State, text_of as state_text}
use Rattle.spec_state.specs.Changes.{CanEdit, edited_state}
use Rattle.spec_state.specs.Keeping.{IsWhole, state_of}
use Rattle.spec_state.specs.StateSheets.{rows_in}
use Rattle.spec_machine.proofs.WholeStates.{speakers-whole}
use Rattle.spec_edit.specs.PageWindows.{AreExchanged, AreStops, Exchange, page_window}
use Rattle.spec_edit.proofs.WindowExists.{window-exists}
use Rattle.spec_locked_pages.specs.Segments.{pages_of}
use Rattle.spec_refill.proofs.EditExchange.{edit-exchanged, speakers-starts}
use Rattle.sp_reflow.specs.Galleys.{GalleyOf, starts_in}
use Rattle.sp_reflow.specs.Updates.{AreStale}
use Rattle.sp_sheets.specs.Pages.{AreStopsOf}
use Rattle.sp_sheets.proofs.StopsMade.{starts-of, stops-in_order}
use Rattle.sp_text_entry.specs.Relaid.{IsExchangeOf}
use Rattle.sp_state.specs.Fills.{AreStartsBefore, galley_of}

-- The rows of a state as pages are filled of them, with stops of it in order.
pub record IsGalleyOf (state : State) (galley : GalleyOf) : Type 0 where
  pub stops : List ℕ
  pub are : AreStopsOf state stops
  pub same : galley ≡ galley_of state stops

pub galley-is : (state : State) (galley : GalleyOf) (shapes : List Shape) (items stops : List ℕ) (body : ℕ) → AreStopsOf state items
    → galley ≡ (let it : GalleyOf = record { shapes = shapes; stops = stops; limit = body } in it) → shapes ≡ map shape_of (rows_in state) → stops ≡ items → body ≡ rows_on state.paper
    → IsGalleyOf state galley
galley-is state galley shapes items stops body are made a b c = record {
  stops = items;
  are = are;
  same = made ∙ ap (λ (l : List Shape). let it : GalleyOf = record { shapes = l; stops = stops; limit = body } in it) a
      ∙ ap (λ (l : List ℕ). let it : GalleyOf = record { shapes = map shape_of (rows_in state); stops = l; limit = body } in it) b
      ∙ ap (λ (n : ℕ). let it : GalleyOf = record { shapes = map shape_of (rows_in state); stops = items; limit = n } in it) c;
}

pub galley-stale : (state : State) (galley : GalleyOf) (rows : Exchange) (starts : List ℕ) → IsGalleyOf state galley → AreStartsBefore state rows starts → AreStale galley rows starts
galley-stale state galley rows starts is stale = subst (λ (it : GalleyOf). AreStale it rows starts) (sym is.same) (stale is.stops is.are)

-- Its page starts are those of the state, and so is the page window.
pub galley-starts : (state : State) (galley : GalleyOf) → IsGalleyOf state galley → starts_in galley ≡ pages_of state
galley-starts state galley is = ap starts_in is.same ∙ starts-of state (rows_on state.paper) (map shape_of (rows_in state)) is.stops is.stops is.are refl refl refl

pub galley-window : (state : State) (galley : GalleyOf) (rows : Exchange) (starts : List ℕ) → IsGalleyOf state galley
    → page_window galley.limit rows starts (starts_in galley) ≡ page_window (rows_on state.paper) rows starts (pages_of state)
galley-window state galley rows starts is =
    ap (λ (it : GalleyOf). page_window it.limit rows starts (starts_in galley)) is.same ∙ ap (page_window (rows_on state.paper) rows starts) (galley-starts state galley is)

-- After an edit the page starts are stale in the rows that it exchanges alone.
pub stale-edited : (old new : State) (it : Replacement) (edit : Exchange) (starts stops : List ℕ) → IsWhole old → CanEdit old it → new ≡ edited_state old it → starts ≡ pages_of old → IsExchangeOf old it edit
    → AreStopsOf new stops → AreStale (galley_of new stops) edit starts
stale-edited old new it edit starts stops whole can led starts_are found are =
    let after = edited_state old it in
    let window = window-exists (line_texts old.lines) (line_texts after.lines) it.first it.old (length it.texts) in
    let olds = stops-in_order old whole in
    let those = map shape_of (rows_in old) in
    let others = map shape_of (rows_in after) in
    let stale : AreStopsOf after stops → AreStale (galley_of after stops) edit starts = λ news. record {
      old_shapes = those;
      old_stops = olds.0;
      starts_are = starts_are ∙ sym (starts-of old (rows_on after.paper) those olds.0 olds.0 olds.1 refl refl refl);
      exchange = subst (λ (e : Exchange). AreExchanged e those olds.0 others stops) (sym (found.is window.0 window.1 window.2))
          (edit-exchanged old it whole can window.0 window.1 window.2 olds.0 stops
          (subst (λ n. AreStops n olds.0) (sym (length-map (rows_in old) shape_of)) olds.1.are) (subst (λ n. AreStops n stops) (sym (length-map (rows_in after) shape_of)) news.are)
          olds.1.same news.same);
    } in
    subst (λ (s : State). AreStopsOf s stops → AreStale (galley_of s stops) edit starts) (sym led) stale are

-- An accepted edit can be made.
pub can-edit : (text : TextState) (records : RecordsOf) (edit : EditOf) (new : State) → refusal_of text edit ≡ None → IsWhole new → new ≡ edited_state (state_of text records) (replacement_of text.lines edit)
    → CanEdit (state_of text records) (replacement_of text.lines edit)
can-edit text records edit new taken whole led = record { inside = taken-inside text edit taken; text = subst (λ (s : State). IsText (state_text s)) led whole.text }

-- Whether cues say that their speakers go on moves no page.
pub speakers-pages : (text : TextState) (old new : RecordsOf) (speakers : Bool) (starts : List ℕ) → new ≡ record old { speakers = speakers } → IsWhole (state_of text old) → starts ≡ pages_of (state_of text old)
    → starts ≡ pages_of (state_of text new)
speakers-pages text old new speakers starts is whole are =
    are ∙ sym (speakers-starts (state_of text old) speakers whole (speakers-whole (state_of text old) speakers whole)) ∙ ap (λ (r : RecordsOf). pages_of (state_of text r)) (sym is)
