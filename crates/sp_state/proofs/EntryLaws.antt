-- An entry leads to the state before it, and the same entry to the same state.
use Rattle.std.proofs.Common.{◌≡◌, ℕ, Option, List, sym, ap, ap₂, subst, ◌∙◌}
use Rattle.spec_text.specs.Ranges.{RangeOf}
use Rattle.spec_state.specs.State.{State}
use Rattle.spec_locked_pages.specs.Segments.{pages_of}
use Rattle.sp_reflow.specs.Starts.{Taken, CanExchange, exchanged}
use Rattle.sp_reflow.specs.Updates.{CanPutBack, TakenStarts, taken_of, with_taken}
use Rattle.sp_layout.specs.LaidOut.{LayoutOf}
use Rattle.sp_layout.specs.declared.kept.PartPlaces.{PartPlaces}
use Rattle.sp_layout.specs.Changes.{CanChange, CanSpeak, ChangeOf, IsSameChange, SpeechOf, with_change, with_speech}
use Rattle.sp_layout.specs.Kept.{CanSwap, laid_of, with_part}
use Rattle.sp_sheets.specs.Firsts.{IsLaidOf, laid_in}
use Rattle.sp_text_entry.specs.TextEntries.{TextEntryState, LeadsText, turned_text}
use Rattle.sp_state.specs.Entries.{EntryState, CanTurn, IsSameEntry, LayoutLeads, Leads, PagesLead, done_range, turned_range, turned_state}
use Rattle.sp_text_entry.proofs.TextEntryLaws.{same-CanTurnText, same-done_lines, same-turned_lines, same-turned_text}

pages-lead : (state other : State) (pages : Taken) (now : List ℕ) → now ≡ pages_of state → CanPutBack now pages → with_taken now pages ≡ pages_of other → PagesLead state other pages
pages-lead state other pages now is can are = record {
  can = subst (λ starts. CanPutBack starts pages) is can;
  are = subst (λ starts. with_taken starts pages ≡ pages_of other) is are;
}

layout-leads : (state other : State) (change : ChangeOf) (now : LayoutOf) → IsLaidOf state now → CanChange now change → with_change now change ≡ laid_in other → LayoutLeads state other change
layout-leads state other change now is can are = record {
  can = subst (λ layout. CanChange layout change) is can;
  are = subst (λ layout. with_change layout change ≡ laid_in other) is are;
}

pub entry-leads : (state other : State) (text : TextEntryState) (layout : ChangeOf) (pages : Taken) (laid was : LayoutOf) (now : List ℕ) → LeadsText state other text
    → IsLaidOf state laid → IsLaidOf other was → CanChange laid layout → with_change laid layout ≡ was
    → now ≡ pages_of state → CanPutBack now pages → with_taken now pages ≡ pages_of other → Leads state other (record { text = text; layout = layout; pages = pages })
entry-leads state other text layout pages laid was now leads laid_is was_is change_can change is can are = record {
  can = record {
    text = leads.can;
    layout = layout-leads state (turned_text state text) layout laid laid_is change_can (change ∙ was_is ∙ ap laid_in (sym leads.there));
    pages = pages-lead state (turned_text state text) pages now is can (are ∙ ap pages_of (sym leads.there));
  };
  there = leads.there;
}

-- ---- the same entry

same-lead : (state one_to other_to : State) (one other : Taken) → taken_of one ≡ taken_of other → one_to ≡ other_to → PagesLead state other_to other → PagesLead state one_to one
same-lead state one_to other_to one other same to lead = record {
  can = subst (λ (it : TakenStarts). CanExchange (pages_of state) it.place it.stands it.less it.more) (sym same) lead.can;
  are = ap (λ (it : TakenStarts). exchanged (pages_of state) it.place it.stands it.starts it.less it.more) same ∙ lead.are ∙ ap pages_of (sym to);
}

-- A change that leads where another led.
pub record LeadsAgain (layout : LayoutOf) (one other : ChangeOf) : Type 0 where
  pub can : CanChange layout one
  pub same : with_change layout one ≡ with_change layout other

-- So does the same change.
pub same-leads : (layout : LayoutOf) (one other : ChangeOf) → IsSameChange one other → CanChange layout other → LeadsAgain layout one other
same-leads layout one other same can = record {
  can = record {
    part = subst (λ (part : LayoutOf). CanSwap layout one.part.places part) (sym same.layout) (subst (λ (at : PartPlaces). CanSwap layout at (laid_of other.part.kept)) (sym same.places) can.part);
    speech = subst (λ (speech : Option SpeechOf). CanSpeak layout one.part.places.to speech) (sym same.speech) (subst (λ (at : PartPlaces). CanSpeak layout at.to other.speech) (sym same.places) can.speech);
  };
  same = ap (λ (speech : Option SpeechOf). with_part (with_speech layout speech) one.part.places (laid_of one.part.kept)) same.speech ∙ ap₂ (with_part (with_speech layout other.speech)) same.places same.layout;
}

layout-again : (state one_to other_to : State) (now : LayoutOf) (one other : ChangeOf) → IsLaidOf state now → LeadsAgain now one other → one_to ≡ other_to → LayoutLeads state other_to other → LayoutLeads state one_to one
layout-again state one_to other_to now one other is again to lead =
    let here = subst (λ layout. LeadsAgain layout one other) is again in
    record { can = here.can; are = here.same ∙ lead.are ∙ ap laid_in (sym to) }

pub same-turned_state : (state : State) (one other : EntryState) → IsSameEntry one other → turned_state state one ≡ turned_state state other
same-turned_state state one other same = same-turned_text state one.text other.text same

pub same-done_range : (one other : EntryState) → IsSameEntry one other → done_range one ≡ done_range other
same-done_range one other same = same-done_lines one.text other.text same

pub same-turned_range : (one other : EntryState) → IsSameEntry one other → turned_range one ≡ turned_range other
same-turned_range one other same = same-turned_lines one.text other.text same

-- What an entry exchanges is what the one that it left did, and the other way round.
pub turned-range : (one other : EntryState) → done_range one ≡ turned_range other → turned_range one ≡ done_range other
turned-range one other is = ap (λ (range : RangeOf). let back : RangeOf = record { first = range.first; old = range.new; new = range.old } in back) is

-- What is handed back can be turned as what was given.
pub turn-again : (state : State) (now : LayoutOf) (one other : EntryState) → IsLaidOf state now → IsSameEntry one other → LeadsAgain now one.layout other.layout → taken_of one.pages ≡ taken_of other.pages → CanTurn state other → CanTurn state one
turn-again state now one other is same again pages can = record {
  text = same-CanTurnText state one.text other.text same can.text;
  layout = layout-again state (turned_state state one) (turned_state state other) now one.layout other.layout is again (same-turned_state state one other same) can.layout;
  pages = same-lead state (turned_state state one) (turned_state state other) one.pages other.pages pages (same-turned_state state one other same) can.pages;
}
