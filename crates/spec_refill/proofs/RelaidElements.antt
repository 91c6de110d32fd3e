-- The elements whose rows an edit exchanges are those with a relaid block.
use Rattle.std.proofs.Common.{◌≡◌, ℕ, sym, ap, ◌∙◌}
use Rattle.std.specs.List.{filter}
use Rattle.spec_text.specs.Lines.{line_texts}
use Rattle.spec_text.specs.Edits.{Replacement}
use Rattle.spec_text.specs.Ranges.{range_of}
use Rattle.spec_script.specs.Elements.{elements_in, elements_of}
use Rattle.spec_state.specs.State.{State}
use Rattle.spec_state.specs.Keeping.{IsWhole}
use Rattle.spec_state.specs.Changes.{CanEdit, edited_state}
use Rattle.spec_edit.specs.Touched.{is_relaid_old, is_relaid_new}
use Rattle.spec_edit.specs.WindowBlocks.{old_relaid, new_relaid}
use Rattle.spec_edit.proofs.Steps.{touches}
use Rattle.spec_edit.proofs.RelaidOnce.{relaid-once-old, relaid-once-new}
use Rattle.spec_locked_pages.specs.LockedPages.{IsWindowOf, edit_blocks}
use Rattle.spec_locked_pages.proofs.StateScripts.{spoken-blocks}
use Rattle.spec_locked_pages.proofs.EditedStates.{blocks-around}
use Rattle.spec_refill.specs.Exchanges.{blocks_round}

module _ (state : State) (it : Replacement) (whole : IsWhole state) (can : CanEdit state it) (a b : ℕ) (window : IsWindowOf (range_of it) state (edited_state state it) a b) where
  pub relaid-elements-old : filter (touches (is_relaid_old (edit_blocks (range_of it) state (edited_state state it) a b))) (elements_of (line_texts state.lines))
      ≡ elements_in (old_relaid (blocks_round (range_of it) state (edited_state state it) a b))
  relaid-elements-old =
      let both = edit_blocks (range_of it) state (edited_state state it) a b in
      let around = blocks-around state it whole can a b window in
      ap (filter (touches (is_relaid_old both))) (ap elements_in (sym (spoken-blocks state) ∙ around.old_are))
      ∙ relaid-once-old both (blocks_round (range_of it) state (edited_state state it) a b) around

  pub relaid-elements-new : filter (touches (is_relaid_new (edit_blocks (range_of it) state (edited_state state it) a b))) (elements_of (line_texts (edited_state state it).lines))
      ≡ elements_in (new_relaid (blocks_round (range_of it) state (edited_state state it) a b))
  relaid-elements-new =
      let both = edit_blocks (range_of it) state (edited_state state it) a b in
      let around = blocks-around state it whole can a b window in
      ap (filter (touches (is_relaid_new both))) (ap elements_in (sym (spoken-blocks (edited_state state it)) ∙ around.new_are))
      ∙ relaid-once-new both (blocks_round (range_of it) state (edited_state state it) a b) around
