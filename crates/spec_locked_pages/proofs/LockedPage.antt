-- The law of locked pages for one edit of a whole state.
use Rattle.std.proofs.Common.{◌≡◌, ℕ, ◌+◌, ◌-◌, ◌<◌, Bool, List, length, inl, inr, sym, ap, subst, ◌∙◌, arith}
use Rattle.std.specs.Prelude.{All}
use Rattle.spec_text.specs.Lines.{LineState}
use Rattle.spec_text.specs.Edits.{Replacement}
use Rattle.spec_text.specs.Ranges.{IsOutside, range_of}
use Rattle.spec_script.specs.LongestRuns.{Group}
use Rattle.spec_script.specs.Stanzas.{PlacedBlock}
use Rattle.spec_script.specs.Elements.{line_of_block, elements_in}
use Rattle.spec_pages.specs.Pages.{rows_on}
use Rattle.spec_pages.specs.Rows.{line_state}
use Rattle.spec_labels.specs.PageRecords.{SegmentOf}
use Rattle.spec_sheets.specs.Speakers.{Spoken}
use Rattle.spec_sheets.proofs.RowLaws.{IsText-texts}
use Rattle.spec_state.specs.State.{State, text_of}
use Rattle.spec_state.specs.Keeping.{IsWhole}
use Rattle.spec_state.specs.Changes.{CanEdit}
use Rattle.spec_edit.specs.WindowBlocks.{old_blocks, new_blocks, window_blocks}
use Rattle.spec_edit.specs.Items.{Sight, rows_among, start_of}
use Rattle.spec_edit.specs.Touched.{EditBlocks, is_touched_old, is_touched_new, touches_element}
use Rattle.spec_edit.specs.Standing.{NoneStands}
use Rattle.spec_edit.proofs.Steps.{touches, NoneTouchedStands}
use Rattle.spec_edit.proofs.ElementMoves.{block_after, BlockLeft, line-after}
use Rattle.spec_edit.proofs.FairElements.{text_with, IsKnown, all-known}
use Rattle.spec_edit.proofs.KeptElements.{Parted, parted}
use Rattle.spec_edit.proofs.LockedSights.{parted-rows, parted-sights}
use Rattle.spec_edit.proofs.StandingLaws.{none-from}
use Rattle.spec_locked_pages.specs.Segments.{records_in, record_at, segment_at, rows_at, HasScene, IsLockedPage}
use Rattle.spec_locked_pages.specs.LockedPages.{elements_in as state_elements, IsWindowOf, edit_blocks, NoneStandsAt, LeavesAlone, StaysLocked}
use Rattle.spec_locked_pages.proofs.StateScripts.{record_label, script_of, texts_of, blocks_in, items_of, spoken-blocks, elements-scripted}
use Rattle.spec_locked_pages.proofs.StateStarts.{bounds_at, state-rising, record-segment}
use Rattle.spec_locked_pages.proofs.RecordSheets.{own_sheets, place-same}
use Rattle.spec_locked_pages.proofs.SegmentBytes.{sights_at, next_label, rows-own, rows-have, row-count, bytes-own}
use Rattle.spec_locked_pages.proofs.EditedStates.{new, range, new-whole, lines-moved, blocks-around, label-kept, next-kept, records-count, bounds-follow, round-kept}

-- What doesn't stand in a segment that has a row, by the segment's spots.
none-spots : (state : State) (touched : PlacedBlock → Bool) (i : ℕ) → IsWhole state → i < length (records_in state) → (segment_at state i).start < (segment_at state i).end → NoneStandsAt state touched i
    → NoneTouchedStands (text_with (script_of state) (touches touched)) (start_of (items_of state) (bounds_at state i).low) (start_of (items_of state) (bounds_at state i).high) 0 (blocks_in state)
none-spots state touched i whole there some none =
    let own = record-segment state i whole there in
    let low = ap (λ (segment : SegmentOf). segment.start) own in
    let high = ap (λ (segment : SegmentOf). segment.end) own in
    none-from (script_of state) touched (start_of (items_of state) (bounds_at state i).low) (start_of (items_of state) (bounds_at state i).high) 0 (blocks_in state) (omega (arith, some, low, high))
    (subst (λ (elements : List (Group Spoken)). NoneStands (touches_element touched) state.lines (start_of (items_of state) (bounds_at state i).low) (start_of (items_of state) (bounds_at state i).high) 0 elements) (elements-scripted state whole.text)
    (subst (λ (segment : SegmentOf). NoneStands (touches_element touched) state.lines segment.start segment.end 0 (state_elements state)) own none))

module _ (state : State) (it : Replacement) (whole : IsWhole state) (can : CanEdit state it) (a b : ℕ) (window : IsWindowOf (range state it whole can) state (new state it whole can) a b) where
  abbrev after : State
  after = new state it whole can

  abbrev after_whole : IsWhole after
  after_whole = new-whole state it whole can

  abbrev both : EditBlocks
  both = edit_blocks (range_of it) state after a b

  -- A heading that is left has the label of its record, as before.
  same-labels : (placed : PlacedBlock) → BlockLeft (range_of it) placed
      → record_label after.scenes (line_state after.lines (line_of_block (block_after (range_of it) placed))).id ≡ record_label state.scenes (line_state state.lines (line_of_block placed)).id
  same-labels placed left =
      let outside : IsOutside (range_of it) (line_of_block placed) = elim left.side [
        | inl front ↦ inl (let some = left.some in omega (arith, front, some))
        | inr behind ↦ inr (omega (arith, behind))
      ] in
      ap (λ (line : LineState). record_label state.scenes line.id)
      (ap (line_state after.lines) (line-after (range_of it) placed left) ∙ (lines-moved state it whole can).line (line_of_block placed) outside)

  -- The elements of both texts.
  parts : Parted (range_of it) (text_with (script_of state) (touches (is_touched_old both))) (text_with (script_of after) (touches (is_touched_new both))) (blocks_in state) (blocks_in after)
  parts =
      let w = window_blocks (texts_of state) (texts_of after) a b (b + it.old - length it.texts) in
      let around = blocks-around state it whole can a b window in
      let one = IsText-texts (text_of state) whole.text in
      let other = IsText-texts (text_of after) after_whole.text in
      let olds : blocks_in state ≡ elements_in (old_blocks w) = ap elements_in (sym (spoken-blocks state) ∙ around.old_are) in
      let news : blocks_in after ≡ elements_in (new_blocks w) = ap elements_in (sym (spoken-blocks after) ∙ around.new_are) in
      let P = IsKnown (script_of state) (touches (is_touched_old both)) in
      let Q = IsKnown (script_of after) (touches (is_touched_new both)) in
      subst (λ es. Parted (range_of it) (text_with (script_of state) (touches (is_touched_old both))) (text_with (script_of after) (touches (is_touched_new both))) es (blocks_in after)) (sym olds)
      (subst (λ es. Parted (range_of it) (text_with (script_of state) (touches (is_touched_old both))) (text_with (script_of after) (touches (is_touched_new both))) (elements_in (old_blocks w)) es) (sym news)
      (parted both w around state.lines after.lines
      (λ line. record_label state.scenes (line_state state.lines line).id) (λ line. record_label after.scenes (line_state after.lines line).id)
      (lines-moved state it whole can) same-labels
      (subst (All P) olds (all-known (script_of state) (touches (is_touched_old both)) one.utf8 one.few))
      (subst (All Q) news (all-known (script_of after) (touches (is_touched_new both)) other.utf8 other.few))))

  module _ (i : ℕ) (locked : IsLockedPage state i) (alone : LeavesAlone (range_of it) state after i) where
    there_after : i < length (records_in after)
    there_after = let count = records-count state it whole can in let there = locked.there in omega (arith, count, there)

    none-old : NoneTouchedStands (text_with (script_of state) (touches (is_touched_old both))) (start_of (items_of state) (bounds_at state i).low) (start_of (items_of state) (bounds_at state i).high) 0 (blocks_in state)
    none-old = none-spots state (is_touched_old both) i whole locked.there locked.row (alone.before a b window)

    -- The segment has rows after the edit too.
    some-after : (segment_at after i).start < (segment_at after i).end
    some-after =
        let kept = parted-rows (range_of it) (text_with (script_of state) (touches (is_touched_old both))) (text_with (script_of after) (touches (is_touched_new both)))
        (blocks_in state) (blocks_in after) (bounds_at state i) (bounds_at after i) parts (bounds-follow state it whole can i locked.there)
        (state-rising state whole.text) none-old in
        let one = row-count state i whole locked.there in
        let other = row-count after i after_whole there_after in
        let row = locked.row in
        omega (arith, kept, one, other, row)

    -- What stands there is the same.
    sights-kept : sights_at after i ≡ sights_at state i
    sights-kept =
        parted-sights (range_of it) (text_with (script_of state) (touches (is_touched_old both))) (text_with (script_of after) (touches (is_touched_new both)))
        (blocks_in state) (blocks_in after) (bounds_at state i) (bounds_at after i) parts (bounds-follow state it whole can i locked.there)
        (state-rising state whole.text) (state-rising after after_whole.text)
        none-old (none-spots after (is_touched_new both) i after_whole there_after some-after (alone.after a b window))

    scenes-kept : All (HasScene after.scenes) (rows_at after i)
    scenes-kept =
        rows-have after i after_whole there_after
        (subst (λ (sights : List Sight). All (HasScene state.scenes) (rows_among sights)) (sym sights-kept)
        (subst (All (HasScene state.scenes)) (rows-own state i whole locked.there locked.scenes) locked.scenes))

    rows-kept : rows_at after i ≡ rows_at state i
    rows-kept =
        rows-own after i after_whole there_after scenes-kept ∙ ap rows_among sights-kept ∙ sym (rows-own state i whole locked.there locked.scenes)

    pub window-locked : StaysLocked state after i
    window-locked = record {
      sheets =
          bytes-own after i after_whole there_after scenes-kept
          ∙ ap (own_sheets (rows_on state.paper) (record_at after i) (next_label after i)) sights-kept
          ∙ place-same (rows_on state.paper) (record_at state i) (record_at after i) (next_label state i) (next_label after i) (sights_at state i)
          (label-kept state it whole can i) (round-kept state it whole can i locked.there rows-kept) (next-kept state it whole can i)
          ∙ sym (bytes-own state i whole locked.there locked.scenes);
      label = label-kept state it whole can i;
      locked = record { there = there_after; row = some-after; scenes = scenes-kept };
    }
