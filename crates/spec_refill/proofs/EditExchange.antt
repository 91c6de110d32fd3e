-- An edit of a whole state exchanges the rows of its relaid elements, and no others.
use Rattle.std.proofs.Common.{◌≡◌, ℕ, ◌+◌, Bool, false, Option, Some, None, List, [], ◌∷◌, ◌++◌, length, map, refl, sym, ap, ap₂, subst, ◌∙◌, arith}
use Rattle.std.specs.Prelude.{All, IsPermutation, min, option_map}
use Rattle.std.proofs.lemmas.List.{length-map}
use Rattle.spec_text.specs.Lines.{LineState}
use Rattle.spec_text.specs.Edits.{Replacement}
use Rattle.spec_text.specs.Ranges.{range_of}
use Rattle.spec_text.proofs.EditedLaws.{changed-IsEdited, text-HasIds}
use Rattle.spec_script.specs.LongestRuns.{Group}
use Rattle.spec_script.specs.Stanzas.{PlacedBlock}
use Rattle.spec_script.specs.Elements.{elements_in}
use Rattle.spec_pages.specs.declared.Shape.{Shape}
use Rattle.spec_pages.specs.Pages.{page_starts, rows_on}
use Rattle.spec_labels.specs.PageRecords.{PageRecordOf, record_starts, carried_records}
use Rattle.spec_labels.specs.Spots.{Spot, anchor_after}
use Rattle.spec_labels.specs.Anchors.{spot_of, spots_of}
use Rattle.spec_labels.proofs.SpotLaws.{anchor-follows, first-follows}
use Rattle.spec_labels.proofs.AnchorLaws.{first_spot, carried-spots}
use Rattle.spec_labels.proofs.CarryLaws.{Edited}
use Rattle.spec_sheets.specs.Shown.{shape_of}
use Rattle.spec_sheets.proofs.RowLaws.{IsText-texts}
use Rattle.spec_state.specs.State.{State, text_of}
use Rattle.spec_state.specs.Keeping.{IsWhole}
use Rattle.spec_state.specs.StateSheets.{rows_in, keys_in, layout_in, locked_starts}
use Rattle.spec_state.specs.Changes.{carried_state, rows_by_record, pages_raised, CanEdit}
use Rattle.spec_edit.specs.WindowBlocks.{WindowBlocks, old_blocks, new_blocks, old_relaid, new_relaid}
use Rattle.spec_edit.specs.PageWindows.{AreStops, AreExchanged}
use Rattle.spec_edit.specs.Items.{starts_of_spots}
use Rattle.spec_edit.specs.Touched.{EditBlocks}
use Rattle.spec_edit.proofs.FairElements.{ElementSound, IsKnown, all-known}
use Rattle.spec_edit.proofs.WindowPartners.{Around}
use Rattle.spec_locked_pages.specs.Segments.{pages_of}
use Rattle.spec_locked_pages.specs.LockedPages.{IsWindowOf, edit_blocks}
use Rattle.spec_locked_pages.proofs.StateScripts.{script_of, blocks_in, items_of, spoken-blocks, breaks-scripted}
use Rattle.spec_locked_pages.proofs.StateStarts.{state-rising, same-shapes, starts-bridge, whole-Anchored}
use Rattle.spec_locked_pages.proofs.SameRows.{starts-raised}
use Rattle.spec_locked_pages.proofs.EditedStates.{new, new-whole, lines-moved, blocks-around}
use Rattle.spec_refill.specs.Exchanges.{count_rows, blocks_round, elements_before, with_next, edit_exchange, stops_in}
use Rattle.spec_refill.proofs.Marks.{Mark, shapes, rows, breaks, start}
use Rattle.spec_refill.proofs.MarkStarts.{AreRising}
use Rattle.spec_refill.proofs.MarkStops.{AllFollow, mark_exchange, old-rows, new-rows, marks-exchanged}
use Rattle.spec_refill.proofs.ElementMarks.{marks_of, mark_of, text-marks, marks-shapes, marks-breaks, marks-start, marks-rise}
use Rattle.spec_refill.proofs.EditMarks.{EditSides, edit-sides}

-- ---- a state by marks

abbrev pub state_marks : State → List Mark
state_marks state = marks_of state.lines (blocks_in state)

items-are : (state : State) → map mark_of (items_of state) ≡ state_marks state
items-are state = text-marks (script_of state) (blocks_in state)

-- The first rows of page records by marks; none where pages aren't locked.
abbrev starts_by : List Mark → List LineState → Option (List PageRecordOf) → List ℕ
starts_by marks lines None = []
starts_by marks lines (Some records) = map (start marks) (spots_of lines records)

module _ (state : State) (whole : IsWhole state) where
  state-shapes : map shape_of (rows_in state) ≡ shapes (state_marks state)
  state-shapes = same-shapes state whole.text ∙ marks-shapes (items_of state) ∙ ap shapes (items-are state)

  pub state-rows : length (rows_in state) ≡ rows (state_marks state)
  state-rows = sym (length-map (rows_in state) shape_of) ∙ ap length state-shapes

  state-breaks : (layout_in state).breaks ≡ breaks 0 (state_marks state)
  state-breaks = breaks-scripted state whole.text ∙ marks-breaks 0 (items_of state) ∙ ap (breaks 0) (items-are state)

  state-rise : AreRising (state_marks state)
  state-rise = subst AreRising (items-are state) (marks-rise (items_of state) (state-rising state whole.text))

  each-start : (spots : List Spot) → starts_of_spots (items_of state) spots ≡ map (start (state_marks state)) spots
  each-start [] = refl
  each-start (spot ∷ spots) = ap₂ (λ n (ns : List ℕ). n ∷ ns) (marks-start (items_of state) spot ∙ ap (λ l. start l spot) (items-are state)) (each-start spots)

  records-start : (records : List PageRecordOf) → record_starts state.lines (keys_in state) records ≡ map (start (state_marks state)) (spots_of state.lines records)
  records-start records = starts-bridge state whole.text records ∙ each-start (spots_of state.lines records)

  marks-start-of : (o : Option (List PageRecordOf)) → locked_starts state.lines (rows_in state) o ≡ starts_by (state_marks state) state.lines o
  marks-start-of None = refl
  marks-start-of (Some records) = records-start records

  -- The first rows of its pages turn on its marks, its page records and its paper alone.
  pages-marked : pages_of state ≡ page_starts (rows_on state.paper) (shapes (state_marks state)) (breaks 0 (state_marks state) ++ starts_by (state_marks state) state.lines state.pages)
  pages-marked =
      ap (λ (l : List Shape). page_starts (rows_on state.paper) l (stops_in state)) state-shapes
      ∙ ap₂ (λ (a b : List ℕ). page_starts (rows_on state.paper) (shapes (state_marks state)) (a ++ b)) state-breaks (marks-start-of state.pages)

-- Whether cues say that their speakers go on moves no page.
pub speakers-starts : (state : State) (on : Bool) → IsWhole state → IsWhole (record state { speakers = on }) → pages_of (record state { speakers = on }) ≡ pages_of state
speakers-starts state on whole other = pages-marked (record state { speakers = on }) other ∙ sym (pages-marked state whole)

anchors-follow : (it : Replacement) (spots : List Spot) → AllFollow (range_of it) spots (map (anchor_after (range_of it)) spots)
anchors-follow it [] = tt
anchors-follow it (spot ∷ spots) = (anchor-follows (range_of it) spot, anchors-follow it spots)

-- The rows of two texts: so many before the relaid elements, theirs, and as many behind them in both.
pub record RowsParted (olds news first gone come : ℕ) : Type 0 where
  pub behind : ℕ
  pub old_are : olds ≡ first + gone + behind
  pub new_are : news ≡ first + come + behind

-- Page breaks and record starts of both texts by marks, with the spots that the edit moves.
record Spots (it : Replacement) (old new : State) : Type 0 where
  pub olds : List Spot
  pub news : List Spot
  pub follow : AllFollow (range_of it) olds news
  pub old_are : locked_starts old.lines (rows_in old) old.pages ≡ map (start (state_marks old)) olds
  pub new_are : locked_starts new.lines (rows_in new) new.pages ≡ map (start (state_marks new)) news

module _ (state : State) (it : Replacement) (whole : IsWhole state) (can : CanEdit state it) where
  abbrev after : State
  after = new state it whole can

  abbrev after_whole : IsWhole after
  after_whole = new-whole state it whole can

  ids-edited : Edited (range_of it) state.next after.next state.lines after.lines
  ids-edited = record { edit = changed-IsEdited (text_of state) it state.round can.inside; old_ids = text-HasIds (text_of state) whole.text; new_ids = text-HasIds (text_of after) after_whole.text }

  abbrev moved_state : State
  moved_state = carried_state state it

  abbrev pages_after : Option (List PageRecordOf) → Option (List PageRecordOf)
  pages_after pages = pages_raised state moved_state pages (option_map (carried_records after.lines (it.first + length it.texts)) pages)

  spots-moved : Spots it state after
  spots-moved = by state.pages refl
    where
      none : state.pages ≡ None → Spots it state after
      none is = record {
        olds = [];
        news = [];
        follow = tt;
        old_are = ap (locked_starts state.lines (rows_in state)) is;
        new_are = ap (λ pages. locked_starts after.lines (rows_in after) (pages_after pages)) is;
      }

      some : (first : PageRecordOf) (others : List PageRecordOf) → state.pages ≡ Some (first ∷ others) → Spots it state after
      some first others is =
          let records = first ∷ others in
          let carried = carried_records after.lines (it.first + length it.texts) records in
          let anchored = whole-Anchored state whole first others is in
          let spots = map (spot_of state.lines) others in
          record {
            olds = first_spot ∷ spots;
            news = first_spot ∷ map (anchor_after (range_of it)) spots;
            follow = (first-follows (range_of it), anchors-follow it spots);
            old_are = ap (locked_starts state.lines (rows_in state)) is ∙ records-start state whole records;
            new_are =
                ap (λ pages. locked_starts after.lines (rows_in after) (pages_after pages)) is
                ∙ starts-raised after.lines (keys_in after) state.round (rows_by_record state records) (rows_by_record moved_state carried) carried
                ∙ records-start after after_whole carried
                ∙ ap (λ (l : List Spot). map (start (state_marks after)) (first_spot ∷ l)) (carried-spots (range_of it) state.next after.next state.lines after.lines others ids-edited anchored.each);
          }

      by : (pages : Option (List PageRecordOf)) → state.pages ≡ pages → Spots it state after
      by None is = none is
      by (Some []) is = record {
        olds = [];
        news = [];
        follow = tt;
        old_are = ap (locked_starts state.lines (rows_in state)) is;
        new_are = ap (λ pages. locked_starts after.lines (rows_in after) (pages_after pages)) is;
      }
      by (Some (first ∷ others)) is = some first others is

  module _ (a b : ℕ) (window : IsWindowOf (range_of it) state after a b) where
    abbrev both : EditBlocks
    both = edit_blocks (range_of it) state after a b

    abbrev w : WindowBlocks
    w = blocks_round (range_of it) state after a b

    pub around : Around both w
    around = blocks-around state it whole can a b window

    pub olds-are : blocks_in state ≡ elements_in (old_blocks w)
    olds-are = ap elements_in (sym (spoken-blocks state) ∙ around.old_are)

    pub news-are : blocks_in after ≡ elements_in (new_blocks w)
    news-are = ap elements_in (sym (spoken-blocks after) ∙ around.new_are)

    pub sound : All ElementSound (elements_in (old_blocks w))
    sound =
        let one = IsText-texts (text_of state) whole.text in
        let none : Group PlacedBlock → Bool = λ element. false in
        let known = subst (All (IsKnown (script_of state) none)) olds-are (all-known (script_of state) none one.utf8 one.few) in
        λ k d h. (known k d h).sound

    abbrev front_rows : ℕ
    front_rows = count_rows state.lines (elements_before a w)

    found : EditSides both front_rows (count_rows state.lines (elements_in (old_relaid w))) (count_rows after.lines (elements_in (new_relaid w))) (state_marks state) (state_marks after)
    found =
        subst (λ es. EditSides both front_rows (count_rows state.lines (elements_in (old_relaid w))) (count_rows after.lines (elements_in (new_relaid w))) (marks_of state.lines es) (state_marks after)) (sym olds-are)
        (subst (λ es. EditSides both front_rows (count_rows state.lines (elements_in (old_relaid w))) (count_rows after.lines (elements_in (new_relaid w))) (marks_of state.lines (elements_in (old_blocks w))) (marks_of after.lines es)) (sym news-are)
        (edit-sides both w around state.lines after.lines (lines-moved state it whole can) sound
        (subst (λ es. AreRising (marks_of state.lines es)) olds-are (state-rise state whole)) (subst (λ es. AreRising (marks_of after.lines es)) news-are (state-rise after after_whole)) a))

    -- What is exchanged, by marks.
    exchange-is : edit_exchange (range_of it) state after a b ≡ mark_exchange (range_of it) found.front found.gone found.come found.back (state_marks state) (state_marks after) found.sides
    exchange-is =
        let one = old-rows (range_of it) found.front found.gone found.come found.back (state_marks state) (state_marks after) found.sides in
        let other = new-rows (range_of it) found.front found.gone found.come found.back (state_marks state) (state_marks after) found.sides in
        let count = state-rows state whole in
        let count_after = state-rows after after_whole in
        let first = found.first_is in
        let old = found.old_is in
        let come = found.new_is in
        let olds : with_next (length (rows_in state)) front_rows (count_rows state.lines (elements_in (old_relaid w))) ≡ rows found.gone + min 1 (rows found.back) = omega (arith, one, count, first, old) in
        let news : with_next (length (rows_in after)) front_rows (count_rows after.lines (elements_in (new_relaid w))) ≡ rows found.come + min 1 (rows found.back) = omega (arith, other, count_after, first, come) in
        ap₂ (λ (n m : ℕ). record { first = n; old = m; new = with_next (length (rows_in after)) front_rows (count_rows after.lines (elements_in (new_relaid w))) }) first olds
        ∙ ap (λ (n : ℕ). record { first = rows found.front; old = rows found.gone + min 1 (rows found.back); new = n }) news

    pub rows-parted : RowsParted (length (rows_in state)) (length (rows_in after)) front_rows (count_rows state.lines (elements_in (old_relaid w))) (count_rows after.lines (elements_in (new_relaid w)))
    rows-parted =
        let one = old-rows (range_of it) found.front found.gone found.come found.back (state_marks state) (state_marks after) found.sides in
        let other = new-rows (range_of it) found.front found.gone found.come found.back (state_marks state) (state_marks after) found.sides in
        let count = state-rows state whole in
        let count_after = state-rows after after_whole in
        let first = found.first_is in
        let old = found.old_is in
        let come = found.new_is in
        record { behind = rows found.back; old_are = omega (arith, one, count, first, old); new_are = omega (arith, other, count_after, first, come) }

    -- Apart from the exchanged rows, rows and stops of both states are the same but for the shift.
    pub edit-exchanged : (old_stops stops : List ℕ) → AreStops (length (map shape_of (rows_in state))) old_stops → AreStops (length (map shape_of (rows_in after))) stops
        → IsPermutation (stops_in state) old_stops → IsPermutation (stops_in after) stops
        → AreExchanged (edit_exchange (range_of it) state after a b) (map shape_of (rows_in state)) old_stops (map shape_of (rows_in after)) stops
    edit-exchanged old_stops stops old_are are old_same same =
        let shapes_old = state-shapes state whole in
        let shapes_new = state-shapes after after_whole in
        let spots = spots-moved in
        let raw_old : stops_in state ≡ breaks 0 (state_marks state) ++ map (start (state_marks state)) spots.olds = ap₂ (λ (x y : List ℕ). x ++ y) (state-breaks state whole) spots.old_are in
        let raw_new : stops_in after ≡ breaks 0 (state_marks after) ++ map (start (state_marks after)) spots.news = ap₂ (λ (x y : List ℕ). x ++ y) (state-breaks after after_whole) spots.new_are in
        let made = marks-exchanged (range_of it) found.front found.gone found.come found.back (state_marks state) (state_marks after) found.sides spots.olds spots.news old_stops stops spots.follow
        (subst (λ l. AreStops (length l) old_stops) shapes_old old_are) (subst (λ l. AreStops (length l) stops) shapes_new are)
        (subst (λ l. IsPermutation l old_stops) raw_old old_same) (subst (λ l. IsPermutation l stops) raw_new same) in
        subst (λ e. AreExchanged e (map shape_of (rows_in state)) old_stops (map shape_of (rows_in after)) stops) (sym exchange-is)
        (subst (λ (l : List Shape). AreExchanged (mark_exchange (range_of it) found.front found.gone found.come found.back (state_marks state) (state_marks after) found.sides) l old_stops (map shape_of (rows_in after)) stops) (sym shapes_old)
        (subst (λ (l : List Shape). AreExchanged (mark_exchange (range_of it) found.front found.gone found.come found.back (state_marks state) (state_marks after) found.sides) (shapes (state_marks state)) old_stops l stops) (sym shapes_new) made))
