-- The rows and the sheets of a locked page are told by what stands in its segment.
use Rattle.std.proofs.Common.{◌≡◌, ℕ, zero, suc, ◌+◌, ◌-◌, ◌<◌, ◌≤◌, Option, List, [], ◌∷◌, ◌++◌, length, map, take, drop, refl, sym, ap, ap₂, subst, ◌∙◌, arith, length-append, length-take, unwrap_or}
use Rattle.std.specs.Prelude.{All, filter, slice_range}
use Rattle.std.proofs.lemmas.List.{length-map}
use Rattle.spec_pages.specs.Pages.{page_starts, rows_on}
use Rattle.spec_pages.specs.OwnPages.{lies_in}
use Rattle.spec_pages.specs.declared.Shape.{Shape}
use Rattle.spec_labels.specs.Labels.{LabelOf}
use Rattle.spec_labels.specs.PageRecords.{PageRecordOf, SegmentOf, first_label, record_starts, page_sheets}
use Rattle.spec_sheets.specs.Shown.{Shown, shape_of}
use Rattle.spec_state.specs.State.{State}
use Rattle.spec_state.specs.Keeping.{IsWhole}
use Rattle.spec_state.specs.StateSheets.{rows_in, keys_in, locked_starts}
use Rattle.spec_edit.specs.Items.{front_of, back_of, Sight, Item, all_sights, sights_in, rows_among, start_of, starts_of_spots}
use Rattle.spec_edit.proofs.AmongLaws.{rows_among-append}
use Rattle.spec_edit.proofs.SplitLaws.{text-parts}
use Rattle.spec_edit.proofs.StandingLaws.{segment-rows}
use Rattle.spec_locked_pages.specs.Segments.{records_in, record_at, segment_at, rows_at, pages_of, bytes_at, HasScene}
use Rattle.spec_locked_pages.proofs.CutLaws.{text_starts}
use Rattle.spec_locked_pages.proofs.RecordSheets.{segment_of, printed, own_sheets, record_sheets-own}
use Rattle.spec_locked_pages.proofs.RowsAgree.{Agree, agree-range, agree-same, agree-has, state-agree}
use Rattle.spec_locked_pages.proofs.StateScripts.{items_of, breaks-scripted}
use Rattle.spec_locked_pages.proofs.StateStarts.{anchors_in, bounds_at, state-rising, same-shapes, same-count, state-laid_out, starts-bridge, some-records, segment-lies, record-segment, middle-rows}

-- What stands in a record's segment.
abbrev pub sights_at : State → ℕ → List Sight
sights_at state i = sights_in (bounds_at state i) (items_of state)

abbrev pub next_label : State → ℕ → Option LabelOf
next_label state i = first_label (drop (i + 1) (records_in state))

-- A list cut before a range and behind it.
cut-range : {X : Type 0} (s n : ℕ) (xs : List X) → xs ≡ take s xs ++ (take n (drop s xs) ++ drop n (drop s xs))
cut-range zero zero xs = refl
cut-range zero (suc n) [] = refl
cut-range {X} zero (suc n) (x ∷ xs) = ap (λ (ys : List X). x ∷ ys) (cut-range zero n xs)
cut-range (suc s) zero [] = refl
cut-range (suc s) (suc n) [] = refl
cut-range {X} (suc s) n (x ∷ xs) = ap (λ (ys : List X). x ∷ ys) (cut-range s n xs)

module _ (state : State) (i : ℕ) (whole : IsWhole state) (there : i < length (records_in state)) where
  abbrev own_items : List Item
  own_items = items_of state

  abbrev low : ℕ
  low = start_of own_items (bounds_at state i).low

  abbrev high : ℕ
  high = start_of own_items (bounds_at state i).high

  -- Its rows agree with what stands there.
  pub rows-agree : Agree state.scenes (rows_at state i) (rows_among (sights_at state i))
  rows-agree =
      let lies = segment-lies state i whole there in
      subst (λ (segment : SegmentOf). Agree state.scenes (slice_range (rows_in state) segment.start segment.end) (rows_among (sights_at state i))) (sym (record-segment state i whole there))
      (subst (Agree state.scenes (slice_range (rows_in state) low high)) (middle-rows own_items (bounds_at state i) (state-rising state whole.text) lies.order)
      (agree-range state.scenes low high (rows_in state) (rows_among (all_sights own_items)) (state-agree state whole.text)))

  pub rows-own : All (HasScene state.scenes) (rows_at state i) → rows_at state i ≡ rows_among (sights_at state i)
  rows-own has = agree-same state.scenes (rows_at state i) (rows_among (sights_at state i)) rows-agree has

  pub rows-have : All (HasScene state.scenes) (rows_among (sights_at state i)) → All (HasScene state.scenes) (rows_at state i)
  rows-have has = agree-has state.scenes (rows_at state i) (rows_among (sights_at state i)) rows-agree has

  -- How many rows it has.
  pub row-count : (segment_at state i).end ≡ (segment_at state i).start + length (rows_among (sights_at state i))
  row-count =
      let lies = segment-lies state i whole there in
      subst (λ (segment : SegmentOf). segment.end ≡ segment.start + length (rows_among (sights_at state i))) (sym (record-segment state i whole there))
      (segment-rows (bounds_at state i) own_items (state-rising state whole.text) lies.order)

  low-fits : low ≤ length (rows_in state)
  low-fits =
      let lies = segment-lies state i whole there in
      let parts = text-parts (bounds_at state i) own_items (state-rising state whole.text) lies.order in
      let count = same-count state whole.text in
      let front = rows_among (front_of (bounds_at state i).low own_items) in
      let rest = sights_at state i ++ back_of (bounds_at state i).high own_items in
      let rows = ap (λ (sights : List Sight). length (rows_among sights)) parts ∙ ap length (rows_among-append (front_of (bounds_at state i).low own_items) rest) ∙ length-append front (rows_among rest) in
      let own = length-map front shape_of in
      omega (arith, count, rows, own)

  -- The pages of the state, by what stands in it.
  pages-are : pages_of state ≡ text_starts (rows_on state.paper) (all_sights own_items) (starts_of_spots own_items (anchors_in state))
  pages-are =
      let some = some-records state i there in
      let is = some.are in
      let starts : locked_starts state.lines (rows_in state) state.pages ≡ starts_of_spots own_items (anchors_in state) =
      ap (locked_starts state.lines (rows_in state)) is ∙ ap (λ (pages : Option (List PageRecordOf)). record_starts state.lines (keys_in state) (unwrap_or pages [])) (sym is)
      ∙ starts-bridge state whole.text (records_in state) in
      ap₂ (λ (shapes : List Shape) (stops : List ℕ). page_starts (rows_on state.paper) shapes stops) (same-shapes state whole.text)
      (ap₂ (λ (a b : List ℕ). a ++ b) (breaks-scripted state whole.text) starts)

  -- The sheets of a locked page, by what stands in its segment.
  pub bytes-own : All (HasScene state.scenes) (rows_at state i) → bytes_at state i ≡ own_sheets (rows_on state.paper) (record_at state i) (next_label state i) (sights_at state i)
  bytes-own has =
      let lies = segment-lies state i whole there in
      let own = segment_of (record_at state i) (next_label state i) low high in
      let rows = rows_in state in
      let front = take low rows in
      let back = drop (high - low) (drop low rows) in
      let middle : slice_range rows low high ≡ rows_among (sights_at state i) =
      ap (λ (segment : SegmentOf). slice_range rows segment.start segment.end) (sym (record-segment state i whole there)) ∙ rows-own has in
      let split : rows ≡ front ++ (rows_among (sights_at state i) ++ back) = cut-range low (high - low) rows ∙ ap (λ (those : List Shown). front ++ (those ++ back)) middle in
      let size : length front ≡ low = (let taken = length-take low rows in omega (arith, taken, low-fits)) in
      ap (λ (segment : SegmentOf). map (printed rows) (page_sheets segment 0 (filter (lies_in segment.start segment.end) (pages_of state)))) (record-segment state i whole there)
      ∙ ap₂ (λ (those : List Shown) (pages : List ℕ). map (printed those) (page_sheets own 0 (filter (lies_in low high) pages))) split pages-are
      ∙ record_sheets-own (rows_on state.paper) own_items (anchors_in state) (record_at state i) (next_label state i) (bounds_at state i) front back (state-laid_out state whole.text) lies size
