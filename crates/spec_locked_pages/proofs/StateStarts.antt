-- Where the segments of a state begin and end, by ids and by spots.
use Rattle.std.proofs.Common.{◌≡◌, ℕ, zero, suc, ◌+◌, ◌-◌, ◌<◌, ◌≤◌, Bool, true, false, not, cond, Option, Some, None, List, [], ◌∷◌, ◌++◌, length, map, get_or, take, inl, inr, refl, sym, ap, ap₂, subst, ◌∙◌, arith, length-append, append-nil, unwrap_or}
use Rattle.std.specs.Prelude.{All, AllPairs, IfSome, filter, drop, slice_range}
use Rattle.std.specs.List.{flat_map}
use Rattle.std.proofs.lemmas.Bool.{cases_lt, cases_eq}
use Rattle.std.proofs.lemmas.List.{length-map, get_or-map, map-append, take_all, get_or_past, get_or_default}
use Rattle.std.proofs.lemmas.List.Elements.{All-nil, All-cons, All-head, All-tail, All-append, All-map}
use Rattle.std.proofs.lemmas.List.Kept.{AllPairs-cons}
use Rattle.spec_text.specs.Lines.{LineState, IsText, line_texts}
use Rattle.spec_text.specs.EditedLines.{HasIds}
use Rattle.spec_text.proofs.EditedLaws.{text-HasIds}
use Rattle.spec_text.proofs.ListLaws.{pairs-map}
use Rattle.spec_script.specs.LongestRuns.{Group}
use Rattle.spec_script.specs.Stanzas.{PlacedBlock}
use Rattle.spec_script.specs.Elements.{line_of_block}
use Rattle.spec_pages.specs.OwnPages.{AreJoined}
use Rattle.spec_pages.specs.Rows.{Row, line_state}
use Rattle.spec_labels.specs.declared.RowKey.{RowKey}
use Rattle.spec_labels.specs.Labels.{LabelOf}
use Rattle.spec_labels.specs.PageRecords.{PageRecordOf, SegmentOf, first_label, segments, record_start, record_starts}
use Rattle.spec_labels.specs.Spots.{Spot, is_ahead, Bounds, AtMost}
use Rattle.spec_labels.specs.Anchors.{spot_of, end_spot, spots_of, IsAnchored, Anchored, ArePresent}
use Rattle.spec_labels.proofs.SpotLaws.{ahead-from, ahead-not}
use Rattle.spec_labels.proofs.CarryLaws.{place-is}
use Rattle.spec_labels.proofs.AnchorLaws.{first_spot}
use Rattle.spec_labels.proofs.KeySpots.{key_spot, no_key, start-below, start-above}
use Rattle.spec_labels.proofs.StartLaws.{record_start-low}
use Rattle.spec_sheets.specs.Cells.{ShownCell}
use Rattle.spec_sheets.specs.Shown.{Shown, shape_of, key_of}
use Rattle.spec_sheets.proofs.RowLaws.{IsText-texts}
use Rattle.spec_machine.proofs.PageKeeps.{anchored-within}
use Rattle.spec_state.specs.State.{State, text_of}
use Rattle.spec_state.specs.Keeping.{IsWhole}
use Rattle.spec_state.specs.KeptStates.{ArePagesKept}
use Rattle.spec_state.specs.StateSheets.{rows_in, keys_in}
use Rattle.spec_state.proofs.RulesLaws.{whole-parts}
use Rattle.spec_state.proofs.SheetHeights.{state-joined}
use Rattle.spec_state.proofs.StateKeys.{state-keys, state-keys_inside}
use Rattle.spec_edit.specs.Items.{Sight, Item, page_break, row as shown_row, sight_of, all_sights, sights_in, rows_among, shapes_among, is_front, is_back, front_of, back_of, start_of, starts_of_spots}
use Rattle.spec_edit.specs.TextItems.{Script, text_rows, row_item, row_items, break_items, element_items, element_label}
use Rattle.spec_sheets.specs.Shown.{element_cue}
use Rattle.spec_sheets.specs.Layout.{is_page_break}
use Rattle.spec_edit.proofs.Steps.{AreRising, IsOne, LiesBetween, IsLaidOut}
use Rattle.spec_edit.proofs.AmongLaws.{rows_among-append, shapes_among-append}
use Rattle.spec_edit.proofs.SplitLaws.{front-high, front-back, rising-front, text-parts}
use Rattle.spec_edit.proofs.ItemsRise.{items-rise, items-within}
use Rattle.spec_locked_pages.specs.Segments.{records_in, record_at, no_record, no_segment, segment_at}
use Rattle.spec_locked_pages.proofs.CutLaws.{range-middle}
use Rattle.spec_locked_pages.proofs.RecordSheets.{segment_of}
use Rattle.spec_locked_pages.proofs.StateScripts.{script_of, blocks_in, items_of, state-rise}
use Rattle.spec_locked_pages.proofs.RowsAgree.{agree-shapes, agree-keys, state-agree}

-- ---- keys and spots of items

-- A row's key is that of its spot.
abbrev Formed : List LineState → Spot → Sight → Type 0
Formed lines spot page_break = Unit {0}
Formed lines spot (shown_row it) = it.key ≡ record { line = (line_state lines spot.place).id; row = spot.row }

abbrev IsFormed : List LineState → Item → Type 0
IsFormed lines item = Formed lines item.spot item.sight

rows-formed : (lines : List LineState) (cue : List ShownCell) (label : Option LabelOf) (those : List Row) → All (IsFormed lines) (map (row_item lines cue label) those)
rows-formed lines cue label [] = All-nil (IsFormed lines)
rows-formed lines cue label (row ∷ those) = All-cons (IsFormed lines) (row_item lines cue label row) (map (row_item lines cue label) those) refl (rows-formed lines cue label those)

items-formed : (script : Script) (elements : List (Group PlacedBlock)) → All (IsFormed script.lines) (flat_map (element_items script) elements)
items-formed script [] = All-nil (IsFormed script.lines)
items-formed script (element ∷ elements) =
    All-append (IsFormed script.lines) (element_items script element) (flat_map (element_items script) elements)
    (All-append (IsFormed script.lines) (break_items element.first) (row_items script element) (by (is_page_break element.first.block.kind))
    (rows-formed script.lines (element_cue (line_texts script.lines) (text_rows script element)) (element_label script element) (text_rows script element)))
    (items-formed script elements)
  where
    by : (b : Bool) → All (IsFormed script.lines) (cond b (record { spot = record { place = line_of_block element.first; row = 0 }; sight = page_break } ∷ []) [])
    by true = All-cons (IsFormed script.lines) _ [] tt (All-nil (IsFormed script.lines))
    by false = All-nil (IsFormed script.lines)

abbrev keys_among : List Item → List RowKey
keys_among items = map key_of (rows_among (all_sights items))

abbrev is_front_key : List LineState → Spot → RowKey → Bool
is_front_key lines spot key = is_ahead (key_spot lines key) spot

-- The rows before a spot, by keys.
front-keys : (lines : List LineState) (spot : Spot) (items : List Item) → AllPairs (λ (a b : LineState). (a.id ≡ b.id) → ⊥) lines → All (IsFormed lines) items
    → All (λ (item : Item). item.spot.place < length lines) items
    → length (rows_among (front_of spot items)) ≡ length (filter (is_front_key lines spot) (keys_among items))
front-keys lines spot [] distinct formed low = refl
front-keys lines spot (item ∷ items) distinct formed low =
    by item.sight (All-head (IsFormed lines) item items formed) (is_ahead item.spot spot) refl
    (front-keys lines spot items distinct (All-tail (IsFormed lines) item items formed) (All-tail (λ (item : Item). item.spot.place < length lines) item items low))
  where
    here : item.spot.place < length lines
    here = All-head (λ (item : Item). item.spot.place < length lines) item items low

    by : (sight : Sight) → Formed lines item.spot sight → (b : Bool) → is_ahead item.spot spot ≡ b
        → length (rows_among (front_of spot items)) ≡ length (filter (is_front_key lines spot) (keys_among items))
        → length (rows_among (map sight_of (cond (is_ahead item.spot spot) (record { spot = item.spot; sight = sight } ∷ filter (is_front spot) items) (filter (is_front spot) items))))
        ≡ length (filter (is_front_key lines spot) (keys_among (record { spot = item.spot; sight = sight } ∷ items)))
    by page_break form true is rest = ap (λ b. length (rows_among (map sight_of (cond b (record { spot = item.spot; sight = page_break } ∷ filter (is_front spot) items) (filter (is_front spot) items))))) is ∙ rest
    by page_break form false is rest = ap (λ b. length (rows_among (map sight_of (cond b (record { spot = item.spot; sight = page_break } ∷ filter (is_front spot) items) (filter (is_front spot) items))))) is ∙ rest
    by (shown_row it) form b is rest =
        let place = place-is lines item.spot.place distinct here in
        let own : is_front_key lines spot it.key ≡ is_ahead item.spot spot =
        ap (λ (key : RowKey). is_front_key lines spot key) form ∙ ap (λ p. is_ahead (record { place = p; row = item.spot.row }) spot) place in
        ap (λ b. length (rows_among (map sight_of (cond b (record { spot = item.spot; sight = shown_row it } ∷ filter (is_front spot) items) (filter (is_front spot) items))))) is
        ∙ count b rest
        ∙ sym (ap (λ b. length (cond b (it.key ∷ filter (is_front_key lines spot) (keys_among items)) (filter (is_front_key lines spot) (keys_among items)))) (own ∙ is))
      where
        count : (b : Bool) → length (rows_among (front_of spot items)) ≡ length (filter (is_front_key lines spot) (keys_among items))
            → length (rows_among (map sight_of (cond b (record { spot = item.spot; sight = shown_row it } ∷ filter (is_front spot) items) (filter (is_front spot) items))))
            ≡ length (cond b (it.key ∷ filter (is_front_key lines spot) (keys_among items)) (filter (is_front_key lines spot) (keys_among items)))
        count true rest = ap suc rest
        count false rest = rest

-- A test that so many keys at the front pass, and none behind them.
front-count : (p : RowKey → Bool) (keys : List RowKey) (n : ℕ) → n ≤ length keys → ((k : ℕ) → k < n → k < length keys → p (get_or keys k no_key) ≡ true)
    → ((k : ℕ) → n ≤ k → k < length keys → p (get_or keys k no_key) ≡ false) → length (filter p keys) ≡ n
front-count p [] n low front back = omega (arith, low)
front-count p (key ∷ keys) zero low front back =
    ap (λ b. length (cond b (key ∷ filter p keys) (filter p keys))) (back 0 (omega arith) (omega arith))
    ∙ front-count p keys zero (omega arith) (λ k less inside. absurd (omega (arith, less))) (λ k less inside. back (suc k) (omega arith) (omega (arith, inside)))
front-count p (key ∷ keys) (suc n) low front back =
    ap (λ b. length (cond b (key ∷ filter p keys) (filter p keys))) (front 0 (omega arith) (omega arith))
    ∙ ap suc (front-count p keys n (omega (arith, low)) (λ k less inside. front (suc k) (omega (arith, less)) (omega (arith, inside))) (λ k less inside. back (suc k) (omega (arith, less)) (omega (arith, inside))))

first-low : (spot : Spot) → AtMost first_spot spot
first-low spot = ahead-not spot first_spot (λ low. elim low [ inl less ↦ omega (arith, less) | inr level ↦ omega (arith, level.1) ])

-- ---- a state

module _ (state : State) (is : IsText (text_of state)) where
  abbrev lines : List LineState
  lines = state.lines

  abbrev items : List Item
  items = items_of state

  ids : HasIds state.next lines
  ids = text-HasIds (text_of state) is

  pub state-rising : AreRising items
  state-rising = let are = IsText-texts (text_of state) is in items-rise (script_of state) are.utf8 are.few (state-rise state is)

  pub state-within : All (λ (item : Item). item.spot.place < length lines) items
  state-within =
      let are = IsText-texts (text_of state) is in
      let count = length-map lines (λ (line : LineState). line.text) in
      let low = items-within (script_of state) are.utf8 are.few (state-rise state is) in
      λ k d h. let here = low k d h in omega (arith, here, count)

  same-keys : keys_in state ≡ keys_among items
  same-keys = agree-keys state.scenes (rows_in state) (rows_among (all_sights items)) (state-agree state is)

  pub same-shapes : map shape_of (rows_in state) ≡ shapes_among (all_sights items)
  same-shapes = agree-shapes state.scenes (rows_in state) (rows_among (all_sights items)) (state-agree state is)

  pub same-count : length (rows_in state) ≡ length (rows_among (all_sights items))
  same-count = sym (length-map (rows_in state) shape_of) ∙ ap length same-shapes ∙ length-map (rows_among (all_sights items)) shape_of

  pub state-laid_out : IsLaidOut items
  state-laid_out = record { rising = state-rising; joined = subst AreJoined same-shapes (state-joined state is) }

  -- The first row that isn't before an anchor.
  start-front : (spot : Spot) → start_of items spot ≡ length (filter (is_front_key lines spot) (keys_in state))
  start-front spot =
      length-map (rows_among (front_of spot items)) shape_of ∙ front-keys lines spot items (λ i j d less inside. ids.distinct i j d less inside) (items-formed (script_of state) (blocks_in state)) state-within
      ∙ ap (λ (keys : List RowKey). length (filter (is_front_key lines spot) keys)) (sym same-keys)

  start-is : (it : PageRecordOf) → record_start lines (keys_in state) it ≡ start_of items (spot_of lines it)
  start-is it =
      let keys = keys_in state in
      let are = state-keys state is in
      let present : ArePresent lines keys = record { all = state-keys_inside state is } in
      sym (start-front (spot_of lines it) ∙ front-count (is_front_key lines (spot_of lines it)) keys (record_start lines keys it) (record_start-low lines keys it)
      (λ k less inside. start-below state.next lines keys ids are present it k less inside)
      (λ k low inside. start-above state.next lines keys ids are present it k low inside))

  first-start : start_of items first_spot ≡ 0
  first-start =
      start-front first_spot ∙ front-count (is_front_key lines first_spot) (keys_in state) 0 (omega arith) (λ k less inside. absurd (omega (arith, less)))
      (λ k low inside. first-low (key_spot lines (get_or (keys_in state) k no_key)))

  -- The first rows of records, by ids and by spots.
  pub starts-bridge : (records : List PageRecordOf) → record_starts lines (keys_in state) records ≡ starts_of_spots items (spots_of lines records)
  starts-bridge [] = refl
  starts-bridge (it ∷ records) = ap₂ (λ n (ns : List ℕ). n ∷ ns) (sym first-start) (each records)
    where
      each : (records : List PageRecordOf) → map (record_start lines (keys_in state)) records ≡ starts_of_spots items (map (spot_of lines) records)
      each [] = refl
      each (it ∷ records) = ap₂ (λ n (ns : List ℕ). n ∷ ns) (start-is it) (each records)

-- ---- anchors

-- Anchors never go back, none is behind the end, all rows are before it and none is before the first.
pub record AreAnchors (items : List Item) (last : Spot) (spots : List Spot) : Type 0 where
  pub order : AllPairs AtMost spots
  pub within : All (λ spot. AtMost spot last) spots
  pub begin : front_of (get_or spots 0 last) items ≡ []
  pub end : back_of last items ≡ []

none-front : (items : List Item) → front_of first_spot items ≡ []
none-front [] = refl
none-front (item ∷ items) =
    ap (λ b. map sight_of (cond b (item ∷ filter (is_front first_spot) items) (filter (is_front first_spot) items))) (first-low item.spot) ∙ none-front items

none-back : (count : ℕ) (items : List Item) → All (λ (item : Item). item.spot.place < count) items → back_of (record { place = count; row = 0 }) items ≡ []
none-back count [] low = refl
none-back count (item ∷ items) low =
    let P : Item → Type 0 = λ item. item.spot.place < count in
    let last : Spot = record { place = count; row = 0 } in
    ap (λ b. map sight_of (cond (not b) (item ∷ filter (is_back last) items) (filter (is_back last) items))) (ahead-from item.spot last (inl (All-head P item items low)))
    ∙ none-back count items (All-tail P item items low)

pub anchors-are : (lines : List LineState) (items : List Item) (it : PageRecordOf) (records : List PageRecordOf) → Anchored lines records → All (λ (item : Item). item.spot.place < length lines) items
    → AreAnchors items (end_spot lines) (spots_of lines (it ∷ records))
anchors-are lines items it records are low = record {
  order = AllPairs-cons AtMost first_spot (map (spot_of lines) records) (λ k d h. first-low (get_or (map (spot_of lines) records) k d)) are.order;
  within = All-cons (λ s. AtMost s (end_spot lines)) first_spot (map (spot_of lines) records) (first-low (end_spot lines)) are.within;
  begin = none-front items;
  end = none-back (length lines) items low;
}

-- A spot isn't before itself.
atmost-same : (spot : Spot) → AtMost spot spot
atmost-same spot = ahead-not spot spot (λ low. elim low [ inl less ↦ omega (arith, less) | inr level ↦ omega (arith, level.1) ])

is-one : (spots : List Spot) (i : ℕ) (d : Spot) → i < length spots → IsOne spots (get_or spots i d)
is-one [] i d h = absurd (omega (arith, h))
is-one (spot ∷ spots) zero d h = inl refl
is-one (spot ∷ spots) (suc i) d h = inr (is-one spots i d (omega (arith, h)))

-- Each record's segment lies between two anchors.
pub entry-lies : (items : List Item) (end : Spot) (spots : List Spot) (i : ℕ) → AreAnchors items end spots → i < length spots
    → LiesBetween items spots (record { low = get_or spots i end; high = get_or spots (i + 1) end })
entry-lies items end spots i are inside =
    let low = get_or spots i end in
    let high = get_or spots (i + 1) end in
    record {
      order = elim (cases_lt (i + 1) (length spots)) [
        | inl more ↦ are.order i (i + 1) end (omega arith) more
        | inr last ↦ subst (λ h. AtMost low h) (sym (get_or_past spots (i + 1) end last)) (are.within i end inside)
      ];
      spare = λ j d there. elim (cases_lt j (i + 1)) [
        | inl before ↦ inl (elim (cases_eq j i) [
          | inl same ↦ subst (λ k. AtMost (get_or spots k d) low) (sym same) (subst (λ s. AtMost s low) (default i d inside) (atmost-same low))
          | inr differ ↦ subst (λ s. AtMost (get_or spots j d) s) (sym (default i d inside)) (are.order j i d (omega (arith, before, differ)) inside)
        ])
        | inr behind ↦ inr (elim (cases_eq j (i + 1)) [
          | inl same ↦ subst (λ k. AtMost high (get_or spots k d)) (sym same) (subst (λ s. AtMost high s) (default (i + 1) d (omega (arith, there, same))) (atmost-same high))
          | inr differ ↦ subst (λ s. AtMost s (get_or spots j d)) (sym (default (i + 1) d (omega (arith, there, behind)))) (are.order (i + 1) j d (omega (arith, behind, differ)) there)
        ])
      ];
      begin = inr (is-one spots i end inside);
      end = elim (cases_lt (i + 1) (length spots)) [
        | inl more ↦ inr (is-one spots (i + 1) end more)
        | inr last ↦ inl (ap (λ h. back_of h items) (get_or_past spots (i + 1) end last) ∙ are.end)
      ];
    }
  where
    default : (k : ℕ) (d : Spot) → k < length spots → get_or spots k end ≡ get_or spots k d
    default k d h = get_or_default spots k end d h

-- ---- the records of a state

abbrev pub anchors_in : State → List Spot
anchors_in state = spots_of state.lines (records_in state)

-- A record's segment by spots.
abbrev pub bounds_at : State → ℕ → Bounds
bounds_at state i = record { low = get_or (anchors_in state) i (end_spot state.lines); high = get_or (anchors_in state) (i + 1) (end_spot state.lines) }

pub whole-Anchored : (state : State) → IsWhole state → (it : PageRecordOf) (records : List PageRecordOf) → state.pages ≡ Some (it ∷ records) → Anchored state.lines records
whole-Anchored state whole it records is =
    let parts = whole-parts state whole in
    let are : ArePagesKept state.round state.lines (it ∷ records) = subst (λ (p : Option (List PageRecordOf)). IfSome p (ArePagesKept state.round state.lines)) is parts.pages in
    let ids = text-HasIds (text_of state) whole.text in
    let each : All (IsAnchored state.lines) records = All-tail (IsAnchored state.lines) it records (λ k d h. (are.each k d h).anchored) in
    record {
      each = each;
      order = pairs-map AtMost (spot_of state.lines) records are.order;
      within = All-map (λ s. AtMost s (end_spot state.lines)) (spot_of state.lines) records (λ k d h. anchored-within state.next state.lines (get_or records k d) ids (each k d h));
    }

-- The records of a state with page records: a first one, and others.
pub record SomeRecords (state : State) : Type 0 where
  pub first : PageRecordOf
  pub later : List PageRecordOf
  pub are : state.pages ≡ Some (first ∷ later)

pub some-records : (state : State) (i : ℕ) → i < length (records_in state) → SomeRecords state
some-records state i inside = by state.pages refl
  where
    by : (pages : Option (List PageRecordOf)) → state.pages ≡ pages → SomeRecords state
    by None is = (let none = ap (λ (p : Option (List PageRecordOf)). length (unwrap_or p [])) is in absurd (omega (arith, inside, none)))
    by (Some []) is = (let none = ap (λ (p : Option (List PageRecordOf)). length (unwrap_or p [])) is in absurd (omega (arith, inside, none)))
    by (Some (it ∷ records)) is = record { first = it; later = records; are = is }

pub whole-anchors : (state : State) → IsWhole state → SomeRecords state → AreAnchors (items_of state) (end_spot state.lines) (anchors_in state)
whole-anchors state whole some =
    let is = some.are in
    subst (λ (p : Option (List PageRecordOf)). AreAnchors (items_of state) (end_spot state.lines) (spots_of state.lines (unwrap_or p []))) (sym is)
    (anchors-are state.lines (items_of state) some.first some.later (whole-Anchored state whole some.first some.later is) (state-within state whole.text))

spots-count : (text : List LineState) (records : List PageRecordOf) → length (spots_of text records) ≡ length records
spots-count text [] = refl
spots-count text (it ∷ records) = ap suc (length-map records (spot_of text))

pub segment-lies : (state : State) (i : ℕ) → IsWhole state → i < length (records_in state) → LiesBetween (items_of state) (anchors_in state) (bounds_at state i)
segment-lies state i whole inside =
    entry-lies (items_of state) (end_spot state.lines) (anchors_in state) i (whole-anchors state whole (some-records state i inside))
    (let count = spots-count state.lines (records_in state) in omega (arith, count, inside))

-- ---- the segment at an index

pub segment-made : (rows : ℕ) (records : List PageRecordOf) (starts : List ℕ) (i : ℕ) (d : SegmentOf) → length starts ≡ length records → i < length records
    → get_or (segments rows records starts) i d ≡ record { owner = get_or records i no_record; next = first_label (drop (i + 1) records); start = get_or starts i rows; end = get_or starts (i + 1) rows }
segment-made rows [] starts i d same inside = absurd (omega (arith, inside))
segment-made rows (it ∷ records) [] i d same inside = absurd (omega (arith, same))
segment-made rows (it ∷ records) (start ∷ []) zero d same inside = refl
segment-made rows (it ∷ records) (start ∷ next ∷ starts) zero d same inside = refl
segment-made rows (it ∷ records) (start ∷ starts) (suc i) d same inside =
    let e : suc (i + 1) ≡ suc i + 1 = omega arith in
    segment-made rows records starts i d (omega (arith, same)) (omega (arith, inside))
    ∙ ap (λ n. made (get_or records i no_record) (first_label (drop n (it ∷ records))) (get_or starts i rows) (get_or (start ∷ starts) n rows)) e
  where
    made : PageRecordOf → Option LabelOf → ℕ → ℕ → SegmentOf
    made owner next from to = record { owner = owner; next = next; start = from; end = to }

pub length-starts : (state : State) (records : List PageRecordOf) → length (record_starts state.lines (keys_in state) records) ≡ length records
length-starts state [] = refl
length-starts state (it ∷ records) = ap suc (length-map records (record_start state.lines (keys_in state)))

-- Behind all rows.
end-start : (items : List Item) (end : Spot) → AreRising items → back_of end items ≡ [] → start_of items end ≡ length (rows_among (all_sights items))
end-start items end rising none =
    let split = front-back (λ (item : Item). is_front end item) items (rising-front end items rising) in
    let whole : all_sights items ≡ front_of end items =
    ap all_sights split ∙ map-append (λ (item : Item). item.sight) (filter (λ (item : Item). is_front end item) items) (filter (λ (item : Item). not (is_front end item)) items)
    ∙ ap (λ (l : List Sight). front_of end items ++ l) none ∙ append-nil (front_of end items) in
    length-map (rows_among (front_of end items)) shape_of ∙ ap (λ l. length (rows_among l)) (sym whole)

-- What a state has of starts at an index, with whatever records are anchored.
pub start-at : (state : State) (is : IsText (text_of state)) (records : List PageRecordOf) (k : ℕ) → AreAnchors (items_of state) (end_spot state.lines) (spots_of state.lines records)
    → get_or (record_starts state.lines (keys_in state) records) k (length (rows_in state)) ≡ start_of (items_of state) (get_or (spots_of state.lines records) k (end_spot state.lines))
start-at state is records k are =
    let items = items_of state in
    let spots = spots_of state.lines records in
    let rows = length (rows_in state) in
    let last : start_of items (end_spot state.lines) ≡ rows = end-start items (end_spot state.lines) (state-rising state is) are.end ∙ sym (same-count state is) in
    ap (λ (ns : List ℕ). get_or ns k rows) (starts-bridge state is records)
    ∙ elim (cases_lt k (length spots)) [
      | inl more ↦ get_or-map (start_of items) spots k (end_spot state.lines) rows more
      | inr past ↦
          let count = length-map spots (start_of items) in
          get_or_past (starts_of_spots items spots) k rows (omega (arith, past, count)) ∙ sym last ∙ ap (start_of items) (sym (get_or_past spots k (end_spot state.lines) past))
    ]

pub record-segment : (state : State) (i : ℕ) → IsWhole state → i < length (records_in state)
    → segment_at state i ≡ segment_of (record_at state i) (first_label (drop (i + 1) (records_in state))) (start_of (items_of state) (bounds_at state i).low) (start_of (items_of state) (bounds_at state i).high)
record-segment state i whole inside =
    let records = records_in state in
    let are = whole-anchors state whole (some-records state i inside) in
    segment-made (length (rows_in state)) records (record_starts state.lines (keys_in state) records) i no_segment (length-starts state records) inside
    ∙ ap₂ (λ (from to : ℕ). segment_of (record_at state i) (first_label (drop (i + 1) records)) from to) (start-at state whole.text records i are) (start-at state whole.text records (i + 1) are)

-- ---- the rows between two spots

pub middle-rows : (items : List Item) (bounds : Bounds) → AreRising items → AtMost bounds.low bounds.high
    → slice_range (rows_among (all_sights items)) (start_of items bounds.low) (start_of items bounds.high) ≡ rows_among (sights_in bounds items)
middle-rows items bounds rising order =
    let xs = front_of bounds.low items in
    let ys = sights_in bounds items in
    let zs = back_of bounds.high items in
    let whole : all_sights items ≡ xs ++ (ys ++ zs) = text-parts bounds items rising order in
    let rows : rows_among (all_sights items) ≡ rows_among xs ++ (rows_among ys ++ rows_among zs) =
    ap rows_among whole ∙ rows_among-append xs (ys ++ zs) ∙ ap (λ (l : List Shown). rows_among xs ++ l) (rows_among-append ys zs) in
    let low : start_of items bounds.low ≡ length (rows_among xs) + 0 = let e = length-map (rows_among xs) shape_of in omega (arith, e) in
    let high : start_of items bounds.high ≡ length (rows_among xs) + length (rows_among ys) =
    let e = ap (λ l. length (shapes_among l)) (front-high bounds items rising order) ∙ ap length (shapes_among-append xs ys) ∙ length-append (shapes_among xs) (shapes_among ys) in
    let a = length-map (rows_among xs) shape_of in
    let b = length-map (rows_among ys) shape_of in
    omega (arith, e, a, b) in
    ap₂ (λ l n. slice_range l n (start_of items bounds.high)) rows low
    ∙ ap (slice_range (rows_among xs ++ (rows_among ys ++ rows_among zs)) (length (rows_among xs) + 0)) high
    ∙ range-middle (rows_among xs) (rows_among ys) (rows_among zs) 0 (length (rows_among ys)) (omega arith)
    ∙ (let e : length (rows_among ys) - 0 ≡ length (rows_among ys) = omega arith in ap (λ m. take m (rows_among ys)) e)
    ∙ take_all (length (rows_among ys)) (rows_among ys) (omega arith)
