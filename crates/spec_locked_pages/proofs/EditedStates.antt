-- What an edit leaves of a whole state's lines, blocks and page records.
use Rattle.std.proofs.Common.{◌≡◌, ℕ, zero, suc, ◌+◌, ◌-◌, ◌<◌, Bool, true, false, cond, Option, Some, None, List, [], ◌∷◌, length, map, get_or, inl, inr, refl, sym, ap, ap₂, subst, ◌∙◌, arith, unwrap_or}
use Rattle.std.specs.Prelude.{drop, option_map, slice_get, slice_range}
use Rattle.std.proofs.lemmas.Bool.{cases_lt}
use Rattle.std.proofs.lemmas.List.{length-map, get_or-map, get_or_past}
use Rattle.spec_text.specs.Lines.{LineState}
use Rattle.spec_text.specs.Edits.{Replacement, stretch, line_ids, put_by}
use Rattle.spec_text.specs.Ranges.{RangeOf, IsOutside, place_after, range_of}
use Rattle.spec_text.specs.EditedLines.{IsEdited, no_line, line_of}
use Rattle.spec_text.proofs.EditLaws.{length-lines_put}
use Rattle.spec_text.proofs.EditedLaws.{changed-IsEdited, text-HasIds}
use Rattle.spec_script.specs.BlockParts.{Rise}
use Rattle.spec_labels.specs.Labels.{LabelOf}
use Rattle.spec_labels.specs.PageRecords.{PageRecordOf, SegmentOf, is_removed, line_from, carried, carried_records, first_label, record_starts}
use Rattle.spec_labels.specs.Spots.{Spot, anchor_after, Follows, BoundsFollow}
use Rattle.spec_labels.specs.Anchors.{spot_of, end_spot, spots_of}
use Rattle.spec_labels.proofs.SpotLaws.{anchor-follows, first-follows, end-follows}
use Rattle.spec_labels.proofs.CarryLaws.{Edited}
use Rattle.spec_labels.proofs.AnchorLaws.{first_spot, carried-spots}
use Rattle.spec_sheets.specs.Shown.{Shown}
use Rattle.spec_sheets.proofs.ElementPlaces.{placed_from, placed_to}
use Rattle.spec_sheets.proofs.RowLaws.{IsText-texts}
use Rattle.spec_state.specs.State.{State, text_of}
use Rattle.spec_state.specs.Keeping.{IsWhole}
use Rattle.spec_state.specs.StateLabels.{page_label_of, labels_of_pages}
use Rattle.spec_state.specs.StateSheets.{rows_in, keys_in}
use Rattle.spec_state.specs.SameRows.{same_rows}
use Rattle.spec_state.specs.Changes.{carried_state, rows_by_record, raised, raised_records, pages_raised, edited_state, CanEdit}
use Rattle.spec_state.proofs.EditKeeps.{edited-labels}
use Rattle.spec_machine.proofs.WholeStates.{edit-whole}
use Rattle.spec_edit.specs.Windows as windows
use Rattle.spec_edit.specs.WindowBlocks.{window_blocks}
use Rattle.spec_edit.proofs.Edits.{edited-lines}
use Rattle.spec_edit.proofs.Resync.{window-cuts, old-cuts}
use Rattle.spec_edit.proofs.WindowBlocks.{window-blocks}
use Rattle.spec_edit.proofs.ItemMoves.{LinesMoved}
use Rattle.spec_edit.proofs.ElementMoves.{after-front, after-behind}
use Rattle.spec_edit.proofs.SoundElements.{blocks-rise}
use Rattle.spec_edit.proofs.WindowSides.{window-sides, front-ends, between-in}
use Rattle.spec_edit.proofs.WindowPartners.{Around}
use Rattle.spec_locked_pages.specs.Segments.{records_in, no_record, no_segment, record_at, rows_at}
use Rattle.spec_locked_pages.specs.LockedPages.{IsWindowOf, edit_blocks}
use Rattle.spec_locked_pages.proofs.StateScripts.{texts_of, spoken-blocks}
use Rattle.spec_locked_pages.proofs.StateStarts.{anchors_in, bounds_at, SomeRecords, some-records, whole-Anchored, length-starts, segment-made}
use Rattle.spec_locked_pages.proofs.SegmentBytes.{next_label}
use Rattle.spec_locked_pages.proofs.SameRows.{changed_of, rows-itself, raised-at, starts-raised, length-rows, record-rows}

-- ---- labels

first-of : (n : ℕ) (records : List PageRecordOf) → first_label (drop n records) ≡ slice_get (drop n (map page_label_of records)) 0
first-of zero [] = refl
first-of zero (it ∷ records) = refl
first-of (suc n) [] = refl
first-of (suc n) (it ∷ records) = first-of n records

labels-in : (pages : Option (List PageRecordOf)) → map page_label_of (unwrap_or pages []) ≡ labels_of_pages pages
labels-in None = refl
labels-in (Some records) = refl

label-of : (records : List PageRecordOf) (i : ℕ) → (get_or records i no_record).label ≡ get_or (map page_label_of records) i (no_record.label)
label-of [] zero = refl
label-of [] (suc i) = refl
label-of (it ∷ records) zero = refl
label-of (it ∷ records) (suc i) = label-of records i

-- ---- anchors

spot-raised : (lines : List LineState) (round : ℕ) (same : Bool) (it : PageRecordOf) → spot_of lines (raised round same it) ≡ spot_of lines it
spot-raised lines round true it = refl
spot-raised lines round false it = refl

later-spots : (lines : List LineState) (round : ℕ) (olds news : List (List Shown)) (records : List PageRecordOf) → map (spot_of lines) (raised_records round olds news records) ≡ map (spot_of lines) records
later-spots lines round [] news records = refl
later-spots lines round (old ∷ olds) [] records = refl
later-spots lines round (old ∷ olds) (new ∷ news) [] = refl
later-spots lines round (old ∷ olds) (new ∷ news) (it ∷ records) =
    ap₂ (λ (one : Spot) (l : List Spot). one ∷ l) (spot-raised lines round (same_rows old new) it) (later-spots lines round olds news records)

spots-raised : (lines : List LineState) (round : ℕ) (olds news : List (List Shown)) (records : List PageRecordOf) → spots_of lines (raised_records round olds news records) ≡ spots_of lines records
spots-raised lines round [] news records = refl
spots-raised lines round (old ∷ olds) [] records = refl
spots-raised lines round (old ∷ olds) (new ∷ news) [] = refl
spots-raised lines round (old ∷ olds) (new ∷ news) (it ∷ records) = ap (λ (l : List Spot). first_spot ∷ l) (later-spots lines round olds news records)

spots-follow : (range : RangeOf) (end later : Spot) (spots : List Spot) (k : ℕ) → Follows range end later → Follows range (get_or spots k end) (get_or (map (anchor_after range) spots) k later)
spots-follow range end later [] k follow = follow
spots-follow range end later (spot ∷ spots) zero follow = anchor-follows range spot
spots-follow range end later (spot ∷ spots) (suc k) follow = spots-follow range end later spots k follow

all-follow : (range : RangeOf) (end later : Spot) (spots : List Spot) (k : ℕ) → Follows range end later → Follows range (get_or (first_spot ∷ spots) k end) (get_or (first_spot ∷ map (anchor_after range) spots) k later)
all-follow range end later spots zero follow = first-follows range
all-follow range end later spots (suc k) follow = spots-follow range end later spots k follow

carried-changed : (lines : List LineState) (place : ℕ) (it : PageRecordOf) → changed_of (carried lines place it) ≡ changed_of it
carried-changed lines place it = by (is_removed lines it)
  where
    by : (b : Bool) → changed_of (cond b (record { label = it.label; line = line_from lines place; row = 0; changed = it.changed }) it) ≡ changed_of it
    by true = refl
    by false = refl

module _ (state : State) (it : Replacement) (whole : IsWhole state) (can : CanEdit state it) where
  abbrev pub new : State
  new = edited_state state it

  abbrev pub range : RangeOf
  range = range_of it

  abbrev moved_state : State
  moved_state = carried_state state it

  abbrev move : List PageRecordOf → List PageRecordOf
  move records = carried_records new.lines (it.first + length it.texts) records

  pub new-whole : IsWhole new
  new-whole = edit-whole state it whole can

  -- ---- lines

  lines-edited : IsEdited range state.next state.lines new.lines
  lines-edited = changed-IsEdited (text_of state) it state.round can.inside

  texts-edited : windows.IsEdited (texts_of state) (texts_of new) it.first it.old (length it.texts)
  texts-edited =
      subst (windows.IsEdited (texts_of state) (texts_of new) it.first it.old)
      (length-lines_put (stretch (line_ids state.lines) it.first it.old) state.next state.round it.texts)
      (edited-lines state.lines (put_by (text_of state) it state.round) it.first it.old can.inside)

  ids-edited : Edited range state.next new.next state.lines new.lines
  ids-edited = record { edit = lines-edited; old_ids = text-HasIds (text_of state) whole.text; new_ids = text-HasIds (text_of new) new-whole.text }

  pub lines-moved : LinesMoved (IsOutside range) (place_after range) state.lines new.lines
  lines-moved = record {
    line = λ place outside. elim outside [
      | inl front ↦ ap (line_of new.lines) (after-front range place front) ∙ lines-edited.before place front
      | inr behind ↦
          let at = after-behind range place behind in
          elim (cases_lt place (length state.lines)) [
            | inl inside ↦ ap (line_of new.lines) at ∙ lines-edited.behind place behind inside
            | inr past ↦
                let count = lines-edited.count in
                let low = lines-edited.inside in
                get_or_past new.lines (place_after range place) no_line (omega (arith, at, count, past, behind, low)) ∙ sym (get_or_past state.lines place no_line past)
          ]
    ];
  }

  -- ---- blocks round the window

  pub blocks-around : (a b : ℕ) → IsWindowOf range state new a b → Around (edit_blocks range state new a b) (window_blocks (texts_of state) (texts_of new) a b (b + it.old - length it.texts))
  blocks-around a b window =
      let e = texts-edited in
      let before = texts_of state in
      let after = texts_of new in
      let was = b + it.old - length it.texts in
      let sides = window-sides before after it.first it.old (length it.texts) a b e window in
      let both = window-blocks before after it.first it.old (length it.texts) a b e window in
      let cuts = window-cuts before after it.first it.old (length it.texts) a b e window in
      let olds = old-cuts before after it.first it.old (length it.texts) a b e window in
      let one = IsText-texts (text_of state) whole.text in
      let other = IsText-texts (text_of new) new-whole.text in
      let stand_old = blocks-rise before one.utf8 one.few in
      let stand_new = blocks-rise after other.utf8 other.few in
      record {
        old_are = spoken-blocks state ∙ both.0;
        new_are = spoken-blocks new ∙ both.1;
        old_end = refl;
        new_end = refl;
        begin = sides.begin;
        past = sides.past;
        was_past = sides.was_past;
        shift = sides.shift;
        old_high = length before;
        new_high = length after;
        old_rise = subst (λ bs. Rise placed_from placed_to 0 (length before) bs) both.0 stand_old.rise;
        new_rise = subst (λ bs. Rise placed_from placed_to 0 (length after) bs) both.1 stand_new.rise;
        front = front-ends before a one.utf8 one.few (omega (arith, olds.0, olds.3));
        gone = between-in before a was olds.0 olds.3;
        come = between-in after a b cuts.0 cuts.3;
      }

  -- ---- labels of records

  labels-same : map page_label_of (records_in new) ≡ map page_label_of (records_in state)
  labels-same = labels-in new.pages ∙ edited-labels state it ∙ sym (labels-in state.pages)

  pub label-kept : (i : ℕ) → (record_at new i).label ≡ (record_at state i).label
  label-kept i = label-of (records_in new) i ∙ ap (λ (labels : List LabelOf). get_or labels i (no_record.label)) labels-same ∙ sym (label-of (records_in state) i)

  pub next-kept : (i : ℕ) → next_label new i ≡ next_label state i
  next-kept i = first-of (i + 1) (records_in new) ∙ ap (λ (labels : List LabelOf). slice_get (drop (i + 1) labels) 0) labels-same ∙ sym (first-of (i + 1) (records_in state))

  pub records-count : length (records_in new) ≡ length (records_in state)
  records-count = sym (length-map (records_in new) page_label_of) ∙ ap length labels-same ∙ length-map (records_in state) page_label_of

  module _ (i : ℕ) (there : i < length (records_in state)) where
    some : SomeRecords state
    some = some-records state i there

    abbrev changed_after : Option (List PageRecordOf) → Option (List PageRecordOf)
    changed_after pages = pages_raised state moved_state pages (option_map (carried_records new.lines (it.first + length it.texts)) pages)

    old_records : records_in state ≡ some.first ∷ some.later
    old_records = ap (λ (pages : Option (List PageRecordOf)). unwrap_or pages []) some.are

    abbrev olds : List (List Shown)
    olds = rows_by_record state (some.first ∷ some.later)

    abbrev news : List (List Shown)
    news = rows_by_record moved_state (move (some.first ∷ some.later))

    new_records : records_in new ≡ raised_records state.round olds news (move (some.first ∷ some.later))
    new_records = ap (λ (pages : Option (List PageRecordOf)). unwrap_or (changed_after pages) []) some.are

    -- ---- where segments begin and end

    pub bounds-follow : BoundsFollow range (bounds_at state i) (bounds_at new i)
    bounds-follow =
        let anchored = whole-Anchored state whole some.first some.later some.are in
        let news_are : anchors_in new ≡ first_spot ∷ map (anchor_after range) (map (spot_of state.lines) some.later) =
        ap (spots_of new.lines) new_records ∙ spots-raised new.lines state.round olds news (move (some.first ∷ some.later))
        ∙ ap (λ (spots : List Spot). first_spot ∷ spots) (carried-spots range state.next new.next state.lines new.lines some.later ids-edited anchored.each) in
        let olds_are : anchors_in state ≡ first_spot ∷ map (spot_of state.lines) some.later = ap (spots_of state.lines) old_records in
        let inside = lines-edited.inside in
        let lines = lines-edited.count in
        let ends : length state.lines + range.new - range.old ≡ length new.lines = omega (arith, inside, lines) in
        let end : Follows range (end_spot state.lines) (end_spot new.lines) = subst (λ n. Follows range (end_spot state.lines) (record { place = n; row = 0 })) ends (end-follows range (length state.lines) inside) in
        let at = λ (k : ℕ). subst (λ (spots : List Spot). Follows range (get_or spots k (end_spot state.lines)) (get_or (anchors_in new) k (end_spot new.lines))) (sym olds_are)
        (subst (λ (spots : List Spot). Follows range (get_or (first_spot ∷ map (spot_of state.lines) some.later) k (end_spot state.lines)) (get_or spots k (end_spot new.lines))) (sym news_are)
        (all-follow range (end_spot state.lines) (end_spot new.lines) (map (spot_of state.lines) some.later) k end)) in
        record { low = at i; high = at (i + 1) }

    -- ---- rounds

    -- A record whose rows stay keeps its round.
    pub round-kept : rows_at new i ≡ rows_at state i → (record_at new i).changed ≡ (record_at state i).changed
    round-kept same =
        let records = some.first ∷ some.later in
        let count = length-map records (carried new.lines (it.first + length it.texts)) in
        let size = ap length old_records in
        let starts_old = length-starts state records in
        let starts_new = length-starts moved_state (move records) in
        let many_old = length-rows (rows_in state) (record_starts state.lines (keys_in state) records) in
        let many_new = length-rows (rows_in moved_state) (record_starts moved_state.lines (keys_in moved_state) (move records)) in
        let old_rows : get_or olds i [] ≡ rows_at state i =
        record-rows state records i (omega (arith, there, size, starts_old))
        ∙ sym (rows-by-starts state i (record_starts state.lines (keys_in state) records) there (ap (record_starts state.lines (keys_in state)) old_records)) in
        let more = records-count in
        let new_rows : get_or news i [] ≡ rows_at new i =
        record-rows moved_state (move records) i (omega (arith, there, size, starts_new, count))
        ∙ sym (rows-by-starts new i (record_starts new.lines (keys_in new) (move records)) (omega (arith, there, more)) (ap (record_starts new.lines (keys_in new)) new_records ∙ starts-raised new.lines (keys_in new) state.round olds news (move records))) in
        let equal : same_rows (get_or olds i []) (get_or news i []) ≡ true = rows-itself (get_or olds i []) (get_or news i []) (new_rows ∙ same ∙ sym old_rows) in
        ap (λ (records : List PageRecordOf). changed_of (get_or records i no_record)) new_records
        ∙ ap changed_of (raised-at state.round olds news (move records) i (omega (arith, there, size, starts_old, many_old)) (omega (arith, there, size, starts_new, many_new, count)) (omega (arith, there, size, count)))
        ∙ ap (λ b. changed_of (raised state.round b (get_or (move records) i no_record))) equal
        ∙ ap changed_of (get_or-map (carried new.lines (it.first + length it.texts)) records i no_record no_record (omega (arith, there, size)))
        ∙ carried-changed new.lines (it.first + length it.texts) (get_or records i no_record)
        ∙ ap (λ (records : List PageRecordOf). changed_of (get_or records i no_record)) (sym old_records)
      where
        rows-by-starts : (s : State) (i : ℕ) (starts : List ℕ) → i < length (records_in s) → record_starts s.lines (keys_in s) (records_in s) ≡ starts
            → rows_at s i ≡ slice_range (rows_in s) (get_or starts i (length (rows_in s))) (get_or starts (i + 1) (length (rows_in s)))
        rows-by-starts s i starts inside are =
            let made = segment-made (length (rows_in s)) (records_in s) (record_starts s.lines (keys_in s) (records_in s)) i no_segment (length-starts s (records_in s)) inside in
            ap (λ (segment : SegmentOf). slice_range (rows_in s) segment.start segment.end) made
            ∙ ap (λ (ns : List ℕ). slice_range (rows_in s) (get_or ns i (length (rows_in s))) (get_or ns (i + 1) (length (rows_in s)))) are
