-- The sheets of a state with page records are printed as sheets that are read back.
use Rattle.std.proofs.Common.{◌≡◌, inl, inr, ℕ, suc, ◌+◌, ◌-◌, ◌≤◌, ◌==◌, ◌&&◌, max, Bool, true, false, cond, Option, Some, None, List, [], ◌∷◌, ◌++◌, length, map, refl, sym, ap, ap₂, subst, ◌∙◌, arith, unwrap_or}
use Rattle.std.specs.Prelude.{All, filter, fold, is_some, nat_le, nat_lt, slice_index_or, slice_range}
use Rattle.std.specs.List.{flat_map, list_any}
use Rattle.std.proofs.lemmas.Bool.{cases_lt}
use Rattle.std.proofs.lemmas.Grind.{flat_map-append}
use Rattle.std.proofs.lemmas.List.{get_or_past}
use Rattle.std.proofs.lemmas.List.Elements.{All-nil, All-cons, All-head, All-tail, All-append, All-take, All-drop}
use Rattle.spec_text.specs.Lines.{LineState, line_texts}
use Rattle.spec_script.specs.LongestRuns.{Group, last_of}
use Rattle.spec_script.specs.BlockValues.{LineOf, BlockOf}
use Rattle.spec_script.specs.declared.Kind.{Kind}
use Rattle.spec_pages.specs.declared.Side.{Side}
use Rattle.spec_pages.specs.declared.Side.TheVariants as sides
use Rattle.spec_pages.specs.Columns.{first_lead, has_rows, width_of}
use Rattle.spec_pages.specs.Pages.{rows_on}
use Rattle.spec_pages.specs.Rows.{Row, LineContext, line_context, line_rows_from, line_rows, line_state, with_number, shaped_rows, half_row, joined_row, joined_rows, title_row, is_title, spoken_rows, with_speakers, block_alone, blocks_beside, shifted_row, placed_rows}
use Rattle.spec_pages.specs.Rows as rows
use Rattle.spec_pages.specs.Wrapping.{WrappedRow, wrapped}
use Rattle.spec_labels.specs.Labels.{LabelOf, IsLabel, between}
use Rattle.spec_labels.specs.LabelReading.{number_limit, step_limit}
use Rattle.spec_labels.specs.PageRecords.{PageRecordOf, SegmentOf, is_empty, owner_of, SheetOf, AreSheets, segment_pages, page_label, page_sheets, omitted_sheet, runs_of, run_sheets, segments, record_starts}
use Rattle.spec_labels.proofs.SheetLaws.{runs_of-all, sheets-AreSheets}
use Rattle.spec_sheets.specs.Cells.{ShownCell}
use Rattle.spec_sheets.specs.Layout.{laid_beside, laid_out, is_title_element}
use Rattle.spec_sheets.specs.Speakers.{Spoken, text_elements}
use Rattle.spec_sheets.specs.Shown.{Shown, shown_of, element_cue, element_shown, heading_label, labels_behind, shown_rows}
use Rattle.spec_sheets.proofs.LayoutLaws.{layout_of-show}
use Rattle.spec_sheets.specs.PageRows.{page_body, omitted_rows}
use Rattle.spec_sheets.specs.Sheets.{Sheet, sheet_bytes}
use Rattle.spec_records.specs.Kept.{IsLocked, IsAnchored, AreKeptPages}
use Rattle.spec_records.proofs.BoundLaws.{between-steps, between-number}
use Rattle.spec_state.specs.State.{State, text_of}
use Rattle.spec_state.specs.Headings.{heading_labels}
use Rattle.spec_state.specs.Keeping.{IsWhole}
use Rattle.spec_state.specs.Printing.{printed_state}
use Rattle.spec_state.specs.StateSheets.{greatest_mark, title_sheets, layout_in, rows_in, keys_in, titles_in, title_starts, body_sheets, sheets_in, pages_in, sheet_rows, shown_sheet}
use Rattle.spec_state.proofs.StateLaws.{whole-kept, state-AreKeptPages, state-ArePages}
use Rattle.spec_packet.specs.SheetLists.{bytes_of, list_bytes, IsIn, AreRising}
use Rattle.spec_packet.specs.Pieces.{IsReadable, IsPlain}
use Rattle.spec_packet.proofs.Lists.{map-in}
use Rattle.spec_locked_pages.specs.Segments.{records_in, segments_in, pages_of}
use Rattle.spec_locked_pages.proofs.StateStarts.{SomeRecords}
use Rattle.spec_packet.specs.Packets.{laid_sheets, printed_of, laid_printed}
use Rattle.spec_packet.specs.PrintedTexts.{PrintsTitle, IsPrinted}
use Rattle.spec_packet.specs.StatePackets.{laid_of, title_bytes, sheets_of}
use Rattle.spec_packet.proofs.ChoiceLaws.{in-flat, flat-in}
use Rattle.spec_packet.proofs.CleanRows.{page-clean, omitted-clean}
use Rattle.spec_packet.proofs.PacketLaw.{last-owner}
use Rattle.spec_packet.proofs.PrintedLaws.{laid-rising}
use Rattle.spec_packet.proofs.RunCuts.{all-in}

-- ---- labels

-- A label whose number and steps are low enough to be read.
record IsLow (it : LabelOf) : Type 0 where
  number : it.number ≤ number_limit
  steps : All (λ step. step ≤ step_limit) it.path

-- A record of a segment: its round and its label.
record IsGood (it : PageRecordOf) : Type 0 where
  round : it.changed ≤ 99
  number : it.label.number ≤ 1000099999
  steps : All (λ step. step ≤ 100000) it.label.path

good-low : (it : PageRecordOf) → IsGood it → IsLow it.label
good-low it good = record { number = (let n = good.number in omega (arith, n)); steps = λ k d h. (let s = good.steps k d h in omega (arith, s)) }

-- The label of a page among so many.
page-low : (segment : SegmentOf) (m : ℕ) → m ≤ 16777216 → IsGood segment.owner → IsLow (page_label segment m)
page-low segment m few good = by (m == 0)
  where
    low : LabelOf
    low = segment.owner.label

    by : (b : Bool) → IsLow (cond b low (between low segment.next m))
    by true = good-low segment.owner good
    by false = record {
      number = (let n = good.number in let more = between-number low segment.next m in omega (arith, n, more, few));
      steps = between-steps (λ step. step ≤ step_limit) low segment.next m (omega arith) few (λ k d h. (let s = good.steps k d h in omega (arith, s)));
    }

-- A sheet whose round has a name and whose labels can be read.
record SheetGood (sheet : SheetOf) : Type 0 where
  round : sheet.round ≤ 99
  first : IsLow sheet.first
  last : IsLow sheet.last

page-good : (segment : SegmentOf) (m : ℕ) (pages : List ℕ) (sheet : SheetOf) → m + length pages ≤ 16777216 → IsGood segment.owner → IsIn sheet (page_sheets segment m pages) → SheetGood sheet
page-good segment m [] sheet few good is = absurd is
page-good segment m (page ∷ pages) sheet few good is = elim is [
  | inl same ↦ (let label = page-low segment m (omega (arith, few)) good in subst SheetGood same (record { round = good.round; first = label; last = label }))
  | inr later ↦ page-good segment (m + 1) pages sheet (omega (arith, few)) good later
]

fold-low : (round : ℕ) (others : List PageRecordOf) → round ≤ 99 → ((it : PageRecordOf) → IsIn it others → it.changed ≤ 99) → fold (λ round (other : PageRecordOf). max round other.changed) round others ≤ 99
fold-low round [] low all = low
fold-low round (it ∷ others) low all = (let here = all it (inl refl) in fold-low (max round it.changed) others (omega (arith, low, here)) (λ one is. all one (inr is)))

last-in : (segment : SegmentOf) (others : List SegmentOf) → IsIn (last_of segment others) (segment ∷ others)
last-in segment [] = inl refl
last-in segment (other ∷ others) = inr (last-in other others)

filter-few : (p : ℕ → Bool) (pages : List ℕ) → length (filter p pages) ≤ length pages
filter-few p [] = omega arith
filter-few p (page ∷ pages) = by (p page) (filter-few p pages)
  where
    by : (b : Bool) → length (filter p pages) ≤ length pages → length (cond b (page ∷ filter p pages) (filter p pages)) ≤ suc (length pages)
    by true few = omega (arith, few)
    by false few = omega (arith, few)

run-good : (pages : List ℕ) (run : List SegmentOf) (sheet : SheetOf) → length pages ≤ 16777216 → ((segment : SegmentOf) → IsIn segment run → IsGood segment.owner) → IsIn sheet (run_sheets pages run) → SheetGood sheet
run-good pages [] sheet few good is = absurd is
run-good pages (segment ∷ others) sheet few good is = by (is_empty segment) is
  where
    own : IsGood segment.owner
    own = good segment (inl refl)

    by : (b : Bool) → IsIn sheet (cond b (omitted_sheet segment.start segment.owner (map owner_of others) ∷ []) (page_sheets segment 0 (segment_pages segment pages))) → SheetGood sheet
    by true here = elim here [
      | inl same ↦ subst SheetGood same (record {
        round = fold-low segment.owner.changed (map owner_of others) own.round (λ it there. let from = map-in owner_of it others there in subst (λ (r : PageRecordOf). r.changed ≤ 99) from.is (good from.it (inr from.there)).round);
        first = good-low segment.owner own;
        last = subst (λ (r : PageRecordOf). IsLow r.label) (sym (last-owner segment others)) (good-low (last_of segment others).owner (good (last_of segment others) (last-in segment others)));
      })
      | inr never ↦ absurd never
    ]
    by false here = page-good segment 0 (segment_pages segment pages) sheet (let less = filter-few (λ page. nat_le segment.start page && nat_lt page segment.end) pages in omega (arith, less, few)) own here

segment-owner : (rows : ℕ) (records : List PageRecordOf) (starts : List ℕ) (segment : SegmentOf) → IsIn segment (segments rows records starts) → IsIn segment.owner records
segment-owner rows [] starts segment is = absurd is
segment-owner rows (it ∷ records) [] segment is = absurd is
segment-owner rows (it ∷ records) (start ∷ starts) segment is = elim is [
  | inl same ↦ inl (ap (λ (s : SegmentOf). s.owner) same)
  | inr later ↦ inr (segment-owner rows records starts segment later)
]

kept-good : (round : ℕ) (lines : List LineState) (records : List PageRecordOf) → round ≤ 99 → AreKeptPages round lines records → (it : PageRecordOf) → IsIn it records → IsGood it
kept-good round lines records low are it is =
    let locked = all-in (λ (r : PageRecordOf). IsLocked (length records) (16 + round) r.label) it records are.locked is in
    let bounded = locked.bounded in
    let number = bounded.number in
    let few = are.few in
    let changed = (all-in (IsAnchored round lines) it records are.anchored is).changed in
    record { round = omega (arith, changed, low); number = omega (arith, number, few); steps = bounded.step }

-- ---- title sheets

mark-low : (round : ℕ) (lines : List LineState) (place : ℕ) → All (λ (line : LineState). line.mark ≤ round) lines → (line_state lines place).mark ≤ round
mark-low round lines place all =
    let none : LineState = record { id = 0; mark = 0; text = [] } in
    elim (cases_lt place (length lines)) [
      | inl inside ↦ all place none inside
      | inr past ↦ subst (λ (line : LineState). line.mark ≤ round) (sym (get_or_past lines place none past)) (omega arith)
    ]

abbrev MarkLow : ℕ → Row → Type 0
MarkLow round row = row.mark ≤ round

module _ (round : ℕ) (lines : List LineState) (all : All (λ (line : LineState). line.mark ≤ round) lines) where
  from-low : (context : LineContext) (line : LineOf) (number : ℕ) (those : List WrappedRow) → context.mark ≤ round → All (MarkLow round) (line_rows_from context line number those)
  from-low context line number [] low = All-nil (MarkLow round)
  from-low context line number (it ∷ later) low = All-cons (MarkLow round) _ (line_rows_from context line (number + 1) later) low (from-low context line (number + 1) later low)

  lines-low : (first shift : ℕ) (side : Side) (kind : Kind) (those : List LineOf) → All (MarkLow round) (flat_map (line_rows lines first shift side kind) those)
  lines-low first shift side kind [] = All-nil (MarkLow round)
  lines-low first shift side kind (line ∷ those) =
      let context = line_context lines first shift side kind line in
      All-append (MarkLow round) (line_rows lines first shift side kind line) (flat_map (line_rows lines first shift side kind) those)
      (from-low context line 0 (wrapped context.text line.runs (width_of side kind line.part)) (mark-low round lines (first + line.offset) all)) (lines-low first shift side kind those)

  numbered-low : (block : BlockOf) (those : List Row) → All (MarkLow round) those → All (MarkLow round) (with_number block those)
  numbered-low block [] low = low
  numbered-low block (row ∷ later) low = All-cons (MarkLow round) _ later (All-head (MarkLow round) row later low) (All-tail (MarkLow round) row later low)

  shaped-low : (lead index : ℕ) (those : List Row) → All (MarkLow round) those → All (MarkLow round) (shaped_rows lead index those)
  shaped-low lead index [] low = All-nil (MarkLow round)
  shaped-low lead index (row ∷ later) low =
      All-cons (MarkLow round) _ (shaped_rows lead (index + 1) later) (All-head (MarkLow round) row later low) (shaped-low lead (index + 1) later (All-tail (MarkLow round) row later low))

  mapped-low : (f : Row → Row) → ((row : Row) → (f row).mark ≡ row.mark) → (those : List Row) → All (MarkLow round) those → All (MarkLow round) (map f those)
  mapped-low f same [] low = All-nil (MarkLow round)
  mapped-low f same (row ∷ later) low =
      All-cons (MarkLow round) (f row) (map f later) (subst (λ n. n ≤ round) (sym (same row)) (All-head (MarkLow round) row later low)) (mapped-low f same later (All-tail (MarkLow round) row later low))

  said-low : (first : ℕ) (speakers : List Bool) (those : List Row) → All (MarkLow round) those → All (MarkLow round) (with_speakers lines first speakers those)
  said-low first speakers those low = by (list_any (λ goes_on. goes_on) speakers)
    where
      spoken : (those : List Row) → All (MarkLow round) those → All (MarkLow round) (spoken_rows lines first speakers those)
      spoken [] low = low
      spoken (row ∷ later) low = All-cons (MarkLow round) _ later (All-head (MarkLow round) row later low) (All-tail (MarkLow round) row later low)

      by : (b : Bool) → All (MarkLow round) (cond b (spoken_rows lines first speakers those) those)
      by true = spoken those low
      by false = low

  joined-low : (left right : List Row) → All (MarkLow round) left → All (MarkLow round) right → All (MarkLow round) (joined_rows left right)
  joined-low [] right one other = mapped-low half_row (λ row. refl) right other
  joined-low (row ∷ left) [] one other = All-cons (MarkLow round) _ (joined_rows left []) (All-head (MarkLow round) row left one) (joined-low left [] (All-tail (MarkLow round) row left one) other)
  joined-low (row ∷ left) (it ∷ right) one other =
      let a = All-head (MarkLow round) row left one in
      let b = All-head (MarkLow round) it right other in
      All-cons (MarkLow round) (joined_row row it) (joined_rows left right) (omega (arith, a, b)) (joined-low left right (All-tail (MarkLow round) row left one) (All-tail (MarkLow round) it right other))

  either-low : (b : Bool) (one other : List Row) → All (MarkLow round) one → All (MarkLow round) other → All (MarkLow round) (cond b one other)
  either-low true one other first second = first
  either-low false one other first second = second

  beside-low : (it : Spoken) (others : List Spoken) → All (MarkLow round) (laid_beside lines it others).rows
  beside-low it [] =
      let block = it.placed.block in
      let first = it.placed.first in
      let made = block_alone lines first block in
      let own = rows.block_rows lines first 0 sides.Alone block in
      let alone = shaped-low (first_lead block.kind) 0 (with_number block own) (numbered-low block own (lines-low first 0 sides.Alone block.kind block.lines)) in
      either-low (has_rows block.kind) _ []
      (either-low (is_title block.kind) (map title_row made) (with_speakers lines first (it.continued ∷ []) made) (mapped-low title_row (λ row. refl) made alone) (said-low first (it.continued ∷ []) made alone))
      (All-nil (MarkLow round))
  beside-low it (right ∷ others) =
      let first = it.placed.first in
      let second = right.placed.first in
      let one = rows.block_rows lines first 0 sides.Left it.placed.block in
      let other = rows.block_rows lines second (second - first) sides.Right right.placed.block in
      said-low first (it.continued ∷ right.continued ∷ []) (blocks_beside lines first it.placed.block second right.placed.block)
      (shaped-low 1 0 (joined_rows one other) (joined-low one other (lines-low first 0 sides.Left it.placed.block.kind it.placed.block.lines) (lines-low second (second - first) sides.Right right.placed.block.kind right.placed.block.lines)))

  shown-low : (cue : List ShownCell) (label : Option LabelOf) (those : List Row) → All (MarkLow round) those → All (λ (it : Shown). it.mark ≤ round) (map (shown_of lines cue label) those)
  shown-low cue label [] low = All-nil (λ (it : Shown). it.mark ≤ round)
  shown-low cue label (row ∷ those) low =
      All-cons (λ (it : Shown). it.mark ≤ round) (shown_of lines cue label row) (map (shown_of lines cue label) those) (All-head (MarkLow round) row those low) (shown-low cue label those (All-tail (MarkLow round) row those low))

  rows-low : (labels : Option (List LabelOf)) (groups : List (Group Spoken)) → All (λ (it : Shown). it.mark ≤ round) (shown_rows lines labels (map (laid_out lines) groups))
  rows-low labels [] = All-nil (λ (it : Shown). it.mark ≤ round)
  rows-low labels (group ∷ groups) =
      let own = laid_out lines group in
      All-append (λ (it : Shown). it.mark ≤ round) (element_shown lines (heading_label labels own) own) (shown_rows lines (labels_behind labels own) (map (laid_out lines) groups))
      (shown-low (element_cue (line_texts lines) (placed_rows own)) (heading_label labels own) (placed_rows own) (mapped-low (shifted_row own.first) (λ row. refl) own.rows (beside-low group.first group.more)))
      (rows-low (labels_behind labels own) groups)

mark-fold : (round low : ℕ) (those : List Shown) → low ≤ round → All (λ (it : Shown). it.mark ≤ round) those → fold (λ mark (it : Shown). max mark it.mark) low those ≤ round
mark-fold round low [] small all = small
mark-fold round low (it ∷ those) small all =
    (let here = All-head (λ (s : Shown). s.mark ≤ round) it those all in mark-fold round (max low it.mark) those (omega (arith, small, here)) (All-tail (λ (s : Shown). s.mark ≤ round) it those all))

titles-print : (state : State) → IsWhole state → (starts : List ℕ) (bytes : List ℕ) → IsIn bytes (map sheet_bytes (title_sheets (titles_in state) starts)) → PrintsTitle bytes
titles-print state whole [] bytes is = absurd is
titles-print state whole (page ∷ later) bytes is = elim is [
  | inl same ↦
      let end = slice_index_or later 0 (length (titles_in state)) in
      let own = slice_range (titles_in state) page end in
      let kept = whole-kept state whole in
      let all = rows-low state.round state.lines kept.marks None (filter is_title_element (text_elements state.speakers state.lines)) in
      let taken : All (λ (it : Shown). it.mark ≤ state.round) own = All-take (λ (it : Shown). it.mark ≤ state.round) (end - page) _ (All-drop (λ (it : Shown). it.mark ≤ state.round) page (titles_in state) all) in
      let low = mark-fold state.round 0 own (omega arith) taken in
      let round = kept.round in
      record {
        rows = page_body (greatest_mark own) own;
        round = greatest_mark own;
        is = sym same;
        plain = page-clean state whole.text None (layout_in state).titles (greatest_mark own) page end (layout_of-show state.speakers (text_of state) whole.text).0;
        low = omega (arith, low, round);
      }
  | inr behind ↦ titles-print state whole later bytes behind
]

-- ---- the sheets of a state

module _ (state : State) (whole : IsWhole state) (some : SomeRecords state) where
  abbrev records : List PageRecordOf
  records = some.first ∷ some.later

  are-records : records_in state ≡ records
  are-records = ap (λ (p : Option (List PageRecordOf)). unwrap_or p []) some.are

  kept : AreKeptPages state.round state.lines records
  kept = state-AreKeptPages state records whole some.are

  segments-are : segments_in state ≡ segments (length (rows_in state)) records (record_starts state.lines (keys_in state) records)
  segments-are = ap (λ (rs : List PageRecordOf). segments (length (rows_in state)) rs (record_starts state.lines (keys_in state) rs)) are-records

  segment-good : (segment : SegmentOf) → IsIn segment (segments_in state) → IsGood segment.owner
  segment-good segment is =
      kept-good state.round state.lines records (whole-kept state whole).round kept segment.owner
      (segment-owner (length (rows_in state)) records (record_starts state.lines (keys_in state) records) segment (subst (IsIn segment) segments-are is))

  few-pages : length (pages_of state) ≤ 16777216
  few-pages =
      subst (λ (p : Option (List PageRecordOf)). length (pages_in (rows_on state.paper) state.lines (rows_in state) (layout_in state).breaks p) ≤ 16777216) (sym some.are)
      (state-ArePages state records whole).few

  sheet-good : (sheet : SheetOf) → IsIn sheet (laid_sheets (laid_of state)) → SheetGood sheet
  sheet-good sheet is =
      let run = flat-in (run_sheets (pages_of state)) sheet (runs_of (segments_in state)) is in
      run-good (pages_of state) run.it sheet few-pages
      (λ segment there. segment-good segment (subst (IsIn segment) (runs_of-all (segments_in state)) (in-flat (λ (r : List SegmentOf). r) run.it segment (runs_of (segments_in state)) run.there there)))
      run.here

  sheets-labelled : AreSheets (laid_sheets (laid_of state))
  sheets-labelled =
      subst (λ (segs : List SegmentOf). AreSheets (flat_map (run_sheets (pages_of state)) (runs_of segs))) (sym segments-are)
      (sheets-AreSheets (length (rows_in state)) records (record_starts state.lines (keys_in state) records) (pages_of state) (λ k d h. (kept.locked k d h).is_label) kept.rising)

  readable : (it : LabelOf) → IsLabel it → IsLow it → IsReadable it
  readable it label low = record { is_label = label; low = low.number; steps = low.steps; written = refl }

  body-clean : (sheet : SheetOf) → IsPlain (sheet_rows (rows_in state) sheet)
  body-clean sheet = by sheet.omitted
    where
      by : (b : Bool) → IsPlain (cond b omitted_rows (page_body sheet.round (slice_range (rows_in state) sheet.start sheet.end)))
      by true = omitted-clean
      by false =
          page-clean state whole.text (heading_labels state.lines state.scenes) (layout_in state).body sheet.round sheet.start sheet.end (layout_of-show state.speakers (text_of state) whole.text).1

  pub state-printed : IsPrinted (title_bytes state) (laid_of state)
  state-printed = record {
    titles_are = titles-print state whole (title_starts state);
    sheets_are = λ sheet is.
        let good = sheet-good sheet is in
        record {
          rows = sheet_rows (rows_in state) sheet;
          is = refl;
          plain = body-clean sheet;
          round = good.round;
          first = readable sheet.first (all-in (λ (s : SheetOf). IsLabel s.first) sheet (laid_sheets (laid_of state)) sheets-labelled.first is) good.first;
          last = readable sheet.last (all-in (λ (s : SheetOf). IsLabel s.last) sheet (laid_sheets (laid_of state)) sheets-labelled.last is) good.last;
        };
  }

  pub state-rising : AreRising (laid_printed (laid_of state))
  state-rising =
      laid-rising (length (rows_in state)) records (record_starts state.lines (keys_in state) records) (laid_of state) segments-are (λ k d h. (kept.locked k d h).is_label) kept.rising

-- ---- the bytes of a state are those of its list of sheets

pub flat-titles : (sheets : List Sheet) → flat_map sheet_bytes sheets ≡ flat_map (λ (t : List ℕ). t) (map sheet_bytes sheets)
flat-titles [] = refl
flat-titles (sheet ∷ sheets) = ap (λ (l : List ℕ). sheet_bytes sheet ++ l) (flat-titles sheets)

flat-body : (state : State) (sheets : List SheetOf) → flat_map sheet_bytes (map (shown_sheet (rows_in state)) sheets) ≡ flat_map bytes_of (map (printed_of (laid_of state)) sheets)
flat-body state [] = refl
flat-body state (sheet ∷ sheets) = ap (λ (l : List ℕ). sheet_bytes (shown_sheet (rows_in state) sheet) ++ l) (flat-body state sheets)

pub body-laid : (state : State) → is_some state.pages ≡ true → body_sheets state ≡ laid_sheets (laid_of state)
body-laid state locked = by state.pages locked
  where
    by : (pages : Option (List PageRecordOf)) → is_some pages ≡ true
        → sheets_in (rows_on state.paper) state.lines (rows_in state) (layout_in state).breaks pages
        ≡ flat_map (run_sheets (pages_in (rows_on state.paper) state.lines (rows_in state) (layout_in state).breaks pages))
        (runs_of (segments (length (rows_in state)) (unwrap_or pages []) (record_starts state.lines (keys_in state) (unwrap_or pages []))))
    by None locked = absurd (let no_way : ⊥ = cc in no_way)
    by (Some those) locked = refl

pub state-bytes : (state : State) → is_some state.pages ≡ true → printed_state state ≡ list_bytes (sheets_of state)
state-bytes state locked =
    let titles = title_sheets (titles_in state) (title_starts state) in
    flat_map-append sheet_bytes titles (map (shown_sheet (rows_in state)) (body_sheets state))
    ∙ ap₂ (λ (a b : List ℕ). a ++ b) (flat-titles titles) (flat-body state (body_sheets state) ∙ ap (λ (sheets : List SheetOf). flat_map bytes_of (map (printed_of (laid_of state)) sheets)) (body-laid state locked))
