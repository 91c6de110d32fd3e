-- Edits, locks and rounds keep what page records keep.
use Rattle.std.proofs.Common.{◌≡◌, ℕ, suc, ◌+◌, ◌<◌, ◌≤◌, Bool, true, false, cond, Option, List, [], ◌∷◌, map, length, get_or, inl, inr, refl, sym, ap, ap₂, subst, ◌∙◌, arith, length-append}
use Rattle.std.specs.Prelude.{All, AllPairs, IfSome, drop, flat_map, slice_index_or, slice_range}
use Rattle.std.proofs.lemmas.List.{length-map}
use Rattle.std.proofs.lemmas.List.Elements.{All-nil, All-cons, All-head, All-tail, All-append, All-map, All-filter, All-drop}
use Rattle.std.proofs.lemmas.List.Kept.{AllPairs-cons}
use Rattle.spec_text.specs.Lines.{LineState}
use Rattle.spec_labels.specs.declared.RowKey.{RowKey}
use Rattle.spec_labels.specs.Labels.{LabelOf, plain_label, IsLabel, Below}
use Rattle.spec_labels.specs.PageRecords.{PageRecordOf, SegmentOf, SheetOf, RisingRecords, line_at, first_label, segments, is_empty, is_removed, line_from, carried, carried_records, page_sheet, page_sheets, segment_pages, record_of_sheet, record_start, record_starts}
use Rattle.spec_labels.proofs.LabelOrder.{Below-transitive}
use Rattle.spec_labels.proofs.LabelsBetween.{between-above}
use Rattle.spec_labels.proofs.PageRecordLaws.{carried-label, carried-labels}
use Rattle.spec_labels.proofs.SheetLaws.{page_label-later}
use Rattle.spec_records.specs.Bounds.{locked_step_limit, IsBounded}
use Rattle.spec_records.proofs.BoundLaws.{between-Bounded, IsBounded-weaker}
use Rattle.spec_labels.specs.Spots.{Spot, AtMost}
use Rattle.spec_text.specs.Ranges.{RangeOf}
use Rattle.spec_text.specs.EditedLines.{HasIds}
use Rattle.spec_labels.specs.Anchors.{IsAnchored, spot_of, end_spot, Anchored, AreKeys, NotBehind, ArePresent}
use Rattle.spec_sheets.specs.Shown.{Shown}
use Rattle.spec_pages.specs.OwnPages.{lies_in}
use Rattle.spec_labels.proofs.CarryLaws.{Edited, end-nowhere}
use Rattle.spec_labels.proofs.SpotLaws.{Lower, ahead-not}
use Rattle.spec_labels.specs.OwnRecords.{overflow_sheets, own_records, all_records}
use Rattle.spec_state.specs.StateSheets.{greatest_mark, numbered_sheets}
use Rattle.spec_pages.proofs.StartLists.{ArePagesOf, AreAbove}
use Rattle.spec_state.proofs.OpeningLaw.{plain-Below}
use Rattle.spec_labels.proofs.RecordInsert.{Before}
use Rattle.spec_labels.proofs.AnchorLaws.{carried-anchored, anchored-after}
use Rattle.spec_state.specs.SameRows.{same_rows}
use Rattle.spec_state.specs.Changes.{raised, raised_records}
use Rattle.spec_state.specs.KeptStates.{IsPageKept, ArePagesKept}
use Rattle.spec_state.specs.StateLabels.{page_label_of}
use Rattle.spec_state.proofs.EditKeeps.{raised-labels}
use Rattle.spec_text.proofs.ListLaws.{pairs-map, pairs-unmap, pairs-head, pairs-tail}
use Rattle.spec_labels.proofs.KeySpots.{no_key, rows-order}
use Rattle.spec_machine.proofs.RecordOrder.{Starts, all-order, behind-order}
use Rattle.spec_state.proofs.RowMarks.{greatest-low}

-- ---- edits

raised-All : (P : PageRecordOf → Type 0) (round : ℕ) → ((it : PageRecordOf) (same : Bool) → P it → P (raised round same it)) → (olds news : List (List Shown)) (records : List PageRecordOf) → All P records
    → All P (raised_records round olds news records)
raised-All P round keeps [] news records all = all
raised-All P round keeps (old ∷ olds) [] records all = all
raised-All P round keeps (old ∷ olds) (new ∷ news) [] all = all
raised-All P round keeps (old ∷ olds) (new ∷ news) (it ∷ records) all =
    All-cons P (raised round (same_rows old new) it) (raised_records round olds news records) (keeps it (same_rows old new) (All-head P it records all))
    (raised-All P round keeps olds news records (All-tail P it records all))

raised-kept : (count round : ℕ) (lines : List LineState) (it : PageRecordOf) (same : Bool) → IsPageKept count round lines it → IsPageKept count round lines (raised round same it)
raised-kept count round lines it true is = is
raised-kept count round lines it false is = record { above = is.above; bounded = is.bounded; anchored = is.anchored; low = is.low; last = omega arith }

raised-spots : (lines : List LineState) (round : ℕ) (olds news : List (List Shown)) (records : List PageRecordOf) → map (spot_of lines) (raised_records round olds news records) ≡ map (spot_of lines) records
raised-spots lines round [] news records = refl
raised-spots lines round (old ∷ olds) [] records = refl
raised-spots lines round (old ∷ olds) (new ∷ news) [] = refl
raised-spots lines round (old ∷ olds) (new ∷ news) (it ∷ records) =
    ap₂ (λ (s : Spot) (ss : List Spot). s ∷ ss) (by (same_rows old new)) (raised-spots lines round olds news records)
  where
    by : (b : Bool) → spot_of lines (raised round b it) ≡ spot_of lines it
    by true = refl
    by false = refl

carried-kept : (count round : ℕ) (range : RangeOf) (next later : ℕ) (old new : List LineState) (place : ℕ) (it : PageRecordOf) → Edited range next later old new → IsPageKept count round old it
    → IsPageKept count round new (carried new place it)
carried-kept count round range next later old new place it e is =
    let same = sym (carried-label new place it) in
    record {
      above = subst (Below (plain_label 0)) same is.above;
      bounded = subst (IsBounded count (16 + round)) same is.bounded;
      anchored = carried-anchored range next later old new place it e is.anchored;
      low = row (is_removed new it) is.low;
      last = round_of (is_removed new it) is.last;
    }
  where
    row : (b : Bool) → it.row ≤ 4095 → (cond b (record { label = it.label; line = line_from new place; row = 0; changed = it.changed }) it).row ≤ 4095
    row true low = omega arith
    row false low = low

    round_of : (b : Bool) → it.changed ≤ round → (cond b (record { label = it.label; line = line_from new place; row = 0; changed = it.changed }) it).changed ≤ round
    round_of true low = low
    round_of false low = low

pub anchored-within : (next : ℕ) (lines : List LineState) (it : PageRecordOf) → HasIds next lines → IsAnchored lines it → AtMost (spot_of lines it) (end_spot lines)
anchored-within next lines it ids anchored =
    ahead-not (end_spot lines) (spot_of lines it) (λ less. by anchored less)
  where
    by : IsAnchored lines it → Lower (end_spot lines) (spot_of lines it) → ⊥
    by (inl end) (inl less) = let e = ap (line_at lines) end.0 ∙ end-nowhere next lines ids in omega (arith, e, less)
    by (inl end) (inr level) = omega (arith, end.1, level.1)
    by (inr there) (inl less) = omega (arith, there, less)
    by (inr there) (inr level) = omega (arith, there, level.0)

drop-one : (new : List LineState) (place : ℕ) (records : List PageRecordOf) → carried_records new place (drop 1 records) ≡ drop 1 (carried_records new place records)
drop-one new place [] = refl
drop-one new place (it ∷ records) = refl

drop-spots : (lines : List LineState) (records : List PageRecordOf) → map (spot_of lines) (drop 1 records) ≡ drop 1 (map (spot_of lines) records)
drop-spots lines [] = refl
drop-spots lines (it ∷ records) = refl

-- Page records after an edit.
pub edited-pages : (round : ℕ) (range : RangeOf) (next later : ℕ) (old new : List LineState) (olds news : List (List Shown)) (records : List PageRecordOf) → Edited range next later old new → ArePagesKept round old records
    → ArePagesKept round new (raised_records round olds news (carried_records new (range.first + range.new) records))
edited-pages round range next later old new olds news records e are =
    let place = range.first + range.new in
    let moved = carried_records new place records in
    let done = raised_records round olds news moved in
    let few = are.few in
    let count : length done ≡ length records =
    sym (length-map done page_label_of) ∙ ap length (raised-labels round olds news moved ∙ carried-labels new place records) ∙ length-map records page_label_of in
    let each : All (IsPageKept (length records) round new) moved =
    All-map (IsPageKept (length records) round new) (carried new place) records (λ k d h. carried-kept (length records) round range next later old new place (get_or records k d) e (are.each k d h)) in
    let rest = drop 1 records in
    let anchored : Anchored old rest = record {
      each = All-drop (IsAnchored old) 1 records (λ k d h. (are.each k d h).anchored);
      order = pairs-map AtMost (spot_of old) rest are.order;
      within = All-map (λ s. AtMost s (end_spot old)) (spot_of old) rest (λ k d h. anchored-within next old (get_or rest k d) e.old_ids (All-drop (IsAnchored old) 1 records (λ i c g. (are.each i c g).anchored) k d h));
    } in
    let after = anchored-after range next later old new rest e anchored in
    let spots : map (spot_of new) (carried_records new place rest) ≡ map (spot_of new) (drop 1 done) =
    ap (map (spot_of new)) (drop-one new place records) ∙ drop-spots new moved ∙ ap (λ (ss : List Spot). drop 1 ss) (sym (raised-spots new round olds news moved)) ∙ sym (drop-spots new done) in
    record {
      few = omega (arith, few, count);
      each = subst (λ n. All (IsPageKept n round new) done) (sym count) (raised-All (IsPageKept (length records) round new) round (raised-kept (length records) round new) olds news moved each);
      order = pairs-unmap AtMost (spot_of new) (drop 1 done) (subst (AllPairs AtMost) spots after.order);
    }

-- ---- records of rows

-- What is asked of the keys of rows.
pub record LowKeys (keys : List RowKey) : Type 0 where
  pub all : All (λ (key : RowKey). key.row ≤ 4095) keys

-- A record that is anchored at a row.
row-kept : (count round : ℕ) (lines : List LineState) (keys : List RowKey) (sheet : SheetOf) → ArePresent lines keys → LowKeys keys → sheet.start < length keys → sheet.round ≤ round
    → Below (plain_label 0) sheet.first → IsBounded count (16 + round) sheet.first → IsPageKept count round lines (record_of_sheet keys sheet)
row-kept count round lines keys sheet present low inside last above bounded = record {
  above = above;
  bounded = bounded;
  anchored = inr (present.all sheet.start no_key inside);
  low = low.all sheet.start no_key inside;
  last = last;
}

-- ---- the lock of pages

numbered-kept : (count round : ℕ) (lines : List LineState) (keys : List RowKey) (rows : List Shown) (number : ℕ) (pages : List ℕ) → ArePresent lines keys → LowKeys keys → All (λ (it : Shown). it.mark ≤ round) rows
    → 0 < number → number + length pages ≤ count + 1 → All (λ page. page < length keys) pages → All (IsPageKept count round lines) (map (record_of_sheet keys) (numbered_sheets rows number pages))
numbered-kept count round lines keys rows number [] present low marks some few inside = All-nil (IsPageKept count round lines)
numbered-kept count round lines keys rows number (page ∷ later) present low marks some few inside =
    let sheet : SheetOf = record {
      first = plain_label number;
      last = plain_label number;
      start = page;
      end = slice_index_or later 0 (length rows);
      round = greatest_mark (slice_range rows page (slice_index_or later 0 (length rows)));
      omitted = false;
    } in
    All-cons (IsPageKept count round lines) (record_of_sheet keys sheet) (map (record_of_sheet keys) (numbered_sheets rows (number + 1) later))
    (row-kept count round lines keys sheet present low (All-head (λ p. p < length keys) page later inside) (greatest-low round page (slice_index_or later 0 (length rows)) rows marks) (plain-Below 0 number some)
    (record { number = omega (arith, few); step = All-nil (λ step. step ≤ locked_step_limit); short = omega arith }))
    (numbered-kept count round lines keys rows (number + 1) later present low marks (omega arith) (omega (arith, few)) (All-tail (λ p. p < length keys) page later inside))

numbered-starts : (rows : List Shown) (number low : ℕ) (pages : List ℕ) → All (λ page. low < page) pages → All (λ (s : SheetOf). low < s.start) (numbered_sheets rows number pages)
numbered-starts rows number low [] all = All-nil (λ (s : SheetOf). low < s.start)
numbered-starts rows number low (page ∷ later) all =
    All-cons (λ (s : SheetOf). low < s.start) _ (numbered_sheets rows (number + 1) later) (All-head (λ p. low < p) page later all)
    (numbered-starts rows (number + 1) low later (All-tail (λ p. low < p) page later all))

numbered-Starts : (rows : List Shown) (number : ℕ) (pages : List ℕ) → AreAbove pages → AllPairs Starts (numbered_sheets rows number pages)
numbered-Starts rows number [] rise = λ i j d less inside. absurd (omega (arith, less, inside))
numbered-Starts rows number (page ∷ later) rise =
    AllPairs-cons Starts _ (numbered_sheets rows (number + 1) later) (numbered-starts rows (number + 1) page later (pairs-head (λ one other. one < other) page later rise))
    (numbered-Starts rows (number + 1) later (pairs-tail (λ one other. one < other) page later rise))

numbered-inside : (rows : List Shown) (number bound : ℕ) (pages : List ℕ) → All (λ page. page < bound) pages → All (λ (s : SheetOf). s.start < bound) (numbered_sheets rows number pages)
numbered-inside rows number bound [] all = All-nil (λ (s : SheetOf). s.start < bound)
numbered-inside rows number bound (page ∷ later) all =
    All-cons (λ (s : SheetOf). s.start < bound) _ (numbered_sheets rows (number + 1) later) (All-head (λ p. p < bound) page later all)
    (numbered-inside rows (number + 1) bound later (All-tail (λ p. p < bound) page later all))

length-numbered : (rows : List Shown) (number : ℕ) (pages : List ℕ) → length (numbered_sheets rows number pages) ≡ length pages
length-numbered rows number [] = refl
length-numbered rows number (page ∷ later) = ap suc (length-numbered rows (number + 1) later)

sheets-order : (next : ℕ) (lines : List LineState) (keys : List RowKey) → HasIds next lines → AreKeys lines keys → ArePresent lines keys → (sheets : List SheetOf) → All (λ (s : SheetOf). s.start < length keys) sheets
    → AllPairs Starts sheets → AllPairs (NotBehind lines) (map (record_of_sheet keys) sheets)
sheets-order next lines keys ids are present [] inside rise = λ i j d less within. absurd (omega (arith, less, within))
sheets-order next lines keys ids are present (s ∷ sheets) inside rise =
    let P = λ (x : SheetOf). x.start < length keys in
    let more = All-tail P s sheets inside in
    AllPairs-cons (NotBehind lines) (record_of_sheet keys s) (map (record_of_sheet keys) sheets)
    (All-map (NotBehind lines (record_of_sheet keys s)) (record_of_sheet keys) sheets
    (λ k d h. (let less = pairs-head Starts s sheets rise k d h in rows-order next lines keys ids are present s.start (get_or sheets k d).start (omega (arith, less)) (more k d h))))
    (sheets-order next lines keys ids are present sheets more (pairs-tail Starts s sheets rise))

drop-pairs : {X : Type 0} (R : X → X → Type 0) (xs : List X) → AllPairs R xs → AllPairs R (drop 1 xs)
drop-pairs R [] pairs = pairs
drop-pairs R (x ∷ xs) pairs = pairs-tail R x xs pairs

-- The records of a lock.
pub numbered-pages : (round next : ℕ) (lines : List LineState) (keys : List RowKey) (rows : List Shown) (pages : List ℕ) → HasIds next lines → AreKeys lines keys → ArePresent lines keys → LowKeys keys
    → All (λ (it : Shown). it.mark ≤ round) rows → ArePagesOf (length keys) pages → length pages ≤ 100000
    → ArePagesKept round lines (map (record_of_sheet keys) (numbered_sheets rows 1 pages))
numbered-pages round next lines keys rows pages ids are present low marks paged few =
    let sheets = numbered_sheets rows 1 pages in
    let count : length (map (record_of_sheet keys) sheets) ≡ length pages = length-map sheets (record_of_sheet keys) ∙ length-numbered rows 1 pages in
    record {
      few = omega (arith, few, count);
      each = numbered-kept (length (map (record_of_sheet keys) sheets)) round lines keys rows 1 pages present low marks (omega arith) (omega (arith, count)) paged.inside;
      order = drop-pairs (NotBehind lines) (map (record_of_sheet keys) sheets)
          (sheets-order next lines keys ids are present sheets (numbered-inside rows 1 (length keys) pages paged.inside) (numbered-Starts rows 1 pages paged.rise));
    }

-- ---- the next round

page-more : (count more round : ℕ) (lines : List LineState) (it : PageRecordOf) → count ≤ more → IsPageKept count round lines it → IsPageKept more (round + 1) lines it
page-more count more round lines it less is = record {
  above = is.above;
  bounded = IsBounded-weaker less (omega arith) is.bounded;
  anchored = is.anchored;
  low = is.low;
  last = (let l = is.last in omega (arith, l));
}

-- The next record's label, where there is one.
record NextOf (count round : ℕ) (it : PageRecordOf) (next : Option LabelOf) : Type 0 where
  follows : IfSome next (λ high. Below it.label high × IsLabel high)
  short : IfSome next (λ (high : LabelOf). length high.path ≤ 16 + round)

next-of : (count round : ℕ) (lines : List LineState) (it : PageRecordOf) (records : List PageRecordOf) → All (IsPageKept count round lines) records → All (λ (r : PageRecordOf). IsLabel r.label) records → RisingRecords (it ∷ records)
    → NextOf count round it (first_label records)
next-of count round lines it [] each labels rising = record { follows = tt; short = tt }
next-of count round lines it (r ∷ records) each labels rising = record {
  follows = (All-head (Before it) r records (pairs-head Before it (r ∷ records) rising), All-head (λ (x : PageRecordOf). IsLabel x.label) r records labels);
  short = ((All-head (IsPageKept count round lines) r records each).bounded).short;
}

pages-kept : (count more round : ℕ) (lines : List LineState) (keys : List RowKey) (own : SegmentOf) (m : ℕ) (pages : List ℕ) → ArePresent lines keys → LowKeys keys → IsPageKept count round lines own.owner
    → NextOf count round own.owner own.next → 0 < m → count + m + length pages ≤ more + 1 → more ≤ 100000 → All (λ page. page < length keys) pages
    → All (IsPageKept more (round + 1) lines) (map (record_of_sheet keys) (page_sheets own m pages))
pages-kept count more round lines keys own m [] present low is next some few most inside = All-nil (IsPageKept more (round + 1) lines)
pages-kept count more round lines keys own m (page ∷ later) present low is next some few most inside =
    let last = is.last in
    let here = sym (page_label-later own m some) in
    All-cons (IsPageKept more (round + 1) lines) (record_of_sheet keys (page_sheet own m page later)) (map (record_of_sheet keys) (page_sheets own (m + 1) later))
    (row-kept more (round + 1) lines keys (page_sheet own m page later) present low (All-head (λ p. p < length keys) page later inside) (omega (arith, last))
    (subst (Below (plain_label 0)) here (Below-transitive is.above (between-above own.owner.label own.next m some)))
    (subst (IsBounded more (16 + (round + 1))) here
    (IsBounded-weaker (omega (arith, few)) (omega arith) (between-Bounded count (16 + round) own.owner.label own.next m (omega (arith, few, most)) is.bounded next.follows next.short))))
    (pages-kept count more round lines keys own (m + 1) later present low is next (omega arith) (omega (arith, few)) most (All-tail (λ p. p < length keys) page later inside))

overflow-kept : (count more round : ℕ) (lines : List LineState) (keys : List RowKey) (pages : List ℕ) (own : SegmentOf) → ArePresent lines keys → LowKeys keys → IsPageKept count round lines own.owner
    → NextOf count round own.owner own.next → count + length (overflow_sheets pages own) ≤ more → more ≤ 100000 → ArePagesOf (length keys) pages
    → All (IsPageKept more (round + 1) lines) (map (record_of_sheet keys) (overflow_sheets pages own))
overflow-kept count more round lines keys pages own present low is next few most paged =
    by (is_empty own) (segment_pages own pages) few (All-filter (lies_in own.start own.end) (λ page. page < length keys) pages paged.inside)
  where
    by : (b : Bool) (ps : List ℕ) → count + length (cond b [] (drop 1 (page_sheets own 0 ps))) ≤ more → All (λ page. page < length keys) ps
        → All (IsPageKept more (round + 1) lines) (map (record_of_sheet keys) (cond b [] (drop 1 (page_sheets own 0 ps))))
    by true ps less all = All-nil (IsPageKept more (round + 1) lines)
    by false [] less all = All-nil (IsPageKept more (round + 1) lines)
    by false (p ∷ ps) less all =
        let size = length-sheets 1 ps in
        pages-kept count more round lines keys own 1 ps present low is next (omega arith) (omega (arith, less, size)) most (All-tail (λ page. page < length keys) p ps all)
      where
        length-sheets : (m : ℕ) (qs : List ℕ) → length (page_sheets own m qs) ≡ length qs
        length-sheets m [] = refl
        length-sheets m (q ∷ qs) = ap suc (length-sheets (m + 1) qs)

pub length-all : (rows : ℕ) (keys : List RowKey) (pages : List ℕ) (records : List PageRecordOf) (starts : List ℕ) → length starts ≡ length records
    → length (all_records keys pages (segments rows records starts)) ≡ length records + length (flat_map (overflow_sheets pages) (segments rows records starts))
length-all rows keys pages [] starts count = refl
length-all rows keys pages (it ∷ records) [] count = absurd (omega (arith, count))
length-all rows keys pages (it ∷ records) (start ∷ starts) count =
    let own : SegmentOf = record { owner = it; next = first_label records; start = start; end = slice_index_or starts 0 rows } in
    let later = segments rows records starts in
    let rest = length-all rows keys pages records starts (omega (arith, count)) in
    let a = length-append (map (record_of_sheet keys) (overflow_sheets pages own)) (all_records keys pages later) in
    let b = length-append (overflow_sheets pages own) (flat_map (overflow_sheets pages) later) in
    let c = length-map (overflow_sheets pages own) (record_of_sheet keys) in
    omega (arith, rest, a, b, c)

all-kept : (count more round : ℕ) (lines : List LineState) (keys : List RowKey) (pages : List ℕ) (rows : ℕ) (records : List PageRecordOf) (starts : List ℕ) → ArePresent lines keys → LowKeys keys → ArePagesOf (length keys) pages
    → All (IsPageKept count round lines) records → All (λ (r : PageRecordOf). IsLabel r.label) records → RisingRecords records → length starts ≡ length records
    → count + length (flat_map (overflow_sheets pages) (segments rows records starts)) ≤ more → more ≤ 100000
    → All (IsPageKept more (round + 1) lines) (all_records keys pages (segments rows records starts))
all-kept count more round lines keys pages rows [] starts present low paged each labels rising same few most = All-nil (IsPageKept more (round + 1) lines)
all-kept count more round lines keys pages rows (it ∷ records) [] present low paged each labels rising same few most = absurd (omega (arith, same))
all-kept count more round lines keys pages rows (it ∷ records) (start ∷ starts) present low paged each labels rising same few most =
    let P = IsPageKept count round lines in
    let own : SegmentOf = record { owner = it; next = first_label records; start = start; end = slice_index_or starts 0 rows } in
    let later = segments rows records starts in
    let here = All-head P it records each in
    let tail = All-tail P it records each in
    let others = All-tail (λ (r : PageRecordOf). IsLabel r.label) it records labels in
    let size = length-append (overflow_sheets pages own) (flat_map (overflow_sheets pages) later) in
    All-append (IsPageKept more (round + 1) lines) (own_records keys pages own) (all_records keys pages later)
    (All-cons (IsPageKept more (round + 1) lines) it (map (record_of_sheet keys) (overflow_sheets pages own)) (page-more count more round lines it (omega (arith, few)) here)
    (overflow-kept count more round lines keys pages own present low here (next-of count round lines it records tail others rising) (omega (arith, few, size)) most paged))
    (all-kept count more round lines keys pages rows records starts present low paged tail others (pairs-tail Before it records rising) (omega (arith, same)) (omega (arith, few, size)) most)

-- Page records after a round.
pub round-pages : (round next : ℕ) (lines : List LineState) (keys : List RowKey) (pages : List ℕ) (records : List PageRecordOf) → HasIds next lines → AreKeys lines keys → ArePresent lines keys → LowKeys keys
    → ArePagesOf (length keys) pages → ArePagesKept round lines records → All (λ (r : PageRecordOf). IsLabel r.label) records → RisingRecords records
    → length (all_records keys pages (segments (length keys) records (record_starts lines keys records))) ≤ 100000
    → ArePagesKept (round + 1) lines (all_records keys pages (segments (length keys) records (record_starts lines keys records)))
round-pages round next lines keys pages records ids are present low paged kept labels rising few =
    let starts = record_starts lines keys records in
    let all = all_records keys pages (segments (length keys) records starts) in
    let same = length-starts records in
    let size = length-all (length keys) keys pages records starts same in
    record {
      few = few;
      each = all-kept (length records) (length all) round lines keys pages (length keys) records starts present low paged kept.each labels rising same (omega (arith, size)) few;
      order = ordered records kept.order;
    }
  where
    length-starts : (rs : List PageRecordOf) → length (record_starts lines keys rs) ≡ length rs
    length-starts [] = refl
    length-starts (r ∷ rs) = ap suc (length-map rs (record_start lines keys))

    ordered : (rs : List PageRecordOf) → AllPairs (NotBehind lines) (drop 1 rs) → AllPairs (NotBehind lines) (drop 1 (all_records keys pages (segments (length keys) rs (record_starts lines keys rs))))
    ordered [] order = λ i j d less inside. absurd (omega (arith, less, inside))
    ordered (r ∷ rs) order =
        behind-order next lines keys pages ids are present paged r 0 rs order (all-order next lines keys pages ids are present paged rs order)
