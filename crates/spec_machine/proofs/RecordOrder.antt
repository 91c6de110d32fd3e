-- The anchors of the records of all pages are in order.
use Rattle.std.proofs.Common.{◌≡◌, ℕ, ◌+◌, ◌<◌, ◌≤◌, Bool, true, false, cond, leb, ltb, List, [], ◌∷◌, ◌++◌, map, length, get_or, inl, inr, sym, ◌∙◌, arith}
use Rattle.std.specs.Prelude.{All, AllPairs, filter, drop, slice_index_or}
use Rattle.std.proofs.lemmas.Bool.{cases_lt, and_parts, leb-true, ltb-true}
use Rattle.std.proofs.lemmas.List.Elements.{All-nil, All-cons, All-head, All-tail, All-append, All-map, All-filter, filter_passes}
use Rattle.std.proofs.lemmas.List.Kept.{AllPairs-cons, AllPairs-filter}
use Rattle.spec_text.specs.Lines.{LineState}
use Rattle.spec_labels.specs.declared.RowKey.{RowKey}
use Rattle.spec_labels.specs.PageRecords.{PageRecordOf, SegmentOf, SheetOf, first_label, segments, is_empty, page_sheet, page_sheets, segment_pages, record_of_sheet, record_start}
use Rattle.spec_labels.specs.Spots.{Spot, AtMost}
use Rattle.spec_text.specs.EditedLines.{HasIds}
use Rattle.spec_pages.specs.OwnPages.{lies_in}
use Rattle.spec_labels.specs.Anchors.{spot_of, AreKeys, NotBehind, ArePresent}
use Rattle.spec_labels.proofs.SpotLaws.{ahead-atmost}
use Rattle.spec_labels.specs.OwnRecords.{overflow_sheets, all_records}
use Rattle.spec_pages.proofs.StartLists.{AreAbove, ArePagesOf}
use Rattle.spec_labels.proofs.StartLaws.{record_start-low}
use Rattle.spec_text.proofs.ListLaws.{pairs-join, pairs-head, pairs-tail}
use Rattle.spec_labels.proofs.KeySpots.{key_spot, no_key, ahead-back, start-below, start-above, rows-order}

-- An overflow page of a segment: one of its rows.
pub record Places (segment : SegmentOf) (rows : ℕ) (sheet : SheetOf) : Type 0 where
  pub from : segment.start ≤ sheet.start
  pub to : sheet.start < segment.end
  pub inside : sheet.start < rows

record PageIn (segment : SegmentOf) (rows page : ℕ) : Type 0 where
  from : segment.start ≤ page
  to : page < segment.end
  inside : page < rows

sheets-in : (segment : SegmentOf) (rows m : ℕ) (pages : List ℕ) → All (PageIn segment rows) pages → All (Places segment rows) (page_sheets segment m pages)
sheets-in segment rows m [] all = All-nil (Places segment rows)
sheets-in segment rows m (page ∷ later) all =
    let here = All-head (PageIn segment rows) page later all in
    All-cons (Places segment rows) (page_sheet segment m page later) (page_sheets segment (m + 1) later) (record { from = here.from; to = here.to; inside = here.inside })
    (sheets-in segment rows (m + 1) later (All-tail (PageIn segment rows) page later all))

sheets-above : (segment : SegmentOf) (low m : ℕ) (pages : List ℕ) → All (λ page. low < page) pages → All (λ (s : SheetOf). low < s.start) (page_sheets segment m pages)
sheets-above segment low m [] all = All-nil (λ (s : SheetOf). low < s.start)
sheets-above segment low m (page ∷ later) all =
    All-cons (λ (s : SheetOf). low < s.start) (page_sheet segment m page later) (page_sheets segment (m + 1) later) (All-head (λ p. low < p) page later all)
    (sheets-above segment low (m + 1) later (All-tail (λ p. low < p) page later all))

abbrev pub Starts : SheetOf → SheetOf → Type 0
Starts one other = one.start < other.start

sheets-rise : (segment : SegmentOf) (m : ℕ) (pages : List ℕ) → AreAbove pages → AllPairs Starts (page_sheets segment m pages)
sheets-rise segment m [] rise = λ i j d less inside. absurd (omega (arith, less, inside))
sheets-rise segment m (page ∷ later) rise =
    AllPairs-cons Starts (page_sheet segment m page later) (page_sheets segment (m + 1) later)
    (sheets-above segment page (m + 1) later (pairs-head (λ one other. one < other) page later rise)) (sheets-rise segment (m + 1) later (pairs-tail (λ one other. one < other) page later rise))

-- What overflow pages keep.
pub record AreOverflow (segment : SegmentOf) (rows : ℕ) (sheets : List SheetOf) : Type 0 where
  pub places : All (Places segment rows) sheets
  pub rise : AllPairs Starts sheets

pub overflow-are : (pages : List ℕ) (rows : ℕ) (segment : SegmentOf) → ArePagesOf rows pages → AreOverflow segment rows (overflow_sheets pages segment)
overflow-are pages rows segment are = by (is_empty segment) (segment_pages segment pages) inner (AllPairs-filter (λ one other. one < other) (lies_in segment.start segment.end) pages are.rise)
  where
    inner : All (PageIn segment rows) (segment_pages segment pages)
    inner k d h =
        let page = get_or (filter (lies_in segment.start segment.end) pages) k d in
        let parts = and_parts (leb segment.start page) (ltb page segment.end) (filter_passes (lies_in segment.start segment.end) pages k d h) in
        record {
          from = leb-true segment.start page parts.0;
          to = ltb-true page segment.end parts.1;
          inside = All-filter (lies_in segment.start segment.end) (λ p. p < rows) pages are.inside k d h;
        }

    none : AreOverflow segment rows []
    none = record { places = All-nil (Places segment rows); rise = λ i j d less inside. absurd (omega (arith, less, inside)) }

    by : (b : Bool) (ps : List ℕ) → All (PageIn segment rows) ps → AreAbove ps → AreOverflow segment rows (cond b [] (drop 1 (page_sheets segment 0 ps)))
    by true ps all rise = none
    by false [] all rise = none
    by false (p ∷ ps) all rise = record {
      places = sheets-in segment rows 1 ps (All-tail (PageIn segment rows) p ps all);
      rise = sheets-rise segment 1 ps (pairs-tail (λ one other. one < other) p ps rise);
    }

module _ (next : ℕ) (lines : List LineState) (keys : List RowKey) (pages : List ℕ) (ids : HasIds next lines) (are : AreKeys lines keys) (present : ArePresent lines keys) (paged : ArePagesOf (length keys) pages) where
  -- Starts are in the order of anchors.
  starts-follow : (one other : PageRecordOf) → NotBehind lines one other → record_start lines keys one ≤ record_start lines keys other
  starts-follow one other order =
      let f = record_start lines keys in
      elim (cases_lt (f other) (f one)) [
        | inl less ↦
            let low = record_start-low lines keys one in
            let inside : f other < length keys = omega (arith, less, low) in
            let a = start-below next lines keys ids are present one (f other) less inside in
            let b = start-above next lines keys ids are present other (f other) (omega arith) inside in
            absurd (let bad : true ≡ false = sym (ahead-atmost (key_spot lines (get_or keys (f other) no_key)) (spot_of lines one) (spot_of lines other) a order) ∙ b in let no_more : ⊥ = cc in no_more)
        | inr le ↦ le
      ]

  -- What a spot isn't behind.
  pub later-after : (t : Spot) (b : ℕ) (records : List PageRecordOf) → All (λ (r : PageRecordOf). AtMost t (spot_of lines r)) records
      → ((p : ℕ) → b ≤ p → p < length keys → AtMost t (key_spot lines (get_or keys p no_key))) → All (λ (r : PageRecordOf). b ≤ record_start lines keys r) records
      → All (λ (e : PageRecordOf). AtMost t (spot_of lines e)) (all_records keys pages (segments (length keys) records (map (record_start lines keys) records)))
  later-after t b [] old rows starts = All-nil (λ (e : PageRecordOf). AtMost t (spot_of lines e))
  later-after t b (it ∷ records) old rows starts =
      let P = λ (e : PageRecordOf). AtMost t (spot_of lines e) in
      let f = record_start lines keys in
      let own : SegmentOf = record { owner = it; next = first_label records; start = f it; end = slice_index_or (map f records) 0 (length keys) } in
      let mine = map (record_of_sheet keys) (overflow_sheets pages own) in
      let over = (overflow-are pages (length keys) own paged).places in
      let low = All-head (λ (r : PageRecordOf). b ≤ f r) it records starts in
      All-append P (it ∷ mine) (all_records keys pages (segments (length keys) records (map f records)))
      (All-cons P it mine (All-head P it records old)
      (All-map P (record_of_sheet keys) (overflow_sheets pages own) (λ k d h. (let o = over k d h in let a = o.from in rows (get_or (overflow_sheets pages own) k d).start (omega (arith, a, low)) o.inside))))
      (later-after t b records (All-tail P it records old) rows (All-tail (λ (r : PageRecordOf). b ≤ f r) it records starts))

  -- Overflow pages of a segment, and all records behind it.
  pub behind-order : (it : PageRecordOf) (start : ℕ) (records : List PageRecordOf) → AllPairs (NotBehind lines) records
      → AllPairs (NotBehind lines) (all_records keys pages (segments (length keys) records (map (record_start lines keys) records)))
      → AllPairs (NotBehind lines)
      (map (record_of_sheet keys) (overflow_sheets pages (record { owner = it; next = first_label records; start = start; end = slice_index_or (map (record_start lines keys) records) 0 (length keys) }))
      ++ all_records keys pages (segments (length keys) records (map (record_start lines keys) records)))
  behind-order it start records order rest =
      let f = record_start lines keys in
      let own : SegmentOf = record { owner = it; next = first_label records; start = start; end = slice_index_or (map f records) 0 (length keys) } in
      let over = overflow-are pages (length keys) own paged in
      let sheets = overflow_sheets pages own in
      pairs-join (NotBehind lines) (map (record_of_sheet keys) sheets) (all_records keys pages (segments (length keys) records (map f records)))
      (mapped sheets over.places over.rise) rest
      (All-map (λ (e : PageRecordOf). All (NotBehind lines e) (all_records keys pages (segments (length keys) records (map f records)))) (record_of_sheet keys) sheets
      (λ k d h. (let sheet = get_or sheets k d in let place = (over.places) k d h in let to = place.to in
      let above : All (λ (r : PageRecordOf). sheet.start < f r) records = ends records order sheet.start to in
      later-after (key_spot lines (get_or keys sheet.start no_key)) sheet.start records
      (λ j e g. ahead-back (key_spot lines (get_or keys sheet.start no_key)) (spot_of lines (get_or records j e)) (start-below next lines keys ids are present (get_or records j e) sheet.start (above j e g) place.inside))
      (λ p low inside. rows-order next lines keys ids are present sheet.start p low inside)
      (λ j e g. (let a = above j e g in omega (arith, a))))))
    where
      mapped : (ss : List SheetOf) → All (Places (record { owner = it; next = first_label records; start = start; end = slice_index_or (map (record_start lines keys) records) 0 (length keys) }) (length keys)) ss
          → AllPairs Starts ss → AllPairs (NotBehind lines) (map (record_of_sheet keys) ss)
      mapped [] places rise = λ i j d less inside. absurd (omega (arith, less, inside))
      mapped (s ∷ ss) places rise =
          let own : SegmentOf = record { owner = it; next = first_label records; start = start; end = slice_index_or (map (record_start lines keys) records) 0 (length keys) } in
          let P = Places own (length keys) in
          let more = All-tail P s ss places in
          AllPairs-cons (NotBehind lines) (record_of_sheet keys s) (map (record_of_sheet keys) ss)
          (All-map (NotBehind lines (record_of_sheet keys s)) (record_of_sheet keys) ss
          (λ k d h. (let less = pairs-head Starts s ss rise k d h in rows-order next lines keys ids are present s.start (get_or ss k d).start (omega (arith, less)) (more k d h).inside)))
          (mapped ss more (pairs-tail Starts s ss rise))

      ends : (rs : List PageRecordOf) → AllPairs (NotBehind lines) rs → (p : ℕ) → p < slice_index_or (map (record_start lines keys) rs) 0 (length keys) → All (λ (r : PageRecordOf). p < record_start lines keys r) rs
      ends [] order p less = All-nil (λ (r : PageRecordOf). p < record_start lines keys r)
      ends (r ∷ rs) order p less =
          All-cons (λ (x : PageRecordOf). p < record_start lines keys x) r rs less
          (λ k d h. (let follow = starts-follow r (get_or rs k d) (pairs-head (NotBehind lines) r rs order k d h) in omega (arith, follow, less)))

  -- All records but the first of a text.
  pub all-order : (records : List PageRecordOf) → AllPairs (NotBehind lines) records
      → AllPairs (NotBehind lines) (all_records keys pages (segments (length keys) records (map (record_start lines keys) records)))
  all-order [] order = λ i j d less inside. absurd (omega (arith, less, inside))
  all-order (it ∷ records) order =
      let f = record_start lines keys in
      let later = pairs-tail (NotBehind lines) it records order in
      let head = pairs-head (NotBehind lines) it records order in
      let rest = all-order records later in
      let own : SegmentOf = record { owner = it; next = first_label records; start = f it; end = slice_index_or (map f records) 0 (length keys) } in
      let over = (overflow-are pages (length keys) own paged).places in
      let mine = map (record_of_sheet keys) (overflow_sheets pages own) in
      AllPairs-cons (NotBehind lines) it (mine ++ all_records keys pages (segments (length keys) records (map f records)))
      (All-append (NotBehind lines it) mine (all_records keys pages (segments (length keys) records (map f records)))
      (All-map (NotBehind lines it) (record_of_sheet keys) (overflow_sheets pages own)
      (λ k d h. (let o = over k d h in start-above next lines keys ids are present it (get_or (overflow_sheets pages own) k d).start o.from o.inside)))
      (later-after (spot_of lines it) (f it) records head (λ p low inside. start-above next lines keys ids are present it p low inside)
      (λ k d h. starts-follow it (get_or records k d) (head k d h))))
      (behind-order it (f it) records later rest)
