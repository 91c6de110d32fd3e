-- The sheets that no record has are those of overflow pages.
use Rattle.std.proofs.Common.{◌≡◌, ◌≢◌, ℕ, ◌+◌, Bool, true, false, not, ◌||◌, cond, Ordering, Less, Equal, Greater, is_eq, List, [], ◌∷◌, ◌++◌, map, length, get_or, inl, inr, refl, sym, ap, ap₂, subst, ◌∙◌, append_assoc}
use Rattle.std.specs.Prelude.{All, filter, fold, flat_map, drop, slice_index_or}
use Rattle.std.specs.List.{list_all}
use Rattle.std.proofs.lemmas.Bool.{cases_Bool, and_parts, or_left, or_right}
use Rattle.std.proofs.lemmas.Cmp.{tied_itself}
use Rattle.std.proofs.lemmas.List.Elements.{All-nil, All-cons, All-head, All-tail, All-append, filter-append}
use Rattle.spec_labels.specs.declared.RowKey.{RowKey}
use Rattle.spec_labels.specs.Labels.{LabelOf, IsLabel, label_cmp, Below}
use Rattle.spec_labels.specs.PageRecords.{PageRecordOf, RisingRecords, SegmentOf, SheetOf, first_label, segments, is_empty, page_sheet, page_sheets, segment_pages, omitted_sheet, owner_of, runs_of, run_sheets, sheets_of_records, is_recorded, record_of_sheet, is_new, put_in, extended_page_records}
use Rattle.spec_labels.proofs.LabelOrder.{label_cmp_total, label_cmp-Equal, Below-irreflexive, Below-transitive}
use Rattle.spec_text.proofs.ListLaws.{filter-whole, pairs-head, pairs-tail, All-back}
use Rattle.spec_labels.specs.OwnRecords.{overflow_sheets, all_records}
use Rattle.spec_labels.proofs.RunLeads.{sheets_in_runs, lead_run, behind_lead, sheets-lead, sheets-empty, sheets-full}
use Rattle.spec_labels.proofs.RecordInsert.{Before, Under, Stands, overflow-keeps, all-put}

-- A label that all records have others than isn't recorded.
pub unrecorded : (records : List PageRecordOf) (label : LabelOf) → All (λ (it : PageRecordOf). it.label ≢ label) records → is_recorded records label ≡ false
unrecorded [] label all = refl
unrecorded (it ∷ records) label all =
    ap₂ (λ a b. a || b) (by (label_cmp it.label label) refl) (unrecorded records label (All-tail (λ (r : PageRecordOf). r.label ≢ label) it records all))
  where
    by : (o : Ordering) → label_cmp it.label label ≡ o → is_eq o ≡ false
    by Less is = refl
    by Equal is = absurd (All-head (λ (r : PageRecordOf). r.label ≢ label) it records all (label_cmp-Equal it.label label is))
    by Greater is = refl

pub recorded : (front : List PageRecordOf) (it : PageRecordOf) (behind : List PageRecordOf) → is_recorded (front ++ (it ∷ behind)) it.label ≡ true
recorded [] it behind = or_left (is_eq (label_cmp it.label it.label)) (is_recorded behind it.label) (ap is_eq (tied_itself label_cmp_total it.label))
recorded (f ∷ front) it behind = or_right (is_eq (label_cmp f.label it.label)) (is_recorded (front ++ (it ∷ behind)) it.label) (recorded front it behind)

-- What is known of a segment's labels among all records.
pub record Owned (all : List PageRecordOf) (pages : List ℕ) (segment : SegmentOf) : Type 0 where
  pub owner : is_recorded all segment.owner.label ≡ true
  pub others : All (λ (sheet : SheetOf). is_recorded all sheet.first ≡ false) (overflow_sheets pages segment)

lead-none : (all : List PageRecordOf) (pages : List ℕ) (runs : List (List SegmentOf)) → filter (is_new all) (run_sheets pages (lead_run runs)) ≡ []
lead-none all pages [] = refl
lead-none all pages (run ∷ runs) = by (list_all is_empty run) run refl
  where
    by : (b : Bool) (r : List SegmentOf) → list_all is_empty r ≡ b → filter (is_new all) (run_sheets pages (cond b r [])) ≡ []
    by false r is = refl
    by true [] is = refl
    by true (segment ∷ others) is =
        ap (λ b. filter (is_new all) (cond b (omitted_sheet segment.start segment.owner (map owner_of others) ∷ []) (page_sheets segment 0 (segment_pages segment pages))))
        (and_parts (is_empty segment) (list_all is_empty others) is).0

full-new : (all : List PageRecordOf) (pages : List ℕ) (segment : SegmentOf) → is_empty segment ≡ false → Owned all pages segment
    → filter (is_new all) (page_sheets segment 0 (segment_pages segment pages)) ≡ overflow_sheets pages segment
full-new all pages segment full owned = by (segment_pages segment pages) refl ∙ sym (ap (λ b. cond b [] (drop 1 (page_sheets segment 0 (segment_pages segment pages)))) full)
  where
    by : (ps : List ℕ) → segment_pages segment pages ≡ ps → filter (is_new all) (page_sheets segment 0 ps) ≡ drop 1 (page_sheets segment 0 ps)
    by [] is = refl
    by (p ∷ ps) is =
        let rest = page_sheets segment 1 ps in
        let mine : overflow_sheets pages segment ≡ rest = ap (λ b. cond b [] (drop 1 (page_sheets segment 0 (segment_pages segment pages)))) full ∙ ap (λ (l : List ℕ). drop 1 (page_sheets segment 0 l)) is in
        let news : All (λ (s : SheetOf). is_new all s ≡ true) rest = shown 1 ps (subst (All (λ (s : SheetOf). is_recorded all s.first ≡ false)) mine owned.others) in
        ap (λ b. cond (not b) (page_sheet segment 0 p ps ∷ filter (is_new all) rest) (filter (is_new all) rest)) owned.owner
        ∙ filter-whole (is_new all) rest news
      where
        shown : (m : ℕ) (qs : List ℕ) → All (λ (s : SheetOf). is_recorded all s.first ≡ false) (page_sheets segment m qs) → All (λ (s : SheetOf). is_new all s ≡ true) (page_sheets segment m qs)
        shown m [] none = All-nil (λ (s : SheetOf). is_new all s ≡ true)
        shown m (q ∷ qs) none =
            let P = λ (s : SheetOf). is_recorded all s.first ≡ false in
            All-cons (λ (s : SheetOf). is_new all s ≡ true) (page_sheet segment m q qs) (page_sheets segment (m + 1) qs)
            (ap not (All-head P (page_sheet segment m q qs) (page_sheets segment (m + 1) qs) none))
            (shown (m + 1) qs (All-tail P (page_sheet segment m q qs) (page_sheets segment (m + 1) qs) none))

-- The new sheets of segments.
pub new-sheets : (all : List PageRecordOf) (pages : List ℕ) (segs : List SegmentOf) → All (Owned all pages) segs
    → filter (is_new all) (sheets_in_runs pages (runs_of segs)) ≡ flat_map (overflow_sheets pages) segs
new-sheets all pages [] owned = refl
new-sheets all pages (segment ∷ segs) owned =
    let runs = runs_of segs in
    let rest = new-sheets all pages segs (All-tail (Owned all pages) segment segs owned) in
    elim (cases_Bool (is_empty segment)) [
      | inl empty ↦
          let behind : filter (is_new all) (sheets_in_runs pages (behind_lead runs)) ≡ filter (is_new all) (sheets_in_runs pages runs) =
          sym (ap (filter (is_new all)) (sheets-lead pages runs) ∙ filter-append (is_new all) (run_sheets pages (lead_run runs)) (sheets_in_runs pages (behind_lead runs))
          ∙ ap (λ (l : List SheetOf). l ++ filter (is_new all) (sheets_in_runs pages (behind_lead runs))) (lead-none all pages runs)) in
          ap (filter (is_new all)) (sheets-empty pages segment runs empty) ∙ behind ∙ rest
          ∙ sym (ap (λ b. cond b [] (drop 1 (page_sheets segment 0 (segment_pages segment pages))) ++ flat_map (overflow_sheets pages) segs) empty)
      | inr full ↦
          ap (filter (is_new all)) (sheets-full pages segment runs full)
          ∙ filter-append (is_new all) (page_sheets segment 0 (segment_pages segment pages)) (sheets_in_runs pages runs)
          ∙ ap₂ (λ (a b : List SheetOf). a ++ b) (full-new all pages segment full (All-head (Owned all pages) segment segs owned)) rest
    ]

-- So it is for rising records.
pub all-owned : (front records : List PageRecordOf) (pages : List ℕ) (rows : ℕ) (starts : List ℕ) → RisingRecords (front ++ records) → All (λ (r : PageRecordOf). IsLabel r.label) records
    → All (Owned (front ++ records) pages) (segments rows records starts)
all-owned front [] pages rows starts rising labels = All-nil (Owned (front ++ []) pages)
all-owned front (it ∷ records) pages rows [] rising labels = All-nil (Owned (front ++ (it ∷ records)) pages)
all-owned front (it ∷ records) pages rows (start ∷ starts) rising labels =
    let own : SegmentOf = record { owner = it; next = first_label records; start = start; end = slice_index_or starts 0 rows } in
    let split = append_assoc front (it ∷ []) records in
    let behind : RisingRecords (it ∷ records) = back front rising in
    let stands : Stands it records = first records (All-tail (λ (r : PageRecordOf). IsLabel r.label) it records labels) (pairs-head Before it records behind) in
    let keeps = overflow-keeps pages it records start (slice_index_or starts 0 rows) stands in
    let each = keeps.each in
    All-cons (Owned (front ++ (it ∷ records)) pages) own (segments rows records starts)
    (record {
      owner = recorded front it records;
      others = λ k d h.
          let sheet = get_or (overflow_sheets pages own) k d in
          let is = each k d h in
          unrecorded (front ++ (it ∷ records)) sheet.first
          (All-append (λ (r : PageRecordOf). r.label ≢ sheet.first) front (it ∷ records)
          (λ i e g same. Below-irreflexive sheet.first (subst (λ l. Below l sheet.first) same (Below-transitive (before front rising i e g) is.above)))
          (All-cons (λ (r : PageRecordOf). r.label ≢ sheet.first) it records (λ same. Below-irreflexive sheet.first (subst (λ l. Below l sheet.first) same is.above))
          (after records sheet.first is.below (pairs-tail Before it records behind))));
    })
    (subst (λ (rs : List PageRecordOf). All (Owned rs pages) (segments rows records starts)) split
    (all-owned (front ++ (it ∷ [])) records pages rows starts (subst RisingRecords (sym split) rising) (All-tail (λ (r : PageRecordOf). IsLabel r.label) it records labels)))
  where
    back : (f : List PageRecordOf) → RisingRecords (f ++ (it ∷ records)) → RisingRecords (it ∷ records)
    back [] rises = rises
    back (r ∷ f) rises = back f (pairs-tail Before r (f ++ (it ∷ records)) rises)

    before : (f : List PageRecordOf) → RisingRecords (f ++ (it ∷ records)) → All (λ (r : PageRecordOf). Below r.label it.label) f
    before [] rises = All-nil (λ (r : PageRecordOf). Below r.label it.label)
    before (r ∷ f) rises =
        All-cons (λ (r : PageRecordOf). Below r.label it.label) r f
        (All-head (Before r) it records (All-back (Before r) f (it ∷ records) (pairs-head Before r (f ++ (it ∷ records)) rises)))
        (before f (pairs-tail Before r (f ++ (it ∷ records)) rises))

    first : (rs : List PageRecordOf) → All (λ (r : PageRecordOf). IsLabel r.label) rs → All (Before it) rs → Stands it rs
    first [] ls above = record { above = tt; labels = tt }
    first (r ∷ rs) ls above = record { above = All-head (Before it) r rs above; labels = All-head (λ (x : PageRecordOf). IsLabel x.label) r rs ls }

    after : (rs : List PageRecordOf) (label : LabelOf) → Under label rs → RisingRecords rs → All (λ (r : PageRecordOf). r.label ≢ label) rs
    after [] label under rises = All-nil (λ (r : PageRecordOf). r.label ≢ label)
    after (r ∷ rs) label under rises =
        All-cons (λ (x : PageRecordOf). x.label ≢ label) r rs (λ same. Below-irreflexive label (subst (Below label) same under))
        (λ k d h same. Below-irreflexive label (subst (Below label) same (Below-transitive under (pairs-head Before r rs rises k d h))))

-- The extended list: each record, and one for each of its overflow pages.
pub extended-all : (pages : List ℕ) (rows : ℕ) (keys : List RowKey) (records : List PageRecordOf) (starts : List ℕ) → length starts ≡ length records
    → All (λ (r : PageRecordOf). IsLabel r.label) records → RisingRecords records
    → extended_page_records records (sheets_of_records rows records starts pages) keys ≡ all_records keys pages (segments rows records starts)
extended-all pages rows keys records starts count labels rising =
    ap (λ (ss : List SheetOf). fold put_in records (map (record_of_sheet keys) ss)) (new-sheets records pages (segments rows records starts) (all-owned [] records pages rows starts rising labels))
    ∙ all-put pages rows keys [] records starts count labels rising (All-nil (λ (r : PageRecordOf). Under r.label records))
