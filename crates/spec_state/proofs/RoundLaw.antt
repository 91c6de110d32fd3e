-- A lock of pages and a round leave the sheets of records as they were.
use Rattle.std.proofs.Common.{◌≡◌, ℕ, suc, ◌<◌, Bool, true, false, not, ◌&&◌, ◌||◌, List, [], ◌∷◌, ◌++◌, map, length, get_or, refl, sym, ap, ap₂, subst, ◌∙◌, append-nil}
use Rattle.std.specs.Prelude.{All, filter, fold}
use Rattle.std.proofs.lemmas.List.{length-map}
use Rattle.std.proofs.lemmas.List.Elements.{All-nil, All-cons, All-head, All-tail}
use Rattle.spec_text.specs.Lines.{LineState}
use Rattle.spec_labels.specs.declared.RowKey.{RowKey}
use Rattle.spec_labels.specs.Labels.{IsLabel, Below}
use Rattle.spec_labels.specs.PageRecords.{PageRecordOf, RisingRecords, SheetOf, segments, record_start, record_starts, sheets_of_records, record_of_sheet, is_new, put_in, extended_page_records}
use Rattle.spec_pages.specs.Heights.{Heights, starts_of}
use Rattle.spec_pages.specs.OwnPages.{is_among}
use Rattle.spec_pages.proofs.OpenedPages.{OneFits, starts-opened, stop-is-page}
use Rattle.spec_text.proofs.ListLaws.{filter-whole}
use Rattle.spec_labels.specs.OwnRecords.{all_records, all_starts}
use Rattle.spec_labels.proofs.StartLaws.{record_starts-low}
use Rattle.spec_state.proofs.OpenSheets.{start_of_sheet, AreOpen, sheets-open}
use Rattle.spec_state.proofs.RecordsOpen.{alike-sheets, records-open}
use Rattle.spec_state.proofs.SinglePages.{IsSingle, open-single, records-single}
use Rattle.spec_labels.proofs.RecordInsert.{sheets-put, Rise}
use Rattle.spec_state.proofs.NewSheets.{extended-all}
use Rattle.spec_labels.specs.Anchors.{AreKeys}
use Rattle.spec_state.proofs.OpenStarts.{own-start, opened-starts}
use Rattle.spec_pages.proofs.StartLists.{starts-are, among-append}
use Rattle.spec_state.proofs.OpenPages.{starts-paged, pages-same}

-- Records after all of their pages are records: their pages and their sheets, in so many rows.
pub record SheetsStay (lines : List LineState) (keys : List RowKey) (rows limit : ℕ) (heights : Heights) (breaks : List ℕ) (records news : List PageRecordOf) : Type 0 where
  pub pages : starts_of limit heights rows (breaks ++ record_starts lines keys news) ≡ starts_of limit heights rows (breaks ++ record_starts lines keys records)
  pub sheets : sheets_of_records rows news (record_starts lines keys news) (starts_of limit heights rows (breaks ++ record_starts lines keys news))
      ≡ sheets_of_records rows records (record_starts lines keys records) (starts_of limit heights rows (breaks ++ record_starts lines keys records))
  pub single : All (IsSingle (starts_of limit heights rows (breaks ++ record_starts lines keys news))) (segments rows news (record_starts lines keys news))

-- The next round, on locked pages: each overflow page becomes a record, in its place.
pub round-stays : (lines : List LineState) (keys : List RowKey) (limit : ℕ) (heights : Heights) (breaks : List ℕ) (it : PageRecordOf) (records : List PageRecordOf)
    → AreKeys lines keys → OneFits limit heights → All (λ (r : PageRecordOf). IsLabel r.label) (it ∷ records) → RisingRecords (it ∷ records)
    → SheetsStay lines keys (length keys) limit heights breaks (it ∷ records)
    (extended_page_records (it ∷ records) (sheets_of_records (length keys) (it ∷ records) (record_starts lines keys (it ∷ records))
    (starts_of limit heights (length keys) (breaks ++ record_starts lines keys (it ∷ records)))) keys)
round-stays lines keys limit heights breaks it records are one labels rising =
    let rows = length keys in
    let f = record_start lines keys in
    let starts = map f records in
    let pages = starts_of limit heights rows (breaks ++ (0 ∷ starts)) in
    let segs = segments rows (it ∷ records) (0 ∷ starts) in
    let count : length (0 ∷ starts) ≡ length (it ∷ records) = ap suc (length-map records f) in
    let low = record_starts-low lines keys (it ∷ records) in
    let paged = starts-are limit heights rows (breaks ++ (0 ∷ starts)) in
    let begins = starts-paged limit heights rows breaks (it ∷ records) (0 ∷ starts) low in
    let made = extended-all pages rows keys (it ∷ records) (0 ∷ starts) count labels rising in
    let begun : record_starts lines keys (all_records keys pages segs) ≡ all_starts pages segs = opened-starts lines keys pages (it ∷ records) are paged begins in
    let same : starts_of limit heights rows (breaks ++ all_starts pages segs) ≡ pages = pages-same limit heights rows breaks (it ∷ records) starts one count low in
    let stays : SheetsStay lines keys (length keys) limit heights breaks (it ∷ records) (all_records keys pages segs) = record {
      pages = ap (λ (ns : List ℕ). starts_of limit heights rows (breaks ++ ns)) begun ∙ same;
      sheets = ap (λ (ns : List ℕ). sheets_of_records rows (all_records keys pages segs) ns (starts_of limit heights rows (breaks ++ ns))) begun
          ∙ ap (λ (ps : List ℕ). sheets_of_records rows (all_records keys pages segs) (all_starts pages segs) ps) same
          ∙ alike-sheets pages rows (it ∷ records) (0 ∷ starts) (all_records keys pages segs) (all_starts pages segs)
          (records-open pages rows keys (it ∷ records) (0 ∷ starts) paged.rise count begins);
      single = subst (λ (ns : List ℕ). All (IsSingle (starts_of limit heights rows (breaks ++ ns))) (segments rows (all_records keys pages segs) ns)) (sym begun)
          (subst (λ (ps : List ℕ). All (IsSingle ps) (segments rows (all_records keys pages segs) (all_starts pages segs))) (sym same)
          (records-single pages rows keys (it ∷ records) (0 ∷ starts) paged.rise count begins));
    } in
    subst (SheetsStay lines keys (length keys) limit heights breaks (it ∷ records)) (sym made) stays

-- The records that the next round makes of these.
abbrev pub round_records : List LineState → List RowKey → ℕ → ℕ → Heights → List ℕ → List PageRecordOf → List PageRecordOf
round_records lines keys rows limit heights breaks records =
    extended_page_records records (sheets_of_records rows records (record_starts lines keys records) (starts_of limit heights rows (breaks ++ record_starts lines keys records))) keys

pub round-stays-in : (lines : List LineState) (keys : List RowKey) (rows limit : ℕ) (heights : Heights) (breaks : List ℕ) (it : PageRecordOf) (records : List PageRecordOf) → length keys ≡ rows
    → AreKeys lines keys → OneFits limit heights → All (λ (r : PageRecordOf). IsLabel r.label) (it ∷ records) → RisingRecords (it ∷ records)
    → SheetsStay lines keys rows limit heights breaks (it ∷ records) (round_records lines keys rows limit heights breaks (it ∷ records))
round-stays-in lines keys rows limit heights breaks it records count are one labels rising =
    subst (λ n. SheetsStay lines keys n limit heights breaks (it ∷ records) (round_records lines keys n limit heights breaks (it ∷ records))) count
    (round-stays lines keys limit heights breaks it records are one labels rising)

-- ---- the lock of pages

-- All sheets are new where there are no records.
all-new : (sheets : List SheetOf) → All (λ (s : SheetOf). s.omitted ≡ false) sheets → filter (is_new []) sheets ≡ sheets
all-new sheets shown = filter-whole (is_new []) sheets (λ k d h. ap (λ b. not b && true) (shown k d h))

-- What the lock makes of sheets with labels of their own, one page each.
pub record Locking (pages : List ℕ) (rows : ℕ) (sheets : List SheetOf) : Type 0 where
  pub alone : AreOpen pages rows sheets
  pub rise : Rise sheets
  pub begin : map start_of_sheet sheets ≡ pages
  pub shown : All (λ (s : SheetOf). s.omitted ≡ false) sheets

pub locked-all : (pages : List ℕ) (rows : ℕ) (keys : List RowKey) (sheets : List SheetOf) → Locking pages rows sheets → extended_page_records [] sheets keys ≡ map (record_of_sheet keys) sheets
locked-all pages rows keys sheets is =
    ap (λ (ss : List SheetOf). fold put_in [] (map (record_of_sheet keys) ss)) (all-new sheets is.shown)
    ∙ sheets-put keys [] [] sheets (λ k d h. All-nil (λ (it : PageRecordOf). Below it.label (get_or sheets k d).first)) is.rise (λ k d h. tt)
    ∙ append-nil (map (record_of_sheet keys) sheets)

own-starts : (lines : List LineState) (keys : List RowKey) (sheets : List SheetOf) → AreKeys lines keys → All (λ (s : SheetOf). s.start < length keys) sheets
    → map (record_start lines keys) (map (record_of_sheet keys) sheets) ≡ map start_of_sheet sheets
own-starts lines keys [] are low = refl
own-starts lines keys (sheet ∷ sheets) are low =
    ap₂ (λ n (ns : List ℕ). n ∷ ns) (own-start lines keys sheet are (All-head (λ (s : SheetOf). s.start < length keys) sheet sheets low))
    (own-starts lines keys sheets are (All-tail (λ (s : SheetOf). s.start < length keys) sheet sheets low))

-- Sheets of a text without records are those of the records that locking makes of them.
pub record LockStays (lines : List LineState) (keys : List RowKey) (rows limit : ℕ) (heights : Heights) (breaks : List ℕ) (sheets : List SheetOf) (news : List PageRecordOf) : Type 0 where
  pub pages : starts_of limit heights rows (breaks ++ record_starts lines keys news) ≡ starts_of limit heights rows (breaks ++ [])
  pub same : sheets_of_records rows news (record_starts lines keys news) (starts_of limit heights rows (breaks ++ record_starts lines keys news)) ≡ sheets
  pub single : All (IsSingle (starts_of limit heights rows (breaks ++ record_starts lines keys news))) (segments rows news (record_starts lines keys news))

pub lock-stays : (lines : List LineState) (keys : List RowKey) (limit : ℕ) (heights : Heights) (breaks : List ℕ) (sheet : SheetOf) (later : List SheetOf)
    → AreKeys lines keys → OneFits limit heights → Locking (starts_of limit heights (length keys) (breaks ++ [])) (length keys) (sheet ∷ later) → sheet.start ≡ 0
    → LockStays lines keys (length keys) limit heights breaks (sheet ∷ later) (extended_page_records [] (sheet ∷ later) keys)
lock-stays lines keys limit heights breaks sheet later are one is first =
    let rows = length keys in
    let pages = starts_of limit heights rows (breaks ++ []) in
    let paged = starts-are limit heights rows (breaks ++ []) in
    let news = map (record_of_sheet keys) (sheet ∷ later) in
    let low : All (λ (s : SheetOf). s.start < rows) (sheet ∷ later) = λ k d h.
    unmapped (sheet ∷ later) (subst (All (λ page. page < rows)) (sym is.begin) paged.inside) k d h in
    let begun : record_starts lines keys news ≡ pages =
    ap₂ (λ n (ns : List ℕ). n ∷ ns) (sym first) (own-starts lines keys later are (All-tail (λ (s : SheetOf). s.start < rows) sheet later low)) ∙ is.begin in
    let same : starts_of limit heights rows (breaks ++ pages) ≡ pages =
    starts-opened limit heights rows (breaks ++ []) (breaks ++ pages) one (λ t some inside. stop-page t inside) in
    let opens = sheets-open rows rows (record_of_sheet keys sheet) sheet keys later [] [] pages refl refl refl is.alone in
    let at : sheet.start ∷ (map start_of_sheet later ++ []) ≡ pages = ap (λ (ns : List ℕ). sheet.start ∷ ns) (append-nil (map start_of_sheet later)) ∙ is.begin in
    let sheets : sheets_of_records rows news pages pages ≡ sheet ∷ later =
    ap₂ (λ (rs : List PageRecordOf) (ns : List ℕ). sheets_of_records rows rs ns pages)
    (ap (λ (rs : List PageRecordOf). record_of_sheet keys sheet ∷ rs) (sym (append-nil (map (record_of_sheet keys) later)))) (sym at)
    ∙ opens.sheets ∙ append-nil (sheet ∷ later) in
    let stays : LockStays lines keys (length keys) limit heights breaks (sheet ∷ later) news = record {
      pages = ap (λ (ns : List ℕ). starts_of limit heights rows (breaks ++ ns)) begun ∙ same;
      same = ap (λ (ns : List ℕ). sheets_of_records rows news ns (starts_of limit heights rows (breaks ++ ns))) begun
          ∙ ap (λ (ps : List ℕ). sheets_of_records rows news pages ps) same ∙ sheets;
      single = subst (λ (ns : List ℕ). All (IsSingle (starts_of limit heights rows (breaks ++ ns))) (segments rows news ns)) (sym begun)
          (subst (λ (ps : List ℕ). All (IsSingle ps) (segments rows news pages)) (sym same)
          (subst (λ (rs : List PageRecordOf). All (IsSingle pages) (segments rows rs pages)) (ap (λ (rs : List PageRecordOf). record_of_sheet keys sheet ∷ rs) (append-nil (map (record_of_sheet keys) later)))
          (subst (λ (ns : List ℕ). All (IsSingle pages) (segments rows (record_of_sheet keys sheet ∷ (map (record_of_sheet keys) later ++ [])) ns)) at
          (open-single rows rows (record_of_sheet keys sheet) sheet keys later [] [] pages refl is.alone (All-nil (IsSingle pages))))));
    } in
    subst (LockStays lines keys (length keys) limit heights breaks (sheet ∷ later)) (sym (locked-all pages rows keys (sheet ∷ later) is)) stays
  where
    unmapped : (ss : List SheetOf) → All (λ page. page < length keys) (map start_of_sheet ss) → All (λ (s : SheetOf). s.start < length keys) ss
    unmapped [] all = All-nil (λ (s : SheetOf). s.start < length keys)
    unmapped (s ∷ ss) all =
        All-cons (λ (x : SheetOf). x.start < length keys) s ss (All-head (λ page. page < length keys) s.start (map start_of_sheet ss) all)
        (unmapped ss (All-tail (λ page. page < length keys) s.start (map start_of_sheet ss) all))

    or-true : (a b : Bool) → (a ≡ true → b ≡ true) → (a || b) ≡ b
    or-true true b h = sym (h refl)
    or-true false b h = refl

    stop-page : (t : ℕ) → t < length keys → is_among (breaks ++ starts_of limit heights (length keys) (breaks ++ [])) t ≡ is_among (starts_of limit heights (length keys) (breaks ++ [])) t
    stop-page t inside =
        among-append breaks (starts_of limit heights (length keys) (breaks ++ [])) t
        ∙ or-true (is_among breaks t) (is_among (starts_of limit heights (length keys) (breaks ++ [])) t)
        (λ h. stop-is-page limit heights (length keys) (breaks ++ []) t inside (ap (λ (l : List ℕ). is_among l t) (append-nil breaks) ∙ h))

pub lock-stays-in : (lines : List LineState) (keys : List RowKey) (rows limit : ℕ) (heights : Heights) (breaks : List ℕ) (sheet : SheetOf) (later : List SheetOf) → length keys ≡ rows
    → AreKeys lines keys → OneFits limit heights → Locking (starts_of limit heights rows (breaks ++ [])) rows (sheet ∷ later) → sheet.start ≡ 0
    → LockStays lines keys rows limit heights breaks (sheet ∷ later) (extended_page_records [] (sheet ∷ later) keys)
lock-stays-in lines keys rows limit heights breaks sheet later count are one =
    subst (λ n. Locking (starts_of limit heights n (breaks ++ [])) n (sheet ∷ later) → sheet.start ≡ 0 → LockStays lines keys n limit heights breaks (sheet ∷ later) (extended_page_records [] (sheet ∷ later) keys)) count
    (lock-stays lines keys limit heights breaks sheet later are one)
