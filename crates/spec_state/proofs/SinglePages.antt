-- Where every page of records is a record, each segment with rows is one page.
use Rattle.std.proofs.Common.{◌≡◌, ℕ, ◌<◌, cond, List, [], ◌∷◌, ◌++◌, map, length, inl, inr, sym, ap, subst, ◌∙◌, arith}
use Rattle.std.specs.Prelude.{All, filter, slice_index_or, drop}
use Rattle.std.proofs.lemmas.Bool.{cases_Bool, leb-true, leb-false}
use Rattle.std.proofs.lemmas.List.Elements.{All-nil, All-cons, All-head, All-tail}
use Rattle.spec_labels.specs.declared.RowKey.{RowKey}
use Rattle.spec_labels.specs.PageRecords.{PageRecordOf, SegmentOf, SheetOf, first_label, segments, is_empty, page_sheet, page_sheets, segment_pages, record_of_sheet}
use Rattle.spec_pages.specs.OwnPages.{lies_in}
use Rattle.spec_labels.specs.OwnRecords.{own_records, own_starts, all_records, all_starts}
use Rattle.spec_state.proofs.OpenSheets.{start_of_sheet, AreOpen, opened_segments}
use Rattle.spec_pages.proofs.StartLists.{AreAbove}
use Rattle.spec_state.proofs.PageSheets.{first-page, starts-pages, pages-open}
use Rattle.spec_state.proofs.RecordsOpen.{Paged, records-open}

-- A segment with rows has one page.
abbrev pub IsSingle : List ℕ → SegmentOf → Type 0
IsSingle pages segment = segment.start < segment.end → segment_pages segment pages ≡ segment.start ∷ []

pub open-single : (rows end : ℕ) (it : PageRecordOf) (sheet : SheetOf) (keys : List RowKey) (later : List SheetOf) (records : List PageRecordOf) (starts pages : List ℕ)
    → slice_index_or starts 0 rows ≡ end → AreOpen pages end (sheet ∷ later) → All (IsSingle pages) (segments rows records starts)
    → All (IsSingle pages) (opened_segments rows it sheet keys later records starts)
open-single rows end it sheet keys [] records starts pages is are rest =
    All-cons (IsSingle pages) (record { owner = it; next = first_label records; start = sheet.start; end = slice_index_or starts 0 rows }) (segments rows records starts)
    (λ some. ap (λ e. filter (lies_in sheet.start e) pages) (is ∙ sym (are.0).ends) ∙ (are.0).one) rest
open-single rows end it sheet keys (next ∷ later) records starts pages is are rest =
    All-cons (IsSingle pages)
    (record { owner = it; next = first_label (record_of_sheet keys next ∷ (map (record_of_sheet keys) later ++ records)); start = sheet.start; end = next.start })
    (opened_segments rows (record_of_sheet keys next) next keys later records starts)
    (λ some. ap (λ e. filter (lies_in sheet.start e) pages) (sym (are.0).ends) ∙ (are.0).one)
    (open-single rows end (record_of_sheet keys next) next keys later records starts pages is are.1 rest)

pub records-single : (pages : List ℕ) (rows : ℕ) (keys : List RowKey) (records : List PageRecordOf) (starts : List ℕ) → AreAbove pages → length starts ≡ length records
    → All (Paged pages) (segments rows records starts)
    → All (IsSingle pages) (segments rows (all_records keys pages (segments rows records starts)) (all_starts pages (segments rows records starts)))
records-single pages rows keys [] [] rising count paged = All-nil (IsSingle pages)
records-single pages rows keys [] (start ∷ starts) rising count paged = absurd (omega (arith, count))
records-single pages rows keys (it ∷ records) [] rising count paged = absurd (omega (arith, count))
records-single pages rows keys (it ∷ records) (start ∷ starts) rising count paged =
    let later = segments rows records starts in
    let own : SegmentOf = record { owner = it; next = first_label records; start = start; end = slice_index_or starts 0 rows } in
    let more = All-tail (Paged pages) own later paged in
    let rest = records-single pages rows keys records starts rising (omega (arith, count)) more in
    let alike = records-open pages rows keys records starts rising (omega (arith, count)) more in
    let news = all_records keys pages later in
    let begins = all_starts pages later in
    let at = alike.start in
    elim (cases_Bool (is_empty own)) [
      | inl empty ↦
          let a : own_records keys pages own ++ news ≡ it ∷ news = ap (λ b. it ∷ (map (record_of_sheet keys) (cond b [] (drop 1 (page_sheets own 0 (segment_pages own pages)))) ++ news)) empty in
          let b : own_starts pages own ++ begins ≡ start ∷ begins = ap (λ b. cond b (start ∷ []) (segment_pages own pages) ++ begins) empty in
          let low = leb-true (slice_index_or starts 0 rows) start empty in
          subst (λ n. All (IsSingle pages) (segments rows n (own_starts pages own ++ begins))) (sym a)
          (subst (λ n. All (IsSingle pages) (segments rows (it ∷ news) n)) (sym b)
          (All-cons (IsSingle pages) (record { owner = it; next = first_label news; start = start; end = slice_index_or begins 0 rows }) (segments rows news begins)
          (λ some. absurd (omega (arith, some, at, low))) rest))
      | inr full ↦
          let some : start < slice_index_or starts 0 rows = leb-false (slice_index_or starts 0 rows) start full in
          let first = first-page own pages some rising (All-head (Paged pages) own later paged some) in
          let sheets = page_sheets own 1 first.0 in
          let a : own_records keys pages own ++ news ≡ it ∷ (map (record_of_sheet keys) sheets ++ news) =
          ap (λ b. it ∷ (map (record_of_sheet keys) (cond b [] (drop 1 (page_sheets own 0 (segment_pages own pages)))) ++ news)) full
          ∙ ap (λ (ps : List ℕ). it ∷ (map (record_of_sheet keys) (drop 1 (page_sheets own 0 ps)) ++ news)) first.1 in
          let b : own_starts pages own ++ begins ≡ start ∷ (map start_of_sheet sheets ++ begins) =
          ap (λ b. cond b (start ∷ []) (segment_pages own pages) ++ begins) full ∙ ap (λ (ps : List ℕ). ps ++ begins) first.1
          ∙ ap (λ (ps : List ℕ). start ∷ (ps ++ begins)) (sym (starts-pages own 1 first.0)) in
          subst (λ n. All (IsSingle pages) (segments rows n (own_starts pages own ++ begins))) (sym a)
          (subst (λ n. All (IsSingle pages) (segments rows (it ∷ (map (record_of_sheet keys) sheets ++ news)) n)) (sym b)
          (open-single rows own.end it (page_sheet own 0 start first.0) keys sheets news begins pages at (pages-open own pages [] start first.0 0 rising first.1) rest))
    ]
