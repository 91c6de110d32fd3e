-- The records of overflow pages begin where their pages do.
use Rattle.std.proofs.Common.{◌≡◌, ℕ, ◌+◌, ◌<◌, Bool, true, false, not, ◌&&◌, ◌||◌, cond, eqb, List, [], ◌∷◌, ◌++◌, map, length, get_or, inl, inr, refl, sym, ap, ap₂, subst, ◌∙◌, arith}
use Rattle.std.specs.Prelude.{All, filter, drop, slice_index_or}
use Rattle.std.specs.List.{position_or_len}
use Rattle.std.proofs.lemmas.Bool.{cases_Bool, leb-false, le-ltb, ne_eqb}
use Rattle.std.proofs.lemmas.List.{map-append}
use Rattle.std.proofs.lemmas.List.Elements.{All-head, All-tail, All-filter}
use Rattle.std.proofs.lemmas.List.Sums.{position_or_len_is}
use Rattle.spec_text.specs.Lines.{LineState}
use Rattle.spec_labels.specs.declared.RowKey.{RowKey}
use Rattle.spec_labels.specs.PageRecords.{PageRecordOf, SegmentOf, SheetOf, line_at, end_line, is_before, record_start, record_starts, first_label, segments, is_empty, page_sheet, page_sheets, segment_pages, record_of_sheet}
use Rattle.spec_pages.specs.OwnPages.{lies_in}
use Rattle.spec_labels.specs.Anchors.{AreKeys}
use Rattle.spec_labels.specs.OwnRecords.{overflow_sheets, own_starts, all_records, all_starts}
use Rattle.spec_pages.proofs.StartLists.{ArePagesOf}
use Rattle.spec_state.proofs.PageSheets.{first-page}
use Rattle.spec_state.proofs.RecordsOpen.{Paged}

not-before : (lines : List LineState) (key : RowKey) → is_before lines key key ≡ false
not-before lines key =
    ap₂ (λ a b. a || (eqb (line_at lines key.line) (line_at lines key.line) && b)) (le-ltb (line_at lines key.line) (line_at lines key.line) (omega arith)) (le-ltb key.row key.row (omega arith))
    ∙ by (eqb (line_at lines key.line) (line_at lines key.line))
  where
    by : (b : Bool) → (false || (b && false)) ≡ false
    by true = refl
    by false = refl

-- A record that is anchored at a row begins there.
pub own-start : (lines : List LineState) (keys : List RowKey) (sheet : SheetOf) → AreKeys lines keys → sheet.start < length keys
    → record_start lines keys (record_of_sheet keys sheet) ≡ sheet.start
own-start lines keys sheet are inside =
    let key = get_or keys sheet.start (record { line = end_line; row = 0 }) in
    let before : RowKey → Bool = λ one. not (is_before lines one key) in
    ap (λ b. cond b (length keys) (position_or_len before keys)) (ne_eqb key.line end_line (are.inside sheet.start (record { line = end_line; row = 0 }) inside))
    ∙ position_or_len_is before keys sheet.start (record { line = end_line; row = 0 }) (omega (arith, inside))
    (λ k less. ap not (are.rise k sheet.start (record { line = end_line; row = 0 }) less inside))
    (λ h. ap not (not-before lines key))

page-starts : (lines : List LineState) (keys : List RowKey) (segment : SegmentOf) (m : ℕ) (pages : List ℕ) → AreKeys lines keys → All (λ page. page < length keys) pages
    → map (record_start lines keys) (map (record_of_sheet keys) (page_sheets segment m pages)) ≡ pages
page-starts lines keys segment m [] are all = refl
page-starts lines keys segment m (page ∷ later) are all =
    ap₂ (λ n (ns : List ℕ). n ∷ ns) (own-start lines keys (page_sheet segment m page later) are (All-head (λ p. p < length keys) page later all))
    (page-starts lines keys segment (m + 1) later are (All-tail (λ p. p < length keys) page later all))

-- A segment's first row, and those of its overflow pages.
pub overflow-starts : (lines : List LineState) (keys : List RowKey) (pages : List ℕ) (segment : SegmentOf) → AreKeys lines keys → ArePagesOf (length keys) pages → Paged pages segment
    → segment.start ∷ map (record_start lines keys) (map (record_of_sheet keys) (overflow_sheets pages segment)) ≡ own_starts pages segment
overflow-starts lines keys pages segment are paged begins =
    elim (cases_Bool (is_empty segment)) [
      | inl empty ↦
          ap (λ b. segment.start ∷ map (record_start lines keys) (map (record_of_sheet keys) (cond b [] (drop 1 (page_sheets segment 0 (segment_pages segment pages)))))) empty
          ∙ sym (ap (λ b. cond b (segment.start ∷ []) (segment_pages segment pages)) empty)
      | inr full ↦
          let some : segment.start < segment.end = leb-false segment.end segment.start full in
          let first = first-page segment pages some paged.rise (begins some) in
          let low : All (λ page. page < length keys) (segment.start ∷ first.0) = subst (All (λ page. page < length keys)) first.1 (filtered (lies_in segment.start segment.end) pages paged.inside) in
          ap (λ b. segment.start ∷ map (record_start lines keys) (map (record_of_sheet keys) (cond b [] (drop 1 (page_sheets segment 0 (segment_pages segment pages)))))) full
          ∙ ap (λ (ps : List ℕ). segment.start ∷ map (record_start lines keys) (map (record_of_sheet keys) (drop 1 (page_sheets segment 0 ps)))) first.1
          ∙ ap (λ (ps : List ℕ). segment.start ∷ ps) (page-starts lines keys segment 1 first.0 are (All-tail (λ page. page < length keys) segment.start first.0 low))
          ∙ sym (ap (λ b. cond b (segment.start ∷ []) (segment_pages segment pages)) full ∙ first.1)
    ]
  where
    filtered : (test : ℕ → Bool) (ps : List ℕ) → All (λ page. page < length keys) ps → All (λ page. page < length keys) (filter test ps)
    filtered test ps all = All-filter test (λ page. page < length keys) ps all

-- The starts of all records but the first.
later-starts : (lines : List LineState) (keys : List RowKey) (pages : List ℕ) (records : List PageRecordOf) → AreKeys lines keys → ArePagesOf (length keys) pages
    → All (Paged pages) (segments (length keys) records (map (record_start lines keys) records))
    → map (record_start lines keys) (all_records keys pages (segments (length keys) records (map (record_start lines keys) records)))
    ≡ all_starts pages (segments (length keys) records (map (record_start lines keys) records))
later-starts lines keys pages [] are paged begins = refl
later-starts lines keys pages (it ∷ records) are paged begins =
    let f = record_start lines keys in
    let starts = map f records in
    let own : SegmentOf = record { owner = it; next = first_label records; start = f it; end = slice_index_or starts 0 (length keys) } in
    let later = segments (length keys) records starts in
    let mine = map (record_of_sheet keys) (overflow_sheets pages own) in
    ap (λ (ns : List ℕ). f it ∷ ns) (map-append f mine (all_records keys pages later))
    ∙ ap₂ (λ (a b : List ℕ). a ++ b) (overflow-starts lines keys pages own are paged (All-head (Paged pages) own later begins))
    (later-starts lines keys pages records are paged (All-tail (Paged pages) own later begins))

-- The starts of the records of all pages.
pub opened-starts : (lines : List LineState) (keys : List RowKey) (pages : List ℕ) (records : List PageRecordOf) → AreKeys lines keys → ArePagesOf (length keys) pages
    → All (Paged pages) (segments (length keys) records (record_starts lines keys records))
    → record_starts lines keys (all_records keys pages (segments (length keys) records (record_starts lines keys records)))
    ≡ all_starts pages (segments (length keys) records (record_starts lines keys records))
opened-starts lines keys pages [] are paged begins = refl
opened-starts lines keys pages (it ∷ records) are paged begins =
    let f = record_start lines keys in
    let starts = map f records in
    let own : SegmentOf = record { owner = it; next = first_label records; start = 0; end = slice_index_or starts 0 (length keys) } in
    let later = segments (length keys) records starts in
    let mine = map (record_of_sheet keys) (overflow_sheets pages own) in
    ap (λ (ns : List ℕ). 0 ∷ ns) (map-append f mine (all_records keys pages later))
    ∙ ap₂ (λ (a b : List ℕ). a ++ b) (overflow-starts lines keys pages own are paged (All-head (Paged pages) own later begins))
    (later-starts lines keys pages records are paged (All-tail (Paged pages) own later begins))
