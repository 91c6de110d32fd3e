-- Where every page of records is a record, the sheets stay.
use Rattle.std.proofs.Common.{◌≡◌, ℕ, ◌<◌, ◌≤◌, true, false, cond, List, [], ◌∷◌, ◌++◌, map, length, inl, inr, refl, sym, ap, ap₂, subst, ◌∙◌, arith}
use Rattle.std.specs.Prelude.{All, slice_index_or, drop}
use Rattle.std.proofs.lemmas.Bool.{cases_Bool, leb-true, leb-false, le-leb, lt-leb}
use Rattle.std.proofs.lemmas.List.Elements.{All-head, All-tail}
use Rattle.spec_labels.specs.declared.RowKey.{RowKey}
use Rattle.spec_labels.specs.PageRecords.{PageRecordOf, SegmentOf, SheetOf, first_label, segments, is_empty, page_sheet, page_sheets, segment_pages, runs_of, run_sheets, record_of_sheet}
use Rattle.spec_pages.specs.OwnPages.{is_among}
use Rattle.spec_labels.specs.OwnRecords.{own_records, own_starts, all_records, all_starts}
use Rattle.spec_labels.proofs.RunLeads.{sheets_in_runs, lead_run, behind_lead, onto-empty, onto-full, full-lead, full-behind, sheets-lead, sheets-full}
use Rattle.spec_state.proofs.OpenSheets.{start_of_sheet, sheets-open}
use Rattle.spec_pages.proofs.StartLists.{AreAbove}
use Rattle.spec_state.proofs.PageSheets.{first-page, starts-pages, pages-open}

-- A segment with rows begins at a page.
abbrev pub Paged : List ℕ → SegmentOf → Type 0
Paged pages segment = segment.start < segment.end → is_among pages segment.start ≡ true

-- Other records with other starts have the same sheets, also behind a run of records without rows.
pub record Alike (pages : List ℕ) (rows : ℕ) (records : List PageRecordOf) (starts : List ℕ) (news : List PageRecordOf) (begins : List ℕ) : Type 0 where
  pub lead : lead_run (runs_of (segments rows news begins)) ≡ lead_run (runs_of (segments rows records starts))
  pub behind : sheets_in_runs pages (behind_lead (runs_of (segments rows news begins))) ≡ sheets_in_runs pages (behind_lead (runs_of (segments rows records starts)))
  pub label : first_label news ≡ first_label records
  pub start : slice_index_or begins 0 rows ≡ slice_index_or starts 0 rows

pub alike-sheets : (pages : List ℕ) (rows : ℕ) (records : List PageRecordOf) (starts : List ℕ) (news : List PageRecordOf) (begins : List ℕ) → Alike pages rows records starts news begins
    → sheets_in_runs pages (runs_of (segments rows news begins)) ≡ sheets_in_runs pages (runs_of (segments rows records starts))
alike-sheets pages rows records starts news begins it =
    sheets-lead pages (runs_of (segments rows news begins))
    ∙ ap₂ (λ (a : List SegmentOf) (b : List SheetOf). run_sheets pages a ++ b) it.lead it.behind
    ∙ sym (sheets-lead pages (runs_of (segments rows records starts)))

-- A record without rows in front.
empty-alike : (pages : List ℕ) (rows : ℕ) (it : PageRecordOf) (start : ℕ) (records : List PageRecordOf) (starts : List ℕ) (news : List PageRecordOf) (begins : List ℕ)
    → Alike pages rows records starts news begins → slice_index_or starts 0 rows ≤ start → Alike pages rows (it ∷ records) (start ∷ starts) (it ∷ news) (start ∷ begins)
empty-alike pages rows it start records starts news begins is low =
    let old : SegmentOf = record { owner = it; next = first_label records; start = start; end = slice_index_or starts 0 rows } in
    let new : SegmentOf = record { owner = it; next = first_label news; start = start; end = slice_index_or begins 0 rows } in
    let same : new ≡ old = ap₂ (λ n e. record { owner = it; next = n; start = start; end = e }) is.label is.start in
    let empty : is_empty old ≡ true = le-leb (slice_index_or starts 0 rows) start low in
    let one = onto-empty old (runs_of (segments rows records starts)) empty in
    let other = onto-empty new (runs_of (segments rows news begins)) (ap is_empty same ∙ empty) in
    record {
      lead = other.lead ∙ ap₂ (λ (a : SegmentOf) (b : List SegmentOf). a ∷ b) same is.lead ∙ sym one.lead;
      behind = ap (sheets_in_runs pages) other.behind ∙ is.behind ∙ sym (ap (sheets_in_runs pages) one.behind);
      label = refl;
      start = refl;
    }

-- A record with rows in front.
full-alike : (pages : List ℕ) (rows : ℕ) (keys : List RowKey) (it : PageRecordOf) (start : ℕ) (records : List PageRecordOf) (starts : List ℕ) (news : List PageRecordOf) (begins later : List ℕ)
    → AreAbove pages → Alike pages rows records starts news begins → start < slice_index_or starts 0 rows
    → segment_pages (record { owner = it; next = first_label records; start = start; end = slice_index_or starts 0 rows }) pages ≡ start ∷ later
    → Alike pages rows (it ∷ records) (start ∷ starts)
    (it ∷ (map (record_of_sheet keys) (page_sheets (record { owner = it; next = first_label records; start = start; end = slice_index_or starts 0 rows }) 1 later) ++ news))
    (start ∷ (later ++ begins))
full-alike pages rows keys it start records starts news begins later rising is some are =
    let old : SegmentOf = record { owner = it; next = first_label records; start = start; end = slice_index_or starts 0 rows } in
    let runs = runs_of (segments rows records starts) in
    let full : is_empty old ≡ false = lt-leb (slice_index_or starts 0 rows) start some in
    let first : SheetOf = page_sheet old 0 start later in
    let rest = page_sheets old 1 later in
    let opens = sheets-open rows old.end it first keys rest news begins pages refl refl is.start (pages-open old pages [] start later 0 rising are) in
    let at : map start_of_sheet rest ++ begins ≡ later ++ begins = ap (λ (l : List ℕ). l ++ begins) (starts-pages old 1 later) in
    let new = segments rows (it ∷ (map (record_of_sheet keys) rest ++ news)) (start ∷ (later ++ begins)) in
    let lead : lead_run (runs_of new) ≡ [] = ap (λ (l : List ℕ). lead_run (runs_of (segments rows (it ∷ (map (record_of_sheet keys) rest ++ news)) (start ∷ l)))) (sym at) ∙ opens.lead in
    let sheets : sheets_in_runs pages (runs_of new) ≡ page_sheets old 0 (start ∷ later) ++ sheets_in_runs pages (runs_of (segments rows news begins)) =
    ap (λ (l : List ℕ). sheets_in_runs pages (runs_of (segments rows (it ∷ (map (record_of_sheet keys) rest ++ news)) (start ∷ l)))) (sym at) ∙ opens.sheets in
    record {
      lead = lead ∙ sym (ap lead_run (onto-full old runs full) ∙ full-lead old runs full);
      behind = sym (sheets-lead pages (runs_of new) ∙ ap (λ (l : List SegmentOf). run_sheets pages l ++ sheets_in_runs pages (behind_lead (runs_of new))) lead)
          ∙ sheets ∙ ap (λ (a : List SheetOf). page_sheets old 0 (start ∷ later) ++ a) (alike-sheets pages rows records starts news begins is)
          ∙ sym (ap (λ (ps : List ℕ). page_sheets old 0 ps ++ sheets_in_runs pages runs) are)
          ∙ sym (sheets-full pages old runs full)
          ∙ ap (sheets_in_runs pages) (onto-full old runs full ∙ sym (ap behind_lead (onto-full old runs full) ∙ full-behind old runs full));
      label = refl;
      start = refl;
    }

-- Each record with those of its overflow pages.
pub records-open : (pages : List ℕ) (rows : ℕ) (keys : List RowKey) (records : List PageRecordOf) (starts : List ℕ) → AreAbove pages → length starts ≡ length records
    → All (Paged pages) (segments rows records starts)
    → Alike pages rows records starts (all_records keys pages (segments rows records starts)) (all_starts pages (segments rows records starts))
records-open pages rows keys [] [] rising count paged = record { lead = refl; behind = refl; label = refl; start = refl }
records-open pages rows keys [] (start ∷ starts) rising count paged = absurd (omega (arith, count))
records-open pages rows keys (it ∷ records) [] rising count paged = absurd (omega (arith, count))
records-open pages rows keys (it ∷ records) (start ∷ starts) rising count paged =
    let later = segments rows records starts in
    let own : SegmentOf = record { owner = it; next = first_label records; start = start; end = slice_index_or starts 0 rows } in
    let is = records-open pages rows keys records starts rising (omega (arith, count)) (All-tail (Paged pages) own later paged) in
    let news = all_records keys pages later in
    let begins = all_starts pages later in
    elim (cases_Bool (is_empty own)) [
      | inl empty ↦
          let a : own_records keys pages own ++ news ≡ it ∷ news = ap (λ b. it ∷ (map (record_of_sheet keys) (cond b [] (drop 1 (page_sheets own 0 (segment_pages own pages)))) ++ news)) empty in
          let b : own_starts pages own ++ begins ≡ start ∷ begins = ap (λ b. cond b (start ∷ []) (segment_pages own pages) ++ begins) empty in
          subst (λ n. Alike pages rows (it ∷ records) (start ∷ starts) n (own_starts pages own ++ begins)) (sym a)
          (subst (Alike pages rows (it ∷ records) (start ∷ starts) (it ∷ news)) (sym b)
          (empty-alike pages rows it start records starts news begins is (leb-true (slice_index_or starts 0 rows) start empty)))
      | inr full ↦
          let some : start < slice_index_or starts 0 rows = leb-false (slice_index_or starts 0 rows) start full in
          let first = first-page own pages some rising (All-head (Paged pages) own later paged some) in
          let a : own_records keys pages own ++ news ≡ it ∷ (map (record_of_sheet keys) (page_sheets own 1 first.0) ++ news) =
          ap (λ b. it ∷ (map (record_of_sheet keys) (cond b [] (drop 1 (page_sheets own 0 (segment_pages own pages)))) ++ news)) full
          ∙ ap (λ (ps : List ℕ). it ∷ (map (record_of_sheet keys) (drop 1 (page_sheets own 0 ps)) ++ news)) first.1 in
          let b : own_starts pages own ++ begins ≡ start ∷ (first.0 ++ begins) =
          ap (λ b. cond b (start ∷ []) (segment_pages own pages) ++ begins) full ∙ ap (λ (ps : List ℕ). ps ++ begins) first.1 in
          subst (λ n. Alike pages rows (it ∷ records) (start ∷ starts) n (own_starts pages own ++ begins)) (sym a)
          (subst (Alike pages rows (it ∷ records) (start ∷ starts) (it ∷ (map (record_of_sheet keys) (page_sheets own 1 first.0) ++ news))) (sym b)
          (full-alike pages rows keys it start records starts news begins first.0 rising is some first.1))
    ]
