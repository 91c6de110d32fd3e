-- Where each page of a segment is a record, its sheets stay.
use Rattle.std.proofs.Common.{◌≡◌, ℕ, ◌<◌, Bool, false, List, [], ◌∷◌, ◌++◌, map, refl, sym, ap, ap₂, subst, ◌∙◌, arith}
use Rattle.std.specs.Prelude.{filter, slice_index_or}
use Rattle.std.proofs.lemmas.Bool.{lt-leb}
use Rattle.spec_labels.specs.declared.RowKey.{RowKey}
use Rattle.spec_labels.specs.Labels.{LabelOf}
use Rattle.spec_labels.specs.PageRecords.{PageRecordOf, SegmentOf, SheetOf, first_label, segments, is_empty, page_sheets, segment_pages, runs_of, record_of_sheet}
use Rattle.spec_pages.specs.OwnPages.{lies_in}
use Rattle.spec_labels.proofs.RunLeads.{sheets_in_runs, lead_run, onto-full, full-lead, sheets-full}

abbrev pub start_of_sheet : SheetOf → ℕ
start_of_sheet sheet = sheet.start

-- Where a sheet ends: at the next one's first row, or with its segment.
abbrev pub next_start : List SheetOf → ℕ → ℕ
next_start [] end = end
next_start (sheet ∷ sheets) end = sheet.start

-- A sheet of one page, up to a row.
pub record IsOpen (pages : List ℕ) (end : ℕ) (sheet : SheetOf) : Type 0 where
  pub label : sheet.last ≡ sheet.first
  pub ends : sheet.end ≡ end
  pub shown : sheet.omitted ≡ false
  pub some : sheet.start < sheet.end
  pub one : filter (lies_in sheet.start sheet.end) pages ≡ sheet.start ∷ []

-- Sheets of one page each, one behind the other, up to a row.
abbrev pub AreOpen : List ℕ → ℕ → List SheetOf → Type 0
AreOpen pages end [] = Unit {0}
AreOpen pages end (sheet ∷ sheets) = IsOpen pages (next_start sheets end) sheet × AreOpen pages end sheets

-- The segments of records of such sheets, and of further records behind them.
abbrev pub opened_segments : ℕ → PageRecordOf → SheetOf → List RowKey → List SheetOf → List PageRecordOf → List ℕ → List SegmentOf
opened_segments rows it sheet keys later records starts =
    segments rows (it ∷ (map (record_of_sheet keys) later ++ records)) (sheet.start ∷ (map start_of_sheet later ++ starts))

pub record Opens (pages : List ℕ) (news behind : List SegmentOf) (own : List SheetOf) : Type 0 where
  pub lead : lead_run (runs_of news) ≡ []
  pub sheets : sheets_in_runs pages (runs_of news) ≡ own ++ sheets_in_runs pages (runs_of behind)

-- One record of one page in front of others.
one-opens : (rows : ℕ) (it : PageRecordOf) (sheet : SheetOf) (records : List PageRecordOf) (starts pages : List ℕ) → it.label ≡ sheet.first → it.changed ≡ sheet.round
    → IsOpen pages (slice_index_or starts 0 rows) sheet
    → Opens pages (segments rows (it ∷ records) (sheet.start ∷ starts)) (segments rows records starts) (sheet ∷ [])
one-opens rows it sheet records starts pages label round is =
    let own : SegmentOf = record { owner = it; next = first_label records; start = sheet.start; end = slice_index_or starts 0 rows } in
    let some = is.some in
    let ends = is.ends in
    let full : is_empty own ≡ false = lt-leb (slice_index_or starts 0 rows) sheet.start (omega (arith, some, ends)) in
    let runs = runs_of (segments rows records starts) in
    let pages_are : segment_pages own pages ≡ sheet.start ∷ [] = ap (λ e. filter (lies_in sheet.start e) pages) (sym ends) ∙ is.one in
    record {
      lead = ap lead_run (onto-full own runs full) ∙ full-lead own runs full;
      sheets = sheets-full pages own runs full
          ∙ ap (λ (ps : List ℕ). page_sheets own 0 ps ++ sheets_in_runs pages runs) pages_are
          ∙ ap (λ (s : SheetOf). s ∷ sheets_in_runs pages runs) (same label round is.label ends is.shown);
    }
  where
    made : LabelOf → ℕ → ℕ → Bool → SheetOf
    made label end round omitted = record { first = sheet.first; last = label; start = sheet.start; end = end; round = round; omitted = omitted }

    same : it.label ≡ sheet.first → it.changed ≡ sheet.round → sheet.last ≡ sheet.first → sheet.end ≡ slice_index_or starts 0 rows → sheet.omitted ≡ false
        → record { first = it.label; last = it.label; start = sheet.start; end = slice_index_or starts 0 rows; round = it.changed; omitted = false } ≡ sheet
    same a b c d e =
        ap (λ l. record { first = l; last = l; start = sheet.start; end = slice_index_or starts 0 rows; round = it.changed; omitted = false }) a
        ∙ ap₂ (λ l n. made l n it.changed false) (sym c) (sym d) ∙ ap₂ (λ n b. made sheet.last sheet.end n b) b (sym e)

-- Records of all of them.
pub sheets-open : (rows end : ℕ) (it : PageRecordOf) (sheet : SheetOf) (keys : List RowKey) (later : List SheetOf) (records : List PageRecordOf) (starts pages : List ℕ)
    → it.label ≡ sheet.first → it.changed ≡ sheet.round → slice_index_or starts 0 rows ≡ end → AreOpen pages end (sheet ∷ later)
    → Opens pages (opened_segments rows it sheet keys later records starts) (segments rows records starts) (sheet ∷ later)
sheets-open rows end it sheet keys [] records starts pages label round is are =
    one-opens rows it sheet records starts pages label round (subst (λ e. IsOpen pages e sheet) (sym is) are.0)
sheets-open rows end it sheet keys (next ∷ later) records starts pages label round is are =
    let behind = sheets-open rows end (record_of_sheet keys next) next keys later records starts pages refl refl is are.1 in
    let here = one-opens rows it sheet (record_of_sheet keys next ∷ (map (record_of_sheet keys) later ++ records)) (next.start ∷ (map start_of_sheet later ++ starts)) pages label round are.0 in
    record {
      lead = here.lead;
      sheets = here.sheets ∙ ap (λ (ss : List SheetOf). sheet ∷ ss) behind.sheets;
    }
