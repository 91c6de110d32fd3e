-- The sheets of a locked page stand one behind the other among those of its state.
use Rattle.std.proofs.Common.{◌≡◌, ℕ, zero, suc, ◌<◌, Bool, true, false, ◌&&◌, cond, Option, Some, List, [], ◌∷◌, ◌++◌, length, map, get_or, refl, sym, ap, ◌∙◌, arith, unwrap_or}
use Rattle.std.specs.List.{flat_map, list_all}
use Rattle.std.proofs.lemmas.Bool.{lt-leb}
use Rattle.std.proofs.lemmas.List.{map-append, append_assoc}
use Rattle.std.proofs.lemmas.List.Concat.{flat_map-append}
use Rattle.spec_pages.specs.Pages.{rows_on}
use Rattle.spec_labels.specs.PageRecords.{PageRecordOf, SegmentOf, SheetOf, segments, record_starts, is_empty, onto_run, runs_of, run_sheets, page_sheets, segment_pages, omitted_sheet}
use Rattle.spec_sheets.specs.Sheets.{sheet_bytes}
use Rattle.spec_state.specs.State.{State}
use Rattle.spec_state.specs.StateSheets.{title_sheets, title_starts, titles_in, layout_in, rows_in, keys_in, pages_in, sheets_in, body_sheets, shown_sheet, sheets_of_state, bytes_of_state}
use Rattle.spec_locked_pages.specs.Segments.{records_in, no_segment, segments_in, segment_at, pages_of, sheets_at, bytes_at, IsLockedPage, StandsAmong}
use Rattle.spec_locked_pages.proofs.OpeningLaws.{length-segments}
use Rattle.spec_locked_pages.proofs.StateStarts.{length-starts, SomeRecords, some-records}

-- A segment with rows is a run by itself.
abbrev HasRun : SegmentOf → List (List SegmentOf) → Type 0
HasRun segment runs = (front : List (List SegmentOf)) × (back : List (List SegmentOf)) × (runs ≡ front ++ ((segment ∷ []) ∷ back))

onto-full : (segment : SegmentOf) (runs : List (List SegmentOf)) → is_empty segment ≡ false → HasRun segment (onto_run segment runs)
onto-full segment [] full = ([], [], refl)
onto-full segment (run ∷ runs) full = ([], run ∷ runs, ap (λ b. cond (b && list_all is_empty run) ((segment ∷ run) ∷ runs) ((segment ∷ []) ∷ run ∷ runs)) full)

onto-more : (other segment : SegmentOf) (front back : List (List SegmentOf)) → is_empty segment ≡ false → HasRun segment (onto_run other (front ++ ((segment ∷ []) ∷ back)))
onto-more other segment [] back full =
    ((other ∷ []) ∷ [], back, ap (λ b. cond b ((other ∷ segment ∷ []) ∷ back) ((other ∷ []) ∷ (segment ∷ []) ∷ back)) (ap (λ b. is_empty other && (b && true)) full ∙ none (is_empty other)))
  where
    none : (b : Bool) → (b && false) ≡ false
    none true = refl
    none false = refl
onto-more other segment (run ∷ front) back full = by (is_empty other && list_all is_empty run)
  where
    by : (b : Bool) → HasRun segment (cond b ((other ∷ run) ∷ (front ++ ((segment ∷ []) ∷ back))) ((other ∷ []) ∷ run ∷ (front ++ ((segment ∷ []) ∷ back))))
    by true = ((other ∷ run) ∷ front, back, refl)
    by false = ((other ∷ []) ∷ run ∷ front, back, refl)

has-run : (those : List SegmentOf) (i : ℕ) (d : SegmentOf) → i < length those → is_empty (get_or those i d) ≡ false → HasRun (get_or those i d) (runs_of those)
has-run [] i d inside full = absurd (omega (arith, inside))
has-run (segment ∷ later) zero d inside full = onto-full segment (runs_of later) full
has-run (segment ∷ later) (suc i) d inside full =
    let rest = has-run later i d (omega (arith, inside)) full in
    let made = onto-more segment (get_or later i d) rest.0 rest.1 full in
    (made.0, made.1, ap (onto_run segment) rest.2 ∙ made.2)

-- Its sheets are among those of all runs.
run-sheets : (pages : List ℕ) (segment : SegmentOf) → is_empty segment ≡ false → run_sheets pages (segment ∷ []) ≡ page_sheets segment 0 (segment_pages segment pages)
run-sheets pages segment full = ap (λ b. cond b (omitted_sheet segment.start segment.owner [] ∷ []) (page_sheets segment 0 (segment_pages segment pages))) full

records-among : (pages : List ℕ) (segment : SegmentOf) (runs : List (List SegmentOf)) → is_empty segment ≡ false → HasRun segment runs
    → StandsAmong (page_sheets segment 0 (segment_pages segment pages)) (flat_map (run_sheets pages) runs)
records-among pages segment runs full (front, back, are) = record {
  front = flat_map (run_sheets pages) front;
  back = flat_map (run_sheets pages) back;
  are = ap (flat_map (run_sheets pages)) are ∙ flat_map-append (run_sheets pages) front ((segment ∷ []) ∷ back)
      ∙ ap (λ (own : List SheetOf). flat_map (run_sheets pages) front ++ (own ++ flat_map (run_sheets pages) back)) (run-sheets pages segment full);
}

among-map : {X Y : Type 0} (f : X → Y) (part whole : List X) → StandsAmong part whole → StandsAmong (map f part) (map f whole)
among-map f part whole it = record {
  front = map f it.front;
  back = map f it.back;
  are = ap (map f) it.are ∙ map-append f it.front (part ++ it.back) ∙ ap (λ rest. map f it.front ++ rest) (map-append f part it.back);
}

among-behind : {X : Type 0} (more part whole : List X) → StandsAmong part whole → StandsAmong part (more ++ whole)
among-behind {X} more part whole it = record {
  front = more ++ it.front;
  back = it.back;
  are = ap (λ (rest : List X). more ++ rest) it.are ∙ sym (append_assoc more it.front (part ++ it.back));
}

body-is : (state : State) (records : List PageRecordOf) → state.pages ≡ Some records → body_sheets state ≡ flat_map (run_sheets (pages_of state)) (runs_of (segments_in state))
body-is state records is =
    let rows = rows_in state in
    let limit = rows_on state.paper in
    let breaks = (layout_in state).breaks in
    ap (sheets_in limit state.lines rows breaks) is
    ∙ ap (λ (pages : Option (List PageRecordOf)). flat_map (run_sheets (pages_in limit state.lines rows breaks pages)) (runs_of (segments (length rows) (unwrap_or pages []) (record_starts state.lines (keys_in state) (unwrap_or pages []))))) (sym is)

-- The sheets of a record with a row are among those of the body.
sheets-among : (state : State) (i : ℕ) → i < length (records_in state) → (segment_at state i).start < (segment_at state i).end → StandsAmong (sheets_at state i) (body_sheets state)
sheets-among state i there some = by (some-records state i there)
  where
    by : SomeRecords state → StandsAmong (sheets_at state i) (body_sheets state)
    by are =
        let rows = rows_in state in
        let count = length-segments (length rows) (records_in state) (record_starts state.lines (keys_in state) (records_in state)) (length-starts state (records_in state)) in
        let full : is_empty (segment_at state i) ≡ false = lt-leb (segment_at state i).end (segment_at state i).start some in
        let run = has-run (segments_in state) i no_segment (omega (arith, there, count)) full in
        let whole : body_sheets state ≡ flat_map (run_sheets (pages_of state)) (runs_of (segments_in state)) = body-is state (are.first ∷ are.later) are.are in
        let own = records-among (pages_of state) (segment_at state i) (runs_of (segments_in state)) full run in
        record { front = own.front; back = own.back; are = whole ∙ own.are }

-- So are their bytes among those of all sheets.
pub bytes-among : (state : State) (i : ℕ) → IsLockedPage state i → StandsAmong (bytes_at state i) (bytes_of_state state)
bytes-among state i locked =
    let body = sheets-among state i locked.there locked.row in
    let shown = among-map (shown_sheet (rows_in state)) (sheets_at state i) (body_sheets state) body in
    let titled = among-behind (title_sheets (titles_in state) (title_starts state)) (map (shown_sheet (rows_in state)) (sheets_at state i)) (map (shown_sheet (rows_in state)) (body_sheets state)) shown in
    let printed = among-map sheet_bytes (map (shown_sheet (rows_in state)) (sheets_at state i)) (sheets_of_state state) titled in
    record { front = printed.front; back = printed.back; are = printed.are ∙ ap (λ (own : List (List ℕ)). printed.front ++ (own ++ printed.back)) (twice (sheets_at state i)) }
  where
    twice : (sheets : List SheetOf) → map sheet_bytes (map (shown_sheet (rows_in state)) sheets) ≡ map (λ (sheet : SheetOf). sheet_bytes (shown_sheet (rows_in state) sheet)) sheets
    twice [] = refl
    twice (sheet ∷ sheets) = ap (λ (l : List (List ℕ)). sheet_bytes (shown_sheet (rows_in state) sheet) ∷ l) (twice sheets)
