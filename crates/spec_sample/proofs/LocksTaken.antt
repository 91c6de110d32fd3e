-- The locks of a small text and the round behind them are accepted.
use Rattle.std.proofs.Common.{◌≡◌, ℕ, suc, ◌+◌, ◌-◌, ◌<◌, ◌≤◌, Bool, true, false, not, ◌&&◌, cond, Some, None, List, [], ◌∷◌, ◌++◌, length, map, refl, sym, ap, ◌∙◌, subst, arith, append_assoc, lit<}
use Rattle.std.specs.Prelude.{All, filter, fold, zip, is_some, sum_by}
use Rattle.std.proofs.lemmas.List.{length-map}
use Rattle.std.proofs.lemmas.List.Elements.{All-nil, All-cons, All-head, All-tail}
use Rattle.spec_text.specs.Lines.{LineState, IsText, read_lines}
use Rattle.spec_pages.specs.declared.Paper.{Paper}
use Rattle.spec_pages.specs.Heights.{starts_of}
use Rattle.spec_pages.specs.Pages.{text_heights, rows_on}
use Rattle.spec_pages.proofs.StartLists.{starts-are}
use Rattle.spec_labels.specs.declared.RowKey.{RowKey}
use Rattle.spec_labels.specs.Labels.{LabelOf}
use Rattle.spec_labels.specs.Scenes.{HeadingOf, SceneRecordOf, line_place, records_of, locked_records, locked_labels, unlocked_labels, extended_records}
use Rattle.spec_labels.specs.PageRecords.{PageRecordOf, SheetOf, is_recorded, is_new, record_of_sheet, put_in, extended_page_records}
use Rattle.spec_labels.proofs.SceneRecordLaws.{length-extended_records}
use Rattle.spec_labels.proofs.PageRecordLaws.{length-extended_page_records}
use Rattle.spec_labels.specs.Anchors.{AreKeys}
use Rattle.spec_sheets.specs.Shown.{Shown, shape_of, key_of}
use Rattle.spec_sheets.proofs.ShownLaws.{length-shown_rows}
use Rattle.spec_state.specs.State.{text_of, opened_state}
use Rattle.spec_state.specs.Headings.{headings_of, heading_labels}
use Rattle.spec_state.specs.StateSheets.{layout_in, rows_in, keys_in, body_sheets, numbered_sheets, pages_in, sheets_in}
use Rattle.spec_state.specs.Openings.{scenes_locked, pages_locked}
use Rattle.spec_state.proofs.NewSheets.{recorded}
use Rattle.spec_state.proofs.OpenedLaws.{opening-whole}
use Rattle.spec_state.proofs.OpeningLaw.{first_records, numbered-Locking, sheets-count, lock-rows, rows-stay}
use Rattle.spec_state.proofs.RoundLaw.{locked-all}
use Rattle.spec_state.proofs.StateKeys.{state-keys}
use Rattle.spec_state.proofs.StateLaws.{whole-sound, rising-few}
use Rattle.spec_machine.specs.Machine.{opened_memory, CanLockScenes, CanLockPages, CanBegin}
use Rattle.spec_machine.specs.Sessions.{AcceptsAll}
use Rattle.spec_machine.proofs.RefusalLaws.{scenes-free, pages-free, round-free}
use Rattle.spec_machine.proofs.WholeStates.{lock_scenes-whole}
use Rattle.spec_sample.specs.Accepted.{sample_locks}
use Rattle.spec_sample.proofs.Places.{texts-read}
use Rattle.spec_sample.proofs.Unnumbered.{HasNone}
use Rattle.spec_sample.proofs.ScenesTaken.{headings-few, can-lock-scenes}
use Rattle.spec_sample.proofs.RowsFew.{IsPrintable, line_weight, body-few}

-- ---- how many records there are

filter-few : {X : Type 0} (p : X → Bool) (xs : List X) → length (filter p xs) ≤ length xs
filter-few p [] = omega arith
filter-few p (x ∷ xs) = by (p x) (filter-few p xs)
  where
    by : (b : Bool) → length (filter p xs) ≤ length xs → length (cond b (x ∷ filter p xs) (filter p xs)) ≤ suc (length xs)
    by true few = omega (arith, few)
    by false few = omega (arith, few)

zip-few : {X Y : Type 0} (xs : List X) (ys : List Y) → length (zip xs ys) ≤ length xs
zip-few [] ys = omega arith
zip-few (x ∷ xs) [] = omega arith
zip-few (x ∷ xs) (y ∷ ys) = omega (arith, zip-few xs ys)

records-few : (headings : List HeadingOf) (labels : List LabelOf) → length (records_of headings labels) ≤ length headings
records-few headings labels = omega (arith, zip-few headings labels, length-map (zip headings labels) (λ (pair : HeadingOf × LabelOf). let it : SceneRecordOf = record { label = pair.1; line = pair.0.id } in it))

extended-few : (records : List SceneRecordOf) (headings : List HeadingOf) → length (extended_records records headings) ≤ length records + length headings
extended-few records headings =
    let those = records_of headings (locked_labels records headings) in
    omega (arith, length-extended_records records headings, filter-few (λ (new : SceneRecordOf). not (is_some (line_place records new.line))) those, records-few headings (locked_labels records headings))

numbered-few : (rows : List Shown) (number : ℕ) (pages : List ℕ) → length (numbered_sheets rows number pages) ≡ length pages
numbered-few rows number [] = refl
numbered-few rows number (page ∷ later) = ap suc (numbered-few rows (number + 1) later)

-- A lock of pages makes no more records than there are rows.
first-few : (paper : Paper) (lines : List LineState) (rows : List Shown) (breaks : List ℕ) → length (first_records paper lines rows breaks) ≤ length rows
first-few paper lines rows breaks =
    let limit = rows_on paper in
    let keys = map key_of rows in
    let pages = pages_in limit lines rows breaks None in
    let sheets = numbered_sheets rows 1 pages in
    let are = starts-are limit (text_heights (map shape_of rows)) (length (map shape_of rows)) (breaks ++ []) in
    let few = rising-few 0 (length (map shape_of rows)) pages (omega arith) are.rise (λ k d h. omega arith) are.inside in
    omega (arith, length-extended_page_records [] sheets keys, length-map (filter (is_new []) sheets) (record_of_sheet keys), filter-few (is_new []) sheets, numbered-few rows 1 pages, few, length-map rows shape_of)

-- ---- a round behind a lock of pages adds none

record Recorded (records : List PageRecordOf) (sheet : SheetOf) : Type 0 where
  is : is_recorded records sheet.first ≡ true

all-recorded : (keys : List RowKey) (front : List PageRecordOf) (sheets : List SheetOf) → All (Recorded (front ++ map (record_of_sheet keys) sheets)) sheets
all-recorded keys front [] = All-nil (Recorded (front ++ []))
all-recorded keys front (sheet ∷ sheets) =
    let it = record_of_sheet keys sheet in
    let all = front ++ (it ∷ map (record_of_sheet keys) sheets) in
    let here : Recorded all sheet = record { is = recorded front it (map (record_of_sheet keys) sheets) } in
    All-cons (Recorded all) sheet sheets here
    (subst (λ (rs : List PageRecordOf). All (Recorded rs) sheets) (append_assoc front (it ∷ []) (map (record_of_sheet keys) sheets)) (all-recorded keys (front ++ (it ∷ [])) sheets))

none-new : (records : List PageRecordOf) (sheets : List SheetOf) → All (Recorded records) sheets → filter (is_new records) sheets ≡ []
none-new records [] all = refl
none-new records (sheet ∷ sheets) all =
    ap (λ b. cond (not sheet.omitted && not b) (sheet ∷ filter (is_new records) sheets) (filter (is_new records) sheets)) (All-head (Recorded records) sheet sheets all).is
    ∙ both (not sheet.omitted) (none-new records sheets (All-tail (Recorded records) sheet sheets all))
  where
    both : (b : Bool) → filter (is_new records) sheets ≡ [] → cond (b && false) (sheet ∷ filter (is_new records) sheets) (filter (is_new records) sheets) ≡ []
    both true none = none
    both false none = none

again-same : (paper : Paper) (lines : List LineState) (rows : List Shown) (breaks : List ℕ) → AreKeys lines (map key_of rows) → 0 < length rows
    → extended_page_records (first_records paper lines rows breaks) (sheets_in (rows_on paper) lines rows breaks (Some (first_records paper lines rows breaks))) (map key_of rows)
    ≡ first_records paper lines rows breaks
again-same paper lines rows breaks are some =
    let limit = rows_on paper in
    let keys = map key_of rows in
    let first = first_records paper lines rows breaks in
    let pages = starts_of limit (text_heights (map shape_of rows)) (length rows) (breaks ++ []) in
    let sheets = numbered_sheets rows 1 pages in
    let count = sheets-count limit lines rows breaks None in
    let stay = lock-rows paper lines rows breaks are some in
    let locking = numbered-Locking rows 1 pages (starts-are limit (text_heights (map shape_of rows)) (length rows) (breaks ++ [])) in
    let made : first ≡ map (record_of_sheet keys) sheets = ap (λ (ss : List SheetOf). extended_page_records [] ss keys) count ∙ locked-all pages (length rows) keys sheets locking in
    let all = subst (λ (rs : List PageRecordOf). All (Recorded rs) sheets) (sym made) (all-recorded keys [] sheets) in
    ap (λ (ss : List SheetOf). extended_page_records first ss keys) (stay.sheets ∙ count)
    ∙ ap (λ (ss : List SheetOf). fold put_in first (map (record_of_sheet keys) ss)) (none-new first sheets all)

-- ---- the locks and the round

-- A text without `#`, of few lines and few rows.
pub record IsSmall (texts : List (List ℕ)) : Type 0 where
  pub text : IsText (text_of (opened_state texts))
  pub none : All HasNone texts
  pub printable : All IsPrintable texts
  pub lines : length texts ≤ 30000
  pub weight : sum_by line_weight texts ≤ 2400000
  pub some : 0 < length (rows_in (scenes_locked (opened_state texts)))

lines-read : (texts : List (List ℕ)) → length (read_lines texts) ≡ length texts
lines-read texts = sym (length-map (read_lines texts) (λ (line : LineState). line.text)) ∙ ap length (texts-read 0 texts)

opened-can : (texts : List (List ℕ)) → IsSmall texts → CanLockScenes (opened_state texts)
opened-can texts small =
    let lines = small.lines in
    can-lock-scenes (opened_state texts) refl small.text (omega (arith, lines, lines-read texts)) (subst (All HasNone) (sym (texts-read 0 texts)) small.none)

-- Few rows.
locked-few : (texts : List (List ℕ)) → IsSmall texts → length (rows_in (scenes_locked (opened_state texts))) ≤ 100000
locked-few texts small =
    let state = scenes_locked (opened_state texts) in
    let count = length-shown_rows state.lines (heading_labels state.lines state.scenes) (layout_in state).body in
    let most = body-few state.speakers (text_of state) small.text (subst (All IsPrintable) (sym (texts-read 0 texts)) small.printable) in
    let weight = subst (λ (ts : List (List ℕ)). sum_by line_weight ts ≤ 2400000) (sym (texts-read 0 texts)) small.weight in
    omega (arith, count, most, weight)

locked-can : (texts : List (List ℕ)) → IsSmall texts → CanLockPages (scenes_locked (opened_state texts))
locked-can texts small =
    let state = scenes_locked (opened_state texts) in
    let headings = headings_of state.lines in
    let lines = small.lines in
    let few = headings-few state small.text in
    let read = lines-read texts in
    record {
      scenes = refl;
      unlocked = refl;
      rows = small.some;
      few_scenes = omega (arith, extended-few (locked_records headings) headings, records-few headings (unlocked_labels headings), few, lines, read);
      few_pages = omega (arith, first-few state.paper state.lines (rows_in state) (layout_in state).breaks, locked-few texts small);
    }

begun-can : (texts : List (List ℕ)) → IsSmall texts → CanBegin (pages_locked (scenes_locked (opened_state texts)))
begun-can texts small =
    let opened = opened_state texts in
    let state = scenes_locked opened in
    let after = pages_locked state in
    let headings = headings_of state.lines in
    let lines = small.lines in
    let few = headings-few state small.text in
    let read = lines-read texts in
    let records = extended_records (locked_records headings) headings in
    let whole = lock_scenes-whole opened (opening-whole texts small.text) (opened-can texts small) in
    let first = first_records state.paper state.lines (rows_in state) (layout_in state).breaks in
    let same : extended_page_records first (body_sheets after) (keys_in after) ≡ first =
    ap (λ (rows : List Shown). extended_page_records first (sheets_in (rows_on state.paper) state.lines rows (layout_in state).breaks (Some first)) (map key_of rows)) (rows-stay state (whole-sound state whole))
    ∙ again-same state.paper state.lines (rows_in state) (layout_in state).breaks (state-keys state small.text) small.some in
    record {
      rounds = lit< tt;
      few_scenes = omega (arith, extended-few records headings, extended-few (locked_records headings) headings, records-few headings (unlocked_labels headings), few, lines, read);
      few_pages = omega (arith, ap length same, first-few state.paper state.lines (rows_in state) (layout_in state).breaks, locked-few texts small);
    }

pub locks-accepted : (texts : List (List ℕ)) → IsSmall texts → AcceptsAll (opened_memory (opened_state texts)) sample_locks
locks-accepted texts small = (
  record { free = scenes-free (opened_state texts) (opened-can texts small); text = small.text },
  (
    record { free = pages-free (scenes_locked (opened_state texts)) (locked-can texts small); text = small.text },
    (record { free = round-free (pages_locked (scenes_locked (opened_state texts))) (begun-can texts small); text = small.text }, tt),
  ),
)
