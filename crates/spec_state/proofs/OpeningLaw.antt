-- The opening law: a lock of pages and a new round leave the sheets of a state as they were.
use Rattle.std.proofs.Common.{◌≡◌, ℕ, zero, suc, ◌+◌, ◌<◌, false, cond, Option, Some, None, Ordering, Less, nat_cmp, List, [], ◌∷◌, ◌++◌, map, length, refl, sym, ap, subst, ◌∙◌, arith, append_assoc}
use Rattle.std.specs.Prelude.{All, IfSome, filter, slice_index_or}
use Rattle.std.specs.Cmp.{nat_cmp_is}
use Rattle.std.specs.Cmp.Lexicographic.{slice_cmp}
use Rattle.std.specs.Ordering.{ordering_then}
use Rattle.std.proofs.lemmas.Bool.{lt-ltb}
use Rattle.std.proofs.lemmas.List.{length-map}
use Rattle.std.proofs.lemmas.List.Elements.{All-nil, All-cons}
use Rattle.std.proofs.lemmas.List.Kept.{AllPairs-cons}
use Rattle.spec_text.specs.Lines.{LineState}
use Rattle.spec_pages.specs.declared.Shape.{Shape}
use Rattle.spec_pages.specs.declared.Paper.{Paper}
use Rattle.spec_pages.specs.declared.Paper.TheVariants.{Letter, A4}
use Rattle.spec_pages.specs.Heights.{Heights, starts_of, next_of, starts_behind}
use Rattle.spec_pages.specs.Pages.{text_heights, rows_on}
use Rattle.spec_pages.specs.OwnPages.{lies_in}
use Rattle.spec_pages.proofs.PageLaws.{height_of-one}
use Rattle.spec_pages.proofs.OpenedPages.{OneFits}
use Rattle.spec_labels.specs.declared.RowKey.{RowKey}
use Rattle.spec_labels.specs.Labels.{LabelOf, plain_label, Below}
use Rattle.spec_labels.specs.Scenes.{SceneRecordOf, AreSceneRecords, AreHeadings}
use Rattle.spec_labels.specs.PageRecords.{PageRecordOf, SheetOf, segments, record_starts, sheets_of_records, extended_page_records}
use Rattle.spec_labels.specs.Anchors.{AreKeys}
use Rattle.spec_labels.proofs.RecordInsert.{Rise}
use Rattle.spec_labels.proofs.SceneStays.{extended-labels}
use Rattle.spec_sheets.specs.Shown.{Shown, shown_rows, shape_of, key_of}
use Rattle.spec_sheets.specs.Sheets.{Sheet, sheet_bytes}
use Rattle.spec_state.specs.State.{State}
use Rattle.spec_state.specs.Headings.{headings_of, heading_labels}
use Rattle.spec_state.specs.StateSheets.{numbered_sheets, layout_in, rows_in, titles_in, locked_starts, pages_in, sheets_in, title_sheets, title_starts, shown_sheet, sheets_of_state, bytes_of_state}
use Rattle.spec_state.specs.Openings.{scenes_extended, pages_extended, pages_locked, round_begun}
use Rattle.spec_state.specs.SoundStates.{AreLocked, IsSound}
use Rattle.spec_state.proofs.StateKeys.{text-headings, state-keys}
use Rattle.spec_state.proofs.OnePages.{one-page}
use Rattle.spec_state.proofs.OpenSheets.{start_of_sheet, next_start, AreOpen}
use Rattle.spec_pages.proofs.StartLists.{AreAbove}
use Rattle.spec_state.proofs.PageSheets.{lies-some}
use Rattle.spec_state.proofs.SinglePages.{IsSingle}
use Rattle.spec_pages.proofs.StartLists.{ArePagesOf}
use Rattle.spec_pages.proofs.StartLists.{starts-are}
use Rattle.spec_state.proofs.RoundLaw.{round_records, round-stays-in, Locking, LockStays, lock-stays-in}

-- ---- sheets without records

next-numbered : (rows : List Shown) (number : ℕ) (later : List ℕ) → slice_index_or later 0 (length rows) ≡ next_start (numbered_sheets rows number later) (length rows)
next-numbered rows number [] = refl
next-numbered rows number (page ∷ later) = refl

numbered-open : (rows : List Shown) (number : ℕ) (pages front later : List ℕ) → AreAbove pages → All (λ page. page < length rows) pages → pages ≡ front ++ later → AreOpen pages (length rows) (numbered_sheets rows number later)
numbered-open rows number pages front [] rising inside are = tt
numbered-open rows number pages front (p ∷ later) rising inside are =
    let one = ap (filter (lies_in p (slice_index_or later 0 (length rows)))) are
    ∙ one-page front p later (length rows) (subst AreAbove are rising) (subst (All (λ page. page < length rows)) are inside) in (
      record { label = refl; ends = next-numbered rows (number + 1) later; shown = refl; some = lies-some p (slice_index_or later 0 (length rows)) pages one; one = one },
      numbered-open rows (number + 1) pages (front ++ (p ∷ [])) later rising inside (are ∙ sym (append_assoc front (p ∷ []) later)),
    )

pub plain-Below : (a b : ℕ) → a < b → Below (plain_label a) (plain_label b)
plain-Below a b less = record { less = ap (λ (o : Ordering). ordering_then o (slice_cmp nat_cmp [] [])) (sym (nat_cmp_is a b Less less)) }

numbered-above : (rows : List Shown) (low number : ℕ) (pages : List ℕ) → low < number → All (λ (s : SheetOf). Below (plain_label low) s.first) (numbered_sheets rows number pages)
numbered-above rows low number [] less = All-nil (λ (s : SheetOf). Below (plain_label low) s.first)
numbered-above rows low number (page ∷ later) less =
    All-cons (λ (s : SheetOf). Below (plain_label low) s.first) _ (numbered_sheets rows (number + 1) later) (plain-Below low number less)
    (numbered-above rows low (number + 1) later (omega (arith, less)))

pub numbered-rise : (rows : List Shown) (number : ℕ) (pages : List ℕ) → Rise (numbered_sheets rows number pages)
numbered-rise rows number [] = λ i j d less within. absurd (omega (arith, less, within))
numbered-rise rows number (page ∷ later) =
    AllPairs-cons (λ (one other : SheetOf). Below one.first other.first) _ (numbered_sheets rows (number + 1) later)
    (numbered-above rows number (number + 1) later (omega arith)) (numbered-rise rows (number + 1) later)

numbered-begin : (rows : List Shown) (number : ℕ) (pages : List ℕ) → map start_of_sheet (numbered_sheets rows number pages) ≡ pages
numbered-begin rows number [] = refl
numbered-begin rows number (page ∷ later) = ap (λ (ps : List ℕ). page ∷ ps) (numbered-begin rows (number + 1) later)

numbered-shown : (rows : List Shown) (number : ℕ) (pages : List ℕ) → All (λ (s : SheetOf). s.omitted ≡ false) (numbered_sheets rows number pages)
numbered-shown rows number [] = All-nil (λ (s : SheetOf). s.omitted ≡ false)
numbered-shown rows number (page ∷ later) =
    All-cons (λ (s : SheetOf). s.omitted ≡ false) _ (numbered_sheets rows (number + 1) later) refl (numbered-shown rows (number + 1) later)

pub numbered-Locking : (rows : List Shown) (number : ℕ) (pages : List ℕ) → ArePagesOf (length rows) pages → Locking pages (length rows) (numbered_sheets rows number pages)
numbered-Locking rows number pages are = record {
  alone = numbered-open rows number pages [] pages are.rise are.inside refl;
  rise = numbered-rise rows number pages;
  begin = numbered-begin rows number pages;
  shown = numbered-shown rows number pages;
}

-- ---- the labels that are shown

pub one-fits : (paper : Paper) (shapes : List Shape) → OneFits (rows_on paper) (text_heights shapes)
one-fits Letter shapes = record { low = λ p. (let h = height_of-one shapes p in omega (arith, h)) }
one-fits A4 shapes = record { low = λ p. (let h = height_of-one shapes p in omega (arith, h)) }

-- They stay where each heading becomes a record.
pub labels-stay : (lines : List LineState) (scenes : Option (List SceneRecordOf)) → AreHeadings (headings_of lines) → IfSome scenes AreSceneRecords
    → heading_labels lines (scenes_extended (headings_of lines) scenes) ≡ heading_labels lines scenes
labels-stay lines None known are = refl
labels-stay lines (Some records) known are = ap (λ (labels : List LabelOf). Some labels) (extended-labels records (headings_of lines) are known)

-- The first page begins with the rows.
pub first-start : (limit : ℕ) (heights : Heights) (count : ℕ) (stops : List ℕ) → 0 < count → (later : List ℕ) × (starts_of limit heights count stops ≡ 0 ∷ later)
first-start limit heights zero stops some = absurd (omega (arith, some))
first-start limit heights (suc n) stops some = (
  starts_behind limit heights (suc n) stops n (next_of limit heights (suc n) stops 0),
  ap (λ b. cond b (0 ∷ starts_behind limit heights (suc n) stops n (next_of limit heights (suc n) stops 0)) []) (lt-ltb 0 (suc n) some),
)

-- ---- the sheets of rows, by how many they are

abbrev pub pages_by : ℕ → ℕ → List LineState → List Shown → List ℕ → Option (List PageRecordOf) → List ℕ
pages_by count limit lines rows breaks records = starts_of limit (text_heights (map shape_of rows)) count (breaks ++ locked_starts lines rows records)

abbrev pub sheets_by : ℕ → ℕ → List LineState → List Shown → List ℕ → Option (List PageRecordOf) → List SheetOf
sheets_by count limit lines rows breaks None = numbered_sheets rows 1 (pages_by count limit lines rows breaks None)
sheets_by count limit lines rows breaks (Some records) = sheets_of_records (length rows) records (record_starts lines (map key_of rows) records) (pages_by count limit lines rows breaks (Some records))

pub pages-count : (limit : ℕ) (lines : List LineState) (rows : List Shown) (breaks : List ℕ) (records : Option (List PageRecordOf)) → pages_in limit lines rows breaks records ≡ pages_by (length rows) limit lines rows breaks records
pages-count limit lines rows breaks records = ap (λ n. pages_by n limit lines rows breaks records) (length-map rows shape_of)

pub sheets-count : (limit : ℕ) (lines : List LineState) (rows : List Shown) (breaks : List ℕ) (records : Option (List PageRecordOf)) → sheets_in limit lines rows breaks records ≡ sheets_by (length rows) limit lines rows breaks records
sheets-count limit lines rows breaks None = ap (λ n. sheets_by n limit lines rows breaks None) (length-map rows shape_of)
sheets-count limit lines rows breaks (Some records) = ap (λ n. sheets_by n limit lines rows breaks (Some records)) (length-map rows shape_of)

-- ---- the next round

-- The records that the next round makes, and the sheets that they have.
abbrev pub next_records : Paper → List LineState → List Shown → List ℕ → List PageRecordOf → List PageRecordOf
next_records paper lines rows breaks records = extended_page_records records (sheets_in (rows_on paper) lines rows breaks (Some records)) (map key_of rows)

-- After it the sheets are the same, and each segment with rows is one page.
pub record RoundStays (paper : Paper) (lines : List LineState) (rows : List Shown) (breaks : List ℕ) (records : List PageRecordOf) : Type 0 where
  pub sheets : sheets_in (rows_on paper) lines rows breaks (Some (next_records paper lines rows breaks records)) ≡ sheets_in (rows_on paper) lines rows breaks (Some records)
  pub single : All (IsSingle (pages_in (rows_on paper) lines rows breaks (Some (next_records paper lines rows breaks records))))
      (segments (length rows) (next_records paper lines rows breaks records) (record_starts lines (map key_of rows) (next_records paper lines rows breaks records)))
  pub pages : pages_in (rows_on paper) lines rows breaks (Some (next_records paper lines rows breaks records)) ≡ pages_in (rows_on paper) lines rows breaks (Some records)

pub round-rows : (paper : Paper) (lines : List LineState) (rows : List Shown) (breaks : List ℕ) (records : List PageRecordOf) → AreKeys lines (map key_of rows) → AreLocked records
    → RoundStays paper lines rows breaks records
round-rows paper lines rows breaks [] are locked = absurd (let some = locked.some in omega (arith, some))
round-rows paper lines rows breaks (it ∷ records) are locked =
    let keys = map key_of rows in
    let limit = rows_on paper in
    let heights = text_heights (map shape_of rows) in
    let news = round_records lines keys (length rows) limit heights breaks (it ∷ records) in
    let stay = round-stays-in lines keys (length rows) limit heights breaks it records (length-map rows key_of) are (one-fits paper (map shape_of rows)) locked.labels locked.rising in
    let made : next_records paper lines rows breaks (it ∷ records) ≡ news =
    ap (λ (ss : List SheetOf). extended_page_records (it ∷ records) ss keys) (sheets-count limit lines rows breaks (Some (it ∷ records))) in
    record {
      sheets = ap (λ (rs : List PageRecordOf). sheets_in limit lines rows breaks (Some rs)) made
          ∙ sheets-count limit lines rows breaks (Some news) ∙ stay.sheets ∙ sym (sheets-count limit lines rows breaks (Some (it ∷ records)));
      single = subst (λ (rs : List PageRecordOf). All (IsSingle (pages_in limit lines rows breaks (Some rs))) (segments (length rows) rs (record_starts lines keys rs))) (sym made)
          (subst (λ (ps : List ℕ). All (IsSingle ps) (segments (length rows) news (record_starts lines keys news))) (sym (pages-count limit lines rows breaks (Some news))) stay.single);
      pages = ap (λ (rs : List PageRecordOf). pages_in limit lines rows breaks (Some rs)) made
          ∙ pages-count limit lines rows breaks (Some news) ∙ stay.pages ∙ sym (pages-count limit lines rows breaks (Some (it ∷ records)));
    }

-- ---- the lock of pages

abbrev pub first_records : Paper → List LineState → List Shown → List ℕ → List PageRecordOf
first_records paper lines rows breaks = extended_page_records [] (sheets_in (rows_on paper) lines rows breaks None) (map key_of rows)

pub record LockedStay (paper : Paper) (lines : List LineState) (rows : List Shown) (breaks : List ℕ) : Type 0 where
  pub sheets : sheets_in (rows_on paper) lines rows breaks (Some (first_records paper lines rows breaks)) ≡ sheets_in (rows_on paper) lines rows breaks None
  pub single : All (IsSingle (pages_in (rows_on paper) lines rows breaks (Some (first_records paper lines rows breaks))))
      (segments (length rows) (first_records paper lines rows breaks) (record_starts lines (map key_of rows) (first_records paper lines rows breaks)))
  pub pages : pages_in (rows_on paper) lines rows breaks (Some (first_records paper lines rows breaks)) ≡ pages_in (rows_on paper) lines rows breaks None

pub lock-rows : (paper : Paper) (lines : List LineState) (rows : List Shown) (breaks : List ℕ) → AreKeys lines (map key_of rows) → 0 < length rows → LockedStay paper lines rows breaks
lock-rows paper lines rows breaks are some =
    by (first-start limit heights (length rows) (breaks ++ []) some)
  where
    keys : List RowKey
    keys = map key_of rows

    limit : ℕ
    limit = rows_on paper

    heights : Heights
    heights = text_heights (map shape_of rows)

    pages : List ℕ
    pages = starts_of limit heights (length rows) (breaks ++ [])

    news : List PageRecordOf
    news = extended_page_records [] (numbered_sheets rows 1 pages) keys

    by : (later : List ℕ) × (pages ≡ 0 ∷ later) → LockedStay paper lines rows breaks
    by (later, begin) =
        let locking = numbered-Locking rows 1 pages (starts-are limit heights (length rows) (breaks ++ [])) in
        let stay : LockStays lines keys (length rows) limit heights breaks (numbered_sheets rows 1 pages) news =
        subst (λ (ss : List SheetOf). LockStays lines keys (length rows) limit heights breaks ss (extended_page_records [] ss keys)) (ap (numbered_sheets rows 1) (sym begin))
        (lock-stays-in lines keys (length rows) limit heights breaks _ (numbered_sheets rows 2 later) (length-map rows key_of) are (one-fits paper (map shape_of rows))
        (subst (Locking pages (length rows)) (ap (numbered_sheets rows 1) begin) locking) refl) in
        let made : first_records paper lines rows breaks ≡ news =
        ap (λ (ss : List SheetOf). extended_page_records [] ss keys) (sheets-count limit lines rows breaks None) in
        record {
          sheets = ap (λ (rs : List PageRecordOf). sheets_in limit lines rows breaks (Some rs)) made
              ∙ sheets-count limit lines rows breaks (Some news) ∙ stay.same ∙ sym (sheets-count limit lines rows breaks None);
          single = subst (λ (rs : List PageRecordOf). All (IsSingle (pages_in limit lines rows breaks (Some rs))) (segments (length rows) rs (record_starts lines keys rs))) (sym made)
              (subst (λ (ps : List ℕ). All (IsSingle ps) (segments (length rows) news (record_starts lines keys news))) (sym (pages-count limit lines rows breaks (Some news))) stay.single);
          pages = ap (λ (rs : List PageRecordOf). pages_in limit lines rows breaks (Some rs)) made
              ∙ pages-count limit lines rows breaks (Some news) ∙ stay.pages ∙ sym (pages-count limit lines rows breaks None);
        }

-- ---- states

-- The sheets of a state, by its rows and its page records.
abbrev sheets_with : State → List Shown → Option (List PageRecordOf) → List Sheet
sheets_with state rows pages =
    title_sheets (titles_in state) (title_starts state) ++ map (shown_sheet rows) (sheets_in (rows_on state.paper) state.lines rows (layout_in state).breaks pages)

-- The rows of a state stay where each heading becomes a record.
pub rows-stay : (state : State) → IsSound state → rows_in (round_begun state) ≡ rows_in state
rows-stay state sound =
    ap (λ (labels : Option (List LabelOf)). shown_rows state.lines labels (layout_in state).body)
    (labels-stay state.lines state.scenes (text-headings state sound.text) sound.scenes)

-- An accepted lock of pages leaves the sheets of a state as they were.
pub lock-opening : (state : State) → IsSound state → state.pages ≡ None → 0 < length (rows_in state) → sheets_of_state (pages_locked state) ≡ sheets_of_state state
lock-opening state sound unlocked some =
    let rows = rows_in state in
    let breaks = (layout_in state).breaks in
    let paper = state.paper in
    let stays = lock-rows paper state.lines rows breaks (state-keys state sound.text) some in
    ap (λ (rs : List Shown). sheets_with state rs (Some (extended_page_records [] (sheets_in (rows_on paper) state.lines rows breaks state.pages) (map key_of rows)))) (rows-stay state sound)
    ∙ ap (λ (pages : Option (List PageRecordOf)). sheets_with state rows (Some (extended_page_records [] (sheets_in (rows_on paper) state.lines rows breaks pages) (map key_of rows)))) unlocked
    ∙ ap (λ (ss : List SheetOf). title_sheets (titles_in state) (title_starts state) ++ map (shown_sheet rows) ss) stays.sheets
    ∙ ap (sheets_with state rows) (sym unlocked)

-- An accepted new round leaves the sheets of a state as they were.
pub round-opening : (state : State) → IsSound state → sheets_of_state (round_begun state) ≡ sheets_of_state state
round-opening state sound =
    ap (λ (rows : List Shown). sheets_with state rows (pages_extended state state.pages)) (rows-stay state sound)
    ∙ by state.pages refl sound.pages
  where
    by : (pages : Option (List PageRecordOf)) → state.pages ≡ pages → IfSome pages AreLocked
        → sheets_with state (rows_in state) (pages_extended state pages) ≡ sheets_with state (rows_in state) state.pages
    by None is locked = ap (sheets_with state (rows_in state)) (sym is)
    by (Some records) is locked =
        let rows = rows_in state in
        let breaks = (layout_in state).breaks in
        let paper = state.paper in
        let stays = round-rows paper state.lines rows breaks records (state-keys state sound.text) locked in
        ap (λ (pages : Option (List PageRecordOf)). sheets_with state rows (Some (extended_page_records records (sheets_in (rows_on paper) state.lines rows breaks pages) (map key_of rows)))) is
        ∙ ap (λ (ss : List SheetOf). title_sheets (titles_in state) (title_starts state) ++ map (shown_sheet rows) ss) stays.sheets
        ∙ ap (sheets_with state rows) (sym is)

-- So the bytes of every sheet stay.
pub lock-bytes : (state : State) → IsSound state → state.pages ≡ None → 0 < length (rows_in state) → bytes_of_state (pages_locked state) ≡ bytes_of_state state
lock-bytes state sound unlocked some = ap (map sheet_bytes) (lock-opening state sound unlocked some)

pub round-bytes : (state : State) → IsSound state → bytes_of_state (round_begun state) ≡ bytes_of_state state
round-bytes state sound = ap (map sheet_bytes) (round-opening state sound)
