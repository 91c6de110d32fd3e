-- The page records, the starts and the pages of a state, as its sheets ask for them.
use Rattle.std.proofs.Common.{◌≡◌, ℕ, zero, suc, ◌+◌, ◌<◌, ◌≤◌, Bool, true, false, ◌||◌, eqb, Option, Some, None, List, [], ◌∷◌, ◌++◌, map, length, get_or, refl, subst, ◌∙◌, arith}
use Rattle.std.specs.Prelude.{All, AllPairs, IfSome, drop}
use Rattle.std.specs.List.{list_any}
use Rattle.std.proofs.lemmas.Bool.{eq-eqb, or_left, or_right}
use Rattle.std.proofs.lemmas.List.{length-map}
use Rattle.std.proofs.lemmas.List.Elements.{All-head, All-tail}
use Rattle.spec_text.proofs.ListLaws.{pairs-head, pairs-tail}
use Rattle.spec_text.proofs.RelabelLaws.{relabelled-own}
use Rattle.spec_pages.specs.Pages.{text_heights, rows_on}
use Rattle.spec_pages.specs.OwnPages.{is_among}
use Rattle.spec_pages.proofs.StartLists.{AreAbove, starts-are, among-append}
use Rattle.spec_pages.proofs.OpenedPages.{stop-is-page}
use Rattle.spec_labels.specs.Scenes.{SceneRecordOf, AreSceneRecords}
use Rattle.spec_labels.specs.PageRecords.{PageRecordOf, record_starts, InOrder, AreAnchored, ArePageRecords, AreStarts, ArePages, LiesWithin, Covers}
use Rattle.spec_labels.proofs.SheetCover.{sheets-Cover}
use Rattle.spec_labels.proofs.SheetExtents.{sheets-Lie}
use Rattle.spec_labels.proofs.StartLaws.{record_starts-AreStarts}
use Rattle.spec_records.specs.Kept.{AreKeptPages, KeepsPages}
use Rattle.spec_sheets.specs.Shown.{shape_of, key_of}
use Rattle.spec_sheets.proofs.RowCounts.{layout_of-few}
use Rattle.spec_sheets.proofs.ShownLaws.{length-shown_rows}
use Rattle.spec_state.specs.State.{State, text_of}
use Rattle.spec_state.specs.Headings.{heading_labels}
use Rattle.spec_state.specs.StateSheets.{layout_in, rows_in, keys_in, pages_in, sheets_in}
use Rattle.spec_state.specs.Keeping.{state_kept, IsWhole}
use Rattle.spec_state.specs.SoundStates.{IsSound}
use Rattle.spec_state.specs.KeptStates.{IsKept}
use Rattle.spec_state.proofs.RulesLaws.{whole-parts}
use Rattle.spec_state.proofs.SoundLaws.{kept-sound, scenes-records}
use Rattle.spec_state.proofs.StateKeys.{state-keys, state-keys_inside}

pub whole-kept : (state : State) → IsWhole state → IsKept state
whole-kept state whole = (whole-parts state whole).kept

pub whole-sound : (state : State) → IsWhole state → IsSound state
whole-sound state whole = kept-sound state (whole-kept state whole)

-- ---- records

pub state-AreSceneRecords : (state : State) (records : List SceneRecordOf) → IsWhole state → state.scenes ≡ Some records → AreSceneRecords records
state-AreSceneRecords state records whole is = by state.scenes is (scenes-records (state_kept state) state.scenes (whole.rules).scenes)
  where
    by : (scenes : Option (List SceneRecordOf)) → scenes ≡ Some records → IfSome scenes AreSceneRecords → AreSceneRecords records
    by None same are = absurd (let bad : ⊥ = cc in bad)
    by (Some others) same are = let e : others ≡ records = cc in subst AreSceneRecords e are

-- What rule 6 says of the page records of a state.
pub state-AreKeptPages : (state : State) (records : List PageRecordOf) → IsWhole state → state.pages ≡ Some records → AreKeptPages state.round state.lines records
state-AreKeptPages state records whole is = by state.pages is (whole.rules).pages
  where
    by : (pages : Option (List PageRecordOf)) → pages ≡ Some records → KeepsPages state.lines (state_kept state) pages → AreKeptPages state.round state.lines records
    by None same are = absurd (let bad : ⊥ = cc in bad)
    by (Some others) same are =
        let e : others ≡ records = cc in
        subst (AreKeptPages state.round state.lines) e (subst (λ lines. AreKeptPages state.round lines others) (relabelled-own state.lines state.lines refl) are.1)

pub state-ArePageRecords : (state : State) (records : List PageRecordOf) → IsWhole state → state.pages ≡ Some records → ArePageRecords records
state-ArePageRecords state records whole is =
    let are = state-AreKeptPages state records whole is in
    record {
      labels = λ k d h. (are.locked k d h).is_label;
      low = λ k d h. (let it = are.locked k d h in let bounded = it.bounded in let number = bounded.number in let few = are.few in omega (arith, number, few));
      rising = are.rising;
    }

-- What their starts ask for.
pub state-AreAnchored : (state : State) (records : List PageRecordOf) → IsWhole state → state.pages ≡ Some records → AreAnchored state.lines (keys_in state) records
state-AreAnchored state records whole is =
    let are = state-AreKeptPages state records whole is in
    record {
      anchors = λ k d h. (are.anchored k d h).present;
      keys = state-keys_inside state whole.text;
      rising = (state-keys state whole.text).rise;
    }

pub state-order : (state : State) (records : List PageRecordOf) → IsWhole state → state.pages ≡ Some records → AllPairs (InOrder state.lines) (drop 1 records)
state-order state records whole is = (state-AreKeptPages state records whole is).order

-- ---- starts and pages

pub count-keys : (state : State) → length (keys_in state) ≡ length (rows_in state)
count-keys state = length-map (rows_in state) key_of

pub state-AreStarts : (state : State) (records : List PageRecordOf) → IsWhole state → state.pages ≡ Some records
    → AreStarts (length (rows_in state)) records (record_starts state.lines (keys_in state) records)
state-AreStarts state records whole is =
    subst (λ n. AreStarts n records (record_starts state.lines (keys_in state) records)) (count-keys state)
    (record_starts-AreStarts state.lines (keys_in state) records (state-order state records whole is))

any-among : (pages : List ℕ) (t : ℕ) → is_among pages t ≡ true → list_any (λ page. eqb page t) pages ≡ true
any-among [] t is = is
any-among (page ∷ pages) t is = by (eqb page t) is (any-among pages t)
  where
    by : (b : Bool) → (b || is_among pages t) ≡ true → (is_among pages t ≡ true → list_any (λ p. eqb p t) pages ≡ true) → (b || list_any (λ p. eqb p t) pages) ≡ true
    by true h rest = refl
    by false h rest = rest h

pub rising-few : (low n : ℕ) (pages : List ℕ) → low ≤ n → AreAbove pages → All (λ page. low ≤ page) pages → All (λ page. page < n) pages → low + length pages ≤ n
rising-few low n [] order rise above inside = omega (arith, order)
rising-few low n (page ∷ pages) order rise above inside =
    let here = All-head (λ p. p < n) page pages inside in
    let least = All-head (λ p. low ≤ p) page pages above in
    let rest = rising-few (page + 1) n pages (omega (arith, here)) (pairs-tail (λ one other. one < other) page pages rise)
    (λ k d h. (let r = pairs-head (λ one other. one < other) page pages rise k d h in omega (arith, r))) (All-tail (λ p. p < n) page pages inside) in
    omega (arith, rest, least)

own-start : (starts : List ℕ) (k d : ℕ) → k < length starts → is_among starts (get_or starts k d) ≡ true
own-start [] k d h = absurd (omega (arith, h))
own-start (s ∷ starts) zero d h = or_left (eqb s s) (is_among starts s) (eq-eqb s s refl)
own-start (s ∷ starts) (suc k) d h = or_right (eqb s (get_or starts k d)) (is_among starts (get_or starts k d)) (own-start starts k d (omega (arith, h)))

-- A text has few rows.
pub state-few : (state : State) → IsWhole state → length (rows_in state) ≤ 16777216
state-few state whole =
    let count = length-shown_rows state.lines (heading_labels state.lines state.scenes) (layout_in state).body in
    let most = layout_of-few state.speakers (text_of state) whole.text in
    omega (arith, count, most)

-- Pages of a state: they rise, are rows and not too many, and each start of a record that is a row is one.
pub state-ArePages : (state : State) (records : List PageRecordOf) → IsWhole state
    → ArePages (length (rows_in state)) (record_starts state.lines (keys_in state) records) (pages_in (rows_on state.paper) state.lines (rows_in state) (layout_in state).breaks (Some records))
state-ArePages state records whole =
    let rows = rows_in state in
    let count = length rows in
    let breaks = (layout_in state).breaks in
    let limit = rows_on state.paper in
    let shapes = map shape_of rows in
    let starts = record_starts state.lines (keys_in state) records in
    let pages = pages_in limit state.lines rows breaks (Some records) in
    let same : length shapes ≡ count = length-map rows shape_of in
    let are = starts-are limit (text_heights shapes) (length shapes) (breaks ++ starts) in
    let inside : All (λ page. page < count) pages = λ k d h. (let i = are.inside k d h in omega (arith, i, same)) in
    let few = rising-few 0 count pages (omega arith) are.rise (λ k d h. omega arith) inside in
    let most = state-few state whole in
    record {
      rising = are.rise;
      within = inside;
      few = omega (arith, few, most);
      at_starts = λ k d h below.
          any-among pages (get_or starts k d)
          (stop-is-page limit (text_heights shapes) (length shapes) (breaks ++ starts) (get_or starts k d) (omega (arith, below, same))
          (among-append breaks starts (get_or starts k d) ∙ or_right (is_among breaks (get_or starts k d)) (is_among starts (get_or starts k d)) (own-start starts k d h)));
    }

-- So each row of a state with page records is on one sheet, and the rows of the sheets follow one another.
pub state-Cover : (state : State) (records : List PageRecordOf) → IsWhole state → state.pages ≡ Some records
    → Covers 0 (sheets_in (rows_on state.paper) state.lines (rows_in state) (layout_in state).breaks (Some records)) (length (rows_in state))
    × All (LiesWithin (length (rows_in state))) (sheets_in (rows_on state.paper) state.lines (rows_in state) (layout_in state).breaks (Some records))
state-Cover state records whole is =
    let are = state-AreKeptPages state records whole is in
    let starts = state-AreStarts state records whole is in
    let pages = state-ArePages state records whole in
    let begin = record_starts state.lines (keys_in state) records in
    let them = pages_in (rows_on state.paper) state.lines (rows_in state) (layout_in state).breaks (Some records) in (
      sheets-Cover (length (rows_in state)) records begin them are.some starts pages,
      sheets-Lie (length (rows_in state)) records begin them starts pages,
    )
