-- Locks and rounds keep what a state keeps.
use Rattle.std.proofs.Common.{◌≡◌, ℕ, zero, suc, ◌+◌, ◌<◌, ◌≤◌, cond, Option, Some, None, List, [], ◌∷◌, ◌++◌, map, length, get_or, refl, sym, ap, ap₂, subst, ◌∙◌, arith}
use Rattle.std.specs.Prelude.{All, AllPairs, IfSome, is_some}
use Rattle.std.proofs.lemmas.Bool.{lt-ltb}
use Rattle.std.proofs.lemmas.List.{length-map}
use Rattle.std.proofs.lemmas.List.Elements.{All-nil, All-cons}
use Rattle.spec_text.specs.Lines.{LineState, IsText}
use Rattle.spec_labels.specs.declared.RowKey.{RowKey}
use Rattle.spec_labels.specs.Labels.{IsLabel, Below}
use Rattle.spec_labels.specs.Scenes.{HeadingOf, SceneRecordOf, extended_records}
use Rattle.spec_labels.specs.PageRecords.{PageRecordOf, SheetOf, RisingRecords, record_starts, new_page_records, extended_page_records}
use Rattle.spec_labels.proofs.LabelsBetween.{IsLabel-plain}
use Rattle.spec_labels.proofs.PageRecordLaws.{extended_page_records-rise, extended_page_records-labels, length-extended_page_records}
use Rattle.spec_labels.proofs.SheetLaws.{sheets-AreSheets}
use Rattle.spec_records.specs.Kept.{KeptOf, KeepsScenes, AreKeptScenes, scene_steps}
use Rattle.spec_text.specs.EditedLines.{no_line}
use Rattle.spec_sheets.specs.Shown.{Shown, shape_of}
use Rattle.spec_pages.specs.Heights.{Heights, next_of, starts_behind, starts_of}
use Rattle.spec_pages.specs.Pages.{text_heights, rows_on}
use Rattle.spec_state.specs.State.{State, text_of}
use Rattle.spec_state.specs.Headings.{headings_of}
use Rattle.spec_state.specs.StateSheets.{numbered_sheets, layout_in, rows_in, keys_in, pages_in, sheets_in}
use Rattle.spec_state.specs.Openings.{scenes_extended, pages_extended, scenes_locked, pages_locked, round_begun}
use Rattle.spec_state.specs.SoundStates.{AreLocked}
use Rattle.spec_state.proofs.HeadingLaws.{headings-letters}
use Rattle.spec_state.proofs.OpeningLaw.{numbered-rise}
use Rattle.spec_machine.specs.Machine.{CanLockScenes, CanLockPages, CanBegin, FewScenes}
use Rattle.spec_state.specs.Keeping.{state_kept}
use Rattle.spec_state.specs.KeptStates.{IsKept}
use Rattle.spec_state.proofs.StateKeys.{text-headings, text-OfLines}
use Rattle.spec_state.proofs.SceneKeeps.{AreBelow, locked-kept, extended-kept}

-- A scene's label may have one step more where pages are locked.
abbrev step_more : Option (List PageRecordOf) → ℕ
step_more pages = cond (is_some pages) 1 0

-- Ids of headings are those of lines, so below the next.
pub headings-below : (state : State) → IsText (text_of state) → AreBelow state.next (headings_of state.lines)
headings-below state text =
    let of = text-OfLines state text in
    record {
      all = λ k d h.
          let own = of.own k d h in
          let low = text.below (get_or (headings_of state.lines) k d).place no_line (of.within k d h) in
          omega (arith, own, low);
    }

-- ---- the lock of scenes

pub lock_scenes-keeps : (state : State) → IsKept state → CanLockScenes state → IsKept (scenes_locked state)
lock_scenes-keeps state kept can = record {
  text = kept.text;
  round = kept.round;
  marks = kept.marks;
  scenes = locked-kept state.next (16 + state.round + cond (is_some state.pages) 1 0) (headings_of state.lines) (text-headings state kept.text) (headings-letters state.lines)
      (headings-below state kept.text) can.form can.order can.few (omega arith);
  scened = λ h. refl;
  pages = kept.pages;
}

-- ---- scenes of an opening

extend-scenes : (state : State) (it : KeptOf) → IsKept state → it.next ≡ state.next → scene_steps (state_kept state).records + 1 ≤ scene_steps it.records
    → FewScenes (scenes_extended (headings_of state.lines) state.scenes) → KeepsScenes it (scenes_extended (headings_of state.lines) state.scenes)
extend-scenes state it kept same more few = by state.scenes kept.scenes few
  where
    by : (scenes : Option (List SceneRecordOf)) → KeepsScenes (state_kept state) scenes → FewScenes (scenes_extended (headings_of state.lines) scenes) → KeepsScenes it (scenes_extended (headings_of state.lines) scenes)
    by None are few_is = tt
    by (Some records) are few_is =
        subst (λ n. AreKeptScenes n (scene_steps it.records) (extended_records records (headings_of state.lines))) (sym same)
        (extended-kept state.next (scene_steps (state_kept state).records) (scene_steps it.records) records (headings_of state.lines) are
        (text-headings state kept.text) (headings-below state kept.text) few_is more)

extended-some : (headings : List HeadingOf) (scenes : Option (List SceneRecordOf)) → is_some (scenes_extended headings scenes) ≡ is_some scenes
extended-some headings None = refl
extended-some headings (Some records) = refl

-- ---- the lock of pages

numbered-labels : (rows : List Shown) (number : ℕ) (pages : List ℕ) → All (λ (sheet : SheetOf). IsLabel sheet.first) (numbered_sheets rows number pages)
numbered-labels rows number [] = All-nil (λ (sheet : SheetOf). IsLabel sheet.first)
numbered-labels rows number (page ∷ later) =
    All-cons (λ (sheet : SheetOf). IsLabel sheet.first) _ (numbered_sheets rows (number + 1) later) (IsLabel-plain number) (numbered-labels rows (number + 1) later)

-- Records of sheets whose labels rise.
sheets-locked : (records : List PageRecordOf) (sheets : List SheetOf) (keys : List RowKey) → All (λ (it : PageRecordOf). IsLabel it.label) records → RisingRecords records
    → All (λ (sheet : SheetOf). IsLabel sheet.first) sheets → AllPairs (λ (one other : SheetOf). Below one.first other.first) sheets → 0 < length (extended_page_records records sheets keys)
    → AreLocked (extended_page_records records sheets keys)
sheets-locked records sheets keys labels rising firsts rise some = record {
  some = some;
  labels = extended_page_records-labels records sheets keys labels firsts;
  rising = extended_page_records-rise records sheets keys rising rise;
}

pub numbered-locked : (rows : List Shown) (pages : List ℕ) (keys : List RowKey) → 0 < length pages → AreLocked (extended_page_records [] (numbered_sheets rows 1 pages) keys)
numbered-locked rows pages keys some =
    let sheets = numbered_sheets rows 1 pages in
    sheets-locked [] sheets keys (All-nil (λ (it : PageRecordOf). IsLabel it.label)) (λ i j d less inside. absurd (omega (arith, less, inside))) (numbered-labels rows 1 pages) (numbered-rise rows 1 pages)
    (let count = length-extended_page_records [] sheets keys in let first = news pages some in omega (arith, count, first))
  where
    news : (ps : List ℕ) → 0 < length ps → 0 < length (new_page_records [] (numbered_sheets rows 1 ps) keys)
    news [] none = absurd (omega (arith, none))
    news (p ∷ ps) more = omega arith

pub lock_pages-keeps : (state : State) → IsKept state → CanLockPages state → IsKept (pages_locked state)
lock_pages-keeps state kept can = record {
  text = kept.text;
  round = kept.round;
  marks = kept.marks;
  scenes = extend-scenes state (state_kept (pages_locked state)) kept refl
      (let none : step_more state.pages ≡ 0 = ap step_more can.unlocked in omega (arith, none)) can.few_scenes;
  scened = λ h. extended-some (headings_of state.lines) state.scenes ∙ can.scenes;
  pages = subst (λ pages. AreLocked (extended_page_records [] (sheets_in (rows_on state.paper) state.lines rows breaks pages) (keys_in state))) (sym can.unlocked)
      (numbered-locked rows (pages_in (rows_on state.paper) state.lines rows breaks None) (keys_in state)
      (first-some (rows_on state.paper) (text_heights (map shape_of rows)) (length (map shape_of rows)) (breaks ++ []) (let size = length-map rows shape_of in let some = can.rows in omega (arith, size, some))));
}
  where
    rows : List Shown
    rows = rows_in state

    breaks : List ℕ
    breaks = (layout_in state).breaks

    first-some : (limit : ℕ) (heights : Heights) (count : ℕ) (stops : List ℕ) → 0 < count → 0 < length (starts_of limit heights count stops)
    first-some limit heights zero stops some = absurd (omega (arith, some))
    first-some limit heights (suc n) stops some =
        let rest = starts_behind limit heights (suc n) stops n (next_of limit heights (suc n) stops 0) in
        subst (λ b. 0 < length (cond b (0 ∷ rest) [])) (sym (lt-ltb 0 (suc n) some)) (omega arith)

-- ---- the next round

round-locked : (state : State) (records : List PageRecordOf) → AreLocked records
    → AreLocked (extended_page_records records (sheets_in (rows_on state.paper) state.lines (rows_in state) (layout_in state).breaks (Some records)) (keys_in state))
round-locked state records are =
    let rows = rows_in state in
    let breaks = (layout_in state).breaks in
    let sheets = sheets_in (rows_on state.paper) state.lines rows breaks (Some records) in
    let them = sheets-AreSheets (length rows) records (record_starts state.lines (keys_in state) records) (pages_in (rows_on state.paper) state.lines rows breaks (Some records)) are.labels are.rising in
    let count = length-extended_page_records records sheets (keys_in state) in
    let some = are.some in
    sheets-locked records sheets (keys_in state) are.labels are.rising them.first them.firsts (omega (arith, count, some))

pub round-keeps : (state : State) → IsKept state → CanBegin state → IsKept (round_begun state)
round-keeps state kept can =
    let rounds = can.rounds in
    record {
      text = kept.text;
      round = omega (arith, rounds);
      marks = λ k d h. (let m = kept.marks k d h in omega (arith, m));
      scenes = extend-scenes state (state_kept (round_begun state)) kept refl
          (let same : step_more (pages_extended state state.pages) ≡ step_more state.pages = ap (λ b. cond b 1 0) (pages-some state.pages) in omega (arith, same)) can.few_scenes;
      scened = λ h. extended-some (headings_of state.lines) state.scenes ∙ kept.scened (sym (pages-some state.pages) ∙ h);
      pages = by state.pages refl kept.pages;
    }
  where
    pages-some : (pages : Option (List PageRecordOf)) → is_some (pages_extended state pages) ≡ is_some pages
    pages-some None = refl
    pages-some (Some records) = refl

    by : (pages : Option (List PageRecordOf)) → state.pages ≡ pages → IfSome pages AreLocked → IfSome (pages_extended state pages) AreLocked
    by None is are = tt
    by (Some records) is are =
        subst (λ pages. AreLocked (extended_page_records records (sheets_in (rows_on state.paper) state.lines (rows_in state) (layout_in state).breaks pages) (keys_in state))) (sym is) (round-locked state records are)

-- Settings change nothing of it.
pub settings-keep : (state new : State) → IsKept state → new.lines ≡ state.lines → new.next ≡ state.next → new.round ≡ state.round → new.scenes ≡ state.scenes → new.pages ≡ state.pages → IsKept new
settings-keep state new kept lines next round scenes pages = record {
  text = subst (λ ls. IsText (record { lines = ls; next = new.next })) (sym lines) (subst (λ n. IsText (record { lines = state.lines; next = n })) (sym next) kept.text);
  round = subst (λ r. r ≤ 99) (sym round) kept.round;
  marks = subst (λ ls. All (λ (line : LineState). line.mark ≤ new.round) ls) (sym lines) (subst (λ r. All (λ (line : LineState). line.mark ≤ r) state.lines) (sym round) kept.marks);
  scenes = by new.scenes scenes;
  scened = λ h. ap is_some scenes ∙ kept.scened (sym (ap is_some pages) ∙ h);
  pages = subst (λ p. IfSome p AreLocked) (sym pages) kept.pages;
}
  where
    steps : scene_steps (state_kept new).records ≡ scene_steps (state_kept state).records
    steps = ap₂ (λ r (p : Option (List PageRecordOf)). 16 + r + cond (is_some p) 1 0) round pages

    by : (them : Option (List SceneRecordOf)) → them ≡ state.scenes → KeepsScenes (state_kept new) them
    by None is = tt
    by (Some records) is =
        let here : KeepsScenes (state_kept state) (Some records) = subst (KeepsScenes (state_kept state)) (sym is) kept.scenes in
        subst (λ n. AreKeptScenes n (scene_steps (state_kept new).records) records) (sym next) (subst (λ s. AreKeptScenes state.next s records) (sym steps) here)
