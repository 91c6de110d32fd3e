-- What is made of a state stays through locks and rounds, but for the labels that a lock of scenes gives.
use Rattle.std.proofs.Common.{◌≡◌, ℕ, ◌+◌, ◌<◌, ◌≤◌, Bool, true, false, Option, Some, None, Err, List, [], ◌++◌, map, length, refl, sym, ap, ap₂, subst, ◌∙◌, arith}
use Rattle.std.specs.Prelude.{All, IfSome, is_some, option_map}
use Rattle.std.proofs.lemmas.Bool.{or_left, or_right}
use Rattle.spec_text.specs.Lines.{TextState, IsText}
use Rattle.spec_text.proofs.EditedLaws.{text-HasIds}
use Rattle.spec_pages.specs.Pages.{page_starts, rows_on}
use Rattle.spec_labels.specs.declared.RowKey.{RowKey}
use Rattle.spec_labels.specs.Labels.{LabelOf}
use Rattle.spec_labels.specs.Scenes.{HeadingOf, SceneRecordOf, AreHeadings, scene_record_limit, locked_labels, locked_records}
use Rattle.spec_labels.specs.PageRecords.{PageRecordOf, SheetOf, AreSheets, page_record_limit, extended_page_records}
use Rattle.spec_sheets.proofs.RowLaws.{IsText-texts}
use Rattle.spec_sheets.specs.Shown.{Shown, key_of}
use Rattle.spec_state.specs.State.{State}
use Rattle.spec_state.specs.Headings.{headings_of}
use Rattle.spec_records.specs.Kept.{RecordsOf}
use Rattle.spec_state.specs.Keeping.{IsWhole, state_of}
use Rattle.spec_state.specs.Openings.{scenes_extended, pages_extended, scenes_locked, pages_locked, round_begun}
use Rattle.spec_state.specs.SoundStates.{AreLocked, IsSound}
use Rattle.spec_state.specs.StateSheets.{layout_in, rows_in, keys_in, sheets_in, body_sheets}
use Rattle.spec_state.proofs.HeadingLaws.{headings-are}
use Rattle.spec_state.proofs.StateKeys.{text-headings, state-keys, state-row_keys}
use Rattle.spec_state.proofs.StateLaws.{whole-sound, count-keys}
use Rattle.spec_state.proofs.OpeningLaw.{labels-stay, lock-rows, round-rows, rows-stay}
use Rattle.spec_machine.specs.Machine.{CanLockScenes, CanLockPages, CanBegin, FewPages, FewScenes}
use Rattle.spec_wire.specs.Replies.{RefusalOf, records_full}
use Rattle.spec_machine.specs.Refusals.{are_more, scenes_refusal, pages_refusal, round_refusal}
use Rattle.spec_machine.proofs.RefusalLaws.{below-is, pages-free, pages-full, round-free, round-full, scenes-free}
use Rattle.spec_machine.proofs.WholeStates.{lock_scenes-whole, lock_pages-whole, round-whole}
use Rattle.spec_machine.proofs.LabelLaw.{state-sheets}
use Rattle.sp_layout.specs.Bodies.{row_count, shapes_in}
use Rattle.sp_sheets.specs.Firsts.{key_starts}
use Rattle.sp_sheets.specs.Made.{MadeOf, IsMadeOf}
use Rattle.sp_labels.specs.declared.fault.LockFault.{LockFault}
use Rattle.sp_labels.specs.declared.fault.LockFault.TheVariants as locks
use Rattle.sp_locks.specs.Extension.{IsMade}
use Rattle.sp_records.specs.OpeningFaults.{lock_fault_of}
use Rattle.sp_sheets.specs.Openings.{ArePagesOpened, CanLockHeadings, IsFull, IsReason, pages_made}
use Rattle.sp_sheets.proofs.FirstsLaws.{count-rows}
use Rattle.sp_sheets.proofs.MadePages.{marked_or_locked, sheets-by}
use Rattle.sp_sheets.proofs.MadeSheets.{body-made, keys-made, made-lie}

-- The headings of a text keep what is asked of headings.
pub lines-headings : (text : TextState) → IsText text → AreHeadings (headings_of text.lines)
lines-headings text is = let are = IsText-texts text is in headings-are text.next text.lines (text-HasIds text is) are.utf8 are.few

-- ---- other scene records

abbrev pub with_scenes : State → Option (List SceneRecordOf) → State
with_scenes state scenes = record state { scenes = scenes }

-- Keys, shapes and marks of rows don't depend on the labels of headings, so neither do page starts and sheets.
pub scenes-keys : (state : State) (scenes : Option (List SceneRecordOf)) → keys_in (with_scenes state scenes) ≡ keys_in state
scenes-keys state scenes = state-row_keys (with_scenes state scenes) ∙ sym (state-row_keys state)

abbrev sheets_by : State → List RowKey → List SheetOf
sheets_by state keys =
    let firsts = key_starts state.lines keys state.pages in
    let body = (layout_in state).body in
    marked_or_locked body state.pages firsts (page_starts (rows_on state.paper) (shapes_in body) ((layout_in state).breaks ++ firsts))

pub scenes-sheets : (state : State) (scenes : Option (List SceneRecordOf)) → body_sheets (with_scenes state scenes) ≡ body_sheets state
scenes-sheets state scenes = sym (sheets-by (with_scenes state scenes) state.pages) ∙ ap (sheets_by state) (scenes-keys state scenes) ∙ sheets-by state state.pages

-- What is made, with other labels.
abbrev pub with_labels : MadeOf → List LabelOf → MadeOf
with_labels it labels = record it { numbered = record it.numbered { labels = Some labels } }

pub scenes-made : (state : State) (it : MadeOf) (scenes : List SceneRecordOf) (labels : List LabelOf) → IsMadeOf state it → labels ≡ locked_labels scenes (headings_of state.lines)
    → IsMadeOf (with_scenes state (Some scenes)) (with_labels it labels)
scenes-made state it scenes labels made are = record {
  layout = made.layout;
  numbered = record {
    labels = ap Some are;
    title_starts = made.numbered.title_starts;
    sheets = made.numbered.sheets ∙ sym (scenes-sheets state (Some scenes));
  };
}

-- ---- the lock of pages

lock-sheets : (state : State) → IsSound state → CanLockPages state → body_sheets (pages_locked state) ≡ body_sheets state
lock-sheets state sound can =
    let rows = rows_in state in
    let breaks = (layout_in state).breaks in
    let limit = rows_on state.paper in
    let stays = lock-rows state.paper state.lines rows breaks (state-keys state sound.text) can.rows in
    ap (λ (rs : List Shown). sheets_in limit state.lines rs breaks (pages_locked state).pages) (rows-stay state sound)
    ∙ ap (λ (pages : Option (List PageRecordOf)). sheets_in limit state.lines rows breaks (Some (extended_page_records [] (sheets_in limit state.lines rows breaks pages) (map key_of rows)))) can.unlocked
    ∙ stays.sheets
    ∙ ap (sheets_in limit state.lines rows breaks) (sym can.unlocked)

pub lock-made : (state : State) (it : MadeOf) → IsWhole state → CanLockPages state → IsMadeOf state it → IsMadeOf (pages_locked state) it
lock-made state it whole can made =
    let sound = whole-sound state whole in
    record {
      layout = made.layout;
      numbered = record {
        labels = made.numbered.labels ∙ sym (labels-stay state.lines state.scenes (text-headings state sound.text) sound.scenes);
        title_starts = made.numbered.title_starts;
        sheets = made.numbered.sheets ∙ sym (lock-sheets state sound can);
      };
    }

-- ---- the next round

round-sheets : (state : State) → IsSound state → body_sheets (round_begun state) ≡ body_sheets state
round-sheets state sound =
    ap (λ (rs : List Shown). sheets_in limit state.lines rs breaks (pages_extended state state.pages)) (rows-stay state sound) ∙ by state.pages refl sound.pages
  where
    limit : ℕ
    limit = rows_on state.paper

    breaks : List ℕ
    breaks = (layout_in state).breaks

    by : (pages : Option (List PageRecordOf)) → state.pages ≡ pages → IfSome pages AreLocked → sheets_in limit state.lines (rows_in state) breaks (pages_extended state pages) ≡ body_sheets state
    by None is locked = ap (sheets_in limit state.lines (rows_in state) breaks) (sym is)
    by (Some records) is locked =
        let rows = rows_in state in
        let stays = round-rows state.paper state.lines rows breaks records (state-keys state sound.text) locked in
        ap (λ (pages : Option (List PageRecordOf)). sheets_in limit state.lines rows breaks (Some (extended_page_records records (sheets_in limit state.lines rows breaks pages) (map key_of rows)))) is
        ∙ stays.sheets
        ∙ ap (sheets_in limit state.lines rows breaks) (sym is)

pub round-made : (state : State) (it : MadeOf) → IsWhole state → IsMadeOf state it → IsMadeOf (round_begun state) it
round-made state it whole made =
    let sound = whole-sound state whole in
    record {
      layout = made.layout;
      numbered = record {
        labels = made.numbered.labels ∙ sym (labels-stay state.lines state.scenes (text-headings state sound.text) sound.scenes);
        title_starts = made.numbered.title_starts;
        sheets = made.numbered.sheets ∙ sym (round-sheets state sound);
      };
    }

-- ---- what records of sheets ask for

pub made-AreSheets : (state : State) (it : MadeOf) → IsWhole state → IsMadeOf state it → AreSheets it.numbered.sheets
made-AreSheets state it whole made = subst AreSheets (sym made.numbered.sheets) (state-sheets state (whole-sound state whole).pages)

pub made-within : (state : State) (it : MadeOf) → IsWhole state → IsMadeOf state it → All (λ (sheet : SheetOf). sheet.omitted ≡ false → sheet.start < length it.layout.body.keys) it.numbered.sheets
made-within state it whole made k d h shown =
    let lie = made-lie state it whole made k d h in
    let some = lie.some shown in
    let within = lie.within in
    let keys = ap length (keys-made state it made) in
    let body = ap row_count (body-made state it made) in
    omega (arith, some, within, keys, body, count-keys state, count-rows state)

-- The page records with one for each page.
pub made-pages : (state : State) (it : MadeOf) (pages : Option (List PageRecordOf)) → IsMadeOf state it → pages_made it pages ≡ pages_extended state pages
made-pages state it None made = refl
made-pages state it (Some records) made = ap₂ (λ sheets keys. Some (extended_page_records records sheets keys)) made.numbered.sheets (keys-made state it made)

-- ---- what is accepted

-- Nothing refuses it, and it led to what was to be made of the state, from which this is made.
pub record Opened (refusal : Option RefusalOf) (opened new : State) (it : MadeOf) : Type 0 where
  pub free : refusal ≡ None
  pub same : new ≡ opened
  pub whole : IsWhole new
  pub made : IsMadeOf new it

pub scenes-opened : (state : State) (it : MadeOf) (scenes : List SceneRecordOf) (labels : List LabelOf) → IsWhole state → IsMadeOf state it → CanLockScenes state
    → scenes ≡ locked_records (headings_of state.lines) → labels ≡ locked_labels scenes (headings_of state.lines)
    → Opened (scenes_refusal state) (scenes_locked state) (with_scenes state (Some scenes)) (with_labels it labels)
scenes-opened state it scenes labels whole made can are theirs =
    let same : with_scenes state (Some scenes) ≡ scenes_locked state = ap (λ (those : List SceneRecordOf). with_scenes state (Some those)) are in
    record {
      free = scenes-free state can;
      same = same;
      whole = subst IsWhole (sym same) (lock_scenes-whole state whole can);
      made = scenes-made state it scenes labels made theirs;
    }

-- The records of the pages of what is made of a state.
abbrev pub records_with : MadeOf → List PageRecordOf
records_with it = extended_page_records [] it.numbered.sheets it.layout.body.keys

first-pages : (state : State) (it : MadeOf) → IsMadeOf state it → records_with it ≡ extended_page_records [] (body_sheets state) (keys_in state)
first-pages state it made = ap₂ (λ sheets keys. extended_page_records [] sheets keys) made.numbered.sheets (keys-made state it made)

rows-made : (state : State) (it : MadeOf) → IsMadeOf state it → length (rows_in state) ≡ row_count it.layout.body.elements
rows-made state it made = count-rows state ∙ sym (ap row_count (body-made state it made))

pub pages-opened : (state : State) (it : MadeOf) (scenes : Option (List SceneRecordOf)) (pages : List PageRecordOf) → IsWhole state → IsMadeOf state it → is_some state.scenes ≡ true → state.pages ≡ None
    → 0 < row_count it.layout.body.elements → scenes ≡ scenes_extended (headings_of state.lines) state.scenes → FewScenes (scenes_extended (headings_of state.lines) state.scenes)
    → pages ≡ records_with it → length (records_with it) ≤ page_record_limit
    → Opened (pages_refusal state) (pages_locked state) (record state { scenes = scenes; pages = Some pages }) it
pages-opened state it scenes pages whole made scened unlocked some are few theirs count =
    let first = first-pages state it made in
    let rows = rows-made state it made in
    let can : CanLockPages state = record {
      scenes = scened;
      unlocked = unlocked;
      rows = omega (arith, some, rows);
      few_scenes = few;
      few_pages = subst (λ (those : List PageRecordOf). length those ≤ page_record_limit) first count;
    } in
    let same : (let new : State = record state { scenes = scenes; pages = Some pages } in new) ≡ pages_locked state =
    ap₂ (λ ss ps. let new : State = record state { scenes = ss; pages = Some ps } in new) are (theirs ∙ first) in
    record {
      free = pages-free state can;
      same = same;
      whole = subst IsWhole (sym same) (lock_pages-whole state whole can);
      made = subst (λ (s : State). IsMadeOf s it) (sym same) (lock-made state it whole can made);
    }

pub round-opened : (state : State) (it : MadeOf) (scenes : Option (List SceneRecordOf)) (pages : Option (List PageRecordOf)) → IsWhole state → IsMadeOf state it → state.round < 99
    → scenes ≡ scenes_extended (headings_of state.lines) state.scenes → FewScenes (scenes_extended (headings_of state.lines) state.scenes)
    → pages ≡ pages_made it state.pages → FewPages (pages_made it state.pages)
    → Opened (round_refusal state) (round_begun state) (record state { round = state.round + 1; scenes = scenes; pages = pages }) it
round-opened state it scenes pages whole made rounds are few theirs count =
    let all = made-pages state it state.pages made in
    let can : CanBegin state = record { rounds = rounds; few_scenes = few; few_pages = subst FewPages all count } in
    let same : (let new : State = record state { round = state.round + 1; scenes = scenes; pages = pages } in new) ≡ round_begun state =
    ap₂ (λ ss ps. let new : State = record state { round = state.round + 1; scenes = ss; pages = ps } in new) are (theirs ∙ all) in
    record {
      free = round-free state can;
      same = same;
      whole = subst IsWhole (sym same) (round-whole state whole can);
      made = subst (λ (s : State). IsMadeOf s it) (sym same) (round-made state it whole made);
    }

-- ---- what is refused

pub many-scenes : (state : State) → is_some state.scenes ≡ true → state.pages ≡ None → 0 < length (rows_in state)
    → are_more scene_record_limit (scenes_extended (headings_of state.lines) state.scenes) ≡ true → pages_refusal state ≡ Some records_full
many-scenes state scened unlocked some many =
    let new = pages_locked state in
    pages-full state scened unlocked some (or_left (are_more scene_record_limit new.scenes) (are_more page_record_limit new.pages) many)

pub many-pages : (state : State) (it : MadeOf) → IsMadeOf state it → is_some state.scenes ≡ true → state.pages ≡ None → 0 < length (rows_in state)
    → page_record_limit < length (records_with it) → pages_refusal state ≡ Some records_full
many-pages state it made scened unlocked some many =
    let new = pages_locked state in
    let over : are_more page_record_limit new.pages ≡ true =
    below-is page_record_limit (length (extended_page_records [] (body_sheets state) (keys_in state))) (subst (λ (those : List PageRecordOf). page_record_limit < length those) (first-pages state it made) many) in
    pages-full state scened unlocked some (or_right (are_more scene_record_limit new.scenes) (are_more page_record_limit new.pages) over)

pub more-pages : (state : State) (it : MadeOf) → IsMadeOf state it → state.round < 99 → are_more page_record_limit (pages_made it state.pages) ≡ true → round_refusal state ≡ Some records_full
more-pages state it made rounds many =
    let new = round_begun state in
    let over : are_more page_record_limit new.pages ≡ true = sym (ap (are_more page_record_limit) (made-pages state it state.pages made)) ∙ many in
    round-full state rounds (or_right (are_more scene_record_limit new.scenes) (are_more page_record_limit new.pages) over)

-- ---- the same of records and of what was made, as a function that changes them sees them

pub scenes-answer : (text : TextState) (records old : RecordsOf) (it before : MadeOf) (scenes : List SceneRecordOf) (labels : List LabelOf) → records ≡ old → it ≡ before
    → IsWhole (state_of text old) → IsMadeOf (state_of text old) before → CanLockScenes (state_of text old) → scenes ≡ locked_records (headings_of text.lines) → labels ≡ locked_labels scenes (headings_of text.lines)
    → Opened (scenes_refusal (state_of text old)) (scenes_locked (state_of text old)) (state_of text (record records { scenes = Some scenes })) (with_labels it labels)
scenes-answer text records old it before scenes labels same same_made whole made can are theirs =
    let here : IsMadeOf (state_of text records) it = subst (λ (m : MadeOf). IsMadeOf (state_of text records) m) (sym same_made) (subst (λ (r : RecordsOf). IsMadeOf (state_of text r) before) (sym same) made) in
    subst (λ (r : RecordsOf). Opened (scenes_refusal (state_of text r)) (scenes_locked (state_of text r)) (state_of text (record records { scenes = Some scenes })) (with_labels it labels)) same
    (scenes-opened (state_of text records) it scenes labels (subst (λ (r : RecordsOf). IsWhole (state_of text r)) (sym same) whole) here (subst (λ (r : RecordsOf). CanLockScenes (state_of text r)) (sym same) can) are theirs)

pub pages-answer : (text : TextState) (records old : RecordsOf) (it : MadeOf) (scenes : Option (List SceneRecordOf)) (pages : List PageRecordOf) → records ≡ old
    → IsWhole (state_of text old) → IsMadeOf (state_of text old) it → is_some records.scenes ≡ true → records.pages ≡ None → 0 < row_count it.layout.body.elements
    → scenes ≡ scenes_extended (headings_of text.lines) records.scenes → FewScenes (scenes_extended (headings_of text.lines) records.scenes)
    → pages ≡ records_with it → length (records_with it) ≤ page_record_limit
    → Opened (pages_refusal (state_of text old)) (pages_locked (state_of text old)) (state_of text (record records { scenes = scenes; pages = Some pages })) it
pages-answer text records old it scenes pages same whole made scened unlocked some are few theirs count =
    subst (λ (r : RecordsOf). Opened (pages_refusal (state_of text r)) (pages_locked (state_of text r)) (state_of text (record records { scenes = scenes; pages = Some pages })) it) same
    (pages-opened (state_of text records) it scenes pages (subst (λ (r : RecordsOf). IsWhole (state_of text r)) (sym same) whole) (subst (λ (r : RecordsOf). IsMadeOf (state_of text r) it) (sym same) made)
    scened unlocked some are few theirs count)

pub round-answer : (text : TextState) (records old : RecordsOf) (it : MadeOf) (scenes : Option (List SceneRecordOf)) (pages : Option (List PageRecordOf)) → records ≡ old
    → IsWhole (state_of text old) → IsMadeOf (state_of text old) it → records.round < 99
    → scenes ≡ scenes_extended (headings_of text.lines) records.scenes → FewScenes (scenes_extended (headings_of text.lines) records.scenes)
    → pages ≡ pages_made it records.pages → FewPages (pages_made it records.pages)
    → Opened (round_refusal (state_of text old)) (round_begun (state_of text old)) (state_of text (record records { round = records.round + 1; scenes = scenes; pages = pages })) it
round-answer text records old it scenes pages same whole made rounds are few theirs count =
    subst (λ (r : RecordsOf). Opened (round_refusal (state_of text r)) (round_begun (state_of text r)) (state_of text (record records { round = records.round + 1; scenes = scenes; pages = pages })) it) same
    (round-opened (state_of text records) it scenes pages (subst (λ (r : RecordsOf). IsWhole (state_of text r)) (sym same) whole) (subst (λ (r : RecordsOf). IsMadeOf (state_of text r) it) (sym same) made)
    rounds are few theirs count)

none-is : {X : Type 0} (o : Option X) → is_some o ≡ false → o ≡ None
none-is None is = refl
none-is (Some x) is = absurd (let bad : ⊥ = cc in bad)

-- The headings are those of the text, and scenes are locked where there are records.
pub headings-can : (text : TextState) (records : RecordsOf) (locked : Bool) (headings : List HeadingOf) → locked ≡ is_some records.scenes → headings ≡ headings_of text.lines
    → CanLockHeadings locked headings → CanLockScenes (state_of text records)
headings-can text records locked headings same are can =
    let here : CanLockHeadings (is_some records.scenes) (headings_of text.lines) =
    subst (λ (b : Bool). CanLockHeadings b (headings_of text.lines)) same (subst (CanLockHeadings locked) are can) in
    record { unlocked = none-is records.scenes here.unlocked; form = here.form; order = here.order; few = here.few }

pub some-map : {X Y : Type 0} (f : X → Y) (o : Option X) → is_some o ≡ is_some (option_map f o)
some-map f None = refl
some-map f (Some x) = refl

pub none-map : {X Y : Type 0} (f : X → Y) (o : Option X) → is_some o ≡ false → option_map f o ≡ None
none-map f None is = refl
none-map f (Some x) is = absurd (let bad : ⊥ = cc in bad)

-- Too many scene records refuse a lock of pages.
pub full-answer : (text : TextState) (records old : RecordsOf) (fault : LockFault) → records ≡ old → is_some records.scenes ≡ true → records.pages ≡ None → 0 < length (rows_in (state_of text old))
    → IsFull (are_more scene_record_limit (scenes_extended (headings_of text.lines) records.scenes) ≡ true) fault → IsReason (pages_refusal (state_of text old)) (lock_fault_of fault)
full-answer text records old locks.RecordsFull same scened unlocked some many =
    many-scenes (state_of text old) (sym (ap (λ (r : RecordsOf). is_some r.scenes) same) ∙ scened) (sym (ap (λ (r : RecordsOf). r.pages) same) ∙ unlocked) some
    (sym (ap (λ (r : RecordsOf). are_more scene_record_limit (scenes_extended (headings_of text.lines) r.scenes)) same) ∙ many)
full-answer text records old locks.NoMemory same scened unlocked some many = tt

-- Too many page records refuse it.
pub full-pages : (text : TextState) (records old : RecordsOf) (it : MadeOf) (fault : LockFault) → records ≡ old → IsMadeOf (state_of text old) it → is_some records.scenes ≡ true → records.pages ≡ None
    → 0 < length (rows_in (state_of text old)) → IsMade (records_with it) (Err fault) → IsReason (pages_refusal (state_of text old)) (lock_fault_of fault)
full-pages text records old it locks.RecordsFull same made scened unlocked some many =
    many-pages (state_of text old) it made (sym (ap (λ (r : RecordsOf). is_some r.scenes) same) ∙ scened) (sym (ap (λ (r : RecordsOf). r.pages) same) ∙ unlocked) some many
full-pages text records old it locks.NoMemory same made scened unlocked some many = tt

-- They refuse a round too, and then the page records are as they were.
pub round-refused : (text : TextState) (records old : RecordsOf) (it : MadeOf) (pages : Option (List PageRecordOf)) (fault : LockFault) → records ≡ old → IsMadeOf (state_of text old) it → records.round < 99
    → ArePagesOpened it records.pages pages (Err fault) → IsReason (round_refusal (state_of text old)) (lock_fault_of fault) × (state_of text (record records { pages = pages }) ≡ state_of text old)
round-refused text records old it pages locks.RecordsFull same made rounds are = (
  more-pages (state_of text old) it made (subst (λ (r : RecordsOf). r.round < 99) same rounds) (sym (ap (λ (r : RecordsOf). are_more page_record_limit (pages_made it r.pages)) same) ∙ are.0),
  ap (λ (ps : Option (List PageRecordOf)). state_of text (record records { pages = ps })) are.1 ∙ ap (state_of text) same,
)
round-refused text records old it pages locks.NoMemory same made rounds are =
    (tt, ap (λ (ps : Option (List PageRecordOf)). state_of text (record records { pages = ps })) are ∙ ap (state_of text) same)

-- How many rows there are, by those of what was made.
pub rows-answer : (text : TextState) (old : RecordsOf) (it : MadeOf) → IsMadeOf (state_of text old) it → length (rows_in (state_of text old)) ≡ row_count it.layout.body.elements
rows-answer text old it made = rows-made (state_of text old) it made
