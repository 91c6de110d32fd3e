-- After a lock of pages or a round each record with a row is a locked page and one sheet, and keeps it.
use Rattle.std.proofs.Common.{◌≡◌, ℕ, zero, suc, ◌-◌, ◌<◌, Bool, true, false, cond, Option, Some, None, List, [], ◌∷◌, ◌++◌, length, map, drop, get_or, inl, inr, refl, sym, ap, subst, ◌∙◌, arith, unwrap_or}
use Rattle.std.specs.Prelude.{All, IfSome, filter, slice_range, is_some}
use Rattle.std.specs.List.{flat_map}
use Rattle.std.proofs.lemmas.Bool.{cases_Bool, true≢false}
use Rattle.std.proofs.lemmas.List.{length-map}
use Rattle.std.proofs.lemmas.List.Elements.{All-nil, All-cons, All-head, All-tail, All-append, All-take, All-drop}
use Rattle.spec_text.specs.Lines.{LineState, IsText, line_texts}
use Rattle.spec_script.specs.LongestRuns.{Group}
use Rattle.spec_script.specs.Stanzas.{PlacedBlock, blocks_of}
use Rattle.spec_script.specs.Elements.{line_of_block, alone, pair}
use Rattle.spec_script.proofs.RunSteps.{one_alone}
use Rattle.spec_pages.specs.Pages.{is_heading, rows_on}
use Rattle.spec_pages.specs.Rows.{Row, line_state, is_title, placed_rows}
use Rattle.spec_labels.specs.Labels.{LabelOf}
use Rattle.spec_labels.specs.Scenes.{HeadingOf, SceneRecordOf, extended_records, line_place}
use Rattle.spec_labels.specs.PageRecords.{PageRecordOf, SegmentOf, SheetOf, segments, record_starts, page_sheets, page_sheet, extended_page_records}
use Rattle.spec_labels.proofs.SceneStays.{no_heading}
use Rattle.spec_sheets.specs.Cells.{ShownCell}
use Rattle.spec_sheets.specs.Layout.{laid_out}
use Rattle.spec_sheets.specs.Shown.{Shown, element_cue, shown_of, key_of}
use Rattle.spec_sheets.proofs.RowLaws.{IsText-texts}
use Rattle.spec_state.specs.State.{State, text_of}
use Rattle.spec_state.specs.Keeping.{IsWhole}
use Rattle.spec_state.specs.Headings.{is_heading_block, heading_of, headings_of}
use Rattle.spec_state.specs.StateSheets.{pages_in, sheets_in, layout_in, rows_in, keys_in}
use Rattle.spec_state.specs.Openings.{scenes_extended, pages_extended, pages_locked, round_begun}
use Rattle.spec_state.specs.SoundStates.{AreLocked, IsSound}
use Rattle.spec_state.proofs.StateKeys.{state-keys}
use Rattle.spec_state.proofs.StateLaws.{whole-kept, whole-sound}
use Rattle.spec_wire.specs.Commands.{CommandOf, edit, undo, redo, lock_scenes, lock_pages, next_round, speakers, paper}
use Rattle.spec_machine.specs.Machine.{EntryOf, Memory, opened_memory, without_last, entry_of, undone_to, redone_to, memory_after, CanDo, memory_behind, CanLockPages, CanBegin}
use Rattle.spec_machine.specs.Refusals.{refusal_to}
use Rattle.spec_machine.specs.KeptMemories.{IsWholeMemory}
use Rattle.spec_machine.specs.Sessions.{AcceptsAll, AcceptsSessions, session_behind, session_entries, sessions_behind}
use Rattle.spec_machine.proofs.DeskLaws.{opening-found}
use Rattle.spec_machine.proofs.MachineLaws.{steps-whole, opened-whole}
use Rattle.spec_machine.proofs.RefusalLaws.{accepted-can, free-pages, free-round}
use Rattle.spec_machine.proofs.WholeStates.{lock_pages-whole, round-whole}
use Rattle.spec_state.proofs.SinglePages.{IsSingle}
use Rattle.spec_state.proofs.OpeningLaw.{round-rows, lock-rows, rows-stay}
use Rattle.spec_edit.specs.Items.{rows_among, all_sights}
use Rattle.spec_edit.specs.TextItems.{Script, spoken_by, spoken_group, element_label, text_rows}
use Rattle.spec_edit.proofs.ItemRows.{shown_texts}
use Rattle.spec_edit.proofs.SoundElements.{SoundSteps, elements-sound}
use Rattle.spec_locked_pages.specs.Segments.{records_in, record_at, no_segment, segments_in, segment_at, pages_of, pages_at, sheets_at, bytes_at, has_scene, HasScene, IsLockedPage}
use Rattle.spec_locked_pages.specs.LockedPages.{StaysLocked}
use Rattle.spec_locked_pages.specs.Chains.{LeadTo, first_state, GoOn, IsOneSheet, IsOpened, KeepsOpened, IsStep, AreSteps}
use Rattle.spec_locked_pages.proofs.HeadingBlocks.{PlacedLined, blocks-lined}
use Rattle.spec_locked_pages.proofs.HeadingRows.{IsOf, alone-begins, pair-begins}
use Rattle.spec_locked_pages.proofs.RowsAgree.{agree-has, state-agree, script-rows, placed-of, heading-at}
use Rattle.spec_locked_pages.proofs.StateScripts.{script_of, texts_of, blocks_in, items_of}
use Rattle.spec_locked_pages.proofs.StateStarts.{length-starts, segment-made}
use Rattle.spec_locked_pages.proofs.ChainLaws.{chain-keeps, first-join, lead-join, steps-linked, opened-linked, has-last}

-- ---- headings with records

-- A block is no heading, or its line has a scene record.
record IsReady (lines : List LineState) (scenes : Option (List SceneRecordOf)) (placed : PlacedBlock) : Type 0 where
  lined : PlacedLined placed
  has : is_heading_block placed ≡ true → has_scene scenes (line_state lines (line_of_block placed)).id ≡ true

abbrev RowHas : List LineState → Option (List SceneRecordOf) → Row → Type 0
RowHas lines scenes row = is_heading row.shape.kind ≡ true → has_scene scenes (line_state lines row.line).id ≡ true

rows-have : (lines : List LineState) (scenes : Option (List SceneRecordOf)) (cue : List ShownCell) (label : Option LabelOf) (those : List Row) → All (RowHas lines scenes) those
    → All (HasScene scenes) (map (shown_of lines cue label) those)
rows-have lines scenes cue label [] all = All-nil (HasScene scenes)
rows-have lines scenes cue label (row ∷ those) all =
    All-cons (HasScene scenes) (shown_of lines cue label row) (map (shown_of lines cue label) those) (record { by = All-head (RowHas lines scenes) row those all })
    (rows-have lines scenes cue label those (All-tail (RowHas lines scenes) row those all))

plain-have : (lines : List LineState) (scenes : Option (List SceneRecordOf)) (those : List Row) → All (IsOf false) those → All (RowHas lines scenes) those
plain-have lines scenes those all k d h is = absurd (true≢false (sym is ∙ all k d h))

untitled : (lines : List LineState) (scenes : Option (List SceneRecordOf)) (b : Bool) (those : List Row) → All (RowHas lines scenes) those → All (RowHas lines scenes) (cond b [] those)
untitled lines scenes true those all = All-nil (RowHas lines scenes)
untitled lines scenes false those all = all

module _ (script : Script) (scenes : Option (List SceneRecordOf)) where
  abbrev AllHave : ℕ → ℕ → List (Group PlacedBlock) → Type 0
  AllHave low high groups = All (HasScene scenes) (flat_map (shown_texts script) groups)

  next-have : (element : Group PlacedBlock) (others : List (Group PlacedBlock)) → All (RowHas script.lines scenes) (placed_rows (laid_out script.lines (spoken_group script element)))
      → All (HasScene scenes) (flat_map (shown_texts script) others) → All (HasScene scenes) (flat_map (shown_texts script) (element ∷ others))
  next-have element others here behind =
      All-append (HasScene scenes) (shown_texts script element) (flat_map (shown_texts script) others)
      (rows-have script.lines scenes (element_cue (line_texts script.lines) (text_rows script element)) (element_label script element) (text_rows script element)
      (untitled script.lines scenes (is_title element.first.block.kind) (placed_rows (laid_out script.lines (spoken_group script element))) here))
      behind

  have-steps : SoundSteps (IsReady script.lines scenes) AllHave
  have-steps = record {
    none = λ low high order. All-nil (HasScene scenes);
    single = λ low high block others sound ready order behind.
        next-have (alone block) others
        (elim (cases_Bool (is_heading_block block)) [
          | inl is ↦
              let at = heading-at script.lines block (script.continued (line_of_block block)) sound ready.lined is in
              λ k d h heading. subst (λ p. has_scene scenes (line_state script.lines p).id ≡ true) (sym (at k d h)) (ready.has is)
          | inr plain ↦
              let own = laid_out script.lines (one_alone (spoken_by script block)) in
              let begins = alone-begins script.lines (spoken_by script block) ready.lined in
              plain-have script.lines scenes (placed_rows own) (placed-of false own.first own.rows (subst (λ b. All (IsOf b) own.rows) plain begins.all))
        ])
        behind;
    double = λ low high left right others l r dual places order apart behind.
        next-have (pair left right) others
        (let own = laid_out script.lines (spoken_group script (pair left right)) in
        plain-have script.lines scenes (placed_rows own) (placed-of false own.first own.rows (pair-begins script.lines (spoken_by script left) (spoken_by script right)).all))
        behind;
  }

-- Every heading of the text has a record.
abbrev HeadingsHave : State → Option (List SceneRecordOf) → Type 0
HeadingsHave state scenes = All (λ (heading : HeadingOf). has_scene scenes heading.id ≡ true) (headings_of state.lines)

blocks-have : (lines : List LineState) (scenes : Option (List SceneRecordOf)) (blocks : List PlacedBlock) → All (λ (heading : HeadingOf). has_scene scenes heading.id ≡ true) (map (heading_of lines) (filter is_heading_block blocks))
    → All (λ (placed : PlacedBlock). is_heading_block placed ≡ true → has_scene scenes (line_state lines (line_of_block placed)).id ≡ true) blocks
blocks-have lines scenes [] all = All-nil _
blocks-have lines scenes (block ∷ blocks) all = by (is_heading_block block) refl all (λ rest. blocks-have lines scenes blocks rest)
  where
    P : HeadingOf → Type 0
    P heading = has_scene scenes heading.id ≡ true

    Q : PlacedBlock → Type 0
    Q placed = is_heading_block placed ≡ true → has_scene scenes (line_state lines (line_of_block placed)).id ≡ true

    by : (b : Bool) → is_heading_block block ≡ b → All (λ (heading : HeadingOf). has_scene scenes heading.id ≡ true) (map (heading_of lines) (cond b (block ∷ filter is_heading_block blocks) (filter is_heading_block blocks)))
        → (All (λ (heading : HeadingOf). has_scene scenes heading.id ≡ true) (map (heading_of lines) (filter is_heading_block blocks)) → All (λ (placed : PlacedBlock). is_heading_block placed ≡ true → has_scene scenes (line_state lines (line_of_block placed)).id ≡ true) blocks)
        → All (λ (placed : PlacedBlock). is_heading_block placed ≡ true → has_scene scenes (line_state lines (line_of_block placed)).id ≡ true) (block ∷ blocks)
    by true is all rest =
        All-cons Q block blocks (λ h. All-head P (heading_of lines block) (map (heading_of lines) (filter is_heading_block blocks)) all)
        (rest (All-tail P (heading_of lines block) (map (heading_of lines) (filter is_heading_block blocks)) all))
    by false is all rest = All-cons Q block blocks (λ h. absurd (true≢false (sym h ∙ is))) (rest all)

-- So has every heading's row.
state-have : (state : State) → IsText (text_of state) → HeadingsHave state state.scenes → All (HasScene state.scenes) (rows_in state)
state-have state is have =
    let are = IsText-texts (text_of state) is in
    let lined = blocks-lined (texts_of state) in
    let each = blocks-have state.lines state.scenes (blocks_of (texts_of state)) have in
    agree-has state.scenes (rows_in state) (rows_among (all_sights (items_of state))) (state-agree state is)
    (subst (All (HasScene state.scenes)) (sym (script-rows (script_of state) (blocks_in state)))
    (elements-sound (texts_of state) (IsReady state.lines state.scenes) (AllHave (script_of state) state.scenes) (have-steps (script_of state) state.scenes)
    (λ k d h. record { lined = lined k d h; has = each k d h }) are.utf8 are.few))

range-have : (scenes : Option (List SceneRecordOf)) (rows : List Shown) (s e : ℕ) → All (HasScene scenes) rows → All (HasScene scenes) (slice_range rows s e)
range-have scenes rows s e all = All-take (HasScene scenes) (e - s) (drop s rows) (All-drop (HasScene scenes) s rows all)

-- ---- one sheet

one-label : (segment : SegmentOf) (pages : List ℕ) → length (page_sheets segment 0 pages) ≡ 1 → All (λ (sheet : SheetOf). sheet.first ≡ segment.owner.label) (page_sheets segment 0 pages)
one-label segment [] one = absurd (omega (arith, one))
one-label segment (page ∷ []) one = All-cons (λ (sheet : SheetOf). sheet.first ≡ segment.owner.label) (page_sheet segment 0 page []) [] refl (All-nil (λ (sheet : SheetOf). sheet.first ≡ segment.owner.label))
one-label segment (page ∷ next ∷ later) one = absurd (omega (arith, one))

owner-is : (state : State) (i : ℕ) → i < length (records_in state) → (segment_at state i).owner ≡ record_at state i
owner-is state i there =
    ap (λ (segment : SegmentOf). segment.owner) (segment-made (length (rows_in state)) (records_in state) (record_starts state.lines (keys_in state) (records_in state)) i no_segment (length-starts state (records_in state)) there)

one-sheet : (state : State) (i : ℕ) → i < length (records_in state) → length (sheets_at state i) ≡ 1 → IsOneSheet state i
one-sheet state i there one = record {
  one = one;
  label = subst (λ (owner : PageRecordOf). All (λ (sheet : SheetOf). sheet.first ≡ owner.label) (sheets_at state i)) (owner-is state i there) (one-label (segment_at state i) (pages_at state i) one);
}

pub length-segments : (rows : ℕ) (records : List PageRecordOf) (starts : List ℕ) → length starts ≡ length records → length (segments rows records starts) ≡ length records
length-segments rows [] starts same = refl
length-segments rows (it ∷ records) [] same = absurd (omega (arith, same))
length-segments rows (it ∷ records) (start ∷ starts) same = ap suc (length-segments rows records starts (omega (arith, same)))

single-sheet : (state : State) (i : ℕ) → All (IsSingle (pages_of state)) (segments_in state) → i < length (records_in state) → (segment_at state i).start < (segment_at state i).end → IsOneSheet state i
single-sheet state i single there some =
    let count = length-segments (length (rows_in state)) (records_in state) (record_starts state.lines (keys_in state) (records_in state)) (length-starts state (records_in state)) in
    let one : pages_at state i ≡ (segment_at state i).start ∷ [] = single i no_segment (omega (arith, there, count)) some in
    one-sheet state i there (ap (λ (pages : List ℕ). length (page_sheets (segment_at state i) 0 pages)) one)

-- What makes a state opened.
opened-by : (state : State) → IsText (text_of state) → (0 < length (records_in state) → HeadingsHave state state.scenes) → All (IsSingle (pages_of state)) (segments_in state) → IsOpened state
opened-by state is have single = record {
  locked = λ i there some. record {
    there = there;
    row = some;
    scenes = range-have state.scenes (rows_in state) (segment_at state i).start (segment_at state i).end (state-have state is (have (omega (arith, there))));
  };
  single = λ i there some. single-sheet state i single there some;
}

-- ---- locks and rounds

-- Every heading has a record once records are extended.
extended-have : (state : State) → IsWhole state → is_some state.scenes ≡ true → HeadingsHave state (scenes_extended (headings_of state.lines) state.scenes)
extended-have state whole some = by state.scenes refl
  where
    by : (scenes : Option (List SceneRecordOf)) → state.scenes ≡ scenes → HeadingsHave state (scenes_extended (headings_of state.lines) state.scenes)
    by None is = absurd (true≢false (sym some ∙ ap is_some is))
    by (Some records) is =
        subst (λ (scenes : Option (List SceneRecordOf)). HeadingsHave state (scenes_extended (headings_of state.lines) scenes)) (sym is)
        (λ k d h.
        let found = opening-found state whole records is k h in
        let same : get_or (headings_of state.lines) k no_heading ≡ get_or (headings_of state.lines) k d = default (headings_of state.lines) k d h in
        subst (λ (heading : HeadingOf). is_some (line_place (extended_records records (headings_of state.lines)) heading.id) ≡ true) same (ap is_some found.at))
      where
        default : (headings : List HeadingOf) (k : ℕ) (d : HeadingOf) → k < length headings → get_or headings k no_heading ≡ get_or headings k d
        default [] k d h = absurd (omega (arith, h))
        default (heading ∷ headings) zero d h = refl
        default (heading ∷ headings) (suc k) d h = default headings k d (omega (arith, h))

-- What segments are with these rows and records.
abbrev SingleWith : State → List Shown → Option (List PageRecordOf) → Type 0
SingleWith state rows pages =
    All (IsSingle (pages_in (rows_on state.paper) state.lines rows (layout_in state).breaks pages)) (segments (length rows) (unwrap_or pages []) (record_starts state.lines (map key_of rows) (unwrap_or pages [])))

none-single : (pages : List ℕ) → All (IsSingle pages) []
none-single pages = All-nil (IsSingle pages)

pub round-opened : (state : State) → IsWhole state → CanBegin state → IsOpened (round_begun state)
round-opened state whole can =
    let after = round-whole state whole can in
    opened-by (round_begun state) after.text have
    (subst (λ (rows : List Shown). SingleWith state rows (pages_extended state state.pages)) (sym (rows-stay state sound)) (by state.pages refl sound.pages))
  where
    sound : IsSound state
    sound = whole-sound state whole

    have : 0 < length (records_in (round_begun state)) → HeadingsHave state (scenes_extended (headings_of state.lines) state.scenes)
    have some = extended-have state whole ((whole-kept state whole).scened (locked state.pages refl some))
      where
        locked : (pages : Option (List PageRecordOf)) → state.pages ≡ pages → 0 < length (records_in (round_begun state)) → is_some state.pages ≡ true
        locked None is some = (let none = ap (λ (p : Option (List PageRecordOf)). length (unwrap_or (pages_extended state p) [])) is in absurd (omega (arith, some, none)))
        locked (Some records) is some = ap is_some is

    by : (pages : Option (List PageRecordOf)) → state.pages ≡ pages → IfSome pages AreLocked → SingleWith state (rows_in state) (pages_extended state state.pages)
    by None is locked =
        subst (λ (p : Option (List PageRecordOf)). SingleWith state (rows_in state) (pages_extended state p)) (sym is)
        (none-single (pages_in (rows_on state.paper) state.lines (rows_in state) (layout_in state).breaks None))
    by (Some records) is locked =
        let rows = rows_in state in
        let breaks = (layout_in state).breaks in
        let stays = round-rows state.paper state.lines rows breaks records (state-keys state whole.text) locked in
        subst (λ (p : Option (List PageRecordOf)). SingleWith state rows p)
        (sym (ap (pages_extended state) is ∙ ap (λ (p : Option (List PageRecordOf)). Some (extended_page_records records (sheets_in (rows_on state.paper) state.lines rows breaks p) (map key_of rows))) is))
        stays.single

pub lock-opened : (state : State) → IsWhole state → CanLockPages state → IsOpened (pages_locked state)
lock-opened state whole can =
    let after = lock_pages-whole state whole can in
    let sound = whole-sound state whole in
    let rows = rows_in state in
    let breaks = (layout_in state).breaks in
    let stays = lock-rows state.paper state.lines rows breaks (state-keys state whole.text) can.rows in
    opened-by (pages_locked state) after.text (λ some. extended-have state whole can.scenes)
    (subst (λ (those : List Shown). SingleWith state those (pages_locked state).pages) (sym (rows-stay state sound))
    (subst (λ (p : Option (List PageRecordOf)). SingleWith state rows (Some (extended_page_records [] (sheets_in (rows_on state.paper) state.lines rows breaks p) (map key_of rows)))) (sym can.unlocked) stays.single))

-- ---- from a lock or a round on

first-more : (entries : List EntryOf) (entry : EntryOf) (now : State) → first_state (entries ++ entry ∷ []) now ≡ first_state entries entry.state
first-more [] entry now = refl
first-more (one ∷ entries) entry now = refl

-- Steps leave the first state.
step-first : (memory : Memory) (command : CommandOf) → IsStep command → CanDo memory command
    → first_state (memory_after memory command).done (memory_after memory command).state ≡ first_state memory.done memory.state
step-first memory (edit it) is can = first-more memory.done (entry_of memory.state _) _
step-first memory undo is can =
    let last = has-last memory.done can in
    let entry = last.last in
    ap (λ (o : Option EntryOf). first_state (undone_to memory o).done (undone_to memory o).state) last.is
    ∙ sym (first-more (without_last memory.done) entry memory.state) ∙ sym (ap (λ (l : List EntryOf). first_state l memory.state) last.split)
step-first memory redo is can =
    let last = has-last memory.undone can in
    let entry = last.last in
    ap (λ (o : Option EntryOf). first_state (redone_to memory o).done (redone_to memory o).state) last.is ∙ first-more memory.done (entry_of memory.state entry.range) entry.state
step-first memory lock_scenes is can = absurd is
step-first memory lock_pages is can = absurd is
step-first memory next_round is can = absurd is
step-first memory (speakers on) is can = absurd is
step-first memory (paper size) is can = absurd is
step-first memory _ is can = refl

steps-first : (memory : Memory) (commands : List CommandOf) → AreSteps commands → AcceptsAll memory commands
    → first_state (memory_behind memory commands).done (memory_behind memory commands).state ≡ first_state memory.done memory.state
steps-first memory [] are all = refl
steps-first memory (command ∷ commands) are all =
    steps-first (memory_after memory command) commands (All-tail IsStep command commands are) all.1 ∙ step-first memory command (All-head IsStep command commands are) (accepted-can memory command all.0)

-- The entries of sessions lead from the state that the first of them opened.
pub record SessionsLead (memory : Memory) (sessions : List (List CommandOf)) : Type 0 where
  pub first : first_state (session_entries memory sessions) (sessions_behind memory sessions).state ≡ memory.state
  pub leads : LeadTo (session_entries memory sessions) (sessions_behind memory sessions).state
  pub whole : IsWhole (sessions_behind memory sessions).state

sessions-lead : (memory : Memory) (sessions : List (List CommandOf)) → IsWhole memory.state → All AreSteps sessions → AcceptsSessions memory sessions → SessionsLead memory sessions
sessions-lead memory [] whole are all = record { first = refl; leads = tt; whole = whole }
sessions-lead memory (commands ∷ later) whole are all =
    let opened = opened_memory memory.state in
    let now = session_behind memory commands in
    let linked = steps-linked opened commands (opened-linked memory.state) all.0 in
    let rest = sessions-lead now later (steps-whole opened commands (opened-whole memory.state whole) all.0).state (All-tail AreSteps commands later are) all.1 in
    let entries = session_entries now later in
    let end = (sessions_behind now later).state in
    record {
      first = first-join now.done entries end ∙ ap (first_state now.done) rest.first ∙ steps-first opened commands (All-head AreSteps commands later are) all.0;
      leads = lead-join now.done entries end (subst (LeadTo now.done) (sym rest.first) linked.done) rest.leads;
      whole = rest.whole;
    }

pub go-lead : (memory : Memory) (sessions : List (List CommandOf)) → IsWhole memory.state → GoOn memory sessions → SessionsLead memory sessions
go-lead memory sessions whole go = sessions-lead memory sessions whole go.steps go.accepted

-- From a whole state that was opened, over accepted commands that drop no state, locked pages stay one sheet.
pub opened-keeps : (memory : Memory) (sessions : List (List CommandOf)) (i : ℕ) → IsWhole memory.state → IsOpened memory.state → GoOn memory sessions → KeepsOpened memory sessions i
opened-keeps memory sessions i whole opened go =
    let lead = go-lead memory sessions whole go in
    let state = memory.state in
    let entries = session_entries memory sessions in
    let end = (sessions_behind memory sessions).state in
    let keeps = chain-keeps i entries end (subst IsWhole (sym lead.first) whole) lead.leads in
    record {
      first = lead.first;
      keeps = λ there some alone.
          let locked = opened.locked i there some in
          let stays : StaysLocked state end i =
          subst (λ (s : State). StaysLocked s end i) lead.first (keeps.keeps (subst (λ (s : State). IsLockedPage s i) (sym lead.first) locked) alone) in
          let single = opened.single i there some in
          let now = stays.locked in
          let size = length-bytes end in
          let was = length-bytes state in
          let same = ap length stays.sheets in
          let one = single.one in
          (stays, one-sheet end i now.there (omega (arith, size, was, same, one)));
    }
  where
    length-bytes : (s : State) → length (bytes_at s i) ≡ length (sheets_at s i)
    length-bytes s = length-map (sheets_at s i) _

-- From an accepted lock of pages on, and from a round on.
pub lock-keeps : (memory : Memory) (sessions : List (List CommandOf)) (i : ℕ) → IsWholeMemory memory → refusal_to memory lock_pages ≡ None → GoOn (memory_after memory lock_pages) sessions
    → KeepsOpened (memory_after memory lock_pages) sessions i
lock-keeps memory sessions i whole free go =
    let can = free-pages memory.state free in
    opened-keeps (memory_after memory lock_pages) sessions i (lock_pages-whole memory.state whole.state can) (lock-opened memory.state whole.state can) go

pub round-keeps : (memory : Memory) (sessions : List (List CommandOf)) (i : ℕ) → IsWholeMemory memory → refusal_to memory next_round ≡ None → GoOn (memory_after memory next_round) sessions
    → KeepsOpened (memory_after memory next_round) sessions i
round-keeps memory sessions i whole free go =
    let can = free-round memory.state free in
    opened-keeps (memory_after memory next_round) sessions i (round-whole memory.state whole.state can) (round-opened memory.state whole.state can) go
