-- Each heading and each speech of a state begins on one of its sheets, which the outline and the sides tell.
use Rattle.std.proofs.Common.{◌≡◌, ℕ, suc, ◌+◌, ◌<◌, ◌||◌, ◌==◌, Bool, true, false, cond, Option, Some, None, List, [], ◌∷◌, ◌++◌, length, map, filter, drop, get_or, refl, sym, ap, ap₂, subst, ◌∙◌, inl, inr, arith, append_assoc, append-nil, add-one, drop-cons}
use Rattle.std.specs.Prelude.{All, is_some, option_map, slice_index_or}
use Rattle.std.specs.List.{flat_map}
use Rattle.std.specs.Option.{option_map_or}
use Rattle.std.proofs.lemmas.Bool.{or_cases}
use Rattle.std.proofs.lemmas.List.{length-map, drop_all}
use Rattle.std.proofs.lemmas.List.Concat.{flat_map-append}
use Rattle.std.proofs.lemmas.List.Elements.{All-nil, All-cons, All-head, All-tail, All-append}
use Rattle.spec_text.specs.Lines.{LineState, line_texts}
use Rattle.spec_script.specs.declared.Kind.{Kind}
use Rattle.spec_script.specs.declared.Kind.TheVariants as kinds
use Rattle.spec_script.specs.LongestRuns.{Group, members}
use Rattle.spec_script.specs.Stanzas.{PlacedBlock, blocks_of}
use Rattle.spec_script.specs.Elements.{is_speech_kind, is_dual}
use Rattle.spec_script.proofs.ElementLaws.{dual-speech}
use Rattle.spec_pages.specs.declared.Shape.{Shape}
use Rattle.spec_pages.specs.Pages.{is_heading, begins_heading}
use Rattle.spec_labels.specs.Labels.{LabelOf, label_text}
use Rattle.spec_labels.specs.PageRecords.{SheetOf}
use Rattle.spec_sheets.specs.Shown.{shape_of}
use Rattle.spec_sheets.specs.Speakers.{Spoken, speaker_after, spoken_elements}
use Rattle.spec_sheets.proofs.LaidRows.{body_rows, layout-body}
use Rattle.spec_sheets.proofs.SpokenLaws.{spoken_alone, spoken_pair}
use Rattle.spec_sheets.proofs.ShownLaws.{shown_rows-shapes, length-shown_rows}
use Rattle.spec_state.specs.State.{State}
use Rattle.spec_state.specs.Headings.{heading_labels, is_heading_kind, is_heading_block}
use Rattle.spec_state.specs.Keeping.{IsWhole}
use Rattle.spec_state.specs.StateSheets.{layout_in, rows_in, body_sheets}
use Rattle.spec_machine.specs.Outline.{omitted}
use Rattle.spec_machine.specs.Outlines.{Scenes, scenes_of, heading_rows, sheet_text, written_on, scene_entry, kind_entries, headings_behind, omitted_at, entries_from, outline_entries, first_above}
use Rattle.spec_cast.specs.Sides.{SaidOf}
use Rattle.spec_cast.specs.Places.{state_elements, has_heading, has_speech, row_count, sheet_behind, StandsOnOne, each_behind, heading_sheet, heading_sheets, entry_sheet, told_sheets, opens_speech}
use Rattle.spec_cast.specs.Said.{first_of, speech_said, element_said, said_of}
use Rattle.spec_cast.proofs.FirstRows.{ElementOpens, speech-tells, heading-tells, blocks-speech, blocks-heading, dual-other, elements-open, elements-step}
use Rattle.spec_cast.proofs.RowPlaces.{places, first_rows, row_shape, elements-places, opens-some, count-next, count-all}
use Rattle.spec_cast.proofs.OneSheet.{row-one}

-- ---- where elements begin

pub state-speech : (state : State) → All (ElementOpens opens_speech is_speech_kind state.lines) (state_elements state)
state-speech state = elements-open opens_speech is_speech_kind speech-tells state.speakers state.lines None (blocks_of (line_texts state.lines)) (blocks-speech (line_texts state.lines))

pub state-headings : (state : State) → All (ElementOpens is_heading is_heading_kind state.lines) (state_elements state)
state-headings state = elements-open is_heading is_heading_kind heading-tells state.speakers state.lines None (blocks_of (line_texts state.lines)) (blocks-heading (line_texts state.lines))

all-at : {X : Type 0} (P : X → Type 0) (before : List X) (x : X) (later : List X) → All P (before ++ x ∷ later) → P x
all-at P [] x later all = All-head P x later all
all-at P (y ∷ before) x later all = all-at P before x later (All-tail P y (before ++ x ∷ later) all)

pub count-state : (state : State) → length (rows_in state) ≡ row_count state.lines (state_elements state)
count-state state = length-shown_rows state.lines (heading_labels state.lines state.scenes) (layout_in state).body

-- An element with rows begins on one sheet.
some-one : (state : State) → IsWhole state → (before : List (Group Spoken)) (element : Group Spoken) (later : List (Group Spoken)) → state_elements state ≡ before ++ element ∷ later
    → 0 < length (body_rows state.lines element) → StandsOnOne (body_sheets state) (row_count state.lines before)
some-one state whole before element later is some =
    let all = count-state state in
    let split = ap (row_count state.lines) is in
    let parts = count-all state.lines before element later in
    row-one state whole (row_count state.lines before) (omega (arith, all, split, parts, some))

speech-some : (state : State) (before : List (Group Spoken)) (element : Group Spoken) (later : List (Group Spoken)) → state_elements state ≡ before ++ element ∷ later → has_speech element ≡ true
    → 0 < length (body_rows state.lines element)
speech-some state before element later is speech =
    let opens = all-at (ElementOpens opens_speech is_speech_kind state.lines) before element later (subst (All (ElementOpens opens_speech is_speech_kind state.lines)) is (state-speech state)) in
    opens-some opens_speech (body_rows state.lines element) (record { indexed = opens.indexed; first = opens.first ∙ speech })

heading-some : (state : State) (before : List (Group Spoken)) (element : Group Spoken) (later : List (Group Spoken)) → state_elements state ≡ before ++ element ∷ later → has_heading element ≡ true
    → 0 < length (body_rows state.lines element)
heading-some state before element later is heading =
    let opens = all-at (ElementOpens is_heading is_heading_kind state.lines) before element later (subst (All (ElementOpens is_heading is_heading_kind state.lines)) is (state-headings state)) in
    opens-some is_heading (body_rows state.lines element) (record { indexed = opens.indexed; first = opens.first ∙ heading })

-- Each heading and each speech begins on one sheet of a state that keeps the rules, and on no other.
pub speech-one : (state : State) → IsWhole state → (before : List (Group Spoken)) (element : Group Spoken) (later : List (Group Spoken)) → state_elements state ≡ before ++ element ∷ later
    → has_speech element ≡ true → StandsOnOne (body_sheets state) (row_count state.lines before)
speech-one state whole before element later is speech = some-one state whole before element later is (speech-some state before element later is speech)

pub heading-one : (state : State) → IsWhole state → (before : List (Group Spoken)) (element : Group Spoken) (later : List (Group Spoken)) → state_elements state ≡ before ++ element ∷ later
    → has_heading element ≡ true → StandsOnOne (body_sheets state) (row_count state.lines before)
heading-one state whole before element later is heading = some-one state whole before element later is (heading-some state before element later is heading)

pub element-one : (state : State) → IsWhole state → (before : List (Group Spoken)) (element : Group Spoken) (later : List (Group Spoken)) → state_elements state ≡ before ++ element ∷ later
    → has_heading element || has_speech element ≡ true → StandsOnOne (body_sheets state) (row_count state.lines before)
element-one state whole before element later is begins = elim (or_cases (has_heading element) (has_speech element) begins) [
  | inl heading ↦ heading-one state whole before element later is heading
  | inr speech ↦ speech-one state whole before element later is speech
]

-- The next of a list that is split.
pub next-behind : {X : Type 0} (all before : List X) (x : X) (later : List X) → all ≡ before ++ x ∷ later → all ≡ (before ++ x ∷ []) ++ later
next-behind all before x later is = is ∙ sym (append_assoc before (x ∷ []) later)

-- ---- the sides

abbrev pub IsPlaced : SaidOf → Type 0
IsPlaced said = is_some said.sheet ≡ true

placed-from : (state : State) → IsWhole state → (before later : List (Group Spoken)) → state_elements state ≡ before ++ later → All IsPlaced (each_behind (element_said state) before later)
placed-from state whole before [] is = All-nil IsPlaced
placed-from state whole before (element ∷ later) is =
    All-append IsPlaced (element_said state before element) (each_behind (element_said state) (before ++ element ∷ []) later) (own (has_speech element) refl)
    (placed-from state whole (before ++ element ∷ []) later (next-behind (state_elements state) before element later is))
  where
    each : is_some (option_map first_of (sheet_behind state before)) ≡ true → (those : List Spoken) → All IsPlaced (map (speech_said state before) those)
    each found [] = All-nil IsPlaced
    each found (it ∷ those) = All-cons IsPlaced (speech_said state before it) (map (speech_said state before) those) found (each found those)

    own : (b : Bool) → has_speech element ≡ b → All IsPlaced (cond b (map (speech_said state before) (members element)) [])
    own false other = All-nil IsPlaced
    own true speech = each (ap (λ (o : Option SheetOf). is_some (option_map first_of o)) (speech-one state whole before element later is speech).found) (members element)

-- Each speech of a state that keeps the rules has a sheet.
pub said-placed : (state : State) → IsWhole state → All IsPlaced (said_of state)
said-placed state whole = placed-from state whole [] (state_elements state) refl

-- ---- the outline

heading-places : (row : ℕ) (shapes : List Shape) → heading_rows row shapes ≡ places is_heading row shapes
heading-places row [] = refl
heading-places row (shape ∷ shapes) = by (begins_heading shape) (heading-places (row + 1) shapes)
  where
    by : (b : Bool) → heading_rows (row + 1) shapes ≡ places is_heading (row + 1) shapes
        → cond b (row ∷ heading_rows (row + 1) shapes) (heading_rows (row + 1) shapes) ≡ cond b (row ∷ places is_heading (row + 1) shapes) (places is_heading (row + 1) shapes)
    by true rest = ap (λ ns. row ∷ ns) rest
    by false rest = rest

-- The shapes of the rows of a state are those of its elements' rows.
pub state-shapes : (state : State) → map shape_of (rows_in state) ≡ map row_shape (flat_map (body_rows state.lines) (state_elements state))
state-shapes state =
    shown_rows-shapes state.lines (heading_labels state.lines state.scenes) (layout_in state).body ∙ ap (map row_shape) (layout-body state.lines (state_elements state))

heading-firsts : (state : State) → heading_rows 0 (map shape_of (rows_in state)) ≡ first_rows has_heading state.lines 0 (state_elements state)
heading-firsts state =
    heading-places 0 (map shape_of (rows_in state)) ∙ ap (places is_heading 0) (state-shapes state)
    ∙ elements-places is_heading is_heading_kind state.lines 0 (state_elements state) (state-headings state)

headings-from : (state : State) → IsWhole state → (before later : List (Group Spoken)) → state_elements state ≡ before ++ later
    → map Some (map (sheet_text (body_sheets state)) (first_rows has_heading state.lines (row_count state.lines before) later)) ≡ each_behind (heading_sheet state) before later
headings-from state whole before [] is = refl
headings-from state whole before (element ∷ later) is =
    by (has_heading element) refl
    (ap told (sym (count-next state.lines before element)) ∙ headings-from state whole (before ++ element ∷ []) later (next-behind (state_elements state) before element later is))
  where
    row : ℕ
    row = row_count state.lines before

    told : ℕ → List (Option (List ℕ))
    told n = map Some (map (sheet_text (body_sheets state)) (first_rows has_heading state.lines n later))

    by : (b : Bool) → has_heading element ≡ b → told (row + length (body_rows state.lines element)) ≡ each_behind (heading_sheet state) (before ++ element ∷ []) later
        → map Some (map (sheet_text (body_sheets state)) (cond b (row ∷ []) [] ++ first_rows has_heading state.lines (row + length (body_rows state.lines element)) later))
        ≡ cond b (option_map written_on (sheet_behind state before) ∷ []) [] ++ each_behind (heading_sheet state) (before ++ element ∷ []) later
    by false other behind = behind
    by true heading behind =
        let found = (heading-one state whole before element later is heading).found in
        ap₂ (λ (one : Option (List ℕ)) (others : List (Option (List ℕ))). one ∷ others)
        (ap (λ (o : Option SheetOf). Some (option_map_or written_on o [])) found ∙ sym (ap (option_map written_on) found)) behind

pub headings-told : (state : State) → IsWhole state → map Some (scenes_of state).sheets ≡ heading_sheets state
headings-told state whole =
    ap (λ rows. map Some (map (sheet_text (body_sheets state)) rows)) (heading-firsts state) ∙ headings-from state whole [] (state_elements state) refl

-- ---- its entries

none-told : (scenes : Scenes) (i : ℕ) → told_sheets (omitted_at scenes i) ≡ []
none-told scenes i = each (filter (λ gone. first_above scenes.labels gone == i) scenes.gone)
  where
    each : (those : List LabelOf) → told_sheets (map (λ gone. omitted (label_text gone)) those) ≡ []
    each [] = refl
    each (it ∷ those) = each those

block-told : (scenes : Scenes) (texts : List (List ℕ)) (i : ℕ) (placed : PlacedBlock) (kind : Kind)
    → told_sheets (kind_entries kind scenes texts i placed) ≡ cond (is_heading_kind kind) (slice_index_or scenes.sheets i [] ∷ []) []
block-told scenes texts i placed kinds.Heading =
    flat_map-append entry_sheet (omitted_at scenes i) (scene_entry scenes texts i placed ∷ []) ∙ ap (λ (those : List (List ℕ)). those ++ slice_index_or scenes.sheets i [] ∷ []) (none-told scenes i)
block-told scenes texts i placed kinds.Action = refl
block-told scenes texts i placed kinds.Speech = refl
block-told scenes texts i placed kinds.Lyric = refl
block-told scenes texts i placed kinds.Transition = refl
block-told scenes texts i placed kinds.Centred = refl
block-told scenes texts i placed kinds.PageBreak = refl
block-told scenes texts i placed kinds.Section = refl
block-told scenes texts i placed kinds.Synopsis = refl
block-told scenes texts i placed kinds.Title = refl

-- The entries of blocks tell the sheets of their headings, where there are as many.
entries-told : (scenes : Scenes) (texts : List (List ℕ)) (i : ℕ) (blocks : List PlacedBlock) → i + length (filter is_heading_block blocks) ≡ length scenes.sheets
    → told_sheets (entries_from scenes texts i blocks) ≡ drop i scenes.sheets
entries-told scenes texts i [] count = sym (drop_all i scenes.sheets (omega (arith, count)))
entries-told scenes texts i (placed ∷ blocks) count =
    flat_map-append entry_sheet (kind_entries placed.block.kind scenes texts i placed) (entries_from scenes texts (headings_behind i placed) blocks)
    ∙ ap (λ (those : List (List ℕ)). those ++ told_sheets (entries_from scenes texts (headings_behind i placed) blocks)) (block-told scenes texts i placed placed.block.kind)
    ∙ by (is_heading_block placed) count (λ n left. entries-told scenes texts n blocks left)
  where
    others : List PlacedBlock
    others = filter is_heading_block blocks

    front : {X : Type 0} (xs : List X) (n : ℕ) (d : X) → n < length xs → drop n xs ≡ get_or xs n d ∷ drop (n + 1) xs
    front xs n d inside = rw (add-one, drop-cons xs n d) refl

    by : (b : Bool) → i + length (cond b (placed ∷ others) others) ≡ length scenes.sheets
        → ((n : ℕ) → n + length others ≡ length scenes.sheets → told_sheets (entries_from scenes texts n blocks) ≡ drop n scenes.sheets)
        → cond b (slice_index_or scenes.sheets i [] ∷ []) [] ++ told_sheets (entries_from scenes texts (cond b (i + 1) i) blocks) ≡ drop i scenes.sheets
    by false all later = later i all
    by true all later =
        ap (λ (those : List (List ℕ)). slice_index_or scenes.sheets i [] ∷ those) (later (i + 1) (omega (arith, all)))
        ∙ sym (front scenes.sheets i [] (omega (arith, all)))

-- As many elements as blocks are headings.
headings-counted : (speakers : Bool) (lines : List LineState) (last : Option (List ℕ)) (blocks : List PlacedBlock)
    → length (filter has_heading (spoken_elements speakers lines last blocks)) ≡ length (filter is_heading_block blocks)
headings-counted speakers lines last [] = refl
headings-counted speakers lines last (block ∷ []) = by (is_heading_block block)
  where
    by : (b : Bool) → length (cond b (spoken_alone speakers lines last block ∷ []) []) ≡ length (cond b (block ∷ []) [])
    by true = refl
    by false = refl
headings-counted speakers lines last (block ∷ next ∷ blocks) =
    elements-step (λ elements. length (filter has_heading elements) ≡ length (filter is_heading_block (block ∷ next ∷ blocks))) speakers lines last block next blocks (is_dual block next) refl
    (λ apart. alone (is_heading_block block) (headings-counted speakers lines (speaker_after (line_texts lines) last block) (next ∷ blocks)))
    (λ dual. both dual (headings-counted speakers lines (speaker_after (line_texts lines) (speaker_after (line_texts lines) last block) next) blocks))
  where
    alone : (b : Bool) → let later = spoken_elements speakers lines (speaker_after (line_texts lines) last block) (next ∷ blocks) in
        length (filter has_heading later) ≡ length (filter is_heading_block (next ∷ blocks))
        → length (cond b (spoken_alone speakers lines last block ∷ filter has_heading later) (filter has_heading later))
        ≡ length (cond b (block ∷ filter is_heading_block (next ∷ blocks)) (filter is_heading_block (next ∷ blocks)))
    alone true rest = ap suc rest
    alone false rest = rest

    both : is_dual block next ≡ true
        → length (filter has_heading (spoken_elements speakers lines (speaker_after (line_texts lines) (speaker_after (line_texts lines) last block) next) blocks)) ≡ length (filter is_heading_block blocks)
        → length (filter has_heading (spoken_pair speakers lines last block next ∷ spoken_elements speakers lines (speaker_after (line_texts lines) (speaker_after (line_texts lines) last block) next) blocks))
        ≡ length (filter is_heading_block (block ∷ next ∷ blocks))
    both dual rest =
        let later = filter has_heading (spoken_elements speakers lines (speaker_after (line_texts lines) (speaker_after (line_texts lines) last block) next) blocks) in
        let others = filter is_heading_block blocks in
        let first : is_heading_block block ≡ false = ap is_heading_kind (dual-speech block next dual) in
        let second : is_heading_block next ≡ false = dual-other block next dual in
        ap (λ b. length (cond b (spoken_pair speakers lines last block next ∷ later) later)) first
        ∙ rest
        ∙ sym (ap₂ (λ a b. length (cond a (block ∷ cond b (next ∷ others) others) (cond b (next ∷ others) others))) first second)

first_rows-count : (passes : Group Spoken → Bool) (lines : List LineState) (row : ℕ) (elements : List (Group Spoken)) → length (first_rows passes lines row elements) ≡ length (filter passes elements)
first_rows-count passes lines row [] = refl
first_rows-count passes lines row (element ∷ elements) = by (passes element) (first_rows-count passes lines (row + length (body_rows lines element)) elements)
  where
    by : (b : Bool) → let later = first_rows passes lines (row + length (body_rows lines element)) elements in length later ≡ length (filter passes elements)
        → length (cond b (row ∷ []) [] ++ later) ≡ length (cond b (element ∷ filter passes elements) (filter passes elements))
    by true rest = ap suc rest
    by false rest = rest

sheets-counted : (state : State) → length (scenes_of state).sheets ≡ length (filter is_heading_block (blocks_of (line_texts state.lines)))
sheets-counted state =
    length-map (heading_rows 0 (map shape_of (rows_in state))) (sheet_text (body_sheets state)) ∙ ap length (heading-firsts state)
    ∙ first_rows-count has_heading state.lines 0 (state_elements state) ∙ headings-counted state.speakers state.lines None (blocks_of (line_texts state.lines))

-- The outline tells of each heading, in order, the sheet on which it begins.
pub outline-sheets : (state : State) → IsWhole state → map Some (told_sheets (outline_entries state)) ≡ heading_sheets state
outline-sheets state whole =
    let scenes = scenes_of state in
    let blocks = blocks_of (line_texts state.lines) in
    let entries = entries_from scenes (line_texts state.lines) 0 blocks in
    ap (map Some)
    (flat_map-append entry_sheet entries (omitted_at scenes (length scenes.labels))
    ∙ ap₂ (λ (one other : List (List ℕ)). one ++ other) (entries-told scenes (line_texts state.lines) 0 blocks (let counted = sheets-counted state in omega (arith, counted))) (none-told scenes (length scenes.labels))
    ∙ append-nil scenes.sheets)
    ∙ headings-told state whole
