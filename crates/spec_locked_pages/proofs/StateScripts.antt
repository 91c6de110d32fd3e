-- A state's text as a script with the labels of its scene records, and its layout.
use Rattle.std.proofs.Common.{◌≡◌, ◌≢◌, ℕ, ◌+◌, ◌<◌, ◌≤◌, ◌&&◌, ◌||◌, Bool, true, false, cond, Option, Some, None, List, [], ◌∷◌, ◌++◌, length, map, get_or, inl, inr, refl, sym, ap, ap₂, subst, ◌∙◌, arith, unwrap_or}
use Rattle.std.specs.Prelude.{All, AllPairs, option_map}
use Rattle.std.specs.List.{flat_map}
use Rattle.std.proofs.lemmas.Bool.{cases_Bool, eq-eqb, ne_eqb}
use Rattle.std.proofs.lemmas.List.{map-append}
use Rattle.std.proofs.lemmas.List.Elements.{All-nil, All-cons, All-head, All-tail}
use Rattle.std.proofs.lemmas.List.Kept.{AllPairs-cons}
use Rattle.spec_text.specs.Lines.{LineState, IsText, line_texts}
use Rattle.spec_text.proofs.ListLaws.{pairs-head, pairs-tail, pairs-unmap, All-front, All-back}
use Rattle.spec_script.specs.LongestRuns.{Group, members}
use Rattle.spec_script.specs.BlockParts.{Rise}
use Rattle.spec_script.specs.Stanzas.{PlacedBlock, blocks_of}
use Rattle.spec_script.specs.Elements.{line_of_block, is_dual, elements_of}
use Rattle.spec_script.proofs.LongestRuns.{longest_runs-exist}
use Rattle.spec_script.proofs.RunSteps.{map_group}
use Rattle.spec_pages.specs.Rows.{Row, line_state}
use Rattle.spec_labels.specs.Labels.{LabelOf, plain_label}
use Rattle.spec_labels.specs.Scenes.{SceneRecordOf, line_place, label_at}
use Rattle.spec_sheets.specs.Cells.{ShownCell}
use Rattle.spec_sheets.specs.Speakers.{Spoken}
use Rattle.spec_sheets.specs.Layout.{KeyBelow, is_page_break, rows_behind, breaks_from, placed_in}
use Rattle.spec_sheets.specs.Shown.{element_cue}
use Rattle.spec_sheets.proofs.ElementPlaces.{placed_from, placed_to}
use Rattle.spec_sheets.proofs.LaidRows.{body_rows, layout-body, rows_behind-count}
use Rattle.spec_sheets.proofs.RowKeys.{layout_of-keys}
use Rattle.spec_sheets.proofs.RowLaws.{IsText-texts}
use Rattle.spec_sheets.proofs.SpokenLaws.{placed_of, spoken_elements-placed}
use Rattle.spec_state.specs.State.{State, text_of}
use Rattle.spec_state.specs.StateSheets.{layout_in}
use Rattle.spec_edit.specs.Items.{Item, all_sights, sight_of, shapes_among, breaks_among}
use Rattle.spec_edit.specs.Touched.{is_continued, block_in}
use Rattle.spec_edit.specs.TextItems.{Script, spoken_by, spoken_group, element_label, text_rows, row_item, row_items, element_items}
use Rattle.spec_edit.proofs.AmongLaws.{breaks_among-append}
use Rattle.spec_edit.proofs.ItemRows.{break-some, no-break, element-count}
use Rattle.spec_edit.proofs.ItemsRise.{all_rows}
use Rattle.spec_edit.proofs.SoundElements.{blocks-rise}
use Rattle.spec_locked_pages.specs.LockedPages.{elements_in as state_elements, spoken_in}

-- The label of the scene record of a line.
abbrev pub record_label : Option (List SceneRecordOf) → ℕ → Option LabelOf
record_label None id = None
record_label (Some records) id = option_map (λ place. unwrap_or (label_at records place) (plain_label 0)) (line_place records id)

-- The text of a state, with these labels alone, and what stands in it.
abbrev pub script_of : State → Script
script_of state = record { lines = state.lines; continued = is_continued (spoken_in state); label = λ line. record_label state.scenes (line_state state.lines line).id }

abbrev pub texts_of : State → List (List ℕ)
texts_of state = line_texts state.lines

abbrev pub blocks_in : State → List (Group PlacedBlock)
blocks_in state = elements_of (texts_of state)

abbrev pub items_of : State → List Item
items_of state = flat_map (element_items (script_of state)) (blocks_in state)

-- ---- speakers who go on

abbrev Earlier : Spoken → Spoken → Type 0
Earlier one other = line_of_block one.placed < line_of_block other.placed

abbrev IsTold : List Spoken → Spoken → Type 0
IsTold all it = is_continued all (line_of_block it.placed) ≡ it.continued

none-told : (those : List Spoken) (line : ℕ) → All (λ (it : Spoken). line_of_block it.placed ≢ line) those → is_continued those line ≡ false
none-told [] line all = refl
none-told (it ∷ those) line all =
    let P : Spoken → Type 0 = λ (it : Spoken). line_of_block it.placed ≢ line in
    ap₂ (λ a b. (a && it.continued) || b) (ne_eqb (line_of_block it.placed) line (All-head P it those all)) (none-told those line (All-tail P it those all))

all-told : (those : List Spoken) → AllPairs Earlier those → All (IsTold those) those
all-told [] rise = All-nil (IsTold [])
all-told (it ∷ those) rise =
    let later = pairs-head Earlier it those rise in
    All-cons (IsTold (it ∷ those)) it those
    (ap₂ (λ a b. (a && it.continued) || b) (eq-eqb (line_of_block it.placed) (line_of_block it.placed) refl)
    (none-told those (line_of_block it.placed) (λ k d h same. (let below = later k d h in omega (arith, below, same))))
    ∙ or-none it.continued)
    (λ k d h. let here = later k d h in
    ap (λ a. (a && it.continued) || is_continued those (line_of_block (get_or those k d).placed)) (ne_eqb (line_of_block it.placed) (line_of_block (get_or those k d).placed) (λ same. omega (arith, here, same)))
    ∙ all-told those (pairs-tail Earlier it those rise) k d h)
  where
    or-none : (b : Bool) → (b || false) ≡ b
    or-none true = refl
    or-none false = refl

-- Blocks of a text begin with later and later lines.
blocks-later : (low high : ℕ) (blocks : List PlacedBlock) → Rise placed_from placed_to low high blocks
    → All (λ (block : PlacedBlock). low ≤ line_of_block block) blocks × AllPairs (λ (one other : PlacedBlock). line_of_block one < line_of_block other) blocks
blocks-later low high [] rise = (All-nil _, λ i j d less inside. absurd (omega (arith, inside)))
blocks-later low high (block ∷ blocks) rise =
    let rest = blocks-later (placed_to block) high blocks rise.2 in
    let some = rise.1 in
    let begin = rise.0 in (
      All-cons (λ (block : PlacedBlock). low ≤ line_of_block block) block blocks begin (λ k d h. let here = rest.0 k d h in omega (arith, here, some, begin)),
      AllPairs-cons (λ (one other : PlacedBlock). line_of_block one < line_of_block other) block blocks (λ k d h. let here = rest.0 k d h in omega (arith, here, some)) rest.1,
    )

members-placed : (groups : List (Group Spoken)) → map block_in (flat_map members groups) ≡ flat_map members (map (map_group placed_of) groups)
members-placed [] = refl
members-placed (group ∷ groups) =
    map-append block_in (members group) (flat_map members groups) ∙ ap (λ (blocks : List PlacedBlock). (group.first.placed ∷ map block_in group.more) ++ blocks) (members-placed groups)

-- The blocks of a state, as its elements have them.
pub spoken-blocks : (state : State) → map block_in (spoken_in state) ≡ blocks_of (texts_of state)
spoken-blocks state =
    members-placed (state_elements state) ∙ ap (flat_map members) (spoken_elements-placed state.speakers state.lines None (blocks_of (texts_of state)))
    ∙ (longest_runs-exist is_dual (blocks_of (texts_of state))).all

state-told : (state : State) → IsText (text_of state) → All (IsTold (spoken_in state)) (spoken_in state)
state-told state is =
    let are = IsText-texts (text_of state) is in
    let rise = blocks-rise (texts_of state) are.utf8 are.few in
    all-told (spoken_in state) (pairs-unmap (λ (one other : PlacedBlock). line_of_block one < line_of_block other) block_in (spoken_in state)
    (subst (AllPairs (λ (one other : PlacedBlock). line_of_block one < line_of_block other)) (sym (spoken-blocks state)) (blocks-later 0 (length (texts_of state)) (blocks_of (texts_of state)) rise.rise).1))

group-told : (script : Script) (group : Group Spoken) → All (λ (it : Spoken). script.continued (line_of_block it.placed) ≡ it.continued) (members group)
    → spoken_group script (map_group placed_of group) ≡ group
group-told script group all =
    ap₂ (λ (c : Bool) (more : List Spoken). record { first = record { placed = group.first.placed; continued = c }; more = more })
    (All-head P group.first group.more all) (each group.more (All-tail P group.first group.more all))
  where
    P : Spoken → Type 0
    P it = script.continued (line_of_block it.placed) ≡ it.continued

    each : (those : List Spoken) → All (λ (it : Spoken). script.continued (line_of_block it.placed) ≡ it.continued) those → map (spoken_by script) (map placed_of those) ≡ those
    each [] all = refl
    each (it ∷ those) all =
        ap₂ (λ (c : Bool) (more : List Spoken). record { placed = it.placed; continued = c } ∷ more)
        (All-head (λ (it : Spoken). script.continued (line_of_block it.placed) ≡ it.continued) it those all) (each those (All-tail (λ (it : Spoken). script.continued (line_of_block it.placed) ≡ it.continued) it those all))

groups-told : (script : Script) (groups : List (Group Spoken)) → All (λ (it : Spoken). script.continued (line_of_block it.placed) ≡ it.continued) (flat_map members groups)
    → map (spoken_group script) (map (map_group placed_of) groups) ≡ groups
groups-told script [] all = refl
groups-told script (group ∷ groups) all =
    ap₂ (λ (g : Group Spoken) (gs : List (Group Spoken)). g ∷ gs) (group-told script group (All-front P (members group) (flat_map members groups) all))
    (groups-told script groups (All-back P (members group) (flat_map members groups) all))
  where
    P : Spoken → Type 0
    P it = script.continued (line_of_block it.placed) ≡ it.continued

-- The elements of a state are those of its blocks with its script.
pub elements-scripted : (state : State) → IsText (text_of state) → state_elements state ≡ map (spoken_group (script_of state)) (blocks_in state)
elements-scripted state is =
    sym (groups-told (script_of state) (state_elements state) (state-told state is))
    ∙ ap (map (spoken_group (script_of state))) (spoken_elements-placed state.speakers state.lines None (blocks_of (texts_of state)))

-- ---- rows and breaks

scripted-rows : (script : Script) (elements : List (Group PlacedBlock)) → flat_map (body_rows script.lines) (map (spoken_group script) elements) ≡ flat_map (text_rows script) elements
scripted-rows script [] = refl
scripted-rows script (element ∷ elements) = ap (λ (rows : List Row). text_rows script element ++ rows) (scripted-rows script elements)

-- The rows of a state's body.
pub body-scripted : (state : State) → IsText (text_of state) → placed_in (layout_in state).body ≡ all_rows (script_of state)
body-scripted state is =
    layout-body state.lines (state_elements state) ∙ ap (flat_map (body_rows state.lines)) (elements-scripted state is) ∙ scripted-rows (script_of state) (blocks_in state)

pub state-rise : (state : State) → IsText (text_of state) → AllPairs KeyBelow (all_rows (script_of state))
state-rise state is = subst (AllPairs KeyBelow) (body-scripted state is) (layout_of-keys state.speakers (text_of state) is).1

rows-breakless : (lines : List LineState) (cue : List ShownCell) (label : Option LabelOf) (count : ℕ) (those : List Row) → breaks_among count (all_sights (map (row_item lines cue label) those)) ≡ []
rows-breakless lines cue label count [] = refl
rows-breakless lines cue label count (row ∷ those) = rows-breakless lines cue label (count + 1) those

element-breaks : (script : Script) (element : Group PlacedBlock) (count : ℕ)
    → breaks_among count (all_sights (element_items script element)) ≡ cond (is_page_break element.first.block.kind) (count ∷ []) []
element-breaks script element count =
    let rows = rows-breakless script.lines (element_cue (line_texts script.lines) (text_rows script element)) (element_label script element) in
    elim (cases_Bool (is_page_break element.first.block.kind)) [
      | inl is ↦
          ap (λ (items : List Item). breaks_among count (all_sights (items ++ row_items script element))) (break-some element.first is) ∙ ap (λ (ns : List ℕ). count ∷ ns) (rows count (text_rows script element))
          ∙ sym (ap (λ b. cond b (count ∷ []) []) is)
      | inr not_is ↦
          ap (λ (items : List Item). breaks_among count (all_sights (items ++ row_items script element))) (no-break element.first not_is) ∙ rows count (text_rows script element)
          ∙ sym (ap (λ b. cond b (count ∷ []) []) not_is)
    ]

scripted-breaks : (script : Script) (count : ℕ) (elements : List (Group PlacedBlock))
    → breaks_from script.lines count (map (spoken_group script) elements) ≡ breaks_among count (all_sights (flat_map (element_items script) elements))
scripted-breaks script count [] = refl
scripted-breaks script count (element ∷ elements) =
    let own = element_items script element in
    let later = flat_map (element_items script) elements in
    let behind = rows_behind script.lines count (spoken_group script element) in
    let size : behind ≡ count + length (shapes_among (all_sights own)) = rows_behind-count script.lines count (spoken_group script element) ∙ ap (λ n. count + n) (sym (element-count script element)) in
    either (is_page_break element.first.block.kind) count (breaks_from script.lines behind (map (spoken_group script) elements))
    ∙ ap₂ (λ (a b : List ℕ). a ++ b) (sym (element-breaks script element count)) (ap (λ n. breaks_from script.lines n (map (spoken_group script) elements)) size ∙ scripted-breaks script (count + length (shapes_among (all_sights own))) elements)
    ∙ sym (breaks_among-append count (all_sights own) (all_sights later)) ∙ ap (breaks_among count) (sym (map-append sight_of own later))
  where
    either : (b : Bool) (n : ℕ) (rest : List ℕ) → cond b (n ∷ rest) rest ≡ cond b (n ∷ []) [] ++ rest
    either true n rest = refl
    either false n rest = refl

-- Its page breaks.
pub breaks-scripted : (state : State) → IsText (text_of state) → (layout_in state).breaks ≡ breaks_among 0 (all_sights (items_of state))
breaks-scripted state is = ap (breaks_from state.lines 0) (elements-scripted state is) ∙ scripted-breaks (script_of state) 0 (blocks_in state)
