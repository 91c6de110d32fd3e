-- The cells of the rows of a state, by what an edit compares of them and by the labels of scene records.
use Rattle.std.proofs.Common.{◌≡◌, inl, inr, ℕ, ◌==◌, ◌&&◌, Bool, true, false, cond, Option, Some, None, List, [], ◌∷◌, ◌++◌, map, get_or, refl, sym, ap, subst, ◌∙◌}
use Rattle.std.specs.Prelude.{All, is_some, option_map}
use Rattle.std.specs.List.{flat_map}
use Rattle.std.proofs.lemmas.Bool.{cases_Bool, and_parts, true≢false}
use Rattle.std.proofs.lemmas.List.Elements.{All-nil, All-cons, All-head, All-tail, All-append}
use Rattle.spec_text.specs.Lines.{LineState, IsText, line_texts}
use Rattle.spec_script.specs.LongestRuns.{Group}
use Rattle.spec_script.specs.Stanzas.{PlacedBlock, blocks_of}
use Rattle.spec_script.specs.Elements.{line_of_block, alone, pair}
use Rattle.spec_script.proofs.RunSteps.{one_alone}
use Rattle.spec_pages.specs.Pages.{is_heading}
use Rattle.spec_pages.specs.Rows.{Row, line_state, is_title, placed_rows, number_before, number_behind}
use Rattle.spec_labels.specs.Labels.{LabelOf}
use Rattle.spec_labels.specs.Scenes.{SceneRecordOf, line_place}
use Rattle.spec_sheets.specs.Cells.{ShownCell, shown_cell, shown_cells, label_cell, without_numbers}
use Rattle.spec_sheets.specs.Layout.{laid_out}
use Rattle.spec_sheets.specs.Shown.{Shown, opens_heading, shown_of}
use Rattle.spec_sheets.proofs.RowLaws.{IsText-texts}
use Rattle.spec_state.specs.State.{State, text_of}
use Rattle.spec_state.specs.Headings.{is_heading_block}
use Rattle.spec_state.specs.StateSheets.{rows_in}
use Rattle.spec_edit.specs.Items.{all_sights, rows_among}
use Rattle.spec_edit.specs.TextItems.{Script, spoken_by, spoken_group, element_label, text_rows}
use Rattle.spec_edit.proofs.ItemRows.{shown_texts}
use Rattle.spec_edit.proofs.SoundElements.{SoundSteps, elements-sound}
use Rattle.spec_locked_pages.specs.Segments.{has_scene, HasScene}
use Rattle.spec_locked_pages.proofs.HeadingBlocks.{PlacedLined, blocks-lined}
use Rattle.spec_locked_pages.proofs.HeadingRows.{IsOf, alone-begins, pair-begins}
use Rattle.spec_locked_pages.proofs.RowsAgree.{Agree, recorded_by, state-agree, script-rows, placed-of, heading-at}
use Rattle.spec_locked_pages.proofs.StateScripts.{record_label, script_of, texts_of, blocks_in, items_of}
use Rattle.spec_packet.proofs.NumberBlocks.{PlacedPlain, blocks-plain}
use Rattle.spec_packet.proofs.PlainRows.{NoNumber, without-none, Plain, alone-plain, pair-plain, placed-plain}

-- The label of the scene record of a heading's line beside its first row.
abbrev pub number_by : Option (List SceneRecordOf) → Shown → Option LabelOf
number_by scenes it = cond (is_heading it.shape.kind && (it.shape.index == 0)) (record_label scenes it.key.line) None

abbrev pub numbered : Option LabelOf → List ShownCell → List ShownCell
numbered None cells = cells
numbered (Some it) cells = label_cell number_before it ∷ cells ++ label_cell number_behind it ∷ []

-- The cells of a row are told so, where its heading has a scene record.
pub record CellsTold (scenes : Option (List SceneRecordOf)) (it : Shown) : Type 0 where
  pub are : HasScene scenes it → it.cells ≡ numbered (number_by scenes it) it.bare

module _ (lines : List LineState) (scenes : Option (List SceneRecordOf)) where
  told-plain : (cue : List ShownCell) (label : Option LabelOf) (row : Row) → opens_heading row ≡ false → NoNumber row → CellsTold scenes (shown_of lines cue label row)
  told-plain cue label row plain none = record {
    are = λ has.
        ap (λ b. shown_cells (line_texts lines) (cond b label None) row) plain
        ∙ ap (map (shown_cell (line_texts lines))) (sym (without-none row none))
        ∙ sym (ap (λ b. numbered (cond b (record_label scenes (line_state lines row.line).id) None) (map (shown_cell (line_texts lines)) (without_numbers row.cells))) plain);
  }

  label-some : (id : ℕ) → has_scene scenes id ≡ true → is_some (record_label scenes id) ≡ true
  label-some id has = by scenes has
    where
      by : (scenes : Option (List SceneRecordOf)) → has_scene scenes id ≡ true → is_some (record_label scenes id) ≡ true
      by None has = has
      by (Some records) has = found _ (line_place records id) has
        where
          found : (f : ℕ → LabelOf) (o : Option ℕ) → is_some o ≡ true → is_some (option_map f o) ≡ true
          found f None has = has
          found f (Some place) has = refl

  told-heading : (cue : List ShownCell) (label : Option LabelOf) (row : Row) → opens_heading row ≡ true → label ≡ record_label scenes (line_state lines row.line).id → CellsTold scenes (shown_of lines cue label row)
  told-heading cue label row opens same = record {
    are = λ has.
        let id = (line_state lines row.line).id in
        let bare = map (shown_cell (line_texts lines)) (without_numbers row.cells) in
        let some = label-some id (has.by (and_parts (is_heading row.shape.kind) (row.shape.index == 0) opens).0) in
        ap (λ b. shown_cells (line_texts lines) (cond b label None) row) opens
        ∙ ap (λ (l : Option LabelOf). shown_cells (line_texts lines) l row) same
        ∙ by (record_label scenes id) some
        ∙ sym (ap (λ b. numbered (cond b (record_label scenes id) None) bare) opens);
  }
    where
      by : (o : Option LabelOf) → is_some o ≡ true → shown_cells (line_texts lines) o row ≡ numbered o (map (shown_cell (line_texts lines)) (without_numbers row.cells))
      by None some = absurd (true≢false (sym some))
      by (Some it) some = refl

-- ---- the rows of elements

-- A row with this label is told, whatever its cue.
record RowTold (lines : List LineState) (scenes : Option (List SceneRecordOf)) (label : Option LabelOf) (row : Row) : Type 0 where
  told : (cue : List ShownCell) → CellsTold scenes (shown_of lines cue label row)

shown-told : (lines : List LineState) (scenes : Option (List SceneRecordOf)) (cue : List ShownCell) (label : Option LabelOf) (those : List Row) → All (RowTold lines scenes label) those
    → All (CellsTold scenes) (map (shown_of lines cue label) those)
shown-told lines scenes cue label [] all = All-nil (CellsTold scenes)
shown-told lines scenes cue label (row ∷ those) all =
    All-cons (CellsTold scenes) (shown_of lines cue label row) (map (shown_of lines cue label) those) ((All-head (RowTold lines scenes label) row those all).told cue)
    (shown-told lines scenes cue label those (All-tail (RowTold lines scenes label) row those all))

untitled : (lines : List LineState) (scenes : Option (List SceneRecordOf)) (label : Option LabelOf) (b : Bool) (those : List Row) → All (RowTold lines scenes label) those
    → All (RowTold lines scenes label) (cond b [] those)
untitled lines scenes label true those all = All-nil (RowTold lines scenes label)
untitled lines scenes label false those all = all

-- No row opens a heading.
none-told : (lines : List LineState) (scenes : Option (List SceneRecordOf)) (label : Option LabelOf) (those : List Row) → All (IsOf false) those → All Plain those → All (RowTold lines scenes label) those
none-told lines scenes label those all plain k d h = record {
  told = λ cue.
      let row = get_or those k d in
      let closed : opens_heading row ≡ false = ap (λ a. a && (row.shape.index == 0)) (all k d h) in
      told-plain lines scenes cue label row closed ((plain k d h).none closed);
}

-- Rows of one heading.
heading-told : (lines : List LineState) (scenes : Option (List SceneRecordOf)) (place : ℕ) (those : List Row) → All (λ (row : Row). row.line ≡ place) those → All Plain those
    → All (RowTold lines scenes (record_label scenes (line_state lines place).id)) those
heading-told lines scenes place those at plain k d h = record {
  told = λ cue.
      let row = get_or those k d in
      let label = record_label scenes (line_state lines place).id in
      elim (cases_Bool (opens_heading row)) [
        | inl opens ↦ told-heading lines scenes cue label row opens (ap (λ p. record_label scenes (line_state lines p).id) (sym (at k d h)))
        | inr closed ↦ told-plain lines scenes cue label row closed ((plain k d h).none closed)
      ];
}

-- What is known of a block: a heading is one line, and only a heading has a written number.
pub record IsKnown (placed : PlacedBlock) : Type 0 where
  pub lined : PlacedLined placed
  pub plain : PlacedPlain placed

pub blocks-known : (texts : List (List ℕ)) → All IsKnown (blocks_of texts)
blocks-known texts k d h = record { lined = blocks-lined texts k d h; plain = blocks-plain texts k d h }

module _ (lines : List LineState) (scenes : Option (List SceneRecordOf)) (continued : ℕ → Bool) where
  abbrev script : Script
  script = recorded_by lines scenes continued

  abbrev AllTold : ℕ → ℕ → List (Group PlacedBlock) → Type 0
  AllTold low high groups = All (CellsTold scenes) (flat_map (shown_texts script) groups)

  next-told : (element : Group PlacedBlock) (others : List (Group PlacedBlock)) → All (RowTold lines scenes (element_label script element)) (placed_rows (laid_out lines (spoken_group script element)))
      → All (CellsTold scenes) (flat_map (shown_texts script) others) → All (CellsTold scenes) (flat_map (shown_texts script) (element ∷ others))
  next-told element others here behind =
      All-append (CellsTold scenes) (shown_texts script element) (flat_map (shown_texts script) others)
      (shown-told lines scenes _ (element_label script element) (text_rows script element)
      (untitled lines scenes (element_label script element) (is_title element.first.block.kind) (placed_rows (laid_out lines (spoken_group script element))) here))
      behind

  told-steps : SoundSteps IsKnown AllTold
  told-steps = record {
    none = λ low high order. All-nil (CellsTold scenes);
    single = λ low high block others sound known order behind.
        let own = laid_out lines (one_alone (spoken_by script block)) in
        let plain = placed-plain own.first own.rows (alone-plain lines (spoken_by script block) known.lined known.plain) in
        next-told (alone block) others
        (elim (cases_Bool (is_heading_block block)) [
          | inl is ↦ heading-told lines scenes (line_of_block block) (placed_rows own) (heading-at lines block (continued (line_of_block block)) sound known.lined is) plain
          | inr other ↦
              none-told lines scenes (element_label script (alone block)) (placed_rows own)
              (placed-of false own.first own.rows (subst (λ b. All (IsOf b) own.rows) other (alone-begins lines (spoken_by script block) known.lined).all)) plain
        ])
        behind;
    double = λ low high left right others l r dual places order apart behind.
        let own = laid_out lines (spoken_group script (pair left right)) in
        next-told (pair left right) others
        (none-told lines scenes (element_label script (pair left right)) (placed_rows own)
        (placed-of false own.first own.rows (pair-begins lines (spoken_by script left) (spoken_by script right)).all)
        (placed-plain own.first own.rows (pair-plain lines (spoken_by script left) (spoken_by script right))))
        behind;
  }

-- ---- the rows of a state

agreed-told : (scenes : Option (List SceneRecordOf)) (those others : List Shown) → Agree scenes those others → All (CellsTold scenes) others → All (CellsTold scenes) those
agreed-told scenes [] [] all told = All-nil (CellsTold scenes)
agreed-told scenes [] (other ∷ others) all told = absurd all
agreed-told scenes (one ∷ those) [] all told = absurd all
agreed-told scenes (one ∷ those) (other ∷ others) all told =
    let here = All-head (CellsTold scenes) other others told in
    All-cons (CellsTold scenes) one those
    (record { are = λ has. let same = (all.0).same has in subst (λ (it : Shown). it.cells ≡ numbered (number_by scenes it) it.bare) (sym same) (here.are (subst (HasScene scenes) same has)) })
    (agreed-told scenes those others all.1 (All-tail (CellsTold scenes) other others told))

pub state-told : (state : State) → IsText (text_of state) → All (CellsTold state.scenes) (rows_in state)
state-told state is =
    let are = IsText-texts (text_of state) is in
    let script = script_of state in
    let all = elements-sound (texts_of state) IsKnown (AllTold state.lines state.scenes script.continued) (told-steps state.lines state.scenes script.continued) (blocks-known (texts_of state)) are.utf8 are.few in
    agreed-told state.scenes (rows_in state) (rows_among (all_sights (items_of state))) (state-agree state is)
    (subst (All (CellsTold state.scenes)) (sym (script-rows script (blocks_in state))) all)
