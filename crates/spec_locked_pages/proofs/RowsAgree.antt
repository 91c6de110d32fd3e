-- The rows of a state are those of its script, where the headings among them have scene records.
use Rattle.std.proofs.Common.{◌≡◌, ◌⊎◌, ℕ, zero, suc, ◌+◌, ◌-◌, ◌==◌, ◌&&◌, not, Bool, true, false, cond, Option, Some, None, List, [], ◌∷◌, ◌++◌, length, map, get_or, take, drop, inl, inr, refl, sym, ap, ap₂, subst, ◌∙◌, arith, unwrap_or}
use Rattle.std.specs.Prelude.{All, filter, slice_get, slice_range, option_map, is_some}
use Rattle.std.specs.List.{flat_map}
use Rattle.std.proofs.lemmas.Bool.{cases_Bool, and_parts, true≢false}
use Rattle.std.proofs.lemmas.List.Elements.{All-nil, All-cons, All-head, All-tail}
use Rattle.spec_text.specs.Lines.{LineState, IsText, line_texts}
use Rattle.spec_script.specs.LongestRuns.{Group, members}
use Rattle.spec_script.specs.Stanzas.{PlacedBlock, blocks_of}
use Rattle.spec_script.specs.Elements.{line_of_block, is_speech_kind, is_dual, alone, pair}
use Rattle.spec_script.specs.declared.Kind.{Kind}
use Rattle.spec_script.specs.declared.Kind.TheVariants as kinds
use Rattle.spec_script.proofs.LongestRuns.{longest_runs-exist}
use Rattle.spec_script.proofs.RunSteps.{one_alone}
use Rattle.spec_pages.specs.Pages.{is_heading}
use Rattle.spec_pages.specs.declared.Shape.{Shape}
use Rattle.spec_pages.specs.Rows.{Row, ElementOf, line_state, is_title, placed_rows, shifted_row}
use Rattle.spec_labels.specs.declared.RowKey.{RowKey}
use Rattle.spec_labels.specs.Labels.{LabelOf, plain_label}
use Rattle.spec_labels.specs.Scenes.{SceneRecordOf, line_place, record_places, first_place, label_between, label_at, labels_since}
use Rattle.spec_sheets.specs.Cells.{ShownCell, shown_cells}
use Rattle.spec_sheets.specs.Speakers.{Spoken}
use Rattle.spec_sheets.specs.Layout.{laid_out, in_body}
use Rattle.spec_sheets.specs.Shown.{Shown, opens_heading, row_label, element_cue, shown_of, element_shown, is_heading_element, heading_label, labels_behind, shown_rows, shape_of, key_of}
use Rattle.spec_sheets.proofs.RowLaws.{IsText-texts}
use Rattle.spec_state.specs.State.{State, text_of}
use Rattle.spec_state.specs.Headings.{is_heading_kind, is_heading_block, heading_of}
use Rattle.spec_state.specs.StateSheets.{rows_in}
use Rattle.spec_edit.specs.Items.{all_sights, sight_of, rows_among}
use Rattle.spec_edit.specs.TextItems.{Script, spoken_group, element_label, element_items}
use Rattle.spec_edit.proofs.AmongLaws.{rows_among-append}
use Rattle.spec_edit.proofs.ItemRows.{shown_texts, element-rows}
use Rattle.spec_edit.specs.RowLines.{RowAt}
use Rattle.spec_edit.proofs.RowMoves.{single-on}
use Rattle.spec_edit.proofs.RowPlaces.{single-at}
use Rattle.spec_edit.proofs.SoundElements.{IsSound, SoundSteps, elements-sound}
use Rattle.std.proofs.lemmas.List.{map-append}
use Rattle.spec_locked_pages.specs.Segments.{has_scene, HasScene}
use Rattle.spec_locked_pages.proofs.HeadingBlocks.{PlacedLined, blocks-lined}
use Rattle.spec_locked_pages.proofs.HeadingRows.{IsOf, Begins, alone-begins, pair-begins}
use Rattle.spec_locked_pages.proofs.StateScripts.{record_label, script_of, texts_of, blocks_in, items_of, elements-scripted}

-- A text with labels from scene records alone.
abbrev pub recorded_by : List LineState → Option (List SceneRecordOf) → (ℕ → Bool) → Script
recorded_by lines scenes continued = record { lines = lines; continued = continued; label = λ line. record_label scenes (line_state lines line).id }

-- A row shows what another does but for the scene number of a heading without a record.
pub record AgreesAt (scenes : Option (List SceneRecordOf)) (one other : Shown) : Type 0 where
  pub key : one.key ≡ other.key
  pub shape : one.shape ≡ other.shape
  pub same : HasScene scenes one → one ≡ other

abbrev pub Agree : Option (List SceneRecordOf) → List Shown → List Shown → Type 0
Agree scenes [] [] = Unit {0}
Agree scenes [] (other ∷ others) = ⊥
Agree scenes (one ∷ those) [] = ⊥
Agree scenes (one ∷ those) (other ∷ others) = AgreesAt scenes one other × Agree scenes those others

module _ (scenes : Option (List SceneRecordOf)) where
  pub agree-shapes : (those others : List Shown) → Agree scenes those others → map shape_of those ≡ map shape_of others
  agree-shapes [] [] all = refl
  agree-shapes [] (other ∷ others) all = absurd all
  agree-shapes (one ∷ those) [] all = absurd all
  agree-shapes (one ∷ those) (other ∷ others) all = ap₂ (λ (s : Shape) (ss : List Shape). s ∷ ss) (all.0).shape (agree-shapes those others all.1)

  pub agree-keys : (those others : List Shown) → Agree scenes those others → map key_of those ≡ map key_of others
  agree-keys [] [] all = refl
  agree-keys [] (other ∷ others) all = absurd all
  agree-keys (one ∷ those) [] all = absurd all
  agree-keys (one ∷ those) (other ∷ others) all = ap₂ (λ (s : RowKey) (ss : List RowKey). s ∷ ss) (all.0).key (agree-keys those others all.1)

  agree-append : (one other more others : List Shown) → Agree scenes one other → Agree scenes more others → Agree scenes (one ++ more) (other ++ others)
  agree-append [] [] more others front back = back
  agree-append [] (y ∷ other) more others front back = absurd front
  agree-append (x ∷ one) [] more others front back = absurd front
  agree-append (x ∷ one) (y ∷ other) more others front back = (front.0, agree-append one other more others front.1 back)

  agree-drop : (n : ℕ) (those others : List Shown) → Agree scenes those others → Agree scenes (drop n those) (drop n others)
  agree-drop zero those others all = all
  agree-drop (suc n) [] [] all = all
  agree-drop (suc n) [] (other ∷ others) all = absurd all
  agree-drop (suc n) (one ∷ those) [] all = absurd all
  agree-drop (suc n) (one ∷ those) (other ∷ others) all = agree-drop n those others all.1

  agree-take : (n : ℕ) (those others : List Shown) → Agree scenes those others → Agree scenes (take n those) (take n others)
  agree-take zero those others all = tt
  agree-take (suc n) [] [] all = all
  agree-take (suc n) [] (other ∷ others) all = absurd all
  agree-take (suc n) (one ∷ those) [] all = absurd all
  agree-take (suc n) (one ∷ those) (other ∷ others) all = (all.0, agree-take n those others all.1)

  pub agree-range : (s e : ℕ) (those others : List Shown) → Agree scenes those others → Agree scenes (slice_range those s e) (slice_range others s e)
  agree-range s e those others all = agree-take (e - s) (drop s those) (drop s others) (agree-drop s those others all)

  -- Where headings have records, rows that agree are the same.
  pub agree-same : (those others : List Shown) → Agree scenes those others → All (HasScene scenes) those → those ≡ others
  agree-same [] [] all has = refl
  agree-same [] (other ∷ others) all has = absurd all
  agree-same (one ∷ those) [] all has = absurd all
  agree-same (one ∷ those) (other ∷ others) all has =
      ap₂ (λ (x : Shown) (xs : List Shown). x ∷ xs) ((all.0).same (All-head (HasScene scenes) one those has)) (agree-same those others all.1 (All-tail (HasScene scenes) one those has))

  -- And the headings of one list have records where those of the other do.
  pub agree-has : (those others : List Shown) → Agree scenes those others → All (HasScene scenes) others → All (HasScene scenes) those
  agree-has [] [] all has = All-nil (HasScene scenes)
  agree-has [] (other ∷ others) all has = absurd all
  agree-has (one ∷ those) [] all has = absurd all
  agree-has (one ∷ those) (other ∷ others) all has =
      let at = all.0 in
      let here = All-head (HasScene scenes) other others has in
      All-cons (HasScene scenes) one those
      (record { by = λ is. ap (λ (key : RowKey). has_scene scenes key.line) at.key ∙ here.by (ap (λ (shape : Shape). is_heading shape.kind) (sym at.shape) ∙ is) })
      (agree-has those others all.1 (All-tail (HasScene scenes) other others has))

  -- ---- the rows of an element with two labels

  abbrev SameLabel : List LineState → Option LabelOf → Option LabelOf → Row → Type 0
  SameLabel lines one other row = (is_heading row.shape.kind ≡ true → has_scene scenes (line_state lines row.line).id ≡ true) → row_label one row ≡ row_label other row

  agree-rows : (lines : List LineState) (cue : List ShownCell) (one other : Option LabelOf) (those : List Row) → All (SameLabel lines one other) those
      → Agree scenes (map (shown_of lines cue one) those) (map (shown_of lines cue other) those)
  agree-rows lines cue one other [] all = tt
  agree-rows lines cue one other (row ∷ those) all = (
    record {
      key = refl;
      shape = refl;
      same = λ has. ap (λ (label : Option LabelOf). record (shown_of lines cue other row) { cells = shown_cells (line_texts lines) label row }) (All-head (SameLabel lines one other) row those all has.by);
    },
    agree-rows lines cue one other those (All-tail (SameLabel lines one other) row those all),
  )

  plain-label : (lines : List LineState) (one other : Option LabelOf) (row : Row) → opens_heading row ≡ false → row_label one row ≡ row_label other row
  plain-label lines one other row plain = ap (λ b. cond b one None) plain ∙ sym (ap (λ b. cond b other None) plain)

  plain-rows : (lines : List LineState) (one other : Option LabelOf) (those : List Row) → All (IsOf false) those → All (SameLabel lines one other) those
  plain-rows lines one other those all k d h = plain-one (get_or those k d) (all k d h)
    where
      plain-one : (row : Row) → IsOf false row → SameLabel lines one other row
      plain-one row is has = plain-label lines one other row (ap (λ a. a && (row.shape.index == 0)) is)

  -- The labels of the headings among blocks, where so many headings without a record stand before them.
  abbrev pub labels_among : List LineState → ℕ → List PlacedBlock → Option (List LabelOf)
  labels_among lines since blocks = option_map (λ (records : List SceneRecordOf). labels_since records since (record_places records (map (heading_of lines) (filter is_heading_block blocks)))) scenes

-- The rows of elements that are laid out, with the labels of headings in order.
abbrev rows_by : List LineState → Option (List SceneRecordOf) → (ℕ → Bool) → ℕ → List (Group PlacedBlock) → List Shown
rows_by lines scenes continued since groups =
    shown_rows lines (labels_among scenes lines since (flat_map members groups)) (map (laid_out lines) (filter in_body (map (spoken_group (recorded_by lines scenes continued)) groups)))

abbrev RowsAgree : List LineState → Option (List SceneRecordOf) → (ℕ → Bool) → ℕ → ℕ → List (Group PlacedBlock) → Type 0
RowsAgree lines scenes continued low high groups = (since : ℕ) → Agree scenes (rows_by lines scenes continued since groups) (flat_map (shown_texts (recorded_by lines scenes continued)) groups)

-- Rows with places have the shapes of rows without.
pub placed-of : (flag : Bool) (first : ℕ) (those : List Row) → All (IsOf flag) those → All (IsOf flag) (map (shifted_row first) those)
placed-of flag first [] all = All-nil (IsOf flag)
placed-of flag first (row ∷ those) all =
    All-cons (IsOf flag) (shifted_row first row) (map (shifted_row first) those) (All-head (IsOf flag) row those all) (placed-of flag first those (All-tail (IsOf flag) row those all))

none-list : (labels : Option (List LabelOf)) (element : ElementOf) → is_heading_element element ≡ false → heading_label labels element ≡ None
none-list None element is = refl
none-list (Some labels) element is = ap (λ c. cond c (slice_get labels 0) None) is

same-list : (labels : Option (List LabelOf)) (element : ElementOf) → is_heading_element element ≡ false → labels_behind labels element ≡ labels
same-list None element is = refl
same-list (Some labels) element is = ap (λ c. Some (cond c (drop 1 labels) labels)) is

module _ (lines : List LineState) (scenes : Option (List SceneRecordOf)) (continued : ℕ → Bool) where
  abbrev script : Script
  script = recorded_by lines scenes continued

  -- An element that is no heading.
  plain-element : (element : Group PlacedBlock) (others : List (Group PlacedBlock)) (since : ℕ)
      → filter is_heading_block (members element ++ flat_map members others) ≡ filter is_heading_block (flat_map members others)
      → Begins false (laid_out lines (spoken_group script element)).rows
      → Agree scenes (rows_by lines scenes continued since others) (flat_map (shown_texts script) others)
      → Agree scenes (rows_by lines scenes continued since (element ∷ others)) (flat_map (shown_texts script) (element ∷ others))
  plain-element element others since same begins rest = by (is_title element.first.block.kind)
    where
      own : ElementOf
      own = laid_out lines (spoken_group script element)

      labels : Option (List LabelOf)
      labels = labels_among scenes lines since (members element ++ flat_map members others)

      later : List ElementOf
      later = map (laid_out lines) (filter in_body (map (spoken_group script) others))

      cue : List Row → List ShownCell
      cue those = element_cue (line_texts lines) those

      labels_same : labels ≡ labels_among scenes lines since (flat_map members others)
      labels_same = ap (λ (blocks : List PlacedBlock). option_map (λ (records : List SceneRecordOf). labels_since records since (record_places records (map (heading_of lines) blocks))) scenes) same

      behind_same : labels_behind labels own ≡ labels_among scenes lines since (flat_map members others)
      behind_same = same-list labels own begins.first ∙ labels_same

      rows_plain : All (IsOf false) (placed_rows own)
      rows_plain = placed-of false own.first own.rows begins.all

      by : (b : Bool) → Agree scenes (shown_rows lines labels (map (laid_out lines) (cond (not b) (spoken_group script element ∷ filter in_body (map (spoken_group script) others)) (filter in_body (map (spoken_group script) others)))))
          (map (shown_of lines (cue (cond b [] (placed_rows own))) (element_label script element)) (cond b [] (placed_rows own)) ++ flat_map (shown_texts script) others)
      by true = subst (λ l. Agree scenes (shown_rows lines l later) (flat_map (shown_texts script) others)) (sym labels_same) rest
      by false =
          subst (λ l. Agree scenes (map (shown_of lines (cue (placed_rows own)) l) (placed_rows own) ++ shown_rows lines (labels_behind labels own) later) (map (shown_of lines (cue (placed_rows own)) (element_label script element)) (placed_rows own) ++ flat_map (shown_texts script) others))
          (sym (none-list labels own begins.first))
          (agree-append scenes (map (shown_of lines (cue (placed_rows own)) None) (placed_rows own)) (map (shown_of lines (cue (placed_rows own)) (element_label script element)) (placed_rows own)) (shown_rows lines (labels_behind labels own) later) (flat_map (shown_texts script) others)
          (agree-rows scenes lines (cue (placed_rows own)) None (element_label script element) (placed_rows own) (plain-rows scenes lines None (element_label script element) (placed_rows own) rows_plain))
          (subst (λ l. Agree scenes (shown_rows lines l later) (flat_map (shown_texts script) others)) (sym behind_same) rest))

  title-not : (kind : Kind) → is_heading_kind kind ≡ true → is_title kind ≡ false
  title-not kinds.Title is = absurd (true≢false (sym is))
  title-not kinds.Heading is = refl
  title-not kinds.Action is = refl
  title-not kinds.Speech is = refl
  title-not kinds.Lyric is = refl
  title-not kinds.Transition is = refl
  title-not kinds.Centred is = refl
  title-not kinds.PageBreak is = refl
  title-not kinds.Section is = refl
  title-not kinds.Synopsis is = refl

heading-rows : (lines : List LineState) (own : ElementOf) (later : List ElementOf) (label : LabelOf) (behind : List LabelOf) → is_heading_element own ≡ true
    → shown_rows lines (Some (label ∷ behind)) (own ∷ later) ≡ element_shown lines (Some label) own ++ shown_rows lines (Some behind) later
heading-rows lines own later label behind is =
    ap₂ (λ (one : Option LabelOf) (left : List LabelOf). element_shown lines one own ++ shown_rows lines (Some left) later)
    (ap (λ b. cond b (Some label) None) is) (ap (λ b. cond b behind (label ∷ behind)) is)

module _ (lines : List LineState) (continued : ℕ → Bool) (block : PlacedBlock) (others : List (Group PlacedBlock)) (is : is_heading_block block ≡ true)
    (opens : (c : Bool) → Begins true (laid_out lines (one_alone (record { placed = block; continued = c }))).rows)
    (at : (c : Bool) → All (λ (row : Row). row.line ≡ line_of_block block) (placed_rows (laid_out lines (one_alone (record { placed = block; continued = c }))))) where
  abbrev head : ElementOf
  head = laid_out lines (one_alone (record { placed = block; continued = continued (line_of_block block) }))

  abbrev placed_head : List Row
  placed_head = placed_rows head

  abbrev head_cue : List ShownCell
  head_cue = element_cue (line_texts lines) placed_head

  abbrev head_id : ℕ
  head_id = (line_state lines (line_of_block block)).id

  abbrev blocks_after : List PlacedBlock
  blocks_after = filter is_heading_block (flat_map members others)

  heads-first : filter is_heading_block (block ∷ flat_map members others) ≡ block ∷ blocks_after
  heads-first = ap (λ b. cond b (block ∷ blocks_after) blocks_after) is

  untitled : is_title block.block.kind ≡ false
  untitled = title-not lines None continued block.block.kind is

  abbrev later_elements : Option (List SceneRecordOf) → List ElementOf
  later_elements scenes = map (laid_out lines) (filter in_body (map (spoken_group (recorded_by lines scenes continued)) others))

  -- The rows of both lists.
  left-rows : (scenes : Option (List SceneRecordOf)) (since : ℕ)
      → rows_by lines scenes continued since (alone block ∷ others)
      ≡ shown_rows lines (option_map (λ (records : List SceneRecordOf). labels_since records since (record_places records (heading_of lines block ∷ map (heading_of lines) blocks_after))) scenes) (head ∷ later_elements scenes)
  left-rows scenes since =
      ap₂ (λ (b : Bool) (heads : List PlacedBlock). shown_rows lines (option_map (λ (records : List SceneRecordOf). labels_since records since (record_places records (map (heading_of lines) heads))) scenes)
      (map (laid_out lines) (cond (not b) (spoken_group (recorded_by lines scenes continued) (alone block) ∷ filter in_body (map (spoken_group (recorded_by lines scenes continued)) others)) (filter in_body (map (spoken_group (recorded_by lines scenes continued)) others)))))
      untitled heads-first

  right-rows : (scenes : Option (List SceneRecordOf)) → shown_texts (recorded_by lines scenes continued) (alone block) ≡ map (shown_of lines head_cue (record_label scenes head_id)) placed_head
  right-rows scenes =
      ap (λ b. map (shown_of lines (element_cue (line_texts lines) (cond b [] placed_head)) (record_label scenes head_id)) (cond b [] placed_head)) untitled

  -- A heading without a record may have any label.
  any-label : (records : List SceneRecordOf) (label other : Option LabelOf) → line_place records head_id ≡ None → All (SameLabel (Some records) lines label other) placed_head
  any-label records label other none k d h has =
      by (get_or placed_head k d) (at (continued (line_of_block block)) k d h) (cases_Bool (opens_heading (get_or placed_head k d))) has
    where
      by : (row : Row) → row.line ≡ line_of_block block → (opens_heading row ≡ true) ⊎ (opens_heading row ≡ false)
          → (is_heading row.shape.kind ≡ true → is_some (line_place records (line_state lines row.line).id) ≡ true) → row_label label row ≡ row_label other row
      by row line (inr plain) has = plain-label (Some records) lines label other row plain
      by row line (inl opens) has =
          let some = has (and_parts (is_heading row.shape.kind) (row.shape.index == 0) opens).0 in
          absurd (true≢false (sym some ∙ ap (λ p. is_some (line_place records (line_state lines p).id)) line ∙ ap is_some none))

  heading-element : (scenes : Option (List SceneRecordOf)) (since : ℕ) → ((n : ℕ) → Agree scenes (rows_by lines scenes continued n others) (flat_map (shown_texts (recorded_by lines scenes continued)) others))
      → Agree scenes (rows_by lines scenes continued since (alone block ∷ others)) (flat_map (shown_texts (recorded_by lines scenes continued)) (alone block ∷ others))
  heading-element None since rest =
      subst (λ l. Agree None l (flat_map (shown_texts (recorded_by lines None continued)) (alone block ∷ others))) (sym (left-rows None since))
      (subst (λ r. Agree None (element_shown lines None head ++ shown_rows lines None (later_elements None)) (r ++ flat_map (shown_texts (recorded_by lines None continued)) others)) (sym (right-rows None))
      (agree-append None (map (shown_of lines head_cue None) placed_head) (map (shown_of lines head_cue None) placed_head) (shown_rows lines None (later_elements None)) (flat_map (shown_texts (recorded_by lines None continued)) others)
      (agree-rows None lines head_cue None None placed_head (λ k d h has. refl)) (rest since)))
  heading-element (Some records) since rest = by (line_place records head_id) refl
    where
      scripted : Script
      scripted = recorded_by lines (Some records) continued

      behind : List (Option ℕ)
      behind = record_places records (map (heading_of lines) blocks_after)

      finish : (label : LabelOf) (n : ℕ) → All (SameLabel (Some records) lines (Some label) (record_label (Some records) head_id)) placed_head
          → Agree (Some records) (shown_rows lines (Some (label ∷ labels_since records n behind)) (head ∷ later_elements (Some records))) (flat_map (shown_texts scripted) (alone block ∷ others))
      finish label n same =
          subst (λ l. Agree (Some records) l (flat_map (shown_texts scripted) (alone block ∷ others))) (sym (heading-rows lines head (later_elements (Some records)) label (labels_since records n behind) (opens (continued (line_of_block block))).first))
          (subst (λ r. Agree (Some records) (element_shown lines (Some label) head ++ shown_rows lines (Some (labels_since records n behind)) (later_elements (Some records))) (r ++ flat_map (shown_texts scripted) others)) (sym (right-rows (Some records)))
          (agree-append (Some records) (map (shown_of lines head_cue (Some label)) placed_head) (map (shown_of lines head_cue (record_label (Some records) head_id)) placed_head)
          (shown_rows lines (Some (labels_since records n behind)) (later_elements (Some records))) (flat_map (shown_texts scripted) others)
          (agree-rows (Some records) lines head_cue (Some label) (record_label (Some records) head_id) placed_head same) (rest n)))

      by : (o : Option ℕ) → line_place records head_id ≡ o
          → Agree (Some records) (rows_by lines (Some records) continued since (alone block ∷ others)) (flat_map (shown_texts scripted) (alone block ∷ others))
      by (Some place) found =
          let label = unwrap_or (label_at records place) (plain_label 0) in
          subst (λ l. Agree (Some records) l (flat_map (shown_texts scripted) (alone block ∷ others)))
          (sym (left-rows (Some records) since ∙ ap (λ (o : Option ℕ). shown_rows lines (Some (labels_since records since (o ∷ behind))) (head ∷ later_elements (Some records))) found))
          (finish label 0 (λ k d h has. ap (λ (o : Option ℕ). row_label (option_map (λ (p : ℕ). unwrap_or (label_at records p) (plain_label 0)) o) (get_or placed_head k d)) (sym found)))
      by None found =
          subst (λ l. Agree (Some records) l (flat_map (shown_texts scripted) (alone block ∷ others)))
          (sym (left-rows (Some records) since ∙ ap (λ (o : Option ℕ). shown_rows lines (Some (labels_since records since (o ∷ behind))) (head ∷ later_elements (Some records))) found))
          (finish (label_between records (first_place (length records) behind) (since + 1)) (since + 1)
          (any-label records (Some (label_between records (first_place (length records) behind) (since + 1))) (record_label (Some records) head_id) found))

-- ---- the elements of a text

-- A heading's rows are of its line.
pub heading-at : (lines : List LineState) (block : PlacedBlock) (c : Bool) → IsSound block → PlacedLined block → is_heading_block block ≡ true
    → All (λ (row : Row). row.line ≡ line_of_block block) (placed_rows (laid_out lines (one_alone (record { placed = block; continued = c }))))
heading-at lines block c sound lined is =
    let last = lined.last is in
    let P : ℕ → Type 0 = λ p. p ≡ line_of_block block in
    let at = subst (All (RowAt P)) (sym (single-on lines block c))
    (single-at P lines block c (λ n low high. let same : n ≡ block.block.first = omega (arith, low, high, last) in ap (λ m. block.first + m) same) sound.lines sound.some) in
    λ k d h. (at k d h).row

speech-plain : (kind : Kind) → is_speech_kind kind ≡ true → is_heading_kind kind ≡ false
speech-plain kinds.Speech is = refl
speech-plain kinds.Heading is = absurd (true≢false (sym is))
speech-plain kinds.Action is = refl
speech-plain kinds.Lyric is = refl
speech-plain kinds.Transition is = refl
speech-plain kinds.Centred is = refl
speech-plain kinds.PageBreak is = refl
speech-plain kinds.Section is = refl
speech-plain kinds.Synopsis is = refl
speech-plain kinds.Title is = refl

-- Neither block of a pair is a heading.
pair-plain : (left right : PlacedBlock) → is_dual left right ≡ true → (is_heading_block left ≡ false) × (is_heading_block right ≡ false)
pair-plain left right dual =
    let a = is_speech_kind left.block.kind in
    let b = not left.block.caret in
    let c = is_speech_kind right.block.kind in
    let last = and_parts (a && b && c) right.block.caret dual in
    let third = and_parts (a && b) c last.0 in
    (speech-plain left.block.kind (and_parts a b third.0).0, speech-plain right.block.kind third.1)

agree-steps : (lines : List LineState) (scenes : Option (List SceneRecordOf)) (continued : ℕ → Bool) → SoundSteps PlacedLined (RowsAgree lines scenes continued)
agree-steps lines scenes continued = record {
  none = λ low high order since. tt;
  single = λ low high block others sound lined order behind since. elim (cases_Bool (is_heading_block block)) [
    | inl is ↦
        heading-element lines continued block others is
        (λ c. subst (λ b. Begins b (laid_out lines (one_alone (record { placed = block; continued = c }))).rows) is (alone-begins lines (record { placed = block; continued = c }) lined))
        (λ c. heading-at lines block c sound lined is) scenes since behind
    | inr plain ↦
        plain-element lines scenes continued (alone block) others since
        (ap (λ b. cond b (block ∷ filter is_heading_block (flat_map members others)) (filter is_heading_block (flat_map members others))) plain)
        (subst (λ b. Begins b (laid_out lines (one_alone (record { placed = block; continued = continued (line_of_block block) }))).rows) plain (alone-begins lines (record { placed = block; continued = continued (line_of_block block) }) lined))
        (behind since)
  ];
  double = λ low high left right others l r dual places order apart behind since.
      let plain = pair-plain left right dual in
      plain-element lines scenes continued (pair left right) others since
      (ap₂ (λ (a b : Bool). cond a (left ∷ cond b (right ∷ filter is_heading_block (flat_map members others)) (filter is_heading_block (flat_map members others))) (cond b (right ∷ filter is_heading_block (flat_map members others)) (filter is_heading_block (flat_map members others)))) plain.0 plain.1)
      (pair-begins lines (record { placed = left; continued = continued (line_of_block left) }) (record { placed = right; continued = continued (line_of_block right) }))
      (behind since);
}

-- ---- the rows of a state

pub script-rows : (it : Script) (elements : List (Group PlacedBlock)) → rows_among (all_sights (flat_map (element_items it) elements)) ≡ flat_map (shown_texts it) elements
script-rows it [] = refl
script-rows it (element ∷ elements) =
    let own = element_items it element in
    let later = flat_map (element_items it) elements in
    ap rows_among (map-append sight_of own later) ∙ rows_among-append (all_sights own) (all_sights later)
    ∙ ap₂ (λ (a b : List Shown). a ++ b) (element-rows it element) (script-rows it elements)

-- The rows of a state and those of its script.
pub state-agree : (state : State) → IsText (text_of state) → Agree state.scenes (rows_in state) (rows_among (all_sights (items_of state)))
state-agree state is =
    let are = IsText-texts (text_of state) is in
    let continued = (script_of state).continued in
    let groups = blocks_in state in
    let all = elements-sound (texts_of state) PlacedLined (RowsAgree state.lines state.scenes continued) (agree-steps state.lines state.scenes continued) (blocks-lined (texts_of state)) are.utf8 are.few in
    subst (Agree state.scenes (rows_in state)) (sym (script-rows (script_of state) groups))
    (subst (λ (rows : List Shown). Agree state.scenes rows (flat_map (shown_texts (script_of state)) groups))
    (ap₂ (λ (blocks : List PlacedBlock) (elements : List (Group Spoken)). shown_rows state.lines (labels_among state.scenes state.lines 0 blocks) (map (laid_out state.lines) (filter in_body elements)))
    ((longest_runs-exist is_dual (blocks_of (texts_of state))).all) (sym (elements-scripted state is)))
    (all 0))
