-- The headings of a text stand on the lines with whose rows elements of headings begin.
use Rattle.std.proofs.Common.{◌≡◌, ℕ, suc, ◌==◌, ◌&&◌, not, Bool, true, false, cond, List, [], ◌∷◌, ◌++◌, map, filter, get_or, inl, inr, refl, sym, ap, ap₂, subst, ◌∙◌, arith}
use Rattle.std.specs.Prelude.{All, slice_index_or}
use Rattle.std.specs.List.{flat_map}
use Rattle.std.proofs.lemmas.Bool.{cases_Bool, true≢false, and_parts, eqb-true}
use Rattle.std.proofs.lemmas.List.{map-append}
use Rattle.std.proofs.lemmas.List.Elements.{All-head, All-tail, filter-append}
use Rattle.spec_text.specs.Lines.{LineState, IsText, line_texts}
use Rattle.spec_script.specs.declared.Kind.{Kind}
use Rattle.spec_script.specs.declared.Kind.TheVariants as kinds
use Rattle.spec_script.specs.Elements.{line_of_block, alone, pair, is_dual, is_speech_kind}
use Rattle.spec_script.specs.LongestRuns.{Group, members}
use Rattle.spec_script.specs.Stanzas.{PlacedBlock, blocks_of}
use Rattle.spec_script.proofs.LongestRuns.{longest_runs-exist}
use Rattle.spec_pages.specs.Pages.{is_heading}
use Rattle.spec_pages.specs.Rows.{Row, ElementOf, line_state, is_title, placed_rows, shifted_row}
use Rattle.spec_sheets.specs.Layout.{AreIndexed, in_body, laid_out, placed_in}
use Rattle.spec_sheets.specs.Shown.{no_row, opens_heading, row_key}
use Rattle.spec_sheets.specs.Speakers.{Spoken}
use Rattle.spec_sheets.proofs.IndexLaws.{single_rows-indexed, placed_rows-indexed}
use Rattle.spec_sheets.proofs.RowLaws.{IsText-texts}
use Rattle.spec_state.specs.State.{State, text_of}
use Rattle.spec_state.specs.Headings.{is_heading_kind, is_heading_block}
use Rattle.spec_state.specs.StateSheets.{layout_in}
use Rattle.spec_edit.specs.TextItems.{Script, spoken_group}
use Rattle.spec_edit.proofs.SoundElements.{SoundSteps, elements-sound}
use Rattle.spec_locked_pages.proofs.HeadingBlocks.{PlacedLined, blocks-lined}
use Rattle.spec_locked_pages.proofs.HeadingRows.{Begins, IsOf, alone-begins, pair-begins}
use Rattle.spec_locked_pages.proofs.RowsAgree.{heading-at, placed-of}
use Rattle.spec_locked_pages.proofs.StateScripts.{script_of, texts_of, elements-scripted}
use Rattle.sp_sheets.specs.HeadingLines.{heading_line, heading_lines}
use Rattle.sp_sheets.specs.HeadingIds.{heading_ids}

-- The id of the line of a row, and those of the rows with which headings begin.
abbrev row_id : List LineState → Row → ℕ
row_id lines row = (line_state lines row.line).id

abbrev pub opened_ids : List LineState → List Row → List ℕ
opened_ids lines rows = map (row_id lines) (filter opens_heading rows)

pub ids-opened : (lines : List LineState) (rows : List Row) → heading_ids (map (λ (row : Row). row.shape) rows) (map (row_key lines) rows) ≡ opened_ids lines rows
ids-opened lines [] = refl
ids-opened lines (row ∷ rows) = by (opens_heading row) (ids-opened lines rows)
  where
    by : (b : Bool) → heading_ids (map (λ (r : Row). r.shape) rows) (map (row_key lines) rows) ≡ opened_ids lines rows
        → cond b (row_id lines row ∷ heading_ids (map (λ (r : Row). r.shape) rows) (map (row_key lines) rows)) (heading_ids (map (λ (r : Row). r.shape) rows) (map (row_key lines) rows))
        ≡ map (row_id lines) (cond b (row ∷ filter opens_heading rows) (filter opens_heading rows))
    by true rest = ap (λ (ids : List ℕ). row_id lines row ∷ ids) rest
    by false rest = rest

opened-append : (lines : List LineState) (one other : List Row) → opened_ids lines (one ++ other) ≡ opened_ids lines one ++ opened_ids lines other
opened-append lines one other = ap (map (row_id lines)) (filter-append opens_heading one other) ∙ map-append (row_id lines) (filter opens_heading one) (filter opens_heading other)

-- ---- the rows of an element

abbrev IsPlain : Row → Type 0
IsPlain row = opens_heading row ≡ false

none-open : (rows : List Row) → All IsPlain rows → filter opens_heading rows ≡ []
none-open [] all = refl
none-open (row ∷ rows) all =
    ap (λ b. cond b (row ∷ filter opens_heading rows) (filter opens_heading rows)) (All-head IsPlain row rows all) ∙ none-open rows (All-tail IsPlain row rows all)

plain-rows : (rows : List Row) → All (IsOf false) rows → All IsPlain rows
plain-rows rows all k d h = ap (λ a. a && ((get_or rows k d).shape.index == 0)) (all k d h)

-- Only the first row of an element has the index 0.
later-plain : (row : Row) (later : List Row) → AreIndexed (row ∷ later) → All IsPlain later
later-plain row later all k d h = by (get_or later k d) (all (suc k) d (omega (arith, h))).index
  where
    by : (it : Row) → it.shape.index ≡ suc k → IsPlain it
    by it is = elim (cases_Bool (opens_heading it)) [
      | inl opens ↦
          let zero_is = eqb-true it.shape.index 0 (and_parts (is_heading it.shape.kind) (it.shape.index == 0) opens).1 in
          absurd (omega (arith, is, zero_is))
      | inr plain ↦ plain
    ]

-- A heading opens with the row of its line.
one-open : (lines : List LineState) (line : ℕ) (rows : List Row) → AreIndexed rows → All (λ (row : Row). row.line ≡ line) rows → opens_heading (slice_index_or rows 0 no_row) ≡ true
    → opened_ids lines rows ≡ (line_state lines line).id ∷ []
one-open lines line [] indexed at opens = absurd (true≢false (sym opens))
one-open lines line (row ∷ later) indexed at opens =
    let P : Row → Type 0 = λ it. it.line ≡ line in
    ap (λ b. map (row_id lines) (cond b (row ∷ filter opens_heading later) (filter opens_heading later))) opens
    ∙ ap (λ (those : List Row). row_id lines row ∷ map (row_id lines) those) (none-open later (later-plain row later indexed))
    ∙ ap (λ p. (line_state lines p).id ∷ []) (All-head P row later at)

first-placed : (first : ℕ) (rows : List Row) → opens_heading (slice_index_or (map (shifted_row first) rows) 0 no_row) ≡ opens_heading (slice_index_or rows 0 no_row)
first-placed first [] = refl
first-placed first (row ∷ rows) = refl

-- ---- elements

title-not : (kind : Kind) → is_heading_kind kind ≡ true → is_title kind ≡ false
title-not kinds.Title is = absurd (true≢false (sym is))
title-not kinds.Heading is = refl
title-not kinds.Action is = refl
title-not kinds.Speech is = refl
title-not kinds.Lyric is = refl
title-not kinds.Transition is = refl
title-not kinds.Centred is = refl
title-not kinds.PageBreak is = refl
title-not kinds.Section is = refl
title-not kinds.Synopsis is = refl

speech-not : (kind : Kind) → is_speech_kind kind ≡ true → is_heading_kind kind ≡ false
speech-not kinds.Speech is = refl
speech-not kinds.Heading is = absurd (true≢false (sym is))
speech-not kinds.Action is = refl
speech-not kinds.Lyric is = refl
speech-not kinds.Transition is = refl
speech-not kinds.Centred is = refl
speech-not kinds.PageBreak is = refl
speech-not kinds.Section is = refl
speech-not kinds.Synopsis is = refl
speech-not kinds.Title is = refl

module _ (script : Script) where
  abbrev laid : List (Group PlacedBlock) → List ElementOf
  laid groups = map (laid_out script.lines) (filter in_body (map (spoken_group script) groups))

  abbrev Stand : ℕ → ℕ → List (Group PlacedBlock) → Type 0
  Stand low high groups = opened_ids script.lines (placed_in (laid groups)) ≡ heading_lines script.lines (flat_map members groups)

  abbrev heads_of : List PlacedBlock → List ℕ
  heads_of blocks = map (heading_line script.lines) blocks

  -- An element that is no heading.
  plain-element : (element : Group PlacedBlock) (others : List (Group PlacedBlock)) → filter is_heading_block (members element ++ flat_map members others) ≡ filter is_heading_block (flat_map members others)
      → Begins false (laid_out script.lines (spoken_group script element)).rows → opened_ids script.lines (placed_in (laid others)) ≡ heading_lines script.lines (flat_map members others)
      → opened_ids script.lines (placed_in (laid (element ∷ others))) ≡ heading_lines script.lines (members element ++ flat_map members others)
  plain-element element others none begins rest = by (in_body (spoken_group script element)) ∙ rest ∙ ap heads_of (sym none)
    where
      own : ElementOf
      own = laid_out script.lines (spoken_group script element)

      later : List (Group Spoken)
      later = filter in_body (map (spoken_group script) others)

      by : (b : Bool) → opened_ids script.lines (placed_in (map (laid_out script.lines) (cond b (spoken_group script element ∷ later) later))) ≡ opened_ids script.lines (placed_in (map (laid_out script.lines) later))
      by false = refl
      by true =
          opened-append script.lines (placed_rows own) (placed_in (map (laid_out script.lines) later))
          ∙ ap (λ (rows : List Row). map (row_id script.lines) rows ++ opened_ids script.lines (placed_in (map (laid_out script.lines) later)))
          (none-open (placed_rows own) (plain-rows (placed_rows own) (placed-of false own.first own.rows begins.all)))

  -- One that is.
  heading-element : (block : PlacedBlock) (others : List (Group PlacedBlock)) → is_heading_block block ≡ true → Begins true (laid_out script.lines (spoken_group script (alone block))).rows
      → All (λ (row : Row). row.line ≡ line_of_block block) (placed_rows (laid_out script.lines (spoken_group script (alone block))))
      → opened_ids script.lines (placed_in (laid others)) ≡ heading_lines script.lines (flat_map members others)
      → opened_ids script.lines (placed_in (laid (alone block ∷ others))) ≡ heading_lines script.lines (block ∷ flat_map members others)
  heading-element block others is begins at rest =
      let own = laid_out script.lines (spoken_group script (alone block)) in
      let later : List (Group Spoken) = filter in_body (map (spoken_group script) others) in
      let untitled = title-not block.block.kind is in
      let heads = filter is_heading_block (flat_map members others) in
      let first : opens_heading (slice_index_or (placed_rows own) 0 no_row) ≡ true = first-placed own.first own.rows ∙ begins.first in
      let indexed = placed_rows-indexed own (single_rows-indexed script.lines block.first block.block (script.continued (line_of_block block)) untitled) in
      ap (λ b. opened_ids script.lines (placed_in (map (laid_out script.lines) (cond (not b) (spoken_group script (alone block) ∷ later) later)))) untitled
      ∙ opened-append script.lines (placed_rows own) (placed_in (map (laid_out script.lines) later))
      ∙ ap₂ (λ (a b : List ℕ). a ++ b) (one-open script.lines (line_of_block block) (placed_rows own) indexed at first) rest
      ∙ ap (λ b. heads_of (cond b (block ∷ heads) heads)) (sym is)

  headings-steps : SoundSteps PlacedLined Stand
  headings-steps = record {
    none = λ low high order. refl;
    single = λ low high block others sound lined order behind. elim (cases_Bool (is_heading_block block)) [
      | inl is ↦
          heading-element block others is (subst (λ b. Begins b (laid_out script.lines (spoken_group script (alone block))).rows) is (alone-begins script.lines (record { placed = block; continued = script.continued (line_of_block block) }) lined))
          (heading-at script.lines block (script.continued (line_of_block block)) sound lined is) behind
      | inr plain ↦
          plain-element (alone block) others (ap (λ b. cond b (block ∷ filter is_heading_block (flat_map members others)) (filter is_heading_block (flat_map members others))) plain)
          (subst (λ b. Begins b (laid_out script.lines (spoken_group script (alone block))).rows) plain (alone-begins script.lines (record { placed = block; continued = script.continued (line_of_block block) }) lined)) behind
    ];
    double = λ low high left right others l r dual places order apart behind.
        let one = speech-not left.block.kind (dual-speech left right dual).0 in
        let other = speech-not right.block.kind (dual-speech left right dual).1 in
        let heads = filter is_heading_block (flat_map members others) in
        plain-element (pair left right) others
        (ap₂ (λ (a b : Bool). cond a (left ∷ cond b (right ∷ heads) heads) (cond b (right ∷ heads) heads)) one other)
        (pair-begins script.lines (record { placed = left; continued = script.continued (line_of_block left) }) (record { placed = right; continued = script.continued (line_of_block right) }))
        behind;
  }
    where
      dual-speech : (left right : PlacedBlock) → is_dual left right ≡ true → (is_speech_kind left.block.kind ≡ true) × (is_speech_kind right.block.kind ≡ true)
      dual-speech left right dual =
          let a = is_speech_kind left.block.kind in
          let b = not left.block.caret in
          let c = is_speech_kind right.block.kind in
          let last = and_parts (a && b && c) right.block.caret dual in
          let third = and_parts (a && b) c last.0 in
          ((and_parts a b third.0).0, third.1)

-- The headings of a state stand on the lines with whose rows elements begin that are headings.
pub state-opened : (state : State) → IsText (text_of state) → opened_ids state.lines (placed_in (layout_in state).body) ≡ heading_lines state.lines (blocks_of (line_texts state.lines))
state-opened state is =
    let are = IsText-texts (text_of state) is in
    let script = script_of state in
    let all = elements-sound (texts_of state) PlacedLined (Stand script) (headings-steps script) (blocks-lined (texts_of state)) are.utf8 are.few in
    ap (λ (elements : List (Group Spoken)). opened_ids state.lines (placed_in (map (laid_out state.lines) (filter in_body elements)))) (elements-scripted state is)
    ∙ all ∙ ap (heading_lines state.lines) ((longest_runs-exist is_dual (blocks_of (texts_of state))).all)
