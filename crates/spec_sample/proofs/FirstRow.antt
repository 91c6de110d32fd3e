-- The body of a text that begins with the heading of a room has a row.
use Rattle.std.proofs.Common.{◌≡◌, ℕ, ◌+◌, ◌<◌, Bool, true, false, not, ◌&&◌, cond, None, List, [], ◌∷◌, ◌++◌, length, map, refl, sym, ap, ◌∙◌, subst, inl, arith, length-append}
use Rattle.std.specs.Prelude.{codes}
use Rattle.std.specs.List.{flat_map, list_any}
use Rattle.std.specs.Str.{chars}
use Rattle.ucd_derived.specs.Binary.{is_lowercase, is_alphabetic}
use Rattle.ucd_derived.specs.LowercaseRanges.{lowercase_ranges}
use Rattle.ucd_derived.specs.AlphabeticRanges.{alphabetic_ranges}
use Rattle.ucd_table.specs.Rows.{in_ranges, value_in}
use Rattle.ucd_category.specs.GeneralCategory.{general_category}
use Rattle.ucd_category.specs.GeneralCategoryRows.{general_category_rows}
use Rattle.spec_text.specs.Lines.{LineState, line_texts}
use Rattle.spec_script.specs.declared.Kind.{Kind}
use Rattle.spec_script.specs.declared.Kind.TheVariants as kinds
use Rattle.spec_script.specs.LongestRuns.{Group, longest_runs, in_front}
use Rattle.spec_script.specs.BlockValues.{LineOf, BlockOf}
use Rattle.spec_script.specs.Blocks.{stanza_blocks}
use Rattle.spec_script.specs.Stanzas.{Kept, PlacedBlock, cleaned_lines, stanza_lines, stanza_of, stanzas_from, stanzas_of, blocks_from, blocks_of}
use Rattle.spec_script.specs.Elements.{placed_at, is_speech_kind}
use Rattle.spec_script.proofs.StanzaLines.{kept_by_line, up_to_empty, stanza_lines-read}
use Rattle.spec_script.proofs.StanzaList.{stanza-leads_on}
use Rattle.spec_pages.specs.declared.Side.TheVariants as sides
use Rattle.spec_pages.specs.Columns.{width_of, first_lead, has_rows}
use Rattle.spec_pages.specs.Rows.{Row, line_context, line_rows, is_title, title_row, spoken_rows, with_speakers, block_alone, block_rows, with_number, single_rows}
use Rattle.spec_pages.specs.Wrapping.{wrapped}
use Rattle.spec_pages.proofs.WrapLaws.{wrapped-some}
use Rattle.spec_sheets.specs.Speakers.{Spoken, named_from, named_block, is_pair, settled, settled_element, spoken_elements, speaker_after}
use Rattle.spec_sheets.specs.Layout.{layout_of, placed_in}
use Rattle.spec_sheets.proofs.LaidRows.{element_rows, body_rows, layout-body, length-element_rows}
use Rattle.spec_sample.proofs.RowsFew.{length-line_rows_from, length-shaped, length-with_number, length-spoken}

-- A block that is a heading with a line.
record IsHeadingBlock (block : BlockOf) : Type 0 where
  kind : block.kind ≡ kinds.Heading
  some : 0 < length block.lines

-- ---- its rows

lines-some : (lines : List LineState) (first : ℕ) (kind : Kind) (those : List LineOf) → 0 < length those → 0 < length (flat_map (line_rows lines first 0 sides.Alone kind) those)
lines-some lines first kind [] some = absurd (omega (arith, some))
lines-some lines first kind (line ∷ those) some =
    let context = line_context lines first 0 sides.Alone kind line in
    let width = width_of sides.Alone kind line.part in
    omega (
      arith,
      length-append (line_rows lines first 0 sides.Alone kind line) (flat_map (line_rows lines first 0 sides.Alone kind) those),
      length-line_rows_from context line 0 (wrapped context.text line.runs width),
      wrapped-some context.text line.runs width,
    )

speakers-same : (lines : List LineState) (first : ℕ) (speakers : List Bool) (made : List Row) → length (with_speakers lines first speakers made) ≡ length made
speakers-same lines first speakers made = by (list_any (λ goes_on. goes_on) speakers)
  where
    by : (b : Bool) → length (cond b (spoken_rows lines first speakers made) made) ≡ length made
    by true = length-spoken lines first speakers made
    by false = refl

single-some : (lines : List LineState) (first : ℕ) (block : BlockOf) (continued : Bool) → IsHeadingBlock block → 0 < length (single_rows lines first block continued)
single-some lines first block continued is =
    let own = block_alone lines first block in
    let made = block_rows lines first 0 sides.Alone block in
    let P : Kind → Type 0 = λ k. 0 < length (cond (has_rows k) (cond (is_title k) (map title_row own) (with_speakers lines first (continued ∷ []) own)) []) in
    subst P (sym is.kind)
    (omega (arith, speakers-same lines first (continued ∷ []) own, length-shaped (first_lead block.kind) 0 (with_number block made), length-with_number block made, lines-some lines first block.kind block.lines is.some))

-- ---- its element

-- A heading stands alone.
record Leads (lines : List LineState) (block : PlacedBlock) (elements : List (Group Spoken)) : Type 0 where
  continued : Bool
  others : List (Group Spoken)
  are : elements ≡ record { first = record { placed = block; continued = continued }; more = [] } ∷ others

never-pair : (one other : Spoken) → one.placed.block.kind ≡ kinds.Heading → is_pair one other ≡ false
never-pair one other is = ap (λ (k : Kind). is_speech_kind k && not one.placed.block.caret && is_speech_kind other.placed.block.kind && other.placed.block.caret) is

front-alone : (lines : List LineState) (it : Spoken) (groups : List (Group Spoken)) → it.placed.block.kind ≡ kinds.Heading → Leads lines it.placed (map (settled_element lines) (in_front is_pair it groups))
front-alone lines it [] is = record { continued = (settled lines sides.Alone it).continued; others = []; are = refl }
front-alone lines it (g ∷ gs) is =
    let alone : Group Spoken = record { first = it; more = [] } in
    let joined : Group Spoken = record { first = it; more = g.first ∷ g.more } in
    record {
      continued = (settled lines sides.Alone it).continued;
      others = map (settled_element lines) (g ∷ gs);
      are = ap (λ b. map (settled_element lines) (cond b (joined ∷ gs) (alone ∷ g ∷ gs))) (never-pair it g.first is);
    }

leads : (speakers : Bool) (lines : List LineState) (block : PlacedBlock) (blocks : List PlacedBlock) → block.block.kind ≡ kinds.Heading → Leads lines block (spoken_elements speakers lines None (block ∷ blocks))
leads speakers lines block blocks is =
    let texts = line_texts lines in
    front-alone lines (named_block speakers texts None block) (longest_runs is_pair (named_from speakers texts (speaker_after texts None block) blocks)) is

body-some : (speakers : Bool) (lines : List LineState) (block : PlacedBlock) (blocks : List PlacedBlock) → IsHeadingBlock block.block → blocks_of (line_texts lines) ≡ block ∷ blocks
    → 0 < length (placed_in (layout_of speakers lines).body)
body-some speakers lines block blocks is are =
    let elements = spoken_elements speakers lines None (blocks_of (line_texts lines)) in
    let lead = subst (λ (bs : List PlacedBlock). Leads lines block (spoken_elements speakers lines None bs)) (sym are) (leads speakers lines block blocks is.kind) in
    let one : Group Spoken = record { first = record { placed = block; continued = lead.continued }; more = [] } in
    let others = lead.others in
    let P : Kind → Type 0 = λ k. length (cond (is_title k) [] (element_rows lines one)) ≡ length (element_rows lines one) in
    let own : length (body_rows lines one) ≡ length (element_rows lines one) = subst P (sym is.kind) refl in
    let rows = ap length (layout-body lines elements ∙ ap (flat_map (body_rows lines)) lead.are) in
    omega (arith, rows, length-append (body_rows lines one) (flat_map (body_rows lines) others), own, length-element_rows lines one, single-some lines block.first block.block lead.continued is)

-- ---- the first lines

abbrev pub first_heading : List ℕ
first_heading = codes "INT. ROOM 1 - DAY"

-- The lines of the first stanza.
abbrev first_lines : List Kept
first_lines = up_to_empty (kept_by_line false (first_heading ∷ [] ∷ []))

first-kinds : map (λ (b : BlockOf). b.kind) (stanza_blocks true (cleaned_lines first_lines)) ≡ kinds.Heading ∷ []
unfolding chars is_lowercase in_ranges lowercase_ranges is_alphabetic alphabetic_ranges general_category value_in general_category_rows
first-kinds = refl

first-counts : map (λ (b : BlockOf). length b.lines) (stanza_blocks true (cleaned_lines first_lines)) ≡ 1 ∷ []
unfolding chars is_lowercase in_ranges lowercase_ranges is_alphabetic alphabetic_ranges general_category value_in general_category_rows
first-counts = refl

record FirstHeading (blocks : List PlacedBlock) : Type 0 where
  block : PlacedBlock
  others : List PlacedBlock
  are : blocks ≡ block ∷ others
  is : IsHeadingBlock block.block

first-of : (blocks : List BlockOf) (later : List PlacedBlock) → map (λ (b : BlockOf). b.kind) blocks ≡ kinds.Heading ∷ [] → map (λ (b : BlockOf). length b.lines) blocks ≡ 1 ∷ []
    → FirstHeading (map (placed_at 0) blocks ++ later)
first-of [] later kinds_are counts = absurd (let bad : ⊥ = cc in bad)
first-of (block ∷ blocks) later kinds_are counts =
    let kind : block.kind ≡ kinds.Heading = cc in
    let count : length block.lines ≡ 1 = cc in
    record { block = placed_at 0 block; others = map (placed_at 0) blocks ++ later; are = refl; is = record { kind = kind; some = omega (arith, count) } }

first-stanza : (texts rest : List (List ℕ)) → texts ≡ first_heading ∷ [] ∷ rest → FirstHeading (blocks_of texts)
first-stanza texts rest is =
    let read : stanza_lines texts 0 ≡ first_lines = stanza_lines-read texts 0 (inl refl) ∙ ap (λ (ts : List (List ℕ)). up_to_empty (kept_by_line false ts)) is in
    let size = ap length is in
    let lead = stanza-leads_on texts 0 (omega (arith, size)) in
    let later = stanzas_from texts (0 + length (stanza_lines texts 0)) in
    let cut : stanzas_of texts ≡ stanza_of true first_lines ∷ later = lead.rest ∙ ap (λ (ls : List Kept). stanza_of true ls ∷ later) read in
    subst FirstHeading (sym (ap (blocks_from 0) cut)) (first-of (stanza_blocks true (cleaned_lines first_lines)) (blocks_from (0 + length first_lines) later) first-kinds first-counts)

-- A text that begins so.
pub row-some : (speakers : Bool) (lines : List LineState) (rest : List (List ℕ)) → line_texts lines ≡ first_heading ∷ [] ∷ rest → 0 < length (placed_in (layout_of speakers lines).body)
row-some speakers lines rest is =
    let first = first-stanza (line_texts lines) rest is in
    body-some speakers lines first.block first.others first.is first.are
