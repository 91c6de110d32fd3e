-- The lines of headings, stanza by stanza.
use Rattle.std.proofs.Common.{◌≡◌, ℕ, ◌+◌, ◌<◌, List, [], ◌∷◌, ◌++◌, length, map, filter, take, drop, slice_get, Some, sym, ap, ◌∙◌, subst, append_assoc, get_or, length-append, arith}
use Rattle.std.specs.Prelude.{All}
use Rattle.std.proofs.lemmas.List.{drop_more, take_more, map-append, length-map, get_or-map, get_or_append_left, get_or-append-add}
use Rattle.std.proofs.lemmas.List.Elements.{filter-append}
use Rattle.std.proofs.lemmas.List.Sums.{sum_by_push}
use Rattle.std.proofs.lemmas.Option.{slice_get_within, get_or_from_slice_get}
use Rattle.std.proofs.lemmas.Simd.{map-map}
use Rattle.spec_text.specs.Lines.{LineState}
use Rattle.spec_script.specs.BlockParts.{BlockLies}
use Rattle.spec_script.specs.BlockValues.{StanzaOf}
use Rattle.spec_script.specs.Elements.{placed_at, PlacedLies}
use Rattle.spec_script.specs.Stanzas.{PlacedBlock, blocks_from}
use Rattle.spec_labels.specs.Scenes.{HeadingOf, SceneRecordOf, labels_since, line_place, locked_labels}
use Rattle.spec_edit.specs.Windows.{stanza_lines_in}
use Rattle.spec_state.specs.Headings.{heading_of, is_heading_block}
use Rattle.sp_scenes.specs.LineLabels.{line_labels}
use Rattle.sp_sheets.specs.HeadingLines.{heading_line, heading_lines}

-- The blocks of the stanzas from a place on.
abbrev pub blocks_left : List StanzaOf → ℕ → List PlacedBlock
blocks_left stanzas i = blocks_from (stanza_lines_in (take i stanzas)) (drop i stanzas)

-- The next stanza's blocks, and those of the stanzas behind it.
pub blocks_left-next : (stanzas : List StanzaOf) (i : ℕ) (stanza : StanzaOf) → slice_get stanzas i ≡ Some stanza
    → blocks_left stanzas i ≡ map (placed_at (stanza_lines_in (take i stanzas))) stanza.blocks ++ blocks_left stanzas (i + 1)
blocks_left-next stanzas i stanza at =
    let inside = slice_get_within stanzas i stanza at in
    let is = get_or_from_slice_get stanzas i stanza stanza at in
    let first = stanza_lines_in (take i stanzas) in
    let later : drop i stanzas ≡ stanza ∷ drop (i + 1) stanzas = drop_more stanzas i stanza inside ∙ ap (λ (it : StanzaOf). it ∷ drop (i + 1) stanzas) is in
    let before : take (i + 1) stanzas ≡ take i stanzas ++ stanza ∷ [] = take_more stanzas i stanza inside ∙ ap (λ (it : StanzaOf). take i stanzas ++ it ∷ []) is in
    let lines : stanza_lines_in (take (i + 1) stanzas) ≡ first + stanza.lines = ap stanza_lines_in before ∙ sum_by_push (λ (it : StanzaOf). it.lines) (take i stanzas) stanza in
    ap (blocks_from first) later ∙ ap (λ n. map (placed_at first) stanza.blocks ++ blocks_from n (drop (i + 1) stanzas)) (sym lines)

heading_lines-append : (lines : List LineState) (one other : List PlacedBlock) → heading_lines lines (one ++ other) ≡ heading_lines lines one ++ heading_lines lines other
heading_lines-append lines one other = ap (map (heading_line lines)) (filter-append is_heading_block one other) ∙ map-append (heading_line lines) (filter is_heading_block one) (filter is_heading_block other)

pub heading_lines-next : (lines : List LineState) (stanzas : List StanzaOf) (i : ℕ) (stanza : StanzaOf) (ids new all : List ℕ) → slice_get stanzas i ≡ Some stanza
    → new ≡ ids ++ heading_lines lines (map (placed_at (stanza_lines_in (take i stanzas))) stanza.blocks) → ids ++ heading_lines lines (blocks_left stanzas i) ≡ all
    → new ++ heading_lines lines (blocks_left stanzas (i + 1)) ≡ all
heading_lines-next lines stanzas i stanza ids new all at pushed is =
    let own = map (placed_at (stanza_lines_in (take i stanzas))) stanza.blocks in
    let rest = blocks_left stanzas (i + 1) in
    ap (λ those. those ++ heading_lines lines rest) pushed ∙ append_assoc ids (heading_lines lines own) (heading_lines lines rest)
    ∙ ap (λ those. ids ++ those) (sym (heading_lines-append lines own rest) ∙ ap (heading_lines lines) (sym (blocks_left-next stanzas i stanza at))) ∙ is

-- The labels of headings are those of their lines.
pub labels-of : (records : List SceneRecordOf) (lines : List LineState) (blocks : List PlacedBlock) → line_labels records (heading_lines lines blocks) ≡ locked_labels records (map (heading_of lines) (filter is_heading_block blocks))
labels-of records lines blocks =
    let those = filter is_heading_block blocks in
    ap (labels_since records 0) (map-map (line_place records) (heading_line lines) those ∙ sym (map-map (λ (it : HeadingOf). line_place records it.id) (heading_of lines) those))

-- The blocks of the next stanza lie in the lines.
pub lie-next : (texts : List (List ℕ)) (stanzas : List StanzaOf) (i : ℕ) (stanza : StanzaOf) → slice_get stanzas i ≡ Some stanza → All (PlacedLies texts) (blocks_left stanzas i)
    → All (BlockLies texts (stanza_lines_in (take i stanzas))) stanza.blocks
lie-next texts stanzas i stanza at lie = λ k d inside.
    let first = stanza_lines_in (take i stanzas) in
    let own = map (placed_at first) stanza.blocks in
    let rest = blocks_left stanzas (i + 1) in
    let all : All (PlacedLies texts) (own ++ rest) = subst (All (PlacedLies texts)) (blocks_left-next stanzas i stanza at) lie in
    let many = length-map stanza.blocks (placed_at first) in
    let within : k < length own = omega (arith, many, inside) in
    let here : get_or (own ++ rest) k (placed_at first d) ≡ placed_at first (get_or stanza.blocks k d) =
    get_or_append_left own rest (placed_at first d) k within ∙ get_or-map (placed_at first) stanza.blocks k d (placed_at first d) inside in
    subst (PlacedLies texts) here (all k (placed_at first d) (omega (arith, length-append own rest, within)))

-- And so do those behind it.
pub lie-left : (texts : List (List ℕ)) (stanzas : List StanzaOf) (i : ℕ) (stanza : StanzaOf) → slice_get stanzas i ≡ Some stanza → All (PlacedLies texts) (blocks_left stanzas i)
    → All (PlacedLies texts) (blocks_left stanzas (i + 1))
lie-left texts stanzas i stanza at lie = λ k d inside.
    let own = map (placed_at (stanza_lines_in (take i stanzas))) stanza.blocks in
    let rest = blocks_left stanzas (i + 1) in
    let all : All (PlacedLies texts) (own ++ rest) = subst (All (PlacedLies texts)) (blocks_left-next stanzas i stanza at) lie in
    subst (PlacedLies texts) (get_or-append-add own rest k d) (all (length own + k) d (omega (arith, length-append own rest, inside)))

pub length-heading_lines : (lines : List LineState) (blocks : List PlacedBlock) → length (heading_lines lines blocks) ≡ length (map (heading_of lines) (filter is_heading_block blocks))
length-heading_lines lines blocks = let those = filter is_heading_block blocks in length-map those (heading_line lines) ∙ sym (length-map those (heading_of lines))
