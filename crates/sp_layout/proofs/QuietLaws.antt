-- Who spoke last in front of an edit.
use Rattle.std.proofs.Common.{◌≡◌, ℕ, ◌+◌, ◌<◌, ◌≤◌, List, ◌++◌, length, None, sym, ap, subst, ◌∙◌}
use Rattle.std.specs.Prelude.{All}
use Rattle.std.specs.Str.{IsUtf8}
use Rattle.spec_text.specs.Limits.{line_count_limit}
use Rattle.spec_text.specs.Lines.{LineState, line_texts}
use Rattle.spec_text.proofs.ListLaws.{All-front}
use Rattle.spec_script.specs.BlockValues.{StanzaOf}
use Rattle.spec_script.specs.Stanzas.{blocks_from, blocks_of, stanzas_of}
use Rattle.spec_pages.specs.Rows.{line_state}
use Rattle.spec_edit.specs.Windows.{stanza_lines_in}
use Rattle.spec_edit.proofs.WindowBlocks.{blocks-append}
use Rattle.spec_edit.specs.Moved.{BlockStays, speaker_behind}
use Rattle.spec_edit.proofs.LayoutParts.{still-blocks}
use Rattle.spec_edit.proofs.MovedElements.{behind-stays}
use Rattle.spec_edit.proofs.RelaidStanzas.{IsWhole, blocks-whole, front-block, front-stands}

-- In front of an edit the same one spoke last.
pub front-same : (before lines : List LineState) (front behind : List StanzaOf) → All IsUtf8 (line_texts before) → length (line_texts before) ≤ line_count_limit → stanzas_of (line_texts before) ≡ front ++ behind
    → ((place : ℕ) → place < stanza_lines_in front → line_state lines place ≡ line_state before place) → speaker_behind (line_texts lines) None (blocks_from 0 front) ≡ speaker_behind (line_texts before) None (blocks_from 0 front)
front-same before lines front behind utf8 few is same =
    let own = blocks_from 0 front in
    let all : blocks_of (line_texts before) ≡ own ++ blocks_from (0 + stanza_lines_in front) behind = ap (blocks_from 0) is ∙ blocks-append 0 front behind in
    let whole = All-front IsWhole own (blocks_from (0 + stanza_lines_in front) behind) (subst (All IsWhole) all (blocks-whole (line_texts before) utf8 few)) in
    let stands = front-stands (line_texts before) front behind utf8 few is in
    let stay : All (BlockStays 0 0 before lines) own = λ k d h. front-block before lines (stanza_lines_in front) _ same (whole k d h) (stands.ends k d h) in
    ap (speaker_behind (line_texts lines) None) (sym (still-blocks own)) ∙ behind-stays 0 0 before lines None own stay
