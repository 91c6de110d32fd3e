use Rattle.std.proofs.Common.{◌≡◌, sym, ap, subst, ◌∙◌}
use Rattle.std.specs.Prelude.{All}
use Rattle.spec_text.specs.Lines.{line_texts}
use Rattle.spec_script.specs.Stanzas.{blocks_from, blocks_of}
use Rattle.spec_script.specs.Elements.{PlacedLies}
use Rattle.spec_script.proofs.BlockPlaces.{blocks_of-lie}
use Rattle.spec_sheets.proofs.RowLaws.{IsText-texts}
use Rattle.sp_text.specs.Gap.{text_of}
use Rattle.sp_contents.proofs.blocks.block_replies.Goals as goal

pub replies_of-requires : goal.replies_of-requires
replies_of-requires c =
    let texts = line_texts c.args.lines.now.lines in
    let are = IsText-texts (text_of c.args.lines.now) c.len-count.ensures.keeps in
    let blocks : c.deref.result.now ≡ blocks_of texts = c.deref.ensures.value ∙ c.in_ok-blocks.ensures ∙ ap (blocks_from 0) c.requires in
    subst (All (PlacedLies texts)) (sym blocks) (blocks_of-lie texts are.utf8 are.few).lie
