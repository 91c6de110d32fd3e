use Rattle.std.proofs.Common.{◌≡◌, sym, ap, subst, ◌∙◌}
use Rattle.std.proofs.lemmas.Result.{IfOk-weaker}
use Rattle.std.specs.Prelude.{All}
use Rattle.spec_text.specs.Lines.{line_texts}
use Rattle.spec_script.specs.Stanzas.{blocks_of}
use Rattle.spec_script.specs.Elements.{PlacedLies, PlacesRise}
use Rattle.spec_script.proofs.BlockPlaces.{blocks_of-lie}
use Rattle.spec_sheets.proofs.RowLaws.{IsText-texts}
use Rattle.sp_text.specs.Gap.{text_of}
use Rattle.sp_layout.specs.LaidOut.{IsLayoutOf, layout_behind}
use Rattle.sp_layout.specs.Speaking.{speakers_before}
use Rattle.sp_layout.proofs.TextLayout.{layout-is}
use Rattle.sp_layout.proofs.layout.lay_out_text.Goals as goal

pub lay_out-requires-clause-lie : goal.lay_out-requires-clause-lie
lay_out-requires-clause-lie c =
    let texts = line_texts c.args.lines.now.lines in
    let are = IsText-texts (text_of c.args.lines.now) c.len-count.ensures.keeps in
    let blocks : c.args.blocks.now ≡ blocks_of texts = c.requires in
    subst (All (PlacedLies texts)) (sym blocks) (blocks_of-lie texts are.utf8 are.few).lie

pub lay_out-requires-clause-rise : goal.lay_out-requires-clause-rise
lay_out-requires-clause-rise c =
    let texts = line_texts c.args.lines.now.lines in
    let are = IsText-texts (text_of c.args.lines.now) c.len-count.ensures.keeps in
    let blocks : c.args.blocks.now ≡ blocks_of texts = c.requires in
    subst (PlacesRise 0) (sym blocks) (blocks_of-lie texts are.utf8 are.few).rise

pub returns-clause-layout : goal.returns-clause-layout
returns-clause-layout c =
    let lines = c.args.lines.now.lines in
    let speakers = speakers_before c.args.speakers in
    let blocks : c.args.blocks.now ≡ blocks_of (line_texts lines) = c.requires in
    let same = ap (layout_behind lines speakers) blocks in
    IfOk-weaker c.lay_out.result (λ layout. layout ≡ layout_behind lines speakers c.args.blocks.now) (IsLayoutOf lines c.args.speakers)
    (λ layout is. layout-is c.args.speakers (text_of c.args.lines.now) layout c.len-count.ensures.keeps (is ∙ same)) c.lay_out.ensures
