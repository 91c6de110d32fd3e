use Rattle.std.proofs.Common.{◌≡◌, ◌-◌, take, slice_range, ap, ◌∙◌, arith, take_all}
use Rattle.std.proofs.lemmas.Result.{IfOk-weaker}
use Rattle.spec_script.specs.Stanzas.{blocks_from}
use Rattle.spec_edit.specs.Windows.{stanza_lines_in}
use Rattle.sp_reread.proofs.placed.placed_blocks.Goals as goal

pub returns : goal.returns
returns c =
    let stanzas = c.args.stanzas.now.stanzas in
    let len = c.len.ensures.len in
    let all : slice_range stanzas 0 c.len.result ≡ stanzas = take_all (c.len.result - 0) stanzas (omega (arith, len)) in
    IfOk-weaker c.placed_blocks_between.result
    (λ placed. placed.items ≡ blocks_from (stanza_lines_in (take 0 stanzas)) (slice_range stanzas 0 c.len.result)) (λ placed. placed.items ≡ blocks_from 0 stanzas)
    (λ placed is. is ∙ ap (blocks_from 0) all) c.placed_blocks_between.ensures
