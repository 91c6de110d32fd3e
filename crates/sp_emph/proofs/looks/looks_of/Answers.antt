-- Each byte of the line is plain at the start, and the layers change it.
use Rattle.std.proofs.Common.{◌≡◌, length, ap, ◌∙◌}
use Rattle.std.proofs.lemmas.List.{take_at}
use Rattle.std.proofs.lemmas.List.FromFn.{length-map-range_with_len}
use Rattle.sp_emph.specs.Layering.{plain_look}
use Rattle.sp_emph.proofs.LookLaws.{looks-add_layers}
use Rattle.sp_emph.proofs.looks.looks_of.Goals as goal

pub add_layers-requires-clause-looks : goal.add_layers-requires-clause-looks
add_layers-requires-clause-looks c =
    ap length (c.deref_mut.ensures.value ∙ c.in_ok-looks.ensures) ∙ length-map-range_with_len (plain_look c.args.line.now) 0 (length c.args.line.now)

pub returns : goal.returns
returns c =
    let new = c.add_layers.new.looks in
    let len : length new ≡ c.in_ok-looks.looks.len = c.in_ok-add_layers.ensures.len ∙ c.deref_mut.ensures.len in
    take_at new _ c.in_ok-looks.looks.len len
    ∙ looks-add_layers c.args.line.now c.deref_mut.result.now new (c.deref_mut.ensures.value ∙ c.in_ok-looks.ensures) c.in_ok-add_layers.ensures
