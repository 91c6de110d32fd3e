use Rattle.std.proofs.Common.{drop, sym, ap, ◌∙◌, arith}
use Rattle.std.proofs.lemmas.Grind.{common_steps}
use Rattle.sp_layout.specs.LaidOut.{LayoutOf}
use Rattle.sp_layout.proofs.LayoutAhead.{followed_by, followed-next}
use Rattle.sp_layout.proofs.Elements.{elements_behind}
use Rattle.sp_layout.proofs.layout.lay_out_behind.Goals as goal

pub loop-place-preserved : goal.loop-place-preserved
loop-place-preserved c =
    let lines = c.args.lines.now.lines in
    let blocks = c.args.blocks.now in
    let adds = c.in_ok-place.ensures in
    let behind = elements_behind lines c.add_element.new.speakers (drop c.in_ok-place.place blocks) in
    record {
      within = adds.within;
      all = ap (λ (layout : LayoutOf). followed_by lines layout behind) adds.adds
          ∙ followed-next lines c.loop-place.layout adds.element behind
          ∙ ap (followed_by lines c.loop-place.layout) (sym adds.split)
          ∙ c.loop-place.invariant.all;
    }

pub loop-place-init : goal.loop-place-init
loop-place-init c = grind (arith, common_steps)

pub returns : goal.returns
returns c = grind (arith, common_steps)
