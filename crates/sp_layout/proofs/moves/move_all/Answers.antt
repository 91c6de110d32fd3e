use Rattle.std.proofs.Common.{set, ap, ◌∙◌, arith}
use Rattle.spec_pages.specs.Rows.{ElementOf}
use Rattle.sp_gap.proofs.MoveLaws.{shift-step}
use Rattle.sp_layout.specs.Exchanges.{moved_element}
use Rattle.sp_layout.proofs.moves.move_all.Goals as goal

pub loop-element-preserved : goal.loop-element-preserved
loop-element-preserved c =
    let move = moved_element c.args.less c.args.more in
    let here = c.element-item.result in
    ap (λ (it : ElementOf). set c.loop-element.elements c.loop-element.element-index (move it)) c.element.view_is
    ∙ shift-step move here c.args.elements.now c.loop-element.elements c.loop-element.element-index (omega (arith, c.loop-element-test.true, c.loop-element.auto.elements)) c.loop-element.invariant
