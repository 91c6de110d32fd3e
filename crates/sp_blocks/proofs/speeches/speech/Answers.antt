use Rattle.std.proofs.Common.{ap}
use Rattle.spec_script.specs.Left.{Left}
use Rattle.spec_script.specs.Speeches.{spoken}
use Rattle.sp_blocks.proofs.Each.{each-more}
use Rattle.sp_blocks.proofs.Groups.{each-line, speech-made}
use Rattle.sp_blocks.proofs.speeches.speech.Goals as goal

pub returns : goal.returns
returns c =
    let begins = ap (λ (l : Left). l.place) c.first.view_is in
    let made = each-line spoken _ _ _ _ c.loop-line-test.false c.loop-line.invariant in
    speech-made _ _ _ _ _ _ _ c.requires c.index-lines-0.is begins c.last_place.ensures c.has_caret.ensures c.new.ensures.items made

pub loop-line-preserved : goal.loop-line-preserved
loop-line-preserved c = each-more spoken _ _ _ _ _ _ _ c.loop-line-test.true c.line-item.is c.in_ok-spoken.ensures c.in_ok-push-2.ensures.items c.loop-line.invariant
