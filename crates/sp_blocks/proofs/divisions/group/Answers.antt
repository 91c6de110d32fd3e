use Rattle.std.proofs.Common.{ap}
use Rattle.std.proofs.lemmas.Result.{IfOk-weaker}
use Rattle.spec_script.specs.Left.{Left}
use Rattle.spec_script.specs.Divisions.{listed_line}
use Rattle.sp_blocks.proofs.Each.{each-more}
use Rattle.sp_blocks.proofs.Groups.{each-line, group-made, heading-made}
use Rattle.sp_blocks.proofs.divisions.group.Goals as goal

pub returns : goal.returns
returns c =
    let begins = ap (λ (l : Left). l.place) c.first.view_is in
    let made = each-line listed_line _ _ _ _ c.loop-line-test.false c.loop-line.invariant in
    group-made _ _ _ _ _ _ _ _ _ c.requires c.index-lines-0.is c.trimmed.ensures.value c.is_forced_heading.ensures c.if-is_forced_heading.false c.listed_kind.ensures.value begins c.last_place.ensures c.new.ensures.items made

pub returns-then-is_forced_heading : goal.returns-then-is_forced_heading
returns-then-is_forced_heading c =
    IfOk-weaker c.heading.result _ _ (λ b made. heading-made _ _ _ _ b c.requires c.index-lines-0.is c.trimmed.ensures.value c.is_forced_heading.ensures c.if-is_forced_heading.true made) c.heading.ensures

pub loop-line-preserved : goal.loop-line-preserved
loop-line-preserved c = each-more listed_line _ _ _ _ _ _ _ c.loop-line-test.true c.line-item.is c.in_ok-listed_line.ensures c.in_ok-push.ensures.items c.loop-line.invariant
