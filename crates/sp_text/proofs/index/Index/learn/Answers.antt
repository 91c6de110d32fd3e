use Rattle.std.proofs.Common.{ap, ◌∙◌, arith}
use Rattle.spec_text.specs.Lines.{LineState}
use Rattle.spec_text.specs.Edits.{line_ids}
use Rattle.sp_text.proofs.Learned.{learn-new, learn-step}
use Rattle.sp_text.proofs.index.Index.learn.Goals as goal

pub put-requires-clause-new : goal.put-requires-clause-new
put-requires-clause-new c =
    learn-new c.args.side c.args.lines.now (line_ids c.args.others.now) c.loop-at.self c.loop-at.at c.line.inside.id c.index-lines-at.result c.loop-at-test.true c.index-lines-at.is (ap (λ (l : LineState). l.id) c.line.view_is) c.loop-at.invariant.0 c.requires.distinct

pub loop-at-preserved : goal.loop-at-preserved
loop-at-preserved c =
    let so_far = c.loop-at.invariant in (
      learn-step c.args.side c.args.lines.now (line_ids c.args.others.now) c.loop-at.self c.loop-at.at c.line.inside.id c.index-lines-at.result c.loop-at-test.true c.index-lines-at.is (ap (λ (l : LineState). l.id) c.line.view_is) so_far.0 c.put.new.self c.put.ensures.put,
      c.put.ensures.len ∙ so_far.1,
      omega (arith, c.put.ensures.count, so_far.2, so_far.3),
      omega (arith, so_far.3),
    )
