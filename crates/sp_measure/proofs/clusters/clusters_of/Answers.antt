use Rattle.std.proofs.Common.{arith}
use Rattle.sp_measure.proofs.Reading.{IsReading-more, made-more}
use Rattle.sp_measure.proofs.clusters.clusters_of.Goals as goal

pub loop-run-preserved : goal.loop-run-preserved
loop-run-preserved c =
    let so_far = c.loop-run.invariant in
    let part = c.range-part.ensures in
    let added = c.in_ok-add_clusters.ensures in record {
      reading = IsReading-more _ _ _ _ (record { from = 0; to = 0; style = 0 }) so_far.reading c.loop-run-test.true c.add_clusters.new.out.items (omega (arith, part.len, added.wide));
      items = made-more _ _ _ _ _ _ _ _ c.loop-run-test.true part.value added.items so_far.items;
    }
