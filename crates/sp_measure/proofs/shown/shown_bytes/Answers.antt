use Rattle.std.proofs.Common.{◌≡◌, ◌+◌, ◌-◌, ◌*◌, ◌≤◌, List, ℕ, ◌++◌, length, length-append, ap, ◌∙◌, arith}
use Rattle.spec_pages.specs.Clusters.{byte_clusters}
use Rattle.sp_measure.proofs.Bytes.{total_width-bytes}
use Rattle.sp_measure.proofs.Reading.{IsReading-more}
use Rattle.sp_measure.proofs.Windows.{bytes-more}
use Rattle.sp_measure.proofs.shown.shown_bytes.Goals as goal

pub loop-run-preserved : goal.loop-run-preserved
loop-run-preserved c =
    let so_far = c.loop-run.invariant in
    let part = c.range-part.ensures in
    let old = c.loop-run.bytes.items in
    let more = c.extend_from_slice.new.self.items in
    let added : more ≡ old ++ c.range-part.result.now = c.in_ok-extend_from_slice.ensures.items ∙ ap (λ (l : List ℕ). old ++ l) c.as_bytes.ensures.value in
    record {
      reading = IsReading-more _ _ _ _ (record { from = 0; to = 0; style = 0 }) so_far.reading c.loop-run-test.true (byte_clusters 0 0 more)
          (omega (arith, total_width-bytes 0 0 more, total_width-bytes 0 0 old, ap length added, length-append old c.range-part.result.now, part.len));
      items = bytes-more _ _ _ _ _ _ _ _ c.loop-run-test.true part.value added so_far.items;
    }

pub returns-clause-few : goal.returns-clause-few
returns-clause-few c =
    let reading = c.loop-run.invariant.reading in
    omega (arith, reading.wide, reading.within, total_width-bytes 0 0 c.loop-run.bytes.items, c.requires.small)
