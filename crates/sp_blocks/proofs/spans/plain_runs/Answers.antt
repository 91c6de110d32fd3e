use Rattle.std.proofs.Common.{get_or, refl}
use Rattle.std.proofs.lemmas.List.{get_or_default}
use Rattle.spec_script.specs.Visible.{plain_run}
use Rattle.sp_blocks.proofs.Each.{each-more}
use Rattle.sp_blocks.proofs.spans.plain_runs.Goals as goal

pub loop-span-preserved : goal.loop-span-preserved
loop-span-preserved c =
    let spans = c.args.spans.now in
    let i = c.loop-span.span-index in
    let span = get_or spans i (0, 0) in
    let inside = c.loop-span-test.true in
    each-more plain_run spans i span _ _ _ _ inside (get_or_default spans i (0, 0) span inside) refl c.in_ok-push.ensures.items c.loop-span.invariant
