use Rattle.spec_sample.proofs.SampleSteps.{room-added}
use Rattle.sp_run.proofs.sample_text.add_room.Goals as goal

pub returns : goal.returns
returns c =
    room-added c.args.room c.from-number.result c.from-number.ensures c.args.script.now.items _ _ _ _ _ _ c.second_cue.result.now c.in_ok-add_numbered.ensures c.in_ok-add_numbered-2.ensures c.in_ok-add_numbered-3.ensures c.in_ok-extend_from_slice.ensures.items c.second_cue.ensures c.in_ok-extend_from_slice-2.ensures.items c.in_ok-extend_from_slice-3.ensures.items
