use Rattle.std.proofs.Common.{refl}
use Rattle.sp_run.specs.declared.form.Form.TheVariants as forms
use Rattle.sp_run.specs.World.{world}
use Rattle.sp_run.specs.Forms.{origin_of}
use Rattle.sp_run.proofs.Answering.{asked-as, untold-ends}
use Rattle.sp_run.proofs.Asked.{done-asks}
use Rattle.sp_run.proofs.program.answer_form.Goals as goal

pub returns-in-Ok : goal.returns-in-Ok
returns-in-Ok g c =
    let tell = world g.I.Source.state g.O.Sink.state g.F.Shelf.state g.S.Steps.reads g.S.Steps.fills in
    let was = c.args in
    let now = c.show_script.new in
    let it = c.in-Ok.ensures in
    asked-as _ _ _ _ c.args.form (forms.Show c.in-Show.view c.in-Show.origin)
    (tell was.input.now was.output.now was.shelf.now was.steps.now)
    (tell now.input now.output now.shelf now.steps)
    _ c.in-Show.is (it.ends, it.counts) (record { source = it.source_kept; shelf = it.shelf_kept; files = it.files_kept; budget = it.budget })
    (done-asks (origin_of c.in-Show.origin) (g.F.Shelf.state was.shelf.now) (g.F.Shelf.state now.shelf) it.asks)

pub returns-in-Err : goal.returns-in-Err
returns-in-Err g c =
    let tell = world g.I.Source.state g.O.Sink.state g.F.Shelf.state g.S.Steps.reads g.S.Steps.fills in
    let was = c.args in
    let now = c.show_script.new in
    let it = c.in-Err.ensures in
    asked-as _ _ _ _ c.args.form (forms.Show c.in-Show.view c.in-Show.origin)
    (tell was.input.now was.output.now was.shelf.now was.steps.now)
    (tell now.input now.output now.shelf now.steps)
    c.in-Err.status c.in-Show.is (it.ends.0, it.counts) (record { source = it.source_kept; shelf = it.shelf_kept; files = it.files_kept; budget = it.budget }) it.asks

pub returns-in-Desk : goal.returns-in-Desk
returns-in-Desk g c = asked-as _ _ _ _ c.args.form (forms.Desk c.in-Desk.name) _ _ _ c.in-Desk.is c.hold_session.ensures.ends c.hold_session.ensures.others c.hold_session.ensures.asks

pub returns-in-Room : goal.returns-in-Room
returns-in-Room g c = asked-as _ _ _ _ c.args.form (forms.Room c.in-Room.name) _ _ _ c.in-Room.is c.hold_room.ensures.ends c.hold_room.ensures.others c.hold_room.ensures.asks

pub returns-in-Ok-write_sample : goal.returns-in-Ok-write_sample
returns-in-Ok-write_sample g c = asked-as _ _ _ _ c.args.form (forms.Sample c.in-Sample.rooms) _ _ _ c.in-Sample.is c.in-Ok-write_sample.ensures (refl, refl) tt

pub returns-in-Err-write_sample : goal.returns-in-Err-write_sample
returns-in-Err-write_sample g c =
    asked-as _ _ _ _ c.args.form (forms.Sample c.in-Sample.rooms) _ _ _ c.in-Sample.is (untold-ends c.in-Sample.rooms _ _ _ _ c.in-Err-write_sample.status c.in-Err-write_sample.ensures) (refl, refl) tt

pub returns-in-Collate : goal.returns-in-Collate
returns-in-Collate g c =
    asked-as _ _ _ _ c.args.form (forms.Collate c.in-Collate.old c.in-Collate.new) _ _ _ c.in-Collate.is (c.collate_files.ensures.ends, refl) (refl, refl, c.collate_files.ensures.files_kept) c.collate_files.ensures.asks
