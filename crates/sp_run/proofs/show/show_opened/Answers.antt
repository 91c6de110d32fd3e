use Rattle.spec_state.specs.Keeping.{state_of}
use Rattle.sp_text.specs.Gap.{text_of}
use Rattle.sp_run.proofs.ShowCounts.{without-memory, without-view, writes-view}
use Rattle.sp_run.proofs.show.show_opened.Goals as goal

pub returns-in_err-script : goal.returns-in_err-script
returns-in_err-script g c =
    without-memory c.args.view (state_of (text_of c.args.opened.lines) c.args.opened.records) (g.O.Sink.state c.args.output.now) _ _ c.from_residual.result c.from_residual.ensures.1
    (record { reads = c.open.ensures.at_most; fills = c.open.ensures.fills_at_most })

pub returns-then-lacks_view : goal.returns-then-lacks_view
returns-then-lacks_view g c =
    without-view c.args.view (state_of (text_of c.args.opened.lines) c.args.opened.records) c.in_ok-script.script (g.O.Sink.state c.args.output.now) _ _ c.in_ok-script.ensures.state
    (c.lacks_view.ensures.lacks c.if-lacks_view.true) (record { reads = c.in_ok-script.ensures.reads; fills = c.in_ok-script.ensures.fills })

pub returns : goal.returns
returns g c =
    writes-view c.args.view (state_of (text_of c.args.opened.lines) c.args.opened.records) c.in_ok-script.script (g.O.Sink.state c.args.output.now) (g.O.Sink.state c.write_view-shown.new.output) _ _ c.write_view-shown.result
    c.requires c.in_ok-script.ensures.state (c.lacks_view.ensures.has c.if-lacks_view.false) c.write_view-shown.ensures (record { reads = c.in_ok-script.ensures.reads; fills = c.in_ok-script.ensures.fills })
