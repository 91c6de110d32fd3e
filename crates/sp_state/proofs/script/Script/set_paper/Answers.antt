use Rattle.std.proofs.Common.{◌≡◌, length, ap, subst, ◌∙◌}
use Rattle.std.proofs.lemmas.Result.{err_from_is_err_and}
use Rattle.spec_state.specs.State.{State}
use Rattle.spec_state.specs.Keeping.{state_of}
use Rattle.spec_locked_pages.specs.Segments.{pages_of}
use Rattle.sp_text.specs.Gap.{text_of}
use Rattle.sp_reflow.specs.Filling.{FilledAtMost}
use Rattle.sp_reflow.specs.Starts.{many_more}
use Rattle.sp_state.proofs.script.Script.set_paper.Goals as goal

pub returns-in_err-made : goal.returns-in_err-made
returns-in_err-made g c =
    let left = c.in_err-made.ensures in
    let made = c.made_on.ensures in
    let p = err_from_is_err_and c.from_residual.result c.from_residual.ensures.1 in
    rw p.1 (record {
      state = tt;
      same = ap (state_of (text_of c.self.inside.text.lines)) left.same ∙ c.self.view_is;
      reads = made.reads;
      fills = tt;
      fills_at_most = subst (λ (state : State). FilledAtMost (g.S.Steps.fills c.args.steps.now) (g.S.Steps.fills c.made_on.new.steps) (length (pages_of (record state { paper = c.args.paper })))) c.self.view_is made.at_most;
    })

pub returns : goal.returns
returns g c =
    let fills = g.S.Steps.fills c.args.steps.now in
    let filled = g.S.Steps.fills c.made_on.new.steps in
    let made = c.in_ok-made.ensures in
    record {
      state = ap (state_of (text_of c.self.inside.text.lines)) made.records ∙ ap (λ (state : State). record state { paper = c.args.paper }) c.self.view_is;
      same = tt;
      reads = c.made_on.ensures.reads;
      fills = subst (λ (state : State). filled ≡ many_more fills (length (pages_of (record state { paper = c.args.paper })))) c.self.view_is made.fills;
      fills_at_most = subst (λ (state : State). FilledAtMost fills filled (length (pages_of (record state { paper = c.args.paper })))) c.self.view_is c.made_on.ensures.at_most;
    }
