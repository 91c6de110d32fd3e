use Rattle.std.proofs.Common.{length, ap, subst, ◌∙◌}
use Rattle.spec_state.specs.State.{State}
use Rattle.spec_locked_pages.specs.Segments.{pages_of}
use Rattle.sp_reflow.specs.Starts.{many_more}
use Rattle.sp_sheets.specs.Made.{IsNumberedOf}
use Rattle.sp_sheets.specs.Pages.{FillsAtMostAll}
use Rattle.sp_sheets.proofs.made.numbered_pages.Goals as goal

pub returns : goal.returns
returns g c =
    let filled = c.in_ok-pages.ensures in
    let is = c.new-laid.ensures in
    let fills = g.S.Steps.fills c.args.steps.now in
    record {
      numbered = subst (λ (state : State). IsNumberedOf state c.in_ok-numbered.numbered) is c.in_ok-numbered.ensures;
      pages = filled.pages ∙ ap pages_of is;
      fills = filled.fills ∙ ap (λ (state : State). many_more fills (length (pages_of state))) is;
      at_most = subst (λ (state : State). FillsAtMostAll state fills (g.S.Steps.fills c.make_pages.new.steps)) is filled.at_most;
      reads = filled.reads;
    }
