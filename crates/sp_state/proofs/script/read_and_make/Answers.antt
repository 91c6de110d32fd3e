use Rattle.std.proofs.Common.{ℕ, length, ap, sym, subst, ◌∙◌, arith}
use Rattle.std.proofs.lemmas.Result.{err_from_is_err_and}
use Rattle.spec_state.specs.State.{State}
use Rattle.spec_state.specs.Keeping.{state_of}
use Rattle.spec_locked_pages.specs.Segments.{pages_of}
use Rattle.sp_text.specs.Gap.{LinesState, text_of}
use Rattle.sp_reflow.specs.Filling.{FilledAtMost}
use Rattle.sp_reflow.specs.Starts.{many_more}
use Rattle.sp_reread.specs.Cache.{ReadsAtMostAll, texts_in}
use Rattle.sp_state.proofs.script.read_and_make.Goals as goal

pub returns-in_err-text : goal.returns-in_err-text
returns-in_err-text g c =
    let p = err_from_is_err_and c.from_residual.result c.from_residual.ensures.1 in
    rw p.1 (record {
      lines = tt;
      made = tt;
      pages = tt;
      reads = tt;
      at_most = c.new.ensures.at_most;
      fills = tt;
      fills_at_most = record { count = 0; within = omega arith; is = c.new.ensures.fills };
    })

pub returns-in_err-made : goal.returns-in_err-made
returns-in_err-made g c =
    let lines = c.in_ok-text.ensures.lines in
    let p = err_from_is_err_and c.from_residual-in_err-made.result c.from_residual-in_err-made.ensures.1 in
    rw p.1 (record {
      lines = tt;
      made = tt;
      pages = tt;
      reads = tt;
      at_most = subst (ReadsAtMostAll (texts_in c.args.lines) (g.S.Steps.reads c.args.steps.now)) (sym c.make.ensures.reads) c.new.ensures.at_most;
      fills = tt;
      fills_at_most = subst (λ (n : ℕ). FilledAtMost n (g.S.Steps.fills c.make.new.steps) (length (pages_of (state_of (text_of c.args.lines) c.args.records.now)))) c.new.ensures.fills
          (subst (λ (l : LinesState). FilledAtMost (g.S.Steps.fills c.new.new.steps) (g.S.Steps.fills c.make.new.steps) (length (pages_of (state_of (text_of l) c.args.records.now)))) lines c.make.ensures.at_most);
    })

pub returns : goal.returns
returns g c =
    let lines = c.in_ok-text.ensures.lines in
    let made = rw lines at c.in_ok-made.ensures in
    let state : State = state_of (text_of c.args.lines) c.args.records.now in
    record {
      lines = c.in_ok-text.ensures.lines;
      made = made.made;
      pages = made.pages;
      reads = c.make.ensures.reads ∙ c.in_ok-text.ensures.reads;
      at_most = subst (ReadsAtMostAll (texts_in c.args.lines) (g.S.Steps.reads c.args.steps.now)) (sym c.make.ensures.reads) c.new.ensures.at_most;
      fills = made.fills ∙ ap (λ (n : ℕ). many_more n (length (pages_of state))) c.new.ensures.fills;
      fills_at_most = subst (λ (n : ℕ). FilledAtMost n (g.S.Steps.fills c.make.new.steps) (length (pages_of state))) c.new.ensures.fills
          (subst (λ (l : LinesState). FilledAtMost (g.S.Steps.fills c.new.new.steps) (g.S.Steps.fills c.make.new.steps) (length (pages_of (state_of (text_of l) c.args.records.now)))) lines c.make.ensures.at_most);
    }
