use Rattle.std.proofs.Common.{ℕ, ◌+◌, List, length, sym, ap, ap₂, subst, ◌∙◌}
use Rattle.sp_layout.specs.Bodies.{KeyedElements, keyed_elements}
use Rattle.sp_layout.specs.Runs.{CanExchangeBreaks, with_breaks}
use Rattle.sp_layout.specs.Kept.{laid_of}
use Rattle.sp_layout.proofs.kept.exchange_part.Goals as goal

pub returns-clause-back : goal.returns-clause-back
returns-clause-back c =
    let at = c.args.at.now in
    let run = c.exchange_run-to.ensures in
    let own = c.exchange_breaks-break_to.new.breaks.items in
    let taken = c.exchange_breaks-break_to.new.others.items in
    let breaks = ap (with_breaks own at.break_from c.exchange_breaks-break_to.result taken at.from c.exchange_run-to.result) run.taken ∙ c.exchange_breaks-break_to.ensures.back in
    ap₂ (λ (titles body : KeyedElements). record { titles = titles; body = body; breaks = with_breaks own at.break_from c.exchange_breaks-break_to.result taken at.from c.exchange_run-to.result (at.from + length c.exchange_run-to.new.other.elements) })
    c.exchange_run-title_to.ensures.back run.back
    ∙ ap (λ (those : List ℕ). record { titles = keyed_elements c.kept.inside.titles; body = keyed_elements c.kept.inside.body; breaks = those }) breaks
    ∙ ap laid_of c.kept.view_is

pub returns-clause-can : goal.returns-clause-can
returns-clause-can c =
    let at = c.args.at.now in
    let run = c.exchange_run-to.ensures in
    record {
      titles = c.exchange_run-title_to.ensures.can;
      body = run.can;
      breaks = subst (CanExchangeBreaks c.exchange_breaks-break_to.new.breaks.items at.break_from c.exchange_breaks-break_to.result c.exchange_breaks-break_to.new.others.items at.from c.exchange_run-to.result) (sym run.taken)
          c.exchange_breaks-break_to.ensures.can;
    }
