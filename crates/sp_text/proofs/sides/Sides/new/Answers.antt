use Rattle.std.proofs.Common.{◌++◌, reverse, List, ap₂, ◌∙◌, append-nil}
use Rattle.spec_text.specs.Lines.{LineState}
use Rattle.sp_text.proofs.Exchanges.{differ-sides}
use Rattle.sp_text.proofs.sides.Sides.new.Goals as goal

pub new-requires-clause-distinct : goal.new-requires-clause-distinct
new-requires-clause-distinct c =
    let front = c.args.front.items in
    let whole = ap₂ (λ (front back : List LineState). front ++ reverse back) c.as_slice.ensures.value (c.as_slice-2.ensures.value ∙ c.requires.none) ∙ append-nil front in
    differ-sides c.as_slice.result.now c.as_slice-2.result.now front whole c.requires.own
