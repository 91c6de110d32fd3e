use Rattle.std.proofs.Common.{◌≡◌, ◌+◌, ℕ, Bool, ap, ap₂, sym, ◌∙◌, arith}
use Rattle.std.specs.Prelude.{◌&&◌}
use Rattle.spec_sheets.specs.Shown.{no_row}
use Rattle.spec_state.specs.SameRows.{same_list}
use Rattle.sp_compare.specs.BareRows.{bare_rows}
use Rattle.sp_compare.proofs.RowLists.{rows-step}
use Rattle.sp_compare.proofs.both.BothTexts.same_run.Goals as goal

pub returns-then-not-same_row : goal.returns-then-not-same_row
returns-then-not-same_row c =
    let it = c.args.self.now in
    let from = c.args.from + c.loop-k.k in
    let start = c.args.start + c.loop-k.k in
    let step = rows-step it.old it.new it.olds it.news from (c.args.from + c.args.count) start (c.args.start + c.args.count) no_row
    (omega (arith, c.loop-k-test.true)) c.requires.old (omega (arith, c.loop-k-test.true)) c.requires.new in
    let rest = same_list (bare_rows it.old it.olds (from + 1) (c.args.from + c.args.count)) (bare_rows it.new it.news (start + 1) (c.args.start + c.args.count)) in
    sym (sym c.loop-k.invariant ∙ step ∙ ap (λ (b : Bool). b && rest) (sym c.same_row.ensures ∙ c.if-not-same_row.true))

pub loop-k-preserved : goal.loop-k-preserved
loop-k-preserved c =
    let it = c.args.self.now in
    let from = c.args.from + c.loop-k.k in
    let start = c.args.start + c.loop-k.k in
    let step = rows-step it.old it.new it.olds it.news from (c.args.from + c.args.count) start (c.args.start + c.args.count) no_row
    (omega (arith, c.loop-k-test.true)) c.requires.old (omega (arith, c.loop-k-test.true)) c.requires.new in
    let rest = same_list (bare_rows it.old it.olds (from + 1) (c.args.from + c.args.count)) (bare_rows it.new it.news (start + 1) (c.args.start + c.args.count)) in
    let next : from + 1 ≡ c.args.from + (c.loop-k.k + 1) = omega arith in
    let behind : start + 1 ≡ c.args.start + (c.loop-k.k + 1) = omega arith in
    sym (ap₂ (λ (n m : ℕ). same_list (bare_rows it.old it.olds n (c.args.from + c.args.count)) (bare_rows it.new it.news m (c.args.start + c.args.count))) next behind)
    ∙ sym (step ∙ ap (λ (b : Bool). b && rest) (sym c.same_row.ensures ∙ c.if-not-same_row.false)) ∙ c.loop-k.invariant
