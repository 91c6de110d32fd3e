use Rattle.std.proofs.Common.{sym, ◌∙◌, arith}
use Rattle.sp_text.specs.declared.index.Entry.{Entry}
use Rattle.sp_text.specs.declared.index.Side.TheVariants.{Front}
use Rattle.sp_text.specs.declared.index.Kind.TheVariants.{Free}
use Rattle.sp_text.proofs.Tables.{IsOpen-passed, IsFull-passed}
use Rattle.sp_text.proofs.index.look.Goals as goal

pub returns-then-not-is_used : goal.returns-then-not-is_used
returns-then-not-is_used c =
    let it = c.loop-step.invariant in
    let none : Entry = record { id = 0; at = 0; side = Front; kind = Free } in
    IsOpen-passed c.args.entries.now c.requires c.args.id c.loop-step.step it.3 it.4 c.loop-step.place none it.0 it.1 c.loop-step-test.true (sym c.is_used.ensures ∙ c.if-not-is_used.true)

pub returns : goal.returns
returns c =
    let it = c.loop-step.invariant in
    IsFull-passed c.args.entries.now c.requires c.args.id c.loop-step.step it.3 it.4 (omega (arith, c.loop-step-test.false, c.loop-step.auto.step-end))
