use Rattle.std.proofs.Common.{refl, arith}
use Rattle.std.proofs.lemmas.Grind.{common_steps}
use Rattle.sp_session.proofs.WaitLaws.{waits, goes-over, goes-whole}
use Rattle.sp_session.proofs.lines.CommandLines.wait.Goals as goal

pub loop-self-init : goal.loop-self-init
loop-self-init g c = waits (g.I.Source.state c.args.input.now) c.args.self.now c.requires.plain c.requires.room c.requires.budget

pub returns-then-is_over : goal.returns-then-is_over
returns-then-is_over g c =
    let (bytes, gave, pends, low) = c.in-Ok-true.ensures.read in
    let (full, some) = c.if-is_over.ensures.over.0 refl in
    goes-over (g.I.Source.state c.args.input.now) (g.I.Source.state c.loop-self.input) (g.I.Source.state c.read.new.input) c.args.self.now c.loop-self.self c.read.new.self
    bytes c.in-Ok-true.field-0 c.loop-self.invariant gave pends c.in-Ok-true.ensures.budget full some

pub returns-then-is_long : goal.returns-then-is_long
returns-then-is_long g c = grind (arith, common_steps)

pub cut-requires : goal.cut-requires
cut-requires g c = grind (arith, common_steps)

pub returns-then-cut : goal.returns-then-cut
returns-then-cut g c =
    let (bytes, gave, pends, low) = c.in-Ok-true.ensures.read in
    goes-whole (g.I.Source.state c.args.input.now) (g.I.Source.state c.loop-self.input) (g.I.Source.state c.read.new.input) c.args.self.now c.loop-self.self c.read.new.self
    c.cut.new.self bytes c.in-Ok-true.field-0 c.loop-self.invariant gave pends low c.in-Ok-true.ensures.budget c.if-cut.ensures.cut c.if-cut.ensures.budget

pub loop-self-preserved : goal.loop-self-preserved
loop-self-preserved g c = grind (arith, common_steps)

pub loop-self-smaller : goal.loop-self-smaller
loop-self-smaller g c = grind (arith, common_steps)
