use Rattle.std.proofs.Common.{sym, ◌∙◌, length, arith}
use Rattle.std.proofs.lemmas.Grind.{common_steps}
use Rattle.sp_emph.proofs.LookLaws.{plain_bytes}
use Rattle.sp_emph.proofs.looks.plain_looks.Goals as goal

pub returns-then-not-contains : goal.returns-then-not-contains
returns-then-not-contains c =
    let plain = plain_bytes c.args.line.now 0 (length c.args.line.now) (sym c.contains.ensures.value ∙ c.if-not-contains.true) in
    let resized = c.in_ok-resize.ensures in
    grind (arith, common_steps)
