use Rattle.sp_emph.specs.Layering.{Changes, styled_between}
use Rattle.sp_emph.proofs.looks.add_style.Given as goal

abbrev pub invariant-loop-place : goal.invariant-loop-place
invariant-loop-place l = Changes (styled_between l.layer l.from l.place) l.fn.looks l.looks
