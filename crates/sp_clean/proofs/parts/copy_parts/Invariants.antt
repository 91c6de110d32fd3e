use Rattle.sp_clean.proofs.Copies.{Copied}
use Rattle.sp_clean.proofs.parts.copy_parts.Given as goal

abbrev pub invariant-loop-span : goal.invariant-loop-span
invariant-loop-span l = Copied l.text l.kept l.span-index l.used l.buffer
