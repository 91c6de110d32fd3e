use Rattle.std.proofs.Common.{◌≡◌, drop}
use Rattle.spec_script.specs.Spans.{place_in}
use Rattle.sp_clean.proofs.parts.place_of.Given as goal

abbrev pub invariant-loop-span : goal.invariant-loop-span
invariant-loop-span l = place_in (drop l.span-index l.kept) l.left ≡ place_in l.kept l.byte
