use Rattle.std.proofs.Common.{◌≡◌, ◌++◌, drop}
use Rattle.spec_script.specs.Spans.{text_in}
use Rattle.sp_emph.proofs.visible.cleaned.Given as goal

abbrev pub invariant-loop-span : goal.invariant-loop-span
invariant-loop-span l = l.line.items ++ text_in l.text (drop l.span-index l.kept) ≡ text_in l.text l.kept
