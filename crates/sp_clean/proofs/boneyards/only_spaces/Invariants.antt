use Rattle.std.proofs.Common.{◌≡◌, drop}
use Rattle.std.specs.List.{list_all}
use Rattle.spec_script.specs.Trim.{is_space}
use Rattle.spec_script.specs.Spans.{text_in}
use Rattle.sp_clean.proofs.boneyards.only_spaces.Given as goal

abbrev pub invariant-loop-span : goal.invariant-loop-span
invariant-loop-span l = list_all is_space (text_in l.text (drop l.span-index l.kept)) ≡ list_all is_space (text_in l.text l.kept)
