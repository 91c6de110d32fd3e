use Rattle.std.proofs.Common.{◌≡◌, take}
use Rattle.std.specs.List.{list_any}
use Rattle.spec_script.specs.Emphasis.{is_markup}
use Rattle.sp_emph.proofs.visible.has_markup.Given as goal

abbrev pub invariant-loop-byte : goal.invariant-loop-byte
invariant-loop-byte l = l.found ≡ list_any is_markup (take l.byte-index l.text)
