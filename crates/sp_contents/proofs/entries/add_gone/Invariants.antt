use Rattle.std.proofs.Common.{◌≡◌, ◌++◌, take, map}
use Rattle.sp_outline.specs.Entries.{entry_of}
use Rattle.sp_contents.specs.Walks.{omitted_of}
use Rattle.sp_contents.proofs.entries.add_gone.Given as goal

abbrev pub invariant-loop-gone_label : goal.invariant-loop-gone_label
invariant-loop-gone_label l = map entry_of l.entries.items ≡ map entry_of l.initial.entries.items ++ map omitted_of (take l.gone_label-index l.gone)
