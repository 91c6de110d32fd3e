use Rattle.std.proofs.Common.{◌≡◌, take}
use Rattle.sp_contents.specs.Gone.{gone_among}
use Rattle.sp_contents.proofs.gone.gone_among.Given as goal

abbrev pub invariant-loop-record : goal.invariant-loop-record
invariant-loop-record l = l.gone.items ≡ gone_among l.headings (take l.record-index l.records)
