use Rattle.std.proofs.Common.{sym, ap, ◌∙◌}
use Rattle.spec_packet.specs.BytesCollated.{collated_bytes}
use Rattle.sp_packet.proofs.MergeLaws.{collating-walk}
use Rattle.sp_packet.proofs.collation.collate.Goals as goal

pub returns-clause-collated : goal.returns-clause-collated
returns-clause-collated c =
    collating-walk c.args.old.now c.args.new.now c.in_ok-old.old c.in_ok-new.new c.in_ok-old.ensures.list c.in_ok-new.ensures.list
    ∙ ap collated_bytes (sym c.in_ok-bytes.ensures)
