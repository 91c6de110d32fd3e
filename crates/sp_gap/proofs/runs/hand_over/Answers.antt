use Rattle.std.proofs.Common.{◌∙◌}
use Rattle.sp_gap.proofs.RunLaws.{handed-over}
use Rattle.sp_gap.proofs.runs.hand_over.Goals as goal

pub returns-clause-from : goal.returns-clause-from
returns-clause-from g c =
    (handed-over c.args.from.now.items c.args.to.now.items c.pour.new.from.items c.pour.new.to.items c.reverse_from.new.list.items c.args.count c.len-place.result c.pour.ensures.poured (c.len-place.ensures ∙ c.args.to.now.ok.0) c.reverse_from.ensures.items).0

pub returns-clause-to : goal.returns-clause-to
returns-clause-to g c =
    (handed-over c.args.from.now.items c.args.to.now.items c.pour.new.from.items c.pour.new.to.items c.reverse_from.new.list.items c.args.count c.len-place.result c.pour.ensures.poured (c.len-place.ensures ∙ c.args.to.now.ok.0) c.reverse_from.ensures.items).1
