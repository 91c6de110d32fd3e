use Rattle.std.proofs.Common.{rules}
use Rattle.spec_labels.proofs.LabelBytes.{label-utf8}
use Rattle.sp_labels.proofs.writing.label_text.Goals as goal

pub into_text-requires : goal.into_text-requires
into_text-requires c = let text = label-utf8 c.args.label.now in search rules
