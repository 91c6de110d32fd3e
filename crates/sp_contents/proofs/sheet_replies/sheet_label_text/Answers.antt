use Rattle.std.proofs.Common.{rules}
use Rattle.sp_print.specs.Views.{label_of}
use Rattle.spec_state.proofs.SheetTexts.{sheet_label-utf8}
use Rattle.sp_contents.proofs.sheet_replies.sheet_label_text.Goals as goal

pub into_text-requires : goal.into_text-requires
into_text-requires c = let text = sheet_label-utf8 (label_of c.args.label) in search rules
