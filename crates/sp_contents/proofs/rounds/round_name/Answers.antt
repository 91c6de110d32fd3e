use Rattle.std.proofs.Common.{rules}
use Rattle.spec_state.proofs.SheetTexts.{round_name-utf8}
use Rattle.sp_contents.proofs.rounds.round_name.Goals as goal

pub into_text-requires : goal.into_text-requires
into_text-requires c = let text = round_name-utf8 c.args.round in search rules
