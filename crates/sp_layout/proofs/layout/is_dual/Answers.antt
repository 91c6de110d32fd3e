use Rattle.std.proofs.Common.{rules}
use Rattle.sp_layout.proofs.layout.is_dual.Goals as goal

pub returns-then-is_speech_kind-2 : goal.returns-then-is_speech_kind-2
returns-then-is_speech_kind-2 c = search rules
