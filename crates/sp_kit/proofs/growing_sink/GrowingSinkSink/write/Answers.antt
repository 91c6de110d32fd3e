use Rattle.std.proofs.Common.{rules}
use Rattle.sp_kit.proofs.growing_sink.GrowingSinkSink.write.Goals as goal

pub returns-in-Err-clause-bytes : goal.returns-in-Err-clause-bytes
returns-in-Err-clause-bytes c = search rules

pub returns-in-Err-clause-cause : goal.returns-in-Err-clause-cause
returns-in-Err-clause-cause c = search rules
