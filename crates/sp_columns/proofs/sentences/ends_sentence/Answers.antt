use Rattle.std.proofs.Common.{arith}
use Rattle.spec_script.proofs.RunPlaces.{run-lies}
use Rattle.spec_pages.specs.Sentences.{shown_chars}
use Rattle.sp_columns.proofs.SentenceLaws.{ends_sentence-fold}
use Rattle.sp_columns.proofs.sentences.ends_sentence.Goals as goal

pub loop-run-init : goal.loop-run-init
loop-run-init c = ends_sentence-fold (shown_chars c.args.text.now c.args.runs.now)

pub range-requires-clause-start_le_end : goal.range-requires-clause-start_le_end
range-requires-clause-start_le_end c = (run-lies c.args.text.now 0 c.args.runs.now c.loop-run.run-index _ c.requires (omega arith)).order

pub range-requires-clause-start_boundary : goal.range-requires-clause-start_boundary
range-requires-clause-start_boundary c = λ _. (run-lies c.args.text.now 0 c.args.runs.now c.loop-run.run-index _ c.requires (omega arith)).start

pub range-requires-clause-end_boundary : goal.range-requires-clause-end_boundary
range-requires-clause-end_boundary c = (run-lies c.args.text.now 0 c.args.runs.now c.loop-run.run-index _ c.requires (omega arith)).end
