use Rattle.std.proofs.Common.{rules, ◌≡◌, ◌∙◌, ap, arith}
use Rattle.spec_text.specs.Lines.{reading_of}
use Rattle.spec_sample.specs.Sample.{sample_script}
use Rattle.spec_sample.proofs.SampleReading.{reading_of-sample_script}
use Rattle.spec_sample.proofs.SampleSteps.{sample_script-more}
use Rattle.sp_run.proofs.sample_text.sample_script.Goals as goal

pub loop-before-preserved : goal.loop-before-preserved
loop-before-preserved c = let e = sample_script-more c.loop-before.before in cc (e, c.in_ok-add_room.ensures)

pub returns-clause-reads : goal.returns-clause-reads
returns-clause-reads c = λ few.
    let all : c.loop-before.before ≡ c.args.rooms = omega arith in
    ap reading_of c.loop-before.invariant ∙ ap (λ n. reading_of (sample_script n)) all ∙ reading_of-sample_script c.args.rooms few

pub loop-before-init : goal.loop-before-init
loop-before-init c = search rules

pub returns-clause-text : goal.returns-clause-text
returns-clause-text c = search rules
