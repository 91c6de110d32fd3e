use Rattle.std.proofs.Common.{◌≡◌, ℕ, List, length, IfOk, subst}
use Rattle.std.specs.Prelude.{OnOk}
use Rattle.spec_script.specs.Stanzas.{stanzas_of}
use Rattle.spec_state.specs.State.{opened_state}
use Rattle.spec_machine.specs.Machine.{opened_memory}
use Rattle.spec_locked_pages.specs.Segments.{pages_of}
use Rattle.sp_reread.specs.Cache.{RisesWithin, counted_on}
use Rattle.sp_reflow.specs.Filling.{FilledAtMost}
use Rattle.sp_reflow.specs.Starts.{many_more}
use Rattle.sp_run.proofs.OpenedSamples.{opening}
use Rattle.sp_run.proofs.SampleLaws.{none-filled, none-risen}
use Rattle.sp_run.proofs.sample_session.open_sample.Goals as goal

pub new-requires-clause-read : goal.new-requires-clause-read
new-requires-clause-read g c = (opening c.args.rooms c.in_ok-script.script.items c.as_slice.result.now c.in-Ok.lines c.as_slice.ensures.value (c.in_ok-script.ensures.reads c.requires) c.in-Ok.ensures).read

pub new-requires-clause-next : goal.new-requires-clause-next
new-requires-clause-next g c = (opening c.args.rooms c.in_ok-script.script.items c.as_slice.result.now c.in-Ok.lines c.as_slice.ensures.value (c.in_ok-script.ensures.reads c.requires) c.in-Ok.ensures).next

pub returns-in-Ok-clause-memory : goal.returns-in-Ok-clause-memory
returns-in-Ok-clause-memory g c =
    subst (λ (texts : List (List ℕ)). IfOk c.new.result (λ desk. desk ≡ opened_memory (opened_state texts)))
    (opening c.args.rooms c.in_ok-script.script.items c.as_slice.result.now c.in-Ok.lines c.as_slice.ensures.value (c.in_ok-script.ensures.reads c.requires) c.in-Ok.ensures).are c.new.ensures.memory

pub returns-in-Ok-clause-reads : goal.returns-in-Ok-clause-reads
returns-in-Ok-clause-reads g c =
    subst (λ (texts : List (List ℕ)). OnOk c.new.result (g.S.Steps.reads c.new.new.steps ≡ counted_on (length (stanzas_of texts)) (g.S.Steps.reads c.args.steps.now)))
    (opening c.args.rooms c.in_ok-script.script.items c.as_slice.result.now c.in-Ok.lines c.as_slice.ensures.value (c.in_ok-script.ensures.reads c.requires) c.in-Ok.ensures).are c.new.ensures.reads

pub returns-in-Ok-clause-fills : goal.returns-in-Ok-clause-fills
returns-in-Ok-clause-fills g c =
    subst (λ (texts : List (List ℕ)). OnOk c.new.result (g.S.Steps.fills c.new.new.steps ≡ many_more (g.S.Steps.fills c.args.steps.now) (length (pages_of (opened_state texts)))))
    (opening c.args.rooms c.in_ok-script.script.items c.as_slice.result.now c.in-Ok.lines c.as_slice.ensures.value (c.in_ok-script.ensures.reads c.requires) c.in-Ok.ensures).are c.new.ensures.fills

pub returns-in_err-script-clause-reads_at_most : goal.returns-in_err-script-clause-reads_at_most
returns-in_err-script-clause-reads_at_most g c = none-risen _ _

pub returns-in_err-script-clause-fills_at_most : goal.returns-in_err-script-clause-fills_at_most
returns-in_err-script-clause-fills_at_most g c = none-filled _ _

pub returns-in-Err-NoMemory-clause-reads_at_most : goal.returns-in-Err-NoMemory-clause-reads_at_most
returns-in-Err-NoMemory-clause-reads_at_most g c = none-risen _ _

pub returns-in-Err-NoMemory-clause-fills_at_most : goal.returns-in-Err-NoMemory-clause-fills_at_most
returns-in-Err-NoMemory-clause-fills_at_most g c = none-filled _ _

pub returns-in-Ok-clause-reads_at_most : goal.returns-in-Ok-clause-reads_at_most
returns-in-Ok-clause-reads_at_most g c =
    subst (λ (texts : List (List ℕ)). RisesWithin (length (stanzas_of texts)) (g.S.Steps.reads c.args.steps.now) (g.S.Steps.reads c.new.new.steps))
    (opening c.args.rooms c.in_ok-script.script.items c.as_slice.result.now c.in-Ok.lines c.as_slice.ensures.value (c.in_ok-script.ensures.reads c.requires) c.in-Ok.ensures).are c.new.ensures.at_most

pub returns-in-Ok-clause-fills_at_most : goal.returns-in-Ok-clause-fills_at_most
returns-in-Ok-clause-fills_at_most g c =
    subst (λ (texts : List (List ℕ)). FilledAtMost (g.S.Steps.fills c.args.steps.now) (g.S.Steps.fills c.new.new.steps) (length (pages_of (opened_state texts))))
    (opening c.args.rooms c.in_ok-script.script.items c.as_slice.result.now c.in-Ok.lines c.as_slice.ensures.value (c.in_ok-script.ensures.reads c.requires) c.in-Ok.ensures).are c.new.ensures.fills_at_most
