use Rattle.std.proofs.Common.{◌≡◌, ap₂, sym, subst}
use Rattle.std.specs.Prelude.{IfOk, OnErr}
use Rattle.spec_text.specs.Lines.{TextState}
use Rattle.spec_records.specs.Kept.{RecordsOf}
use Rattle.spec_state.specs.State.{State, text_of}
use Rattle.spec_state.specs.Keeping.{IsWhole, records_of, state_of}
use Rattle.sp_wire.specs.Values.{reply_of}
use Rattle.sp_run.specs.Saving.{RepliesToSave, StoreLeft, files_of}
use Rattle.sp_run.proofs.desk_saving.save_desk.Goals as goal

-- A state is that of its text and its records.
state-is : (state : State) (text : TextState) (records : RecordsOf) → text ≡ text_of state → records ≡ records_of state → state_of text records ≡ state
state-is state text records one other = ap₂ state_of one other

pub save-requires : goal.save-requires
save-requires g c =
    subst IsWhole (sym (state-is c.args.desk.now.state _ _ c.lines.ensures c.records.ensures)) c.sheets-sheets.ensures.whole.state

pub returns-clause-saved : goal.returns-clause-saved
returns-clause-saved g c =
    subst (λ (state : State). IfOk c.save.result (λ reply. RepliesToSave c.args.name.now state (g.F.Shelf.state c.args.shelf.now) (g.F.Shelf.state c.save.new.shelf) (reply_of reply)))
    (state-is c.args.desk.now.state _ _ c.lines.ensures c.records.ensures) c.save.ensures.saved

pub returns-clause-left : goal.returns-clause-left
returns-clause-left g c =
    subst (λ (state : State). OnErr c.save.result (StoreLeft (files_of c.args.name.now state) (g.F.Shelf.state c.args.shelf.now) (g.F.Shelf.state c.save.new.shelf)))
    (state-is c.args.desk.now.state _ _ c.lines.ensures c.records.ensures) c.save.ensures.left
