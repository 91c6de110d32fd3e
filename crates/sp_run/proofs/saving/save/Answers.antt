use Rattle.std.proofs.Common.{refl, ◌∙◌, subst}
use Rattle.std.specs.Prelude.{Err}
use Rattle.spec_state.specs.Keeping.{state_of}
use Rattle.sp_kit.specs.declared.shelf.ShelfFault.{ShelfFault}
use Rattle.sp_text.specs.Gap.{text_of}
use Rattle.sp_run.specs.Saving.{TwoFiles, StoredBoth, StoreFailed, StoreLeft, StoresBoth, files_of}
use Rattle.sp_run.proofs.SavedTexts.{saved-opens-again}
use Rattle.sp_run.proofs.Stores.{files-as, unstored-left}
use Rattle.sp_run.proofs.saving.save.Goals as goal

pub returns-in_err-text-clause-left : goal.returns-in_err-text-clause-left
returns-in_err-text-clause-left g c = unstored-left c.from_residual.result (files_of c.args.name.now (state_of (text_of c.args.lines.now) c.args.records.now)) (g.F.Shelf.state c.args.shelf.now)

pub returns-in_err-file-clause-left : goal.returns-in_err-file-clause-left
returns-in_err-file-clause-left g c = unstored-left c.from_residual-in_err-file.result (files_of c.args.name.now (state_of (text_of c.args.lines.now) c.args.records.now)) (g.F.Shelf.state c.args.shelf.now)

pub returns-in_err-sum-clause-left : goal.returns-in_err-sum-clause-left
returns-in_err-sum-clause-left g c = unstored-left c.from_residual-in_err-sum.result (files_of c.args.name.now (state_of (text_of c.args.lines.now) c.args.records.now)) (g.F.Shelf.state c.args.shelf.now)

pub returns-in_err-beside-clause-left : goal.returns-in_err-beside-clause-left
returns-in_err-beside-clause-left g c = unstored-left c.from_residual-in_err-beside.result (files_of c.args.name.now (state_of (text_of c.args.lines.now) c.args.records.now)) (g.F.Shelf.state c.args.shelf.now)

pub returns-in-Ok-clause-saved : goal.returns-in-Ok-clause-saved
returns-in-Ok-clause-saved g c =
    let state = state_of (text_of c.args.lines.now) c.args.records.now in
    let text = c.deref.ensures.value ∙ c.in_ok-text.ensures in
    let file = c.deref-2.ensures.value ∙ c.in_ok-file.ensures.written in
    let files = files-as c.args.name.now state _ refl text (c.as_str.ensures.value ∙ c.in_ok-beside.ensures) file in (
      c.in_ok-sum.ensures,
      record {
        stored = subst (λ (them : TwoFiles). StoredBoth them (g.F.Shelf.state c.args.shelf.now) (g.F.Shelf.state c.store_both.new.shelf)) files c.in-Ok.ensures;
        opens = saved-opens-again state c.requires;
      },
    )

pub returns-in-Err-Failed-clause-saved : goal.returns-in-Err-Failed-clause-saved
returns-in-Err-Failed-clause-saved g c =
    let state = state_of (text_of c.args.lines.now) c.args.records.now in
    let text = c.deref.ensures.value ∙ c.in_ok-text.ensures in
    let file = c.deref-2.ensures.value ∙ c.in_ok-file.ensures.written in
    let it : TwoFiles = record { name = c.args.name.now; bytes = c.deref.result.now; beside = c.as_str.result.now; records = c.deref-2.result.now } in
    let old = g.F.Shelf.state c.args.shelf.now in
    let new = g.F.Shelf.state c.store_both.new.shelf in
    let files = files-as c.args.name.now state it refl text (c.as_str.ensures.value ∙ c.in_ok-beside.ensures) file in
    subst (λ (them : TwoFiles). StoreFailed them old new) files (subst (λ (fault : ShelfFault). StoresBoth it old new (Err fault)) c.in-Err-Failed.field-0-is c.in-Err-Failed.ensures)

pub returns-clause-left : goal.returns-clause-left
returns-clause-left g c =
    let state = state_of (text_of c.args.lines.now) c.args.records.now in
    let text = c.deref.ensures.value ∙ c.in_ok-text.ensures in
    let file = c.deref-2.ensures.value ∙ c.in_ok-file.ensures.written in
    let it : TwoFiles = record { name = c.args.name.now; bytes = c.deref.result.now; beside = c.as_str.result.now; records = c.deref-2.result.now } in
    let old = g.F.Shelf.state c.args.shelf.now in
    let new = g.F.Shelf.state c.store_both.new.shelf in
    let files = files-as c.args.name.now state it refl text (c.as_str.ensures.value ∙ c.in_ok-beside.ensures) file in
    subst (λ (them : TwoFiles). StoreLeft them old new) files (subst (λ (fault : ShelfFault). StoresBoth it old new (Err fault)) c.in-Err-NoMemory.field-0-is c.in-Err-NoMemory.ensures)
