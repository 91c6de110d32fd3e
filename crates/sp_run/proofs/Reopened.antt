-- A session opens the state that was saved.
use Rattle.std.proofs.Common.{◌≡◌, ℕ, Option, Some, None, List, refl, sym, ap, subst, ◌∙◌}
use Rattle.std.specs.Prelude.{IfSome}
use Rattle.spec_text.specs.Lines.{lines, read_lines}
use Rattle.spec_records.proofs.FileLaws.{IsRecordFile-unique}
use Rattle.spec_state.specs.State.{State}
use Rattle.spec_state.specs.Keeping.{IsWhole}
use Rattle.spec_state.specs.SavedStates.{state_of_file}
use Rattle.sp_kit.specs.Files.{Files, ShelfState}
use Rattle.sp_run.specs.Opening.{HasState}
use Rattle.sp_run.specs.Records.{OpensAs, OpensLines, records_name}
use Rattle.sp_run.specs.Saving.{Changes, PutBoth, SavesState, files_of}
use Rattle.sp_run.proofs.SavedTexts.{saved-opens-again}
use Rattle.sp_run.specs.Reopening.{HasSaved}

some-one : {X : Type 0} (one other : X) → Some one ≡ Some other → one ≡ other
some-one one other same = let is : one ≡ other = cc in is

lines-one : (one other : List (List ℕ)) → lines one ≡ lines other → one ≡ other
lines-one one other same = let is : one ≡ other = cc in is

-- ---- a script and what stands beside it open as one state

opens-lines : (texts : List (List ℕ)) (records : Option (List ℕ)) (one other : State) → OpensLines texts records one → OpensLines texts records other → one ≡ other
opens-lines texts None one other first second = first ∙ sym second
opens-lines texts (Some bytes) one other (it, file, is) (kept, beside, same) =
    is ∙ ap (state_of_file (read_lines texts)) (IsRecordFile-unique bytes (read_lines texts) it kept file beside) ∙ sym same

pub opens-one : (script : List ℕ) (records : Option (List ℕ)) (one other : State) → OpensAs script records one → OpensAs script records other → one ≡ other
opens-one script records one other first second =
    let same : first.texts ≡ second.texts = lines-one first.texts second.texts (sym first.reads ∙ second.reads) in
    opens-lines second.texts records one other (subst (λ (texts : List (List ℕ)). OpensLines texts records one) same first.opens) second.opens

-- ---- what was saved is opened

-- What a save stored stands on the shelf.
pub save-left : (name : List ℕ) (state : State) (old new : ShelfState) (files : Files) → old.files ≡ Some files → SavesState name state old new → HasSaved new name state
save-left name state old new files told saves =
    by new.files refl (subst (λ (before : Option Files). Changes before new.files (PutBoth (files_of name state))) told saves.stored.files)
  where
    by : (after : Option Files) → new.files ≡ after → Changes (Some files) after (PutBoth (files_of name state)) → HasSaved new name state
    by None is put = absurd put
    by (Some those) is put = record { files = those; told = is; text = put.first; records = put.second }

-- And a session that opens it has the state that was saved.
pub saved-reopened : (shelf : ShelfState) (name : List ℕ) (state other : State) → IsWhole state → HasSaved shelf name state → HasState shelf name other → other ≡ state
saved-reopened shelf name state other whole saved has =
    let named : saved.files.held name ≡ Some has.script = subst (λ (held : Option Files). IfSome held (λ files. files.held name ≡ Some has.script)) saved.told has.has in
    let beside : saved.files.held (records_name name) ≡ has.records = subst (λ (held : Option Files). IfSome held (λ files. files.held (records_name name) ≡ has.records)) saved.told has.beside in
    let script : has.script ≡ (files_of name state).bytes = some-one has.script (files_of name state).bytes (sym named ∙ saved.text) in
    opens-one (files_of name state).bytes (Some (files_of name state).records) other state
    (subst (λ (bytes : List ℕ). OpensAs bytes (Some (files_of name state).records) other) script
    (subst (λ (records : Option (List ℕ)). OpensAs has.script records other) (sym beside ∙ saved.records) has.opens))
    (saved-opens-again state whole)
