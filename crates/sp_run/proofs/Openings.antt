-- A script that was had, opened with what stands beside it, or why it isn't.
use Rattle.std.proofs.Common.{◌≡◌, ℕ, List, inr, Option, Some, None, refl, sym, ◌∙◌, subst}
use Rattle.std.specs.Prelude.{IfSome, IsSomeAnd}
use Rattle.std.proofs.KnownBytes.{Keeps-refl}
use Rattle.spec_text.specs.Lines.{line_texts}
use Rattle.spec_state.specs.Printing.{too_long, printing_of}
use Rattle.spec_state.specs.State.{State}
use Rattle.sp_kit.specs.Causes.{Rose}
use Rattle.sp_kit.specs.Files.{Files, ShelfState}
use Rattle.sp_kit.specs.Outside.{SourceState, SinkState}
use Rattle.sp_text.specs.Gap.{LinesState}
use Rattle.sp_text.specs.declared.fault.TextFault.TheVariants as faults
use Rattle.sp_run.specs.declared.status.Status.{Status}
use Rattle.sp_run.specs.declared.status.Status.TheVariants as statuses
use Rattle.sp_run.specs.Forms.{OriginOf, from_source, from_file}
use Rattle.sp_run.specs.Records.{records_name}
use Rattle.sp_run.specs.Opening.{FailedNothing, FoundBeside, HadNone, HadScript, HadState, HadTooLong, HasState, Holds, NotBeside, SameShelf}
use Rattle.sp_run.specs.Unopened.{outside, WroteNothing, NotOpened, HasLines, Refuses, Unopened}

-- Where a script was had whole, no fault was counted.
pub had-whole : (origin : OriginOf) (old new : SourceState) (shelf after : ShelfState) (script : List ℕ) → HadScript origin old new shelf after script → FailedNothing origin old new shelf after
had-whole from_source old new shelf after script had = (had.0.gave.kept, had.1)
had-whole (from_file name) old new shelf after script had = (had.1, had.2)

wrote-nothing : (old new : SourceState) (sink : SinkState) (shelf after : ShelfState) → WroteNothing (outside old sink shelf) (outside new sink after)
wrote-nothing old new sink shelf after = record { taken = Keeps-refl sink.taken; kept = refl }

-- There was no memory behind the opening.
pub had-unopened : (origin : OriginOf) (old new : SourceState) (sink : SinkState) (shelf after : ShelfState) (state : State) → HadState origin old new shelf after state
    → NotOpened origin (outside old sink shelf) (outside new sink after)
had-unopened origin old new sink shelf after state had =
    record { kept = had-whole origin old new shelf after had.script had.had; nothing = wrote-nothing old new sink shelf after }

pub has-state : (name : List ℕ) (old new : SourceState) (shelf after : ShelfState) (state : State) → HadState (from_file name) old new shelf after state → HasState shelf name state
has-state name old new shelf after state had = record { script = had.script; has = had.had.0; records = had.records; beside = had.beside; opens = had.opens }

-- ---- why a script isn't opened

-- No script was had.
pub none-unopened : (origin : OriginOf) (old new : SourceState) (sink : SinkState) (shelf after : ShelfState) (status : Status) → HadNone origin old new shelf after status
    → Unopened origin (outside old sink shelf) (outside new sink after) status
none-unopened origin old new sink shelf after (statuses.NoFile given) it = record { none = it; nothing = wrote-nothing old new sink shelf after }
none-unopened origin old new sink shelf after (statuses.BadText faults.TextFull) it = record { long = it; nothing = wrote-nothing old new sink shelf after }
none-unopened origin old new sink shelf after (statuses.BadText (faults.NotUtf8 place)) it = absurd it
none-unopened origin old new sink shelf after (statuses.BadText (faults.LineFull place)) it = absurd it
none-unopened origin old new sink shelf after (statuses.BadText faults.NoMemory) it = absurd it
none-unopened origin old new sink shelf after statuses.ReadFault it = record { failed = it; nothing = wrote-nothing old new sink shelf after }
none-unopened origin old new sink shelf after statuses.ShelfFault it = record { failed = it; nothing = wrote-nothing old new sink shelf after }
none-unopened origin old new sink shelf after statuses.NoMemory it = record { kept = it; nothing = wrote-nothing old new sink shelf after }
none-unopened origin old new sink shelf after (statuses.BadRecords fault) it = absurd it
none-unopened origin old new sink shelf after statuses.Done it = absurd it
none-unopened origin old new sink shelf after statuses.Usage it = absurd it
none-unopened origin old new sink shelf after statuses.WriteFault it = absurd it
none-unopened origin old new sink shelf after (statuses.CommandLong number) it = absurd it
none-unopened origin old new sink shelf after statuses.InputFull it = absurd it
none-unopened origin old new sink shelf after (statuses.BadSheets file sheet) it = absurd it
none-unopened origin old new sink shelf after statuses.NotLocked it = absurd it

too-long-held : (files : Option Files) (name script : List ℕ) → IfSome files (λ files. files.held name ≡ Some script) → printing_of script ≡ too_long
    → IfSome files (λ files. IsSomeAnd (files.held name) (λ it. printing_of it ≡ too_long))
too-long-held None name script has long = tt
too-long-held (Some held) name script has long = subst (λ (o : Option (List ℕ)). IsSomeAnd o (λ it. printing_of it ≡ too_long)) (sym has) long

had-too-long : (origin : OriginOf) (old new : SourceState) (shelf after : ShelfState) (script : List ℕ) → HadScript origin old new shelf after script → printing_of script ≡ too_long
    → HadTooLong origin old new shelf after
had-too-long from_source old new shelf after script had long = (record { script = script; gave = had.0.gave; end = inr had.0.end; becomes = long }, had.1)
had-too-long (from_file name) old new shelf after script had long = (too-long-held shelf.files name script had.0 long, had.1, had.2)

-- A script was had whole, and its lines are refused.
pub lines-unopened : (origin : OriginOf) (old new : SourceState) (sink : SinkState) (shelf after : ShelfState) (script : List ℕ) (status : Status) → HadScript origin old new shelf after script
    → Refuses (printing_of script) status → Unopened origin (outside old sink shelf) (outside new sink after) status
lines-unopened origin old new sink shelf after script (statuses.BadText (faults.NotUtf8 place)) had it =
    record { script = script; had = had; becomes = it; nothing = wrote-nothing old new sink shelf after }
lines-unopened origin old new sink shelf after script (statuses.BadText (faults.LineFull place)) had it =
    record { script = script; had = had; becomes = it; nothing = wrote-nothing old new sink shelf after }
lines-unopened origin old new sink shelf after script (statuses.BadText faults.TextFull) had it =
    record { long = had-too-long origin old new shelf after script had it; nothing = wrote-nothing old new sink shelf after }
lines-unopened origin old new sink shelf after script (statuses.BadText faults.NoMemory) had it = absurd it
lines-unopened origin old new sink shelf after script statuses.NoMemory had it =
    record { kept = had-whole origin old new shelf after script had; nothing = wrote-nothing old new sink shelf after }
lines-unopened origin old new sink shelf after script (statuses.NoFile given) had it = absurd it
lines-unopened origin old new sink shelf after script statuses.ReadFault had it = absurd it
lines-unopened origin old new sink shelf after script statuses.ShelfFault had it = absurd it
lines-unopened origin old new sink shelf after script (statuses.BadRecords fault) had it = absurd it
lines-unopened origin old new sink shelf after script statuses.Done had it = absurd it
lines-unopened origin old new sink shelf after script statuses.Usage had it = absurd it
lines-unopened origin old new sink shelf after script statuses.WriteFault had it = absurd it
lines-unopened origin old new sink shelf after script (statuses.CommandLong number) had it = absurd it
lines-unopened origin old new sink shelf after script statuses.InputFull had it = absurd it
lines-unopened origin old new sink shelf after script (statuses.BadSheets file sheet) had it = absurd it
lines-unopened origin old new sink shelf after script statuses.NotLocked had it = absurd it

-- ---- behind a script of a file, what stands beside it

same-then : (shelf mid after : ShelfState) → SameShelf shelf mid → SameShelf mid after → SameShelf shelf after
same-then shelf mid after one other = record { files = other.files ∙ one.files; faults = other.faults ∙ one.faults }

holds-then : (shelf mid : ShelfState) (name : List ℕ) (held : Option (List ℕ)) → SameShelf shelf mid → Holds mid name held → Holds shelf name held
holds-then shelf mid name held same holds = subst (λ (files : Option Files). IfSome files (λ those. those.held name ≡ held)) same.files holds

-- What was found there opens the script.
pub found-opens : (name : List ℕ) (old new : SourceState) (shelf mid after : ShelfState) (script : List ℕ) (text : LinesState) (state : State) → HadScript (from_file name) old new shelf mid script → HasLines script text
    → FoundBeside name mid after (line_texts text.lines) state → HadState (from_file name) old new shelf after state
found-opens name old new shelf mid after script text state had has found = record {
  script = script;
  had = (had.0, same-then shelf mid after had.1 found.same, had.2);
  records = found.records;
  beside = holds-then shelf mid (records_name name) found.records had.1 found.holds;
  opens = record { texts = line_texts text.lines; reads = has.reads; opens = found.opens };
}

-- Nothing there opens it.
pub beside-unopened : (name : List ℕ) (old new : SourceState) (sink : SinkState) (shelf mid after : ShelfState) (script : List ℕ) (text : LinesState) (status : Status) → HadScript (from_file name) old new shelf mid script
    → HasLines script text → NotBeside name mid after (line_texts text.lines) status → Unopened (from_file name) (outside old sink shelf) (outside new sink after) status
beside-unopened name old new sink shelf mid after script text (statuses.BadRecords fault) had has it = record {
  script = script;
  had = (had.0, same-then shelf mid after had.1 it.same, had.2);
  records = it.records;
  beside = holds-then shelf mid (records_name name) it.records had.1 it.holds;
  refuses = record { texts = line_texts text.lines; reads = has.reads; refuses = it.refuses };
  nothing = wrote-nothing old new sink shelf after;
}
beside-unopened name old new sink shelf mid after script text statuses.ShelfFault had has it = record {
  failed = (subst (λ (count : ℕ). Rose count after.faults) had.1.faults it.0, it.1 ∙ had.1.files, had.2);
  nothing = wrote-nothing old new sink shelf after;
}
beside-unopened name old new sink shelf mid after script text statuses.NoMemory had has it =
    record { kept = (same-then shelf mid after had.1 it, had.2); nothing = wrote-nothing old new sink shelf after }
beside-unopened name old new sink shelf mid after script text (statuses.NoFile given) had has it = absurd it
beside-unopened name old new sink shelf mid after script text (statuses.BadText fault) had has it = absurd it
beside-unopened name old new sink shelf mid after script text statuses.ReadFault had has it = absurd it
beside-unopened name old new sink shelf mid after script text statuses.Done had has it = absurd it
beside-unopened name old new sink shelf mid after script text statuses.Usage had has it = absurd it
beside-unopened name old new sink shelf mid after script text statuses.WriteFault had has it = absurd it
beside-unopened name old new sink shelf mid after script text (statuses.CommandLong number) had has it = absurd it
beside-unopened name old new sink shelf mid after script text statuses.InputFull had has it = absurd it
beside-unopened name old new sink shelf mid after script text (statuses.BadSheets file sheet) had has it = absurd it
beside-unopened name old new sink shelf mid after script text statuses.NotLocked had has it = absurd it
