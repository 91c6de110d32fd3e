-- Lines that were read, and the records that stand beside them.
use Rattle.std.proofs.Common.{◌≡◌, ℕ, ◌+◌, ◌<◌, List, [], length, Option, Some, None, refl, sym, ap, ◌∙◌, subst, replicate, arith}
use Rattle.std.specs.Prelude.{IfErr, IfOk, IfSome, IsErrAnd, IsSomeAnd, Ok, Err, option_map, string_bytes}
use Rattle.std.specs.declared.result.Result.{Result}
use Rattle.std.proofs.lemmas.Bool.{lt-ltb}
use Rattle.std.proofs.lemmas.List.{length-map, length-replicate}
use Rattle.spec_text.specs.Lines.{LineState, TextState, IsText, line_texts, read_lines}
use Rattle.spec_records.specs.Kept.{RecordsOf, kept_of}
use Rattle.spec_records.specs.RecordFile.{broken, IsRecordFile, IsMismatch, IsRefused, early, digest_of, file_limit, form_of}
use Rattle.spec_state.specs.State.{State, opened_state}
use Rattle.spec_state.specs.State as states
use Rattle.spec_state.specs.Keeping.{IsWhole, records_of, state_of}
use Rattle.spec_state.proofs.OpenedLaws.{opening-whole}
use Rattle.spec_state.proofs.SavedStates.{file-state, made-whole}
use Rattle.sp_kit.specs.Files.{Files, ShelfState}
use Rattle.sp_text.specs.Gap.{LinesState, text_of}
use Rattle.sp_records.specs.Decoding.{IsRelabelled, IsDecoding}
use Rattle.sp_records.specs.declared.fault.RecordsFault.{RecordsFault}
use Rattle.sp_records.specs.declared.fault.RecordsFault.TheVariants as records_faults
use Rattle.sp_run.specs.declared.status.Status.{Status}
use Rattle.sp_run.specs.declared.status.Status.TheVariants as statuses
use Rattle.sp_run.specs.Records.{records_name, RefusesBeside}
use Rattle.sp_run.specs.Opening.{AreFresh, OpensFresh, RefusesFresh, FoundBeside, NotBeside}
use Rattle.sp_run.specs.Fetching.{FetchedRecords, NoRecords}
use Rattle.sp_run.specs.Statuses.{status_of_records}

-- A status that an answer carries.
pub err-is : {T : Type 0} (P : Status → Type 0) (status : Status) (result : Result T Status) → IsErrAnd result (λ s. s ≡ status) → P status → IfErr result P
err-is P status (Ok value) is holds = absurd is
err-is P status (Err other) is holds = subst P (sym is) holds

-- ---- lines that were just read

-- Without records they are the opened state.
fresh-is : (text : TextState) → text.lines ≡ read_lines (line_texts text.lines) → text.next ≡ length text.lines → state_of text (records_of (opened_state [])) ≡ opened_state (line_texts text.lines)
fresh-is text read next =
    let none = records_of (opened_state []) in
    ap (λ (lines : List LineState). state_of (record { lines = lines; next = text.next }) none) read
    ∙ ap (λ (id : ℕ). state_of (record { lines = read_lines (line_texts text.lines); next = id }) none) (next ∙ sym (length-map text.lines (λ (line : LineState). line.text)))

none-opens : (text : LinesState) → AreFresh text → IsText (text_of text) → OpensFresh text None (state_of (text_of text) (records_of (opened_state [])))
none-opens text fresh is =
    let same = fresh-is (text_of text) fresh.read fresh.next in
    record {
      opens = same;
      whole = subst IsWhole (sym same) (opening-whole (line_texts text.lines) (subst (λ (state : State). IsText (states.text_of state)) same is));
    }

pub fresh-opens : (text new : LinesState) (records : RecordsOf) → AreFresh text → IsText (text_of text) → new ≡ text → records ≡ records_of (opened_state [])
    → OpensFresh text None (state_of (text_of new) records)
fresh-opens text new records fresh is same none =
    subst (λ (it : LinesState). OpensFresh text None (state_of (text_of it) records)) (sym same)
    (subst (λ (it : RecordsOf). OpensFresh text None (state_of (text_of text) it)) (sym none) (none-opens text fresh is))

-- With the records of a file they are the state that the file makes.
pub decoded-opens : (bytes : List ℕ) (text new : LinesState) (records : RecordsOf) → AreFresh text → IsText (text_of text) → IsRelabelled bytes text new records
    → OpensFresh text (Some bytes) (state_of (text_of new) records)
decoded-opens bytes text new records fresh is it =
    let state = state_of (text_of new) records in
    let kept = kept_of (text_of new) records in
    let own = read_lines (line_texts text.lines) in
    let text_is : IsText (record { lines = text.lines; next = length text.lines }) = subst (λ (n : ℕ). IsText (record { lines = text.lines; next = n })) fresh.next is in
    let texts : line_texts own ≡ line_texts new.lines = ap line_texts (sym fresh.read) ∙ sym it.texts in
    record {
      opens = (kept, subst (λ (lines : List LineState). IsRecordFile bytes lines kept) fresh.read it.file, sym (file-state state own texts));
      whole = subst IsWhole (file-state state text.lines (sym it.texts)) (made-whole text.lines kept text_is it.file.rules);
    }

pub decode-refuses : (bytes : List ℕ) (text new : LinesState) (fault : RecordsFault) → AreFresh text → IsDecoding bytes text new (Err fault) → RefusesFresh text bytes (status_of_records fault)
decode-refuses bytes text new (records_faults.BadForm rule) fresh it = subst (λ (lines : List LineState). IsRefused bytes lines rule) fresh.read it.0
decode-refuses bytes text new (records_faults.Mismatch kept found) fresh it =
    (subst (λ (lines : List LineState). IsMismatch bytes lines (string_bytes kept)) fresh.read it.0, it.1 ∙ ap digest_of fresh.read)
decode-refuses bytes text new records_faults.NoMemory fresh it = tt

-- ---- a file that is too long

long-breaks : (bytes : List ℕ) → file_limit < length bytes → form_of bytes ≡ broken 1
long-breaks bytes long = rw (lt-ltb file_limit (length bytes) long) refl

-- Bytes that are more than so many.
record Longer (count : ℕ) : Type 0 where
  bytes : List ℕ
  long : count < length bytes

some-longer : (count : ℕ) → Longer count
some-longer count = record { bytes = replicate (count + 1) 0; long = omega (arith, length-replicate {A = ℕ} (count + 1) 0) }

-- What a shelf has under a name that is too long, whether it tells or not.
record TooMany (files : Option Files) (name : List ℕ) (texts : List (List ℕ)) : Type 0 where
  records : Option (List ℕ)
  holds : IfSome files (λ files. files.held name ≡ records)
  refuses : RefusesBeside texts records (records_faults.BadForm 1)

many-of : (found : Option (List ℕ)) (texts : List (List ℕ)) → IsSomeAnd found (λ bytes. file_limit < length bytes) → RefusesBeside texts found (records_faults.BadForm 1)
many-of None texts long = absurd long
many-of (Some bytes) texts long = early (long-breaks bytes long)

too-many : (files : Option Files) (name : List ℕ) (texts : List (List ℕ)) → IfSome files (λ files. IsSomeAnd (files.held name) (λ bytes. file_limit < length bytes)) → TooMany files name texts
too-many None name texts long =
    let it = some-longer file_limit in record { records = Some it.bytes; holds = tt; refuses = early (long-breaks it.bytes it.long) }
too-many (Some files) name texts long = record { records = files.held name; holds = refl; refuses = many-of (files.held name) texts long }

-- ---- what the shelf has beside lines

pub found-beside : (name : List ℕ) (shelf after : ShelfState) (text : LinesState) (records : Option (List ℕ)) (state : State) → FetchedRecords shelf after name records → OpensFresh text records state
    → FoundBeside name shelf after (line_texts text.lines) state
found-beside name shelf after text records state fetched opens =
    record { records = records; holds = fetched.found; same = record { files = fetched.same; faults = fetched.kept }; opens = opens.opens }

-- The fetch said why there are none.
pub unfetched-beside : (name : List ℕ) (shelf after : ShelfState) (texts : List (List ℕ)) (status : Status) → NoRecords shelf after name status → NotBeside name shelf after texts status
unfetched-beside name shelf after texts (statuses.BadRecords (records_faults.BadForm rule)) it =
    let many = too-many shelf.files (records_name name) texts it.1.found in
    subst (λ (n : ℕ). NotBeside name shelf after texts (statuses.BadRecords (records_faults.BadForm n))) (sym it.0)
    (record { records = many.records; holds = many.holds; same = record { files = it.1.same; faults = it.1.kept }; refuses = many.refuses })
unfetched-beside name shelf after texts (statuses.BadRecords (records_faults.Mismatch kept found)) it = absurd it
unfetched-beside name shelf after texts (statuses.BadRecords records_faults.NoMemory) it = absurd it
unfetched-beside name shelf after texts statuses.ShelfFault it = it
unfetched-beside name shelf after texts statuses.NoMemory it = record { files = it.0; faults = it.1 }
unfetched-beside name shelf after texts statuses.Done it = absurd it
unfetched-beside name shelf after texts statuses.Usage it = absurd it
unfetched-beside name shelf after texts (statuses.NoFile given) it = absurd it
unfetched-beside name shelf after texts (statuses.BadText fault) it = absurd it
unfetched-beside name shelf after texts statuses.ReadFault it = absurd it
unfetched-beside name shelf after texts statuses.WriteFault it = absurd it
unfetched-beside name shelf after texts (statuses.CommandLong number) it = absurd it
unfetched-beside name shelf after texts statuses.InputFull it = absurd it
unfetched-beside name shelf after texts (statuses.BadSheets file sheet) it = absurd it
unfetched-beside name shelf after texts statuses.NotLocked it = absurd it

-- The bytes that were fetched are refused.
pub refused-beside : (name : List ℕ) (shelf after : ShelfState) (text : LinesState) (bytes : List ℕ) (status : Status) → FetchedRecords shelf after name (Some bytes) → RefusesFresh text bytes status
    → NotBeside name shelf after (line_texts text.lines) status
refused-beside name shelf after text bytes (statuses.BadRecords fault) fetched it =
    record { records = Some bytes; holds = fetched.found; same = record { files = fetched.same; faults = fetched.kept }; refuses = it }
refused-beside name shelf after text bytes statuses.NoMemory fetched it = record { files = fetched.same; faults = fetched.kept }
refused-beside name shelf after text bytes statuses.ShelfFault fetched it = absurd it
refused-beside name shelf after text bytes statuses.Done fetched it = absurd it
refused-beside name shelf after text bytes statuses.Usage fetched it = absurd it
refused-beside name shelf after text bytes (statuses.NoFile given) fetched it = absurd it
refused-beside name shelf after text bytes (statuses.BadText fault) fetched it = absurd it
refused-beside name shelf after text bytes statuses.ReadFault fetched it = absurd it
refused-beside name shelf after text bytes statuses.WriteFault fetched it = absurd it
refused-beside name shelf after text bytes (statuses.CommandLong number) fetched it = absurd it
refused-beside name shelf after text bytes statuses.InputFull fetched it = absurd it
refused-beside name shelf after text bytes (statuses.BadSheets file sheet) fetched it = absurd it
refused-beside name shelf after text bytes statuses.NotLocked fetched it = absurd it

-- The same of what a call answered that read the bytes.
pub found-some : {T : Type 0} (view : T → State) (name : List ℕ) (shelf after : ShelfState) (text : LinesState) (bytes : List ℕ) (result : Result T Status) → FetchedRecords shelf after name (Some bytes)
    → IfOk result (λ it. OpensFresh text (Some bytes) (view it)) → IfOk result (λ it. FoundBeside name shelf after (line_texts text.lines) (view it))
found-some view name shelf after text bytes (Ok it) fetched opens = found-beside name shelf after text (Some bytes) (view it) fetched opens
found-some view name shelf after text bytes (Err status) fetched opens = opens

pub refused-some : {T : Type 0} (name : List ℕ) (shelf after : ShelfState) (text : LinesState) (bytes : List ℕ) (result : Result T Status) → FetchedRecords shelf after name (Some bytes)
    → IfErr result (RefusesFresh text bytes) → IfErr result (NotBeside name shelf after (line_texts text.lines))
refused-some name shelf after text bytes (Ok it) fetched refuses = refuses
refused-some name shelf after text bytes (Err status) fetched refuses = refused-beside name shelf after text bytes status fetched refuses

-- What was fetched is these bytes.
pub fetched-some : {V : Type 0} (items : V → List ℕ) (shelf after : ShelfState) (name bytes : List ℕ) (found : Option V) (value : V) → FetchedRecords shelf after name (option_map items found) → found ≡ Some value
    → bytes ≡ items value → FetchedRecords shelf after name (Some bytes)
fetched-some items shelf after name bytes found value fetched is same =
    subst (λ (o : Option (List ℕ)). FetchedRecords shelf after name o) (ap (option_map items) is ∙ ap (λ (b : List ℕ). Some b) (sym same)) fetched
