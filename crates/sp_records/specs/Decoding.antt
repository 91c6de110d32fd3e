-- What reading a record file answers (docs/RULES.md, "Record file").
use Rattle.std.specs.Prelude.{◌≡◌, ◌≤◌, ℕ, List, All, Result, Ok, Err, string_bytes}
use Rattle.spec_text.specs.Lines.{LineState, line_texts}
use Rattle.spec_labels.specs.PageRecords.{PageRecordOf}
use Rattle.spec_records.specs.Kept.{RecordsOf, KeptOf, kept_of}
use Rattle.spec_records.specs.RecordFile.{IsRecordFile, IsMismatch, IsRefused, digest_of}
use Rattle.sp_text.specs.Gap.{LinesState, text_of}
use Rattle.sp_records.specs.declared.fault.RecordsFault.{RecordsFault}
use Rattle.sp_records.specs.declared.fault.RecordsFault.TheVariants.{BadForm, Mismatch, NoMemory}

-- Page records whose numbers fit.
pub record AreNarrow (records : List PageRecordOf) : Type 0 where
  pub row : All (λ (it : PageRecordOf). it.row ≤ 4095) records
  pub changed : All (λ (it : PageRecordOf). it.changed ≤ 99) records

-- What the bytes keep for this text, or why they don't.
abbrev pub IsKept : List ℕ → List LineState → Result KeptOf RecordsFault → Type 0
IsKept bytes text (Ok it) = IsRecordFile bytes text it
IsKept bytes text (Err (BadForm rule)) = IsRefused bytes text rule
IsKept bytes text (Err (Mismatch kept found)) = IsMismatch bytes text (string_bytes kept) × (string_bytes found ≡ digest_of text)
IsKept bytes text (Err NoMemory) = Unit {0}

-- The lines have the ids and marks of the file and keep their texts and their room, and the records are the file's.
pub record IsRelabelled (bytes : List ℕ) (old new : LinesState) (records : RecordsOf) : Type 0 where
  pub file : IsRecordFile bytes old.lines (kept_of (text_of new) records)
  pub texts : line_texts new.lines ≡ line_texts old.lines
  pub room : new.room ≡ old.room

-- The records of a file of this text, whose ids and marks the lines then have; or why there are none, and the lines are as they were.
abbrev pub IsDecoding : List ℕ → LinesState → LinesState → Result RecordsOf RecordsFault → Type 0
IsDecoding bytes old new (Ok records) = IsRelabelled bytes old new records
IsDecoding bytes old new (Err (BadForm rule)) = IsRefused bytes old.lines rule × (new ≡ old)
IsDecoding bytes old new (Err (Mismatch kept found)) = IsMismatch bytes old.lines (string_bytes kept) × (string_bytes found ≡ digest_of old.lines) × (new ≡ old)
IsDecoding bytes old new (Err NoMemory) = new ≡ old

-- There is no memory.
abbrev pub IsNoMemory : RecordsFault → Type 0
IsNoMemory NoMemory = Unit {0}
IsNoMemory (BadForm rule) = ⊥
IsNoMemory (Mismatch kept found) = ⊥
