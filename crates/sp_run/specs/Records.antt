-- What a script and the records beside it open as (docs/RULES.md, "Record file" and "The program").
use Rattle.std.specs.Prelude.{◌≡◌, ℕ, List, ◌++◌, codes, string_bytes, Option, Some, None}
use Rattle.spec_text.specs.Lines.{lines, reading_of, read_lines}
use Rattle.spec_records.specs.Kept.{KeptOf}
use Rattle.spec_records.specs.RecordFile.{IsRecordFile, IsMismatch, IsRefused, digest_of}
use Rattle.spec_state.specs.State.{State, opened_state}
use Rattle.spec_state.specs.SavedStates.{state_of_file}
use Rattle.sp_records.specs.declared.fault.RecordsFault.{RecordsFault}
use Rattle.sp_records.specs.declared.fault.RecordsFault.TheVariants as records_faults

-- The name of the record file of a script.
abbrev pub records_name : List ℕ → List ℕ
records_name name = name ++ codes ".desk"

-- The state of lines that were read, with the bytes of a record file of theirs, or without one.
abbrev pub OpensLines : List (List ℕ) → Option (List ℕ) → State → Type 0
OpensLines texts None state = state ≡ opened_state texts
OpensLines texts (Some bytes) state = (it : KeptOf) × IsRecordFile bytes (read_lines texts) it × (state ≡ state_of_file (read_lines texts) it)

-- The state of a script and what stands beside it.
pub record OpensAs (script : List ℕ) (records : Option (List ℕ)) (state : State) : Type 0 where
  pub texts : List (List ℕ)
  pub reads : reading_of script ≡ lines texts
  pub opens : OpensLines texts records state

-- Why what stands beside lines is no record file of theirs.
abbrev pub RefusesBeside : List (List ℕ) → Option (List ℕ) → RecordsFault → Type 0
RefusesBeside texts None fault = ⊥
RefusesBeside texts (Some bytes) (records_faults.BadForm rule) = IsRefused bytes (read_lines texts) rule
RefusesBeside texts (Some bytes) (records_faults.Mismatch kept found) =
    IsMismatch bytes (read_lines texts) (string_bytes kept) × (string_bytes found ≡ digest_of (read_lines texts))
RefusesBeside texts (Some bytes) records_faults.NoMemory = ⊥

-- The script is one, and what stands beside it is refused.
pub record RefusesRecords (script : List ℕ) (records : Option (List ℕ)) (fault : RecordsFault) : Type 0 where
  pub texts : List (List ℕ)
  pub reads : reading_of script ≡ lines texts
  pub refuses : RefusesBeside texts records fault
