-- What the objects in memory hold (docs/RULES.md, "The program").
use Rattle.std.specs.Prelude.{ℕ, true, List, map, option_map, string_bytes, bytes_eq}
use Rattle.std.specs.declared.option.Option.{Option}
use Rattle.std.specs.declared.string.String.{String}
use Rattle.std.specs.declared.vec.Vec.{Vec}
use Rattle.std.specs.declared.alloc.Global.{Global}
use Rattle.std.specs.BTreeMap.{BTreeMap}
use Rattle.std.specs.Map.{lookup}
use Rattle.sp_kit.specs.Files.{Files, CallOf, fetch, store}
use Rattle.sp_kit.specs.declared.call.Call.{Call}
use Rattle.sp_kit.specs.declared.call.Call.TheVariants as calls

-- A source in memory: the bytes that weren't read yet, the most bytes of one call, the numbers of the calls that fail,
-- the number of the next call, and the count of faults.
pub record MemorySourceState : Type 0 where
  pub unread : List ℕ
  pub piece : ℕ
  pub fails : List ℕ
  pub call : ℕ
  pub faults : ℕ

-- A sink in memory: the bytes that it took, how many it has room for, the most bytes of one call, the numbers of the
-- calls that fail, the number of the next call, and the count of faults.
pub record MemorySinkState : Type 0 where
  pub taken : List ℕ
  pub room : ℕ
  pub piece : ℕ
  pub fails : List ℕ
  pub call : ℕ
  pub faults : ℕ

-- A sink in memory that grows: the bytes that it took, and the count of faults.
pub record GrowingSinkState : Type 0 where
  pub taken : List ℕ
  pub faults : ℕ

-- The files of a map, each with its name, in the order of the names.
abbrev pub files_of : BTreeMap (String Global) (Vec ℕ Global) → List (List ℕ × List ℕ)
files_of names = map (λ e. (string_bytes e.0, e.1.items)) names.entries

-- The bytes under a name among these files, where there are some.
abbrev pub found_in : List (List ℕ × List ℕ) → List ℕ → Option (List ℕ)
found_in files name = lookup (bytes_eq name) files

-- These files, as a shelf tells them. They are atomic.
abbrev pub told_in : List (List ℕ × List ℕ) → Files
told_in files = record { held = found_in files; atomic = true }

-- A call, and calls in order where there are some, as a shelf tells them.
abbrev pub call_of : Call → CallOf
call_of (calls.Fetch name) = fetch (string_bytes name)
call_of (calls.Store name) = store (string_bytes name)

abbrev pub calls_of : Option (Vec Call Global) → Option (List CallOf)
calls_of asked = option_map (λ (v : Vec Call Global). map call_of v.items) asked

-- A shelf in memory: its files, each with its name, the numbers of the calls that fail, the number of the next call, the count of
-- faults, and the calls that it was asked, where there was memory to keep them.
pub record MemoryShelfState : Type 0 where
  pub files : List (List ℕ × List ℕ)
  pub fails : List ℕ
  pub call : ℕ
  pub faults : ℕ
  pub calls : Option (List CallOf)
