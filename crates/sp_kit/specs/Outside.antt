-- What can be told of a source and of a sink, and what a call did to a sink (docs/RULES.md, "The program").
use Rattle.std.specs.Prelude.{ℕ, ◌<◌, List, length, take, OnOk, OnErr}
use Rattle.std.specs.declared.option.Option.{Option}
use Rattle.std.specs.declared.result.Result.{Result}
use Rattle.std.specs.Io.KnownBytes.{Appends}
use Rattle.sp_kit.specs.Causes.{HasCause}

-- A source: the bytes that weren't read yet, where they are known, and its count of faults.
pub record SourceState : Type 0 where
  pub unread : Option (List ℕ)
  pub faults : ℕ

-- A sink: the bytes that it took, where they are known, and its count of faults.
pub record SinkState : Type 0 where
  pub taken : Option (List ℕ)
  pub faults : ℕ

-- The sink took a prefix of the bytes.
abbrev pub AppendsPrefix : Option (List ℕ) → Option (List ℕ) → List ℕ → Type 0
AppendsPrefix old new bytes = (n : ℕ) × Appends old new (take n bytes)

-- The sink took a part of the bytes, from their front, and not all of them.
abbrev pub AppendsPart : Option (List ℕ) → Option (List ℕ) → List ℕ → Type 0
AppendsPart old new bytes = (n : ℕ) × (n < length bytes) × Appends old new (take n bytes)

-- A call that writes these bytes: all of them with Ok, a part of them with a failure, which has its cause.
pub record Writes {T E : Type 0} (old new : SinkState) (bytes : List ℕ) (result : Result T E) : Type 0 where
  pub ok : OnOk result (Appends old.taken new.taken bytes)
  pub err : OnErr result (AppendsPart old.taken new.taken bytes)
  pub cause : HasCause old.faults new.faults result
