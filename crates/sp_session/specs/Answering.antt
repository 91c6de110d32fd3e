-- What answering one line does.
use Rattle.std.specs.Prelude.{◌≡◌, ℕ, ◌<◌, List, length, take, Ok, Err}
use Rattle.std.specs.declared.result.Result.{Result}
use Rattle.std.specs.Io.KnownBytes.{Appends}
use Rattle.sp_kit.specs.Causes.{Rose}
use Rattle.sp_kit.specs.Outside.{SinkState}
use Rattle.spec_session.specs.declared.SessionEnd.{SessionEnd}
use Rattle.spec_session.specs.declared.SessionEnd.TheVariants as endings
use Rattle.sp_session.specs.declared.lines.LineStop.{LineStop}
use Rattle.sp_session.specs.declared.lines.LineStop.TheVariants as stops

-- How a session ends that has no next line.
abbrev pub end_of : LineStop → SessionEnd
end_of stops.Read = endings.ReadFault
end_of (stops.Long number) = endings.CommandLong number
end_of stops.TooMany = endings.InputFull

-- The sink took the whole reply, and counted no fault.
pub record TookAll (old new : SinkState) (reply : List ℕ) : Type 0 where
  pub wrote : Appends old.taken new.taken reply
  pub kept : new.faults ≡ old.faults

-- The sink failed, and took a part of the reply, and not all of it.
pub record TookPart (old new : SinkState) (reply : List ℕ) : Type 0 where
  pub count : ℕ
  pub short : count < length reply
  pub wrote : Appends old.taken new.taken (take count reply)
  pub rose : Rose old.faults new.faults

-- A line was answered and its reply written, or not for want of memory or a failure of the sink.
abbrev pub AnswersLine : {R : Type 0} → (R → List ℕ → R → List ℕ → Type 0) → (R → List ℕ → R → Type 0) → SinkState → SinkState → R → R → List ℕ
    → Result (Unit {0}) SessionEnd → Type 0
AnswersLine answers halts old new before after line (Ok done) = (reply : List ℕ) × answers before line after reply × TookAll old new reply
AnswersLine answers halts old new before after line (Err endings.NoMemory) = halts before line after × (new ≡ old)
AnswersLine answers halts old new before after line (Err endings.WriteFault) = (reply : List ℕ) × answers before line after reply × TookPart old new reply
AnswersLine answers halts old new before after line (Err _) = ⊥
