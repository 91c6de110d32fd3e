-- What a command reads and fills, by how it is answered.
use Rattle.std.proofs.Common.{◌≡◌, ℕ, true, false, Result, Ok, Err, Option, Some, None, refl}
use Rattle.std.specs.Prelude.{OnOk, is_ok}
use Rattle.spec_state.specs.State.{State}
use Rattle.spec_wire.specs.Commands.{CommandOf, edit, paper}
use Rattle.spec_wire.specs.Replies.{RefusalOf, refused}
use Rattle.spec_machine.specs.Machine.{Memory}
use Rattle.spec_machine.specs.Refusals.{refusal_to}
use Rattle.spec_machine.specs.Answers.{step_by, step_of}
use Rattle.sp_desk.specs.Reads.{CommandReads}
use Rattle.sp_desk.specs.Fills.{CommandFills}
use Rattle.sp_desk.specs.Outcomes.{FillsAtMost, FillsOf, ReadsAtMost, ReadsOf, outcome_of}

-- Where the second is Ok at most where the first is, what holds of the first on Ok holds of the second.
ok-as : {T E U F : Type 0} (P : Type 0) (result : Result T E) (other : Result U F) → (is_ok other ≡ true → is_ok result ≡ true) → OnOk result P → OnOk other P
ok-as P (Ok value) (Ok done) less holds = holds
ok-as P (Ok value) (Err error) less holds = tt
ok-as P (Err error) (Ok done) less holds = absurd (let bad : false ≡ true = less refl in cc)
ok-as P (Err error) (Err fault) less holds = tt

pub reads-as : {T E U F : Type 0} (state : State) (command : CommandOf) (result : Result T E) (other : Result U F) (reads reads' : ℕ) → (is_ok other ≡ true → is_ok result ≡ true)
    → CommandReads state command result reads reads' → CommandReads state command other reads reads'
reads-as state (edit it) result other reads reads' less counts = record { exact = ok-as _ result other less counts.exact; at_most = counts.at_most; unread = counts.unread }
reads-as state command result other reads reads' less counts = counts

pub fills-as : {T E U F : Type 0} (state : State) (command : CommandOf) (result : Result T E) (other : Result U F) (fills fills' : ℕ) → (is_ok other ≡ true → is_ok result ≡ true)
    → CommandFills state command result fills fills' → CommandFills state command other fills fills'
fills-as state (edit it) result other fills fills' less counts = record { exact = ok-as _ result other less counts.exact; at_most = counts.at_most; unfilled = counts.unfilled }
fills-as state (paper size) result other fills fills' less counts = record { exact = ok-as _ result other less counts.exact; at_most = counts.at_most; unfilled = counts.unfilled }
fills-as state command result other fills fills' less counts = counts

-- ---- a command that was taken

pub taken-reads : (T E : Type 0) (memory : Memory) (command : CommandOf) (value : T) (reads reads' : ℕ) → CommandReads {E = E} memory.state command (Ok value) reads reads' → ReadsOf memory command reads reads'
taken-reads T E memory command value reads reads' counts = reads-as {T = T} {E = E} memory.state command (Ok value) (outcome_of (refusal_to memory command)) reads reads' (λ ok. refl) counts

pub taken-fills : (T E : Type 0) (memory : Memory) (command : CommandOf) (value : T) (fills fills' : ℕ) → CommandFills {E = E} memory.state command (Ok value) fills fills' → FillsOf memory command fills fills'
taken-fills T E memory command value fills fills' counts = fills-as {T = T} {E = E} memory.state command (Ok value) (outcome_of (refusal_to memory command)) fills fills' (λ ok. refl) counts

-- ---- one that was refused

pub refused-reads : (T E : Type 0) (memory : Memory) (command : CommandOf) (reason : RefusalOf) (error : E) (reads reads' : ℕ) → refused reason ≡ (step_of memory command).reply
    → CommandReads {T = T} memory.state command (Err error) reads reads' → ReadsOf memory command reads reads'
refused-reads T E memory (edit it) reason error reads reads' told counts = by (refusal_to memory (edit it)) told
  where
    by : (refusal : Option RefusalOf) → refused reason ≡ (step_by memory (edit it) refusal).reply → CommandReads memory.state (edit it) (outcome_of refusal) reads reads'
    by None same = absurd (let bad : ⊥ = cc in bad)
    by (Some other) same = reads-as {T = T} {E = E} memory.state (edit it) (Err error) (outcome_of (Some other)) reads reads' (λ none. none) counts
refused-reads T E memory command reason error reads reads' told counts = counts

pub refused-fills : (T E : Type 0) (memory : Memory) (command : CommandOf) (reason : RefusalOf) (error : E) (fills fills' : ℕ) → refused reason ≡ (step_of memory command).reply
    → CommandFills {T = T} memory.state command (Err error) fills fills' → FillsOf memory command fills fills'
refused-fills T E memory (edit it) reason error fills fills' told counts = by (refusal_to memory (edit it)) told
  where
    by : (refusal : Option RefusalOf) → refused reason ≡ (step_by memory (edit it) refusal).reply → CommandFills memory.state (edit it) (outcome_of refusal) fills fills'
    by None same = absurd (let bad : ⊥ = cc in bad)
    by (Some other) same = fills-as {T = T} {E = E} memory.state (edit it) (Err error) (outcome_of (Some other)) fills fills' (λ none. none) counts
refused-fills T E memory (paper size) reason error fills fills' told counts = by (refusal_to memory (paper size)) told
  where
    by : (refusal : Option RefusalOf) → refused reason ≡ (step_by memory (paper size) refusal).reply → CommandFills memory.state (paper size) (outcome_of refusal) fills fills'
    by None same = absurd (let bad : ⊥ = cc in bad)
    by (Some other) same = fills-as {T = T} {E = E} memory.state (paper size) (Err error) (outcome_of (Some other)) fills fills' (λ none. none) counts
refused-fills T E memory command reason error fills fills' told counts = counts

-- ---- one that found no memory

pub lacking-reads : (T E : Type 0) (memory : Memory) (command : CommandOf) (error : E) (reads reads' : ℕ) → CommandReads {T = T} memory.state command (Err error) reads reads' → ReadsAtMost memory command reads reads'
lacking-reads T E memory command error reads reads' counts = reads-as {T = T} {E = E} {U = Unit {0}} {F = Unit {0}} memory.state command (Err error) (Err tt) reads reads' (λ none. none) counts

pub lacking-fills : (T E : Type 0) (memory : Memory) (command : CommandOf) (error : E) (fills fills' : ℕ) → CommandFills {T = T} memory.state command (Err error) fills fills' → FillsAtMost memory command fills fills'
lacking-fills T E memory command error fills fills' counts = fills-as {T = T} {E = E} {U = Unit {0}} {F = Unit {0}} memory.state command (Err error) (Err tt) fills fills' (λ none. none) counts

-- What it reads and fills where there is memory is no more than that.
pub reads-at-most : (memory : Memory) (command : CommandOf) (reads reads' : ℕ) → ReadsOf memory command reads reads' → ReadsAtMost memory command reads reads'
reads-at-most memory command reads reads' counts =
    reads-as {U = Unit {0}} {F = Unit {0}} memory.state command (outcome_of (refusal_to memory command)) (Err tt) reads reads' (λ none. absurd (let bad : ⊥ = cc in bad)) counts

pub fills-at-most : (memory : Memory) (command : CommandOf) (fills fills' : ℕ) → FillsOf memory command fills fills' → FillsAtMost memory command fills fills'
fills-at-most memory command fills fills' counts =
    fills-as {U = Unit {0}} {F = Unit {0}} memory.state command (outcome_of (refusal_to memory command)) (Err tt) fills fills' (λ none. absurd (let bad : ⊥ = cc in bad)) counts
