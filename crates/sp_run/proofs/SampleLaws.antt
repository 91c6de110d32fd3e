-- What a sample counts for which there was no memory.
use Rattle.std.proofs.Common.{◌≡◌, ℕ, List, [], ◌∷◌, inl, inr, refl, subst, arith}
use Rattle.std.specs.Prelude.{Result, Ok, Err, OnOk, OnErr}
use Rattle.spec_wire.specs.Commands.{CommandOf}
use Rattle.spec_machine.specs.Machine.{Memory}
use Rattle.spec_sample.specs.Sample.{stepped}
use Rattle.sp_reread.specs.Cache.{RisesWithin}
use Rattle.sp_reflow.specs.Filling.{FilledAtMost}
use Rattle.sp_desk.proofs.Counting.{no-fills, no-reads}
use Rattle.sp_desk.specs.Outcomes.{FillsAtMost, FillsOf, ReadsAtMost, ReadsOf}
use Rattle.sp_run.specs.SampleCounts.{CountsAlong, CountsUpTo}

-- What holds where there is an answer, and where it is an error.
pub on-ok : {T E : Type 0} {P : Type 0} (result : Result T E) → P → OnOk result P
on-ok (Ok value) holds = holds
on-ok (Err fault) holds = tt

pub on-err : {T E : Type 0} {P : Type 0} (result : Result T E) → P → OnErr result P
on-err (Ok value) holds = tt
on-err (Err fault) holds = holds

pub none-risen : (most count : ℕ) → RisesWithin most count count
none-risen most count = record { rise = 0; low = omega arith; counted = refl }

pub none-filled : (most count : ℕ) → FilledAtMost count count most
none-filled most count = record { count = 0; within = omega arith; is = refl }

-- No command was begun.
pub reads-unbegun : (memory : Memory) (commands : List CommandOf) (count : ℕ) → CountsUpTo ReadsOf ReadsAtMost memory commands count count
reads-unbegun memory [] count = refl
reads-unbegun memory (command ∷ commands) count = inl (no-reads (Unit {0}) (Unit {0}) memory.state command tt count)

pub fills-unbegun : (memory : Memory) (commands : List CommandOf) (count : ℕ) → CountsUpTo FillsOf FillsAtMost memory commands count count
fills-unbegun memory [] count = refl
fills-unbegun memory (command ∷ commands) count = inl (no-fills (Unit {0}) (Unit {0}) memory.state command tt count)

-- All were answered.
pub all-along : (counts at_most : Memory → CommandOf → ℕ → ℕ → Type 0) (memory : Memory) (commands : List CommandOf) (from to : ℕ) → CountsAlong counts memory commands from to
    → CountsUpTo counts at_most memory commands from to
all-along counts at_most memory [] from to it = it
all-along counts at_most memory (command ∷ commands) from to (between, first, rest) = inr (between, first, all-along counts at_most (stepped memory command) commands between to rest)

-- Along the commands of a desk that are these.
pub up-to : (counts at_most : Memory → CommandOf → ℕ → ℕ → Type 0) (memory other : Memory) (commands others : List CommandOf) (from to : ℕ) → memory ≡ other → commands ≡ others
    → CountsUpTo counts at_most memory commands from to → CountsUpTo counts at_most other others from to
up-to counts at_most memory other commands others from to same all it =
    subst (λ (m : Memory). CountsUpTo counts at_most m others from to) same (subst (λ (those : List CommandOf). CountsUpTo counts at_most memory those from to) all it)

pub along : (counts : Memory → CommandOf → ℕ → ℕ → Type 0) (memory other : Memory) (commands others : List CommandOf) (from to : ℕ) → memory ≡ other → commands ≡ others
    → CountsAlong counts memory commands from to → CountsAlong counts other others from to
along counts memory other commands others from to same all it =
    subst (λ (m : Memory). CountsAlong counts m others from to) same (subst (λ (those : List CommandOf). CountsAlong counts memory those from to) all it)
