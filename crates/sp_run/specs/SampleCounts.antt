-- How many stanzas are read and how many pages are filled for a sample (docs/RULES.md, "The sample").
use Rattle.std.specs.Prelude.{◌≡◌, ℕ, ◌⊎◌, List, [], ◌∷◌, map}
use Rattle.spec_wire.specs.Commands.{CommandOf}
use Rattle.spec_machine.specs.Machine.{Memory, opened_memory}
use Rattle.spec_sample.specs.Sample.{sample_commands, sample_lines, sample_opened, stepped}
use Rattle.sp_reread.specs.Cache.{ReadsAll, ReadsAtMostAll}
use Rattle.sp_wire.specs.declared.command.Command.{Command}
use Rattle.sp_wire.specs.Values.{command_of}
use Rattle.sp_sheets.specs.Pages.{FillsAll, FillsAtMostAll}
use Rattle.sp_desk.specs.Outcomes.{FillsAtMost, FillsOf, ReadsAtMost, ReadsOf}

-- A count goes so at each of these commands, one after another.
abbrev pub CountsAlong : (Memory → CommandOf → ℕ → ℕ → Type 0) → Memory → List CommandOf → ℕ → ℕ → Type 0
CountsAlong counts memory [] from to = to ≡ from
CountsAlong counts memory (command ∷ commands) from to = (between : ℕ) × counts memory command from between × CountsAlong counts (stepped memory command) commands between to

-- A count goes so at the first of these commands, and at most so at the next, for which there was no memory.
abbrev pub CountsUpTo : (Memory → CommandOf → ℕ → ℕ → Type 0) → (Memory → CommandOf → ℕ → ℕ → Type 0) → Memory → List CommandOf → ℕ → ℕ → Type 0
CountsUpTo counts at_most memory [] from to = to ≡ from
CountsUpTo counts at_most memory (command ∷ commands) from to =
    at_most memory command from to ⊎ ((between : ℕ) × counts memory command from between × CountsUpTo counts at_most (stepped memory command) commands between to)

-- The same of commands as values.
abbrev pub ReadsAlong : Memory → List Command → ℕ → ℕ → Type 0
ReadsAlong memory commands from to = CountsAlong ReadsOf memory (map command_of commands) from to

abbrev pub FillsAlong : Memory → List Command → ℕ → ℕ → Type 0
FillsAlong memory commands from to = CountsAlong FillsOf memory (map command_of commands) from to

abbrev pub ReadsUpTo : Memory → List Command → ℕ → ℕ → Type 0
ReadsUpTo memory commands from to = CountsUpTo ReadsOf ReadsAtMost memory (map command_of commands) from to

abbrev pub FillsUpTo : Memory → List Command → ℕ → ℕ → Type 0
FillsUpTo memory commands from to = CountsUpTo FillsOf FillsAtMost memory (map command_of commands) from to

-- The same of the session of a sample.
abbrev pub SessionReads : ℕ → ℕ → ℕ → Type 0
SessionReads rooms from to = CountsAlong ReadsOf (opened_memory (sample_opened rooms)) (sample_commands rooms) from to

abbrev pub SessionFills : ℕ → ℕ → ℕ → Type 0
SessionFills rooms from to = CountsAlong FillsOf (opened_memory (sample_opened rooms)) (sample_commands rooms) from to

abbrev pub SessionReadsUpTo : ℕ → ℕ → ℕ → Type 0
SessionReadsUpTo rooms from to = CountsUpTo ReadsOf ReadsAtMost (opened_memory (sample_opened rooms)) (sample_commands rooms) from to

abbrev pub SessionFillsUpTo : ℕ → ℕ → ℕ → Type 0
SessionFillsUpTo rooms from to = CountsUpTo FillsOf FillsAtMost (opened_memory (sample_opened rooms)) (sample_commands rooms) from to

-- Each stanza of its script is read once, and then those that its commands read.
pub record SampleReads (rooms from to : ℕ) : Type 0 where
  pub opened : ℕ
  pub opening : ReadsAll (sample_lines rooms) from opened
  pub session : SessionReads rooms opened to

-- Each of its pages is filled once, and then those that its commands fill.
pub record SampleFills (rooms from to : ℕ) : Type 0 where
  pub opened : ℕ
  pub opening : FillsAll (sample_opened rooms) from opened
  pub session : SessionFills rooms opened to

-- A sample for which there was no memory: for its opening, and no more is read and filled than that asks, or after it.
abbrev pub SampleReadsAtMost : ℕ → ℕ → ℕ → Type 0
SampleReadsAtMost rooms from to =
    ReadsAtMostAll (sample_lines rooms) from to
    ⊎ ((opened : ℕ) × ReadsAll (sample_lines rooms) from opened × SessionReadsUpTo rooms opened to)

abbrev pub SampleFillsAtMost : ℕ → ℕ → ℕ → Type 0
SampleFillsAtMost rooms from to =
    FillsAtMostAll (sample_opened rooms) from to
    ⊎ ((opened : ℕ) × FillsAll (sample_opened rooms) from opened × SessionFillsUpTo rooms opened to)
