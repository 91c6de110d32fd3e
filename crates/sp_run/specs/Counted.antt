-- How many stanzas are read and how many pages are filled where a script is opened (docs/RULES.md, "Windows").
use Rattle.std.specs.Prelude.{◌≡◌, ◌⊎◌, length}
use Rattle.spec_text.specs.Lines.{line_texts}
use Rattle.spec_script.specs.Stanzas.{stanzas_of}
use Rattle.spec_state.specs.State.{State}
use Rattle.spec_locked_pages.specs.Segments.{pages_of}
use Rattle.spec_session.specs.Runs.{Counts}
use Rattle.sp_reread.specs.Cache.{RisesWithin, counted_on}
use Rattle.sp_reflow.specs.Filling.{FilledAtMost}
use Rattle.sp_reflow.specs.Starts.{many_more}
use Rattle.sp_run.specs.declared.status.Status.{Status}
use Rattle.sp_run.specs.declared.status.Status.TheVariants as statuses
use Rattle.sp_run.specs.Forms.{OriginOf}
use Rattle.sp_run.specs.Opening.{HadState}
use Rattle.sp_run.specs.Unopened.{Outside}

-- Opening a state reads each stanza of its text and fills each of its pages, once.
pub record OpeningCounts (state : State) (from to : Counts) : Type 0 where
  pub reads : to.reads ≡ counted_on (length (stanzas_of (line_texts state.lines))) from.reads
  pub fills : to.fills ≡ many_more from.fills (length (pages_of state))

-- Where there is no memory for it, no more than that.
pub record OpeningCountsAtMost (state : State) (from to : Counts) : Type 0 where
  pub reads : RisesWithin (length (stanzas_of (line_texts state.lines))) from.reads to.reads
  pub fills : FilledAtMost from.fills to.fills (length (pages_of state))

-- A script and what stands beside it were had whole, and there was no memory for the state that they open as.
pub record OpeningLacked (origin : OriginOf) (old new : Outside) (from to : Counts) : Type 0 where
  pub state : State
  pub had : HadState origin old.source new.source old.shelf new.shelf state
  pub counts : OpeningCountsAtMost state from to

-- What is counted of a script that isn't opened: nothing, or where there was no memory, no more than its opening counts.
abbrev pub UnopenedCounts : OriginOf → Outside → Outside → Counts → Counts → Status → Type 0
UnopenedCounts origin old new from to statuses.NoMemory = (to ≡ from) ⊎ OpeningLacked origin old new from to
UnopenedCounts origin old new from to _ = to ≡ from
