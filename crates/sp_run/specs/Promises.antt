-- What is promised of the memories that accepted commands lead to (docs/RULES.md, "The desk").
use Rattle.std.specs.Prelude.{◌≡◌, ℕ, ◌≤◌, List, Some, None, slice_get}
use Rattle.spec_text.specs.Edits.{EditOf}
use Rattle.spec_wire.specs.Commands.{edit, undo, lock_pages, next_round}
use Rattle.spec_state.specs.State.{State}
use Rattle.spec_state.specs.StateSheets.{bytes_of_state}
use Rattle.spec_machine.specs.Machine.{Memory, memory_after, opened_memory}
use Rattle.spec_machine.specs.Refusals.{refusal_to}
use Rattle.spec_machine.specs.KeptMemories.{IsWholeMemory}
use Rattle.spec_machine.specs.LabelPromises.{AreLabelled, LosesNone}
use Rattle.spec_machine.specs.Sessions.{LeadsTo}
use Rattle.spec_locked_pages.specs.Chains.{AreLinked}
use Rattle.spec_locked_pages.specs.Segments.{IsLockedPage, StandsAmong, bytes_at}
use Rattle.spec_locked_pages.specs.Promises.{ArePageLaws}
use Rattle.spec_packet.specs.PacketPromises.{ArePacketLaws}

-- Of a memory and a later one: the states keep the rules and lead to one another by edits, labels rise and none is lost, a lock of pages
-- and a new round leave the bytes of every sheet, an undo gives back the whole state before its edit, locked pages keep their bytes, the
-- sheets of a locked page are among those that the state has, and packets bring sheets up to date.
pub record KeepsPromises (earlier now : Memory) : Type 0 where
  pub whole : IsWholeMemory now
  pub linked : AreLinked now
  pub labels : AreLabelled now.state
  pub lost : LosesNone earlier.state now.state
  pub lock : refusal_to now lock_pages ≡ None → bytes_of_state (memory_after now lock_pages).state ≡ bytes_of_state now.state
  pub round : bytes_of_state (memory_after now next_round).state ≡ bytes_of_state now.state
  pub undo : (it : EditOf) → (memory_after (memory_after now (edit it)) undo).state ≡ now.state
  pub pages : ArePageLaws now
  pub packet : ArePacketLaws now
  pub among : (i : ℕ) → IsLockedPage now.state i → StandsAmong (bytes_at now.state i) (bytes_of_state now.state)

-- Of any two memories that a desk has one after the other, and of each for itself.
pub record ArePromised (memories : List Memory) : Type 0 where
  pub kept : (i j : ℕ) (earlier now : Memory) → i ≤ j → slice_get memories i ≡ Some earlier → slice_get memories j ≡ Some now → KeepsPromises earlier now

-- What each answer of a desk leaves: the memory is whole, its entries lead to one another by edits, and no locked label is lost.
pub record Follows (earlier now : Memory) : Type 0 where
  pub whole : IsWholeMemory now
  pub linked : AreLinked now
  pub lost : LosesNone earlier.state now.state

-- So it is for all commands that are accepted, one after another, from an opened state on, over any number of sessions, each of which opens
-- what the one before saved.
pub record IsPromised (state : State) : Type 0 where
  pub kept : (earlier now : Memory) → LeadsTo (opened_memory state) earlier → LeadsTo earlier now → KeepsPromises earlier now
