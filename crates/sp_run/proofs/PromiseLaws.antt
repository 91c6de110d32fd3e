-- What is promised of the memories that accepted commands lead to.
use Rattle.std.proofs.Common.{◌≡◌, List, [], ◌∷◌, sym, ap, subst}
use Rattle.spec_text.specs.Edits.{EditOf, replacement_of}
use Rattle.spec_text.specs.Ranges.{range_of}
use Rattle.spec_wire.specs.Commands.{CommandOf, edit, undo}
use Rattle.spec_state.specs.State.{State}
use Rattle.spec_state.specs.Keeping.{IsWhole}
use Rattle.spec_machine.specs.Machine.{Memory, edited_memory, entry_of, memory_after, memory_behind, opened_memory, undone_to}
use Rattle.spec_machine.specs.KeptMemories.{IsWholeMemory}
use Rattle.spec_machine.specs.Sessions.{AcceptsAll, AcceptsSessions, LeadsTo, session_behind, sessions_behind}
use Rattle.spec_machine.proofs.MachineLaws.{all-stay, lost-on, opened-whole, steps-whole, steps-lost}
use Rattle.spec_machine.proofs.LabelLaw.{state-labelled}
use Rattle.spec_machine.proofs.DeskLaws.{locking-stays, beginning-stays}
use Rattle.spec_locked_pages.specs.Chains.{AreLinked}
use Rattle.spec_locked_pages.proofs.ChainLaws.{opened-linked, steps-linked}
use Rattle.spec_locked_pages.proofs.PageLaws.{page-laws}
use Rattle.spec_locked_pages.proofs.SheetParts.{bytes-among}
use Rattle.spec_packet.proofs.MemoryPackets.{packet-laws}
use Rattle.sp_desk.proofs.EntryLaws.{last-more}
use Rattle.sp_run.specs.Promises.{Follows, KeepsPromises, IsPromised}

-- An undo behind an edit gives back the whole state.
edit-undone : (memory : Memory) (it : EditOf) → (memory_after (memory_after memory (edit it)) undo).state ≡ memory.state
edit-undone memory it =
    let after = edited_memory memory (replacement_of memory.state.lines it) in
    ap (λ last. (undone_to after last).state) (last-more memory.done (entry_of memory.state (range_of (replacement_of memory.state.lines it))))

-- Of a memory that is whole and has come by edits.
pub follows-promised : (earlier now : Memory) → Follows earlier now → KeepsPromises earlier now
follows-promised earlier now it = record {
  whole = it.whole;
  linked = it.linked;
  labels = state-labelled now.state (it.whole).state;
  lost = it.lost;
  lock = locking-stays now (it.whole).state;
  round = beginning-stays now (it.whole).state;
  undo = edit-undone now;
  pages = page-laws now it.whole it.linked;
  packet = packet-laws now it.whole it.linked;
  among = bytes-among now.state;
}

pub follows-itself : (memory : Memory) → IsWholeMemory memory → AreLinked memory → Follows memory memory
follows-itself memory whole linked = record { whole = whole; linked = linked; lost = all-stay memory.state }

pub follows-on : (earlier memory now : Memory) → Follows earlier memory → Follows memory now → Follows earlier now
follows-on earlier memory now first second = record { whole = second.whole; linked = second.linked; lost = lost-on earlier.state memory.state now.state first.lost second.lost }

commands-follow : (earlier : Memory) (later : List CommandOf) → IsWholeMemory earlier → AreLinked earlier → AcceptsAll earlier later → Follows earlier (memory_behind earlier later)
commands-follow earlier later whole linked can =
    record { whole = steps-whole earlier later whole can; linked = steps-linked earlier later linked can; lost = steps-lost earlier later whole can }

-- A session follows the memory whose state it opens, and so do sessions one after another.
session-follows : (earlier : Memory) (commands : List CommandOf) → IsWholeMemory earlier → AcceptsAll (opened_memory earlier.state) commands → Follows earlier (session_behind earlier commands)
session-follows earlier commands whole can =
    let opened = opened_memory earlier.state in
    let are = commands-follow opened commands (opened-whole earlier.state whole.state) (opened-linked earlier.state) can in
    record { whole = are.whole; linked = are.linked; lost = are.lost }

sessions-follow : (earlier : Memory) (sessions : List (List CommandOf)) → IsWholeMemory earlier → AreLinked earlier → AcceptsSessions earlier sessions → Follows earlier (sessions_behind earlier sessions)
sessions-follow earlier [] whole linked can = follows-itself earlier whole linked
sessions-follow earlier (commands ∷ later) whole linked can =
    let now = session_behind earlier commands in
    let here = session-follows earlier commands whole can.0 in
    follows-on earlier now (sessions_behind now later) here (sessions-follow now later here.whole here.linked can.1)

leads-follow : (earlier now : Memory) → IsWholeMemory earlier → AreLinked earlier → LeadsTo earlier now → Follows earlier now
leads-follow earlier now whole linked lead =
    let memory = memory_behind earlier lead.commands in
    let here = commands-follow earlier lead.commands whole linked lead.taken in
    subst (Follows earlier) (sym lead.is)
    (follows-on earlier memory (sessions_behind memory lead.sessions) here (sessions-follow memory lead.sessions here.whole here.linked lead.accepted))

pub promises_kept : (state : State) → IsWhole state → IsPromised state
promises_kept state whole = record {
  kept = λ earlier now first later.
      let are = leads-follow (opened_memory state) earlier (opened-whole state whole) (opened-linked state) first in
      follows-promised earlier now (leads-follow earlier now are.whole are.linked later);
}
