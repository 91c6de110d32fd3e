-- The packet of a memory of a desk brings the sheets of an open state up to date that leads to it.
use Rattle.std.proofs.Common.{◌≡◌, true, Option, Some, None, List, [], ◌∷◌, ◌++◌, refl, sym, ap, subst, ◌∙◌, arith}
use Rattle.std.specs.Prelude.{is_some}
use Rattle.spec_labels.specs.PageRecords.{PageRecordOf}
use Rattle.spec_state.specs.State.{State}
use Rattle.spec_state.specs.Keeping.{IsWhole}
use Rattle.spec_state.proofs.StateLaws.{state-AreKeptPages}
use Rattle.spec_packet.specs.BytesCollated.{collated_bytes, collating}
use Rattle.spec_state.specs.Openings.{pages_extended}
use Rattle.spec_wire.specs.Commands.{CommandOf, lock_pages, next_round}
use Rattle.spec_machine.specs.Machine.{EntryOf, Memory, memory_after}
use Rattle.spec_machine.specs.Refusals.{refusal_to}
use Rattle.spec_machine.specs.KeptMemories.{IsWholeMemory}
use Rattle.spec_machine.specs.Sessions.{session_entries, sessions_behind}
use Rattle.spec_machine.proofs.RefusalLaws.{free-pages, free-round}
use Rattle.spec_machine.proofs.WholeStates.{lock_pages-whole, round-whole}
use Rattle.spec_locked_pages.specs.Chains.{AreLinked, LeadTo, GoOn, IsOpened, eldest, first_state}
use Rattle.spec_locked_pages.proofs.ChainLaws.{first-join, lead-join}
use Rattle.spec_locked_pages.proofs.OpeningLaws.{go-lead, lock-opened, round-opened}
use Rattle.spec_locked_pages.proofs.StateStarts.{SomeRecords}
use Rattle.spec_packet.specs.PacketPromises.{ArePacketLaws, HasOpenPages}
use Rattle.spec_packet.specs.StatePackets.{laid_of, title_bytes, packet_bytes, BringsUp}
use Rattle.spec_packet.proofs.EditRecords.{Chained, entries-chained}
use Rattle.spec_packet.proofs.PrintedLaws.{packet-bytes}
use Rattle.spec_packet.proofs.StatePrinted.{state-printed, state-rising, state-bytes}
use Rattle.spec_packet.proofs.StateUnchanged.{state-unchanged}

locked-records : (state : State) → IsWhole state → is_some state.pages ≡ true → SomeRecords state
locked-records state whole locked = by state.pages refl locked
  where
    by : (pages : Option (List PageRecordOf)) → state.pages ≡ pages → is_some pages ≡ true → SomeRecords state
    by None is locked = absurd (let no_way : ⊥ = cc in no_way)
    by (Some []) is locked = (let few = (state-AreKeptPages state [] whole is).some in absurd (omega (arith, few)))
    by (Some (it ∷ records)) is locked = record { first = it; later = records; are = is }

chain-brings : (opened now : State) → IsWhole opened → IsWhole now → is_some opened.pages ≡ true → IsOpened opened → Chained opened now → BringsUp opened now
chain-brings opened now was_whole whole locked pages_open chain =
    let was_some = locked-records opened was_whole locked in
    let some = locked-records now whole chain.locked in
    let law = packet-bytes now.round (title_bytes opened) (title_bytes now) (laid_of opened) (laid_of now) (state-unchanged opened now was_whole whole was_some some pages_open chain)
    (state-rising opened was_whole was_some) (state-rising now whole some) (state-printed opened was_whole was_some) (state-printed now whole some) in
    record { collates = ap (λ bytes. collating bytes (packet_bytes now)) (state-bytes opened locked) ∙ law ∙ ap collated_bytes (sym (state-bytes now chain.locked)) }

-- Where entries lead from an open state to another, its sheets, collated with the packet of the other, are the sheets of that.
pub entries-bring : (entries : List EntryOf) (now : State) → HasOpenPages (first_state entries now) → IsWhole now → LeadTo entries now → BringsUp (first_state entries now) now
entries-bring entries now begun whole lead =
    chain-brings (first_state entries now) now begun.whole whole begun.locked begun.opened (entries-chained entries now begun.locked lead)

-- So do those of a memory with earlier ones before them.
pub packet-brings : (memory : Memory) (earlier : List EntryOf) → IsWholeMemory memory → AreLinked memory → LeadTo earlier (eldest memory) → HasOpenPages (first_state earlier (eldest memory))
    → BringsUp (first_state earlier (eldest memory)) memory.state
packet-brings memory earlier whole linked lead begun =
    let first = first-join earlier memory.done memory.state in
    subst (λ (s : State). BringsUp s memory.state) first
    (entries-bring (earlier ++ memory.done) memory.state (subst HasOpenPages (sym first) begun) whole.state (lead-join earlier memory.done memory.state lead linked.done))

-- And those of sessions.
pub sessions-bring : (memory : Memory) (sessions : List (List CommandOf)) → HasOpenPages memory.state → GoOn memory sessions → BringsUp memory.state (sessions_behind memory sessions).state
sessions-bring memory sessions begun go =
    let lead = go-lead memory sessions begun.whole go in
    subst (λ (s : State). BringsUp s (sessions_behind memory sessions).state) lead.first
    (entries-bring (session_entries memory sessions) (sessions_behind memory sessions).state (subst HasOpenPages (sym lead.first) begun) lead.whole lead.leads)

-- What a lock of pages leaves is open, and what a round on locked pages leaves.
pub lock-open : (memory : Memory) → IsWholeMemory memory → refusal_to memory lock_pages ≡ None → HasOpenPages (memory_after memory lock_pages).state
lock-open memory whole free =
    let can = free-pages memory.state free in
    record { whole = lock_pages-whole memory.state whole.state can; locked = refl; opened = lock-opened memory.state whole.state can }

pub round-open : (memory : Memory) → IsWholeMemory memory → is_some memory.state.pages ≡ true → refusal_to memory next_round ≡ None → HasOpenPages (memory_after memory next_round).state
round-open memory whole locked free = record {
  whole = round-whole memory.state whole.state (free-round memory.state free);
  locked = by memory.state.pages locked;
  opened = round-opened memory.state whole.state (free-round memory.state free);
}
  where
    by : (pages : Option (List PageRecordOf)) → is_some pages ≡ true → is_some (pages_extended memory.state pages) ≡ true
    by None is = is
    by (Some records) is = refl

pub packet-laws : (memory : Memory) → IsWholeMemory memory → AreLinked memory → ArePacketLaws memory
packet-laws memory whole linked = record {
  lock = λ free. lock-opened memory.state whole.state (free-pages memory.state free);
  round = λ free. round-opened memory.state whole.state (free-round memory.state free);
  packet = λ earlier lead begun. packet-brings memory earlier whole linked lead begun;
  since_lock = λ sessions free go. sessions-bring (memory_after memory lock_pages) sessions (lock-open memory whole free) go;
  since_round = λ sessions locked free go. sessions-bring (memory_after memory next_round) sessions (round-open memory whole locked free) go;
}
