-- Why there is no packet (docs/RULES.md, "Packets").
use Rattle.std.specs.Prelude.{◌≡◌, None}
use Rattle.spec_state.specs.State.{State}
use Rattle.sp_packet.specs.declared.handing.PacketFault.{PacketFault}
use Rattle.sp_packet.specs.declared.handing.PacketFault.TheVariants as faults

-- Pages aren't locked, or there was no memory.
abbrev pub HasNoPacket : State → PacketFault → Type 0
HasNoPacket state faults.PagesNotLocked = state.pages ≡ None
HasNoPacket state faults.NoMemory = Unit {0}
