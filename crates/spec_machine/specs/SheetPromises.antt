-- What is promised of sheets (docs/RULES.md, "Page records").
use Rattle.std.specs.Prelude.{◌≡◌}
use Rattle.spec_state.specs.StateSheets.{bytes_of_state}
use Rattle.spec_wire.specs.Commands.{CommandOf, lock_pages, next_round}
use Rattle.spec_machine.specs.Machine.{Memory}

-- A lock of pages and a new round leave the bytes of every sheet as they were.
abbrev pub KeepsSheets : CommandOf → Memory → Memory → Type 0
KeepsSheets lock_pages old new = bytes_of_state new.state ≡ bytes_of_state old.state
KeepsSheets next_round old new = bytes_of_state new.state ≡ bytes_of_state old.state
KeepsSheets _ old new = Unit {0}
