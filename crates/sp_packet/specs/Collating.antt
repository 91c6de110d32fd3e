-- What the calls answer (docs/RULES.md, "Collation").
use Rattle.std.specs.Prelude.{◌≡◌, ℕ, List}
use Rattle.spec_packet.specs.SheetLists.{SheetListOf}
use Rattle.spec_packet.specs.SheetReadings.{broken, sheets_in}
use Rattle.spec_packet.specs.BytesCollated.{Collating, bad_sheets}
use Rattle.sp_packet.specs.declared.fault.CollateFault.{CollateFault}
use Rattle.sp_packet.specs.declared.fault.CollateFault.TheVariants.{BadSheets, NoMemory}
use Rattle.sp_packet.specs.declared.sheets.SheetFault.{SheetFault}
use Rattle.sp_packet.specs.declared.sheets.SheetFault.TheVariants as faults
use Rattle.sp_packet.specs.Reading.{Breaks}

-- Why a piece was not added: it is no next sheet, or there was no memory.
abbrev pub IsNotAdded : SheetListOf → List ℕ → SheetFault → Type 0
IsNotAdded list piece faults.NoSheet = Breaks list piece
IsNotAdded list piece faults.NoMemory = Unit {0}

-- Why a file was not read: its first sheet that breaks it, or there was no memory.
abbrev pub IsNotRead : ℕ → List ℕ → CollateFault → Type 0
IsNotRead file bytes (BadSheets bad place) = (bad ≡ file) × (sheets_in bytes ≡ broken place)
IsNotRead file bytes NoMemory = Unit {0}

-- Why two files were not collated.
abbrev pub IsNotCollated : Collating → CollateFault → Type 0
IsNotCollated fate (BadSheets file place) = fate ≡ bad_sheets file place
IsNotCollated fate NoMemory = Unit {0}

-- The fault of a file at a sheet.
abbrev pub fault_of : SheetFault → ℕ → ℕ → CollateFault
fault_of faults.NoSheet file place = BadSheets file place
fault_of faults.NoMemory file place = NoMemory
