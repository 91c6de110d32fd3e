-- A text with page records, printed: its title sheets and its sheets with labels (docs/RULES.md, "Packets").
use Rattle.std.specs.Prelude.{◌≡◌, ℕ, ◌≤◌, List, Some, None}
use Rattle.spec_labels.specs.PageRecords.{SheetOf}
use Rattle.spec_sheets.specs.RowBytes.{ShownRow}
use Rattle.spec_sheets.specs.Sheets.{Sheet, sheet_bytes}
use Rattle.spec_packet.specs.SheetLists.{SheetListOf, IsIn}
use Rattle.spec_packet.specs.Pieces.{IsPlain, IsReadable}
use Rattle.spec_packet.specs.Collations.{packet_of}
use Rattle.spec_packet.specs.Packets.{LaidOf, laid_sheets, laid_printed, laid_choices}

-- A sheet with labels as a printed page.
abbrev pub page_of : SheetOf → List ShownRow → Sheet
page_of sheet rows = record { label = Some (record { first = sheet.first; last = sheet.last }); round = sheet.round; rows = rows }

-- What is printed of a sheet: rows without a form feed below a header that can be read again.
pub record Prints (laid : LaidOf) (sheet : SheetOf) : Type 0 where
  pub rows : List ShownRow
  pub is : laid.print sheet ≡ sheet_bytes (page_of sheet rows)
  pub plain : IsPlain rows
  pub round : sheet.round ≤ 99
  pub first : IsReadable sheet.first
  pub last : IsReadable sheet.last

-- A title sheet, printed.
pub record PrintsTitle (bytes : List ℕ) : Type 0 where
  pub rows : List ShownRow
  pub round : ℕ
  pub is : bytes ≡ sheet_bytes (record { label = None; round = round; rows = rows })
  pub plain : IsPlain rows
  pub low : round ≤ 99

-- A text, printed: all its sheets.
abbrev pub printed_text : List (List ℕ) → LaidOf → SheetListOf
printed_text titles laid = record { titles = titles; labelled = laid_printed laid }

-- Its packet, printed: all title sheets, and the sheets that are handed out.
abbrev pub printed_packet : ℕ → List (List ℕ) → LaidOf → SheetListOf
printed_packet round titles laid = record { titles = titles; labelled = packet_of (laid_choices round laid) }

-- Every sheet of a text is printed so.
pub record IsPrinted (titles : List (List ℕ)) (laid : LaidOf) : Type 0 where
  pub titles_are : (bytes : List ℕ) → IsIn bytes titles → PrintsTitle bytes
  pub sheets_are : (sheet : SheetOf) → IsIn sheet (laid_sheets laid) → Prints laid sheet
