-- What a run wrote of a script, by relations (docs/RULES.md, "The program").
use Rattle.std.specs.Prelude.{◌≡◌, ℕ, List}
use Rattle.std.specs.Io.KnownBytes.{Appends}
use Rattle.spec_text.specs.Lines.{line_texts}
use Rattle.spec_script.specs.Stanzas.{PlacedBlock, blocks_of}
use Rattle.spec_script.specs.TextBlocks.{AreTextBlocks}
use Rattle.spec_sheets.specs.Sheets.{Sheet}
use Rattle.spec_state.specs.State.{State}
use Rattle.spec_state.specs.RelatedSheets.{AreSheetsOf}
use Rattle.sp_run.specs.Unopened.{Outside}

-- There are sheets of the state, in one way only, and what was written are these bytes of them.
pub record WroteSheets (state : State) (bytes : List Sheet → List ℕ) (old new : Outside) : Type 0 where
  pub sheets : List Sheet
  pub are : AreSheetsOf state sheets
  pub only : (others : List Sheet) → AreSheetsOf state others → others ≡ sheets
  pub wrote : Appends old.sink.taken new.sink.taken (bytes sheets)

-- There are blocks of the state's text, in one way only, and they are those that all its views show.
pub record HasBlocks (state : State) : Type 0 where
  pub are : AreTextBlocks (line_texts state.lines) (blocks_of (line_texts state.lines))
  pub only : (others : List PlacedBlock) → AreTextBlocks (line_texts state.lines) others → others ≡ blocks_of (line_texts state.lines)
