-- Which blocks are the second speech of a pair, told block by block.
use Rattle.std.specs.Prelude.{Bool, ◌&&◌, not}
use Rattle.spec_script.specs.Stanzas.{PlacedBlock}
use Rattle.spec_script.specs.Elements.{is_speech_kind}

-- A block may be the first of a pair, and it is the second of one, by whether the block before it may be the first.
abbrev pub opens_pair : PlacedBlock → Bool
opens_pair placed = is_speech_kind placed.block.kind && not placed.block.caret

abbrev pub is_second : Bool → PlacedBlock → Bool
is_second opened placed = opened && is_speech_kind placed.block.kind && placed.block.caret
