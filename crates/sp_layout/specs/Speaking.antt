-- Who spoke last (docs/RULES.md, "Elements").
use Rattle.std.specs.Prelude.{◌≡◌, ℕ, ◌<◌, Bool, if◌then◌else◌, List, length, fold, slice_index_or, Option, Some, None}
use Rattle.spec_script.specs.Stanzas.{PlacedBlock}
use Rattle.spec_sheets.specs.Speakers.{cue_text, name_in, speaker_after}

-- Whether speakers who go on are told, and who spoke last.
pub record SpeakersOf : Type 0 where
  pub on : Bool
  pub last : Option (List ℕ)

-- At the beginning of a text.
abbrev pub speakers_before : Bool → SpeakersOf
speakers_before on = record { on = on; last = None }

-- Behind a block. Where none are told, it isn't asked who spoke.
abbrev pub speakers_behind : List (List ℕ) → SpeakersOf → PlacedBlock → SpeakersOf
speakers_behind texts it placed = if it.on then record it { last = speaker_after texts it.last placed } else it

-- The last speaker of these blocks.
abbrev pub last_speaker : List (List ℕ) → List PlacedBlock → Option (List ℕ)
last_speaker texts blocks = fold (speaker_after texts) None blocks

-- The last speaker of these blocks is that of the speech at a place, in whatever text they stand.
pub record SpeaksLast (blocks : List PlacedBlock) (place : ℕ) : Type 0 where
  pub inside : place < length blocks
  pub is : (texts : List (List ℕ)) (d : PlacedBlock) → last_speaker texts blocks ≡ Some (name_in (cue_text texts (slice_index_or blocks place d)))

-- Behind these blocks, from the first of a text on.
abbrev pub speakers_after : List (List ℕ) → Bool → List PlacedBlock → SpeakersOf
speakers_after texts on blocks = record { on = on; last = if on then last_speaker texts blocks else None }
