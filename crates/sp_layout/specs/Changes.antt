-- What an edit changes of a layout that is kept (docs/RULES.md, "Windows").
use Rattle.std.specs.Prelude.{◌≡◌, ℕ, ◌+◌, ◌-◌, ◌<◌, ◌≤◌, ◌^◌, List, length, Option, Some, None}
use Rattle.spec_pages.specs.Rows.{Row}
use Rattle.sp_layout.specs.Exchanges.{AreRowsAlike, rows_at, with_rows}
use Rattle.sp_layout.specs.LaidOut.{LayoutOf}
use Rattle.sp_layout.specs.Kept.{CanSwap, HasPartRoom, KeptOf, PartOf, laid_of, with_part}

-- The rows of a speech, and which of the body's elements it is.
pub record SpeechOf : Type 0 where
  pub element : ℕ
  pub rows : List Row

-- A part of a layout, and the speech behind it whose `(CONT'D)` comes or goes.
pub record ChangeOf : Type 0 where
  pub speech : Option SpeechOf
  pub part : PartOf

-- The layout with the speech's rows where it stands.
abbrev pub with_speech : LayoutOf → Option SpeechOf → LayoutOf
with_speech layout None = layout
with_speech layout (Some speech) = record { titles = layout.titles; body = with_rows layout.body speech.element speech.rows; breaks = layout.breaks }

-- The rows that stood there.
abbrev pub speech_back : LayoutOf → Option SpeechOf → Option SpeechOf
speech_back layout None = None
speech_back layout (Some speech) = Some (record { element = speech.element; rows = rows_at layout.body.elements speech.element })

-- The layout with the speech's rows where it stands, and then with the part in the place of what stood there.
abbrev pub with_change : LayoutOf → ChangeOf → LayoutOf
with_change layout change = with_part (with_speech layout change.speech) change.part.places (laid_of change.part.kept)

-- The speech stands from an element on, and its rows are alike to those that stand there.
pub record IsSpeechIn (layout : LayoutOf) (to : ℕ) (speech : SpeechOf) : Type 0 where
  pub behind : to ≤ speech.element
  pub inside : speech.element < length layout.body.elements
  pub alike : AreRowsAlike speech.rows (rows_at layout.body.elements speech.element)

abbrev pub CanSpeak : LayoutOf → ℕ → Option SpeechOf → Type 0
CanSpeak layout to None = Unit {0}
CanSpeak layout to (Some speech) = IsSpeechIn layout to speech

-- The change can be made: the speech stands behind the part.
pub record CanChange (layout : LayoutOf) (change : ChangeOf) : Type 0 where
  pub part : CanSwap layout change.part.places (laid_of change.part.kept)
  pub speech : CanSpeak layout change.part.places.to change.speech

-- There is room for it, and for what stands there.
abbrev pub HasChangeRoom : KeptOf → ChangeOf → Type 0
HasChangeRoom kept change = HasPartRoom kept change.part.places change.part.kept

-- The change is the same but for room.
pub record IsSameChange (one other : ChangeOf) : Type 0 where
  pub speech : one.speech ≡ other.speech
  pub places : one.part.places ≡ other.part.places
  pub layout : laid_of one.part.kept ≡ laid_of other.part.kept

-- The speech stands behind a part that ended before one element and ends before another.
abbrev pub SpeaksBehind : ℕ → Option SpeechOf → Type 0
SpeaksBehind was None = Unit {0}
SpeaksBehind was (Some speech) = was ≤ speech.element

abbrev pub CanMoveSpeech : ℕ → ℕ → Option SpeechOf → Type 0
CanMoveSpeech was end None = Unit {0}
CanMoveSpeech was end (Some speech) = end + (speech.element - was) < 2 ^ 64

abbrev pub moved_speech : ℕ → ℕ → Option SpeechOf → Option SpeechOf
moved_speech was end None = None
moved_speech was end (Some speech) = Some (record { element = end + (speech.element - was); rows = speech.rows })

-- All room stays.
pub record KeepsAllRoom (old new : KeptOf) : Type 0 where
  pub titles : old.titles ≡ new.titles
  pub room : new.body.room ≡ old.body.room
  pub row_room : new.body.row_room ≡ old.body.row_room
  pub breaks : new.break_room ≡ old.break_room
