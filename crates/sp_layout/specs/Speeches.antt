-- The speech behind the part of a layout that an edit changes whose `(CONT'D)` comes or goes (docs/RULES.md, "Windows").
use Rattle.std.specs.Prelude.{◌≡◌, ℕ, ◌+◌, ◌<◌, ◌≤◌, Bool, true, false, if◌then◌else◌, List, [], ◌∷◌, length, take, drop, slice_get, slice_range, sum_by, Option, Some, None}
use Rattle.std.specs.List.{list_any}
use Rattle.spec_text.specs.Lines.{LineState, line_texts}
use Rattle.spec_script.specs.declared.Kind.{Kind}
use Rattle.spec_script.specs.declared.Kind.TheVariants as kinds
use Rattle.spec_script.specs.BlockValues.{BlockOf, StanzaOf}
use Rattle.spec_script.specs.Elements.{is_speech_kind}
use Rattle.spec_script.specs.Stanzas.{PlacedBlock, blocks_from}
use Rattle.spec_pages.specs.Rows.{Row, ElementOf, is_title}
use Rattle.spec_sheets.specs.Speakers.{cue_text, is_last_speaker, name_in}
use Rattle.spec_edit.specs.Windows.{stanza_lines_in}
use Rattle.spec_edit.specs.Settling.{block_settles, stanza_settles}
use Rattle.sp_layout.specs.Exchanges.{rows_at}
use Rattle.sp_layout.specs.Places.{ArePartedAt, CountsBefore}
use Rattle.sp_layout.specs.LaidOut.{layout_behind}
use Rattle.sp_layout.specs.Speaking.{SpeakersOf}
use Rattle.sp_layout.specs.declared.speeches.BlockPlace.{BlockPlace}
use Rattle.sp_layout.specs.Changes.{SpeechOf}

-- Who spoke last before a stanza, in the text before an edit and in that after it.
pub record LastOf : Type 0 where
  pub before : SpeakersOf
  pub after : SpeakersOf

-- The rows of a speech, and which block of the text it is.
pub record SaidOf : Type 0 where
  pub place : BlockPlace
  pub rows : List Row

-- Whether the first speech of blocks goes on, as far as names tell, behind a last speaker: no heading stands before it.
abbrev pub goes_by : Kind → Bool → Bool → Bool
goes_by kinds.Heading own later = false
goes_by kinds.Speech own later = own
goes_by _ own later = later

abbrev pub first_goes_on : List (List ℕ) → Option (List ℕ) → List PlacedBlock → Bool
first_goes_on texts last [] = false
first_goes_on texts last (placed ∷ blocks) = goes_by placed.block.kind (is_last_speaker last (name_in (cue_text texts placed))) (first_goes_on texts last blocks)

-- It goes on behind both who spoke last, or behind none.
abbrev pub GoesAlike : List LineState → LastOf → List PlacedBlock → Type 0
GoesAlike lines last blocks = first_goes_on (line_texts lines) last.before.last blocks ≡ first_goes_on (line_texts lines) last.after.last blocks

-- The first of these blocks is a speech.
abbrev pub Speaks : List PlacedBlock → Type 0
Speaks [] = ⊥
Speaks (placed ∷ blocks) = is_speech_kind placed.block.kind ≡ true

-- The blocks from a stanza on.
abbrev pub blocks_behind : List StanzaOf → ℕ → List PlacedBlock
blocks_behind stanzas place = blocks_from (stanza_lines_in (take place stanzas)) (drop place stanzas)

-- From a stanza on no speech comes before any heading.
abbrev pub SpeaksNone : List StanzaOf → ℕ → Type 0
SpeaksNone stanzas from = (texts : List (List ℕ)) (last : Option (List ℕ)) → first_goes_on texts last (blocks_behind stanzas from) ≡ false

-- The first heading or speech from a stanza on is this block.
pub record IsFirstSettling (stanzas : List StanzaOf) (from : ℕ) (place : BlockPlace) : Type 0 where
  pub low : from ≤ place.stanza
  pub stanza : StanzaOf
  pub there : slice_get stanzas place.stanza ≡ Some stanza
  pub quiet : list_any stanza_settles (slice_range stanzas from place.stanza) ≡ false
  pub block : BlockOf
  pub at : slice_get stanza.blocks place.block ≡ Some block
  pub none : list_any block_settles (take place.block stanza.blocks) ≡ false

-- The first heading or speech from a stanza on is this block, and it is a speech.
pub record IsFirstSpeech (stanzas : List StanzaOf) (from : ℕ) (place : BlockPlace) : Type 0 where
  pub is : IsFirstSettling stanzas from place
  pub says : is_speech_kind is.block.kind ≡ true

-- The speech has the rows that it has behind these speakers; the block behind it may stand beside it.
pub record IsSaid (lines : List LineState) (stanzas : List StanzaOf) (from : ℕ) (speakers : SpeakersOf) (said : SaidOf) : Type 0 where
  pub first : IsFirstSpeech stanzas from said.place
  pub rows : said.rows ≡ rows_at (layout_behind lines speakers (take 2 (drop said.place.block (blocks_behind stanzas said.place.stanza)))).body.elements 0

-- The first speech from a stanza on has other rows than before, or it goes on as before, by those who spoke last before that stanza.
abbrev pub IsSaidAnew : List LineState → List StanzaOf → ℕ → LastOf → Option SaidOf → Type 0
IsSaidAnew lines stanzas from last None = GoesAlike lines last (blocks_behind stanzas from)
IsSaidAnew lines stanzas from last (Some said) = IsSaid lines stanzas from last.after said

-- How many of these blocks don't stand on a title page.
abbrev pub body_blocks : List BlockOf → ℕ
body_blocks blocks = sum_by (λ (block : BlockOf). if is_title block.kind then 0 else 1) blocks

-- So many elements of a body stand before a block, none of which is joined with another in its stanza.
pub record IsSpeechElement (stanzas : List StanzaOf) (elements : List ElementOf) (place : BlockPlace) (element : ℕ) : Type 0 where
  pub stanza : StanzaOf
  pub there : slice_get stanzas place.stanza ≡ Some stanza
  pub count : ℕ
  pub before : CountsBefore elements (stanza_lines_in (take place.stanza stanzas)) count
  pub is : element ≡ count + body_blocks (take place.block stanza.blocks)

-- Which element it is can be told of elements that are parted where its stanza begins.
pub record CanStandAt (stanzas : List StanzaOf) (elements : List ElementOf) (place : BlockPlace) : Type 0 where
  pub inside : place.stanza < length stanzas
  pub block : (s : StanzaOf) → slice_get stanzas place.stanza ≡ Some s → place.block ≤ length s.blocks
  pub parted : ArePartedAt elements (stanza_lines_in (take place.stanza stanzas))

abbrev pub CanStandIn : List StanzaOf → List ElementOf → Option SaidOf → Type 0
CanStandIn stanzas elements None = Unit {0}
CanStandIn stanzas elements (Some said) = CanStandAt stanzas elements said.place

-- The rows of a block, and which element of a body it is.
pub record IsPlacedAt (stanzas : List StanzaOf) (elements : List ElementOf) (said : SaidOf) (speech : SpeechOf) : Type 0 where
  pub element : IsSpeechElement stanzas elements said.place speech.element
  pub rows : speech.rows ≡ said.rows

abbrev pub IsPlacedIn : List StanzaOf → List ElementOf → Option SaidOf → Option SpeechOf → Type 0
IsPlacedIn stanzas elements None None = Unit {0}
IsPlacedIn stanzas elements (Some said) (Some speech) = IsPlacedAt stanzas elements said speech
IsPlacedIn stanzas elements _ _ = ⊥
