-- The blocks and stanzas behind which it doesn't matter who spoke before them (docs/RULES.md, "Windows").
use Rattle.std.specs.Prelude.{◌≡◌, ◌⊎◌, ℕ, ◌+◌, ◌-◌, ◌<◌, ◌≤◌, Bool, true, false, List, length, slice_range}
use Rattle.std.specs.List.{list_any}
use Rattle.spec_script.specs.declared.Kind.{Kind}
use Rattle.spec_script.specs.declared.Kind.TheVariants as kinds
use Rattle.spec_script.specs.BlockValues.{BlockOf, StanzaOf}

-- Behind a block of such a kind, and a stanza with such a block, it doesn't matter who spoke before: it settles who spoke.
abbrev pub settles_kind : Kind → Bool
settles_kind kinds.Heading = true
settles_kind kinds.Speech = true
settles_kind _ = false

abbrev pub block_settles : BlockOf → Bool
block_settles block = settles_kind block.kind

abbrev pub stanza_settles : StanzaOf → Bool
stanza_settles stanza = list_any block_settles stanza.blocks

-- The place behind the last stanza before `to` that settles who spoke, or 0.
pub record IsSettledBefore (stanzas : List StanzaOf) (to place : ℕ) : Type 0 where
  pub within : place ≤ to
  pub settles : (place ≡ 0) ⊎ (list_any stanza_settles (slice_range stanzas (place - 1) place) ≡ true)
  pub last : list_any stanza_settles (slice_range stanzas place to) ≡ false

-- The first stanza from a place on that settles who spoke.
pub record IsNextSettling (stanzas : List StanzaOf) (from place : ℕ) : Type 0 where
  pub behind : from ≤ place
  pub within : place < length stanzas
  pub settles : list_any stanza_settles (slice_range stanzas place (place + 1)) ≡ true
  pub first : list_any stanza_settles (slice_range stanzas from place) ≡ false
