-- Blocks next to one another, in stanzas (docs/RULES.md, "Elements" and "Windows").
use Rattle.std.specs.Prelude.{ℕ, ◌+◌, ◌-◌, Bool, true, false, not, ◌&&◌, ◌||◌, List, [], ◌∷◌, length, take, drop, slice_get, Option, Some, None}
use Rattle.spec_script.specs.BlockValues.{BlockOf, StanzaOf}
use Rattle.spec_script.specs.Elements.{is_speech_kind}

-- Two blocks, where both are there, are dual dialogue as neighbours.
abbrev pub are_dual : Option BlockOf → Option BlockOf → Bool
are_dual (Some left) (Some right) = is_speech_kind left.kind && not left.caret && is_speech_kind right.kind && right.caret
are_dual _ _ = false

abbrev pub is_there : Option BlockOf → Bool
is_there None = false
is_there (Some block) = true

-- A block, or where there is none another.
abbrev pub nearer : Option BlockOf → Option BlockOf → Option BlockOf
nearer None other = other
nearer (Some block) other = Some block

-- The first and the last block of a stanza.
abbrev pub first_one : StanzaOf → Option BlockOf
first_one stanza = slice_get stanza.blocks 0

abbrev pub last_one : StanzaOf → Option BlockOf
last_one stanza = slice_get stanza.blocks (length stanza.blocks - 1)

-- The first and the last block of stanzas, some of which may have none.
abbrev pub first_in : List StanzaOf → Option BlockOf
first_in [] = None
first_in (stanza ∷ stanzas) = nearer (first_one stanza) (first_in stanzas)

abbrev pub last_in : List StanzaOf → Option BlockOf
last_in [] = None
last_in (stanza ∷ stanzas) = nearer (last_in stanzas) (last_one stanza)

-- The last block before a window is relaid, by the first block of the old window, that of the new one, and the first behind it.
abbrev pub relays_front : Option BlockOf → Option BlockOf → Option BlockOf → Option BlockOf → Bool
relays_front front gone come rest = (is_there gone || is_there come) && (are_dual front (nearer gone rest) || are_dual front (nearer come rest))

-- The first block behind a window is a pair with the last block before it in the old text, and not with that in the new text.
abbrev pub parts_rest : Option BlockOf → Option BlockOf → Option BlockOf → Bool
parts_rest old new rest = are_dual old rest && not (are_dual new rest)

-- The stanzas of a new text of which the first `at` stand before a window and the next so many in it, with those that stood in
-- it: whether the last block before the window is relaid,
abbrev pub relays_before : List StanzaOf → ℕ → ℕ → List StanzaOf → Bool
relays_before stanzas at stands gone =
    relays_front (last_in (take at stanzas)) (first_in gone) (first_in (take stands (drop at stanzas))) (first_in (drop (at + stands) stanzas))

-- and whether the first block behind it left a pair with one before it.
abbrev pub parts_behind : List StanzaOf → ℕ → ℕ → List StanzaOf → Bool
parts_behind stanzas at stands gone =
    parts_rest (nearer (last_in gone) (last_in (take at stanzas))) (last_in (take (at + stands) stanzas)) (first_in (drop (at + stands) stanzas))
