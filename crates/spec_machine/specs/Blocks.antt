-- The blocks of a text as replies tell them (docs/RULES.md, "Replies").
use Rattle.std.specs.Prelude.{ℕ, ◌+◌, Bool, true, false, if◌then◌else◌, List, ◌∷◌, map, codes, Option, Some, None}
use Rattle.std.specs.List.{flat_map}
use Rattle.spec_script.specs.declared.Kind.{Kind}
use Rattle.spec_script.specs.declared.Kind.TheVariants as kinds
use Rattle.spec_script.specs.LongestRuns.{Group}
use Rattle.spec_script.specs.Stanzas.{PlacedBlock}
use Rattle.spec_script.specs.Elements.{elements_of}
use Rattle.spec_sheets.specs.Speakers.{visible_text}
use Rattle.spec_state.specs.Headings.{is_numbered, number_text}
use Rattle.spec_wire.specs.Replies.{BlockReplyOf}

abbrev pub kind_name : Kind → List ℕ
kind_name kinds.Heading = codes "heading"
kind_name kinds.Action = codes "action"
kind_name kinds.Speech = codes "speech"
kind_name kinds.Lyric = codes "lyric"
kind_name kinds.Transition = codes "transition"
kind_name kinds.Centred = codes "centred"
kind_name kinds.PageBreak = codes "page_break"
kind_name kinds.Section = codes "section"
kind_name kinds.Synopsis = codes "synopsis"
kind_name kinds.Title = codes "title"

-- The number that is written in a block's line.
abbrev pub written_number : List (List ℕ) → PlacedBlock → Option (List ℕ)
written_number texts placed = if is_numbered placed then Some (number_text texts placed) else None

-- A block, and whether it is the second speech of a pair.
abbrev pub block_reply : List (List ℕ) → Bool → PlacedBlock → BlockReplyOf
block_reply texts dual placed = record {
  kind = kind_name placed.block.kind;
  first = placed.first + placed.block.first;
  last = placed.first + placed.block.last;
  dual = dual;
  number = written_number texts placed;
  lines = map (visible_text texts placed.first) placed.block.lines;
}

abbrev pub element_replies : List (List ℕ) → Group PlacedBlock → List BlockReplyOf
element_replies texts element = block_reply texts false element.first ∷ map (block_reply texts true) element.more

-- The blocks of a text, in order.
abbrev pub block_replies : List (List ℕ) → List BlockReplyOf
block_replies texts = flat_map (element_replies texts) (elements_of texts)
