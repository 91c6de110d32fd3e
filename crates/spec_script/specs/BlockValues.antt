-- Blocks and their lines, as lists and numbers (docs/RULES.md, "Blocks").
use Rattle.std.specs.Prelude.{ℕ, Bool, List}
use Rattle.spec_text.specs.Parts.{SpanOf}
use Rattle.spec_script.specs.declared.Kind.{Kind}
use Rattle.spec_script.specs.declared.Part.{Part}
use Rattle.spec_script.specs.declared.Run.{Run}

-- A line of a block, by its place in the stanza: what it is, whether it is the first value of a later key, and its runs.
pub record LineOf : Type 0 where
  pub offset : ℕ
  pub part : Part
  pub opens : Bool
  pub runs : List Run

-- A block: its kind, the places of its first and its last line in the stanza, a section's depth, whether a speech's
-- cue ends in `^`, a heading's written number, and its lines.
pub record BlockOf : Type 0 where
  pub kind : Kind
  pub first : ℕ
  pub last : ℕ
  pub depth : ℕ
  pub caret : Bool
  pub number : List SpanOf
  pub lines : List LineOf

-- A stanza: how many lines it has, and its blocks.
pub record StanzaOf : Type 0 where
  pub lines : ℕ
  pub blocks : List BlockOf
