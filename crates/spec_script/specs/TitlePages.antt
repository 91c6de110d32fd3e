-- Title pages (docs/RULES.md, "Title page").
use Rattle.std.specs.Prelude.{◌≡◌, Bool, true, not, nat_lt, List, [], ◌∷◌, ◌++◌, map, flat_map, if◌then◌else◌}
use Rattle.spec_text.specs.Parts.{SpanOf}
use Rattle.spec_script.specs.declared.Kind.TheVariants as kinds
use Rattle.spec_script.specs.declared.Part.{Part}
use Rattle.spec_script.specs.declared.Part.TheVariants as parts
use Rattle.spec_script.specs.LongestRuns.{Group, members, AreRuns}
use Rattle.spec_script.specs.Title.{has_key, opens_centred, value_cut}
use Rattle.spec_script.specs.Visible.{line_runs, window, clip_spans}
use Rattle.spec_script.specs.BlockValues.{LineOf, BlockOf}
use Rattle.spec_script.specs.Left.{Left, line_of, last_place, block_of}

-- The next line belongs to the same key.
abbrev pub one_key : Left → Left → Bool
one_key a b = not (has_key b.text)

-- What a line of a title page is.
abbrev pub title_part : Bool → Part
title_part centred = if centred then parts.TitleCentred else parts.TitleLeft

-- The parts of the line that its value is made of.
abbrev pub value_parts : Left → List SpanOf
value_parts line = clip_spans (window line.spans (value_cut line.text)) line.spans

-- The line with its value, which is read as a line of its own: no mark of the key has a say in it.
abbrev pub value_line : Left → Part → LineOf
value_line line part = record (line_of line part (value_cut line.text)) { runs = line_runs line.line (value_parts line) }

-- The line's value, if it has one.
abbrev pub value_of : Bool → Left → List LineOf
value_of centred line =
    if nat_lt (value_cut line.text).from (value_cut line.text).to then value_line line (title_part centred) ∷ [] else []

-- The values of a key: its own, and those of the lines until the next key.
abbrev pub values_of : Group Left → List LineOf
values_of group = flat_map (value_of (opens_centred group.first.text)) (members group)

-- The values of a key after the first that has one: its first value opens.
abbrev pub opened : List LineOf → List LineOf
opened [] = []
opened (line ∷ lines) = record line { opens = true } ∷ lines

-- The values of all keys.
abbrev pub title_lines : List (List LineOf) → List LineOf
title_lines [] = []
title_lines ([] ∷ keys) = title_lines keys
title_lines ((line ∷ lines) ∷ keys) = (line ∷ lines) ++ flat_map opened keys

-- The title block of a stanza whose keys these are.
abbrev pub title_of : Left → List Left → List (Group Left) → BlockOf
title_of line more keys = record (block_of kinds.Title line (title_lines (map values_of keys))) {
  last = last_place line more;
}

-- The whole stanza is one title block; a key reaches to before the next.
pub record IsTitle (line : Left) (more : List Left) (blocks : List BlockOf) : Type 0 where
  pub keys : List (Group Left)
  pub runs : AreRuns one_key (line ∷ more) keys
  pub made : blocks ≡ title_of line more keys ∷ []
