-- Speeches (docs/RULES.md, "Blocks").
use Rattle.std.specs.Prelude.{ℕ, Bool, ◌&&◌, ◌||◌, nat_lt, List, ◌∷◌, length, map, drop, if◌then◌else◌}
use Rattle.spec_script.specs.declared.Kind.TheVariants as kinds
use Rattle.spec_script.specs.declared.Part.TheVariants as parts
use Rattle.spec_script.specs.Trim.{trim_all}
use Rattle.spec_script.specs.Letters.{begins, ends}
use Rattle.spec_script.specs.Forms.{is_natural_cue, is_forced_cue, is_parenthetical}
use Rattle.spec_script.specs.BlockValues.{LineOf, BlockOf}
use Rattle.spec_script.specs.Left.{Left, trimmed, inner, line_of, last_place, block_of}

-- The first line makes the stanza a speech: a forced cue does, and a natural cue does where another line is left.
abbrev pub is_speech : Left → List Left → Bool
is_speech line more = is_forced_cue (trimmed line) || (nat_lt 0 (length more) && is_natural_cue (trimmed line))

-- How many bytes of a cue force it.
abbrev pub cue_skip : Left → ℕ
cue_skip line = if is_forced_cue (trimmed line) then 1 else 0

-- The cue ends in `^`.
abbrev pub has_caret : Left → Bool
has_caret line = ends 94 (drop (cue_skip line) (trimmed line))

-- The cue, without the `@` that forces it and without a `^` at its end.
abbrev pub cue_line : Left → LineOf
cue_line line = line_of line parts.Cue (inner line (cue_skip line) (if has_caret line then 1 else 0))

-- A line after the cue.
abbrev pub spoken : Left → LineOf
spoken line =
    if line.held then line_of line parts.Held (record { from = 0; to = 0 })
    else (if is_parenthetical (trimmed line) then line_of line parts.Parenthetical (trim_all line.text)
    else (if begins 126 (trimmed line) then line_of line parts.Sung (inner line 1 0)
    else line_of line parts.Dialogue (trim_all line.text)))

-- A speech: the cue and the lines after it.
abbrev pub speech_of : Left → List Left → BlockOf
speech_of line more = record (block_of kinds.Speech line (cue_line line ∷ map spoken more)) {
  last = last_place line more;
  caret = has_caret line;
}
