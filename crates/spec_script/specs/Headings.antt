-- Headings and their written numbers (docs/RULES.md, "Blocks").
use Rattle.std.specs.Prelude.{◌==◌, ℕ, ◌+◌, ◌-◌, Bool, ◌&&◌, ◌||◌, nat_lt, List, length, take, drop, if◌then◌else◌}
use Rattle.std.specs.Char.{is_ascii_alphanumeric}
use Rattle.std.specs.List.{suffix_len}
use Rattle.spec_script.specs.declared.Kind.TheVariants as kinds
use Rattle.spec_script.specs.Trim.{trim_all}
use Rattle.spec_script.specs.Letters.{ends}
use Rattle.spec_script.specs.Forms.{is_forced_heading}
use Rattle.spec_script.specs.Visible.{window, clip_spans}
use Rattle.spec_script.specs.BlockValues.{BlockOf}
use Rattle.spec_script.specs.Left.{Left, trimmed, inner, text_block}

-- The byte may stand in a written scene number.
abbrev pub is_number_byte : ℕ → Bool
is_number_byte b = is_ascii_alphanumeric b || (b == 45) || (b == 46)

-- How many such bytes stand before the text's last byte.
abbrev pub number_bytes : List ℕ → ℕ
number_bytes text = suffix_len is_number_byte (take (length text - 1) text)

-- The length of the written number that the text ends in, between two `#`; 0 where it has none.
abbrev pub number_len : List ℕ → ℕ
number_len text =
    if ends 35 text && nat_lt 0 (number_bytes text) && ends 35 (take (length text - (number_bytes text + 1)) text) then number_bytes text
    else 0

-- How many bytes of a heading force it.
abbrev pub heading_skip : Left → ℕ
heading_skip line = if is_forced_heading (trimmed line) then 1 else 0

-- A heading with a written number of that length.
abbrev pub numbered_heading : Left → ℕ → BlockOf
numbered_heading line n = record (text_block kinds.Heading line (inner line (heading_skip line) (n + 2))) {
  number = clip_spans (window line.spans (record { from = (trim_all line.text).to - (n + 1); to = (trim_all line.text).to - 1 })) line.spans;
}

-- A heading whose text ends in a number of that length, or in none.
abbrev pub heading_with : Left → ℕ → BlockOf
heading_with line n =
    if n == 0 then text_block kinds.Heading line (inner line (heading_skip line) 0) else numbered_heading line n

-- A line as a heading.
abbrev pub heading_of : Left → BlockOf
heading_of line = heading_with line (number_len (drop (heading_skip line) (trimmed line)))
