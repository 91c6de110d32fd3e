-- Natural and forced forms of a line (docs/RULES.md, "Letter tests" and "Blocks"). All but the natural transition
-- take a cleaned line without spaces at its ends.
use Rattle.std.specs.Prelude.{ℕ, ◌-◌, Bool, not, ◌&&◌, ◌||◌, ◌==◌, nat_lt, nat_le, List, [], ◌∷◌, length, take, drop, slice_index_or, codes, if◌then◌else◌}
use Rattle.std.specs.Char.{eq_ignore_ascii_case}
use Rattle.std.specs.List.{starts_with, ends_with, before_first, list_all, list_any}
use Rattle.spec_script.specs.Letters.{is_uppercase, begins_alphanumeric, begins, ends, begins_with_one}
use Rattle.spec_script.specs.Trim.{trim}

-- The text begins with the word, ASCII letter case ignored, and `.` or U+0020 follows.
abbrev pub opens_with : List ℕ → List ℕ → Bool
opens_with text word =
    starts_with eq_ignore_ascii_case text word
    && ((slice_index_or text (length word) 0 == 46) || (slice_index_or text (length word) 0 == 32))

-- The words that a scene heading begins with.
abbrev pub heading_words : List (List ℕ)
heading_words =
    codes "INT" ∷ codes "EXT" ∷ codes "EST" ∷ codes "INT./EXT" ∷ codes "INT/EXT" ∷ codes "I/E" ∷ []

-- A natural heading begins with one of the words.
abbrev pub is_natural_heading : List ℕ → Bool
is_natural_heading text = list_any (opens_with text) heading_words

-- A forced heading begins with `.` and an alphanumeric.
abbrev pub is_forced_heading : List ℕ → Bool
is_forced_heading text = begins 46 text && begins_alphanumeric (drop 1 text)

-- A natural transition is uppercase and ends in `TO:` before any trimming; `!`, `>`, `~` and a forced heading's `.` exclude it.
abbrev pub is_natural_transition : List ℕ → Bool
is_natural_transition text =
    is_uppercase (trim text) && ends_with (λ a b. a == b) text (codes "TO:")
    && not (begins_with_one (codes "!>~") (trim text)) && not (is_forced_heading (trim text))

-- A text without one `^` at its end, trimmed.
abbrev pub without_caret : List ℕ → List ℕ
without_caret text = trim (if ends 94 text then take (length text - 1) text else text)

-- The name of a cue: what stands before the first `(`, trimmed, where the cue ends in `)` and has a `(`, and otherwise all of it.
abbrev pub cue_name : List ℕ → List ℕ
cue_name cue = if ends 41 cue && list_any (λ b. b == 40) cue then trim (before_first (λ b. b == 40) cue) else cue

-- A natural cue has an uppercase name, and begins with no mark of another form; headings are no cues.
abbrev pub is_natural_cue : List ℕ → Bool
is_natural_cue text =
    is_uppercase (cue_name (without_caret text)) && not (begins_with_one (codes "!@>~#=") text)
    && not (is_natural_heading text) && not (is_forced_heading text)

-- A forced cue begins with `@` and has more than that.
abbrev pub is_forced_cue : List ℕ → Bool
is_forced_cue text = begins 64 text && nat_lt 1 (length text)

-- A page break is three or more `=` alone.
abbrev pub is_page_break : List ℕ → Bool
is_page_break text = nat_le 3 (length text) && list_all (λ b. b == 61) text

-- A synopsis begins with `=`, and its second byte isn't `=`.
abbrev pub is_synopsis : List ℕ → Bool
is_synopsis text = begins 61 text && not (slice_index_or text 1 0 == 61)

-- A section begins with `#`.
abbrev pub is_section : List ℕ → Bool
is_section text = begins 35 text

-- A centred line has at least two bytes, begins with `>` and ends with `<`.
abbrev pub is_centred : List ℕ → Bool
is_centred text = nat_le 2 (length text) && begins 62 text && ends 60 text

-- A parenthetical begins with `(` and ends with `)`.
abbrev pub is_parenthetical : List ℕ → Bool
is_parenthetical text = begins 40 text && ends 41 text
