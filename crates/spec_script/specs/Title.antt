-- Lines of a title page (docs/RULES.md, "Title page"). A text is the cleaned text of a line, with the spaces at its ends.
use Rattle.std.specs.Prelude.{◌==◌, ℕ, ◌+◌, Bool, not, ◌&&◌, ◌||◌, nat_lt, List, [], ◌∷◌, ◌++◌, length, take, drop, slice_index_or, unwrap_or, codes, if◌then◌else◌}
use Rattle.std.specs.Char.{eq_ignore_ascii_case}
use Rattle.std.specs.List.{starts_with, position_or_len, list_all, list_any}
use Rattle.spec_text.specs.Parts.{SpanOf}
use Rattle.spec_script.specs.declared.TitleLine.{TitleLine}
use Rattle.spec_script.specs.declared.TitleLine.TheVariants as lines
use Rattle.spec_script.specs.Spans.{text_in, place_in}
use Rattle.spec_script.specs.declared.Cut.{Cut}
use Rattle.spec_script.specs.Trim.{is_space, trim_cut}

-- The keys whose values are centred.
abbrev pub centred_keys : List (List ℕ)
centred_keys = codes "Title" ∷ codes "Credit" ∷ codes "Author" ∷ codes "Authors" ∷ codes "Source" ∷ []

-- The other keys that a title page may open with.
abbrev pub other_keys : List (List ℕ)
other_keys = codes "Draft date" ∷ codes "Contact" ∷ codes "Notes" ∷ codes "Copyright" ∷ []

-- The text begins with the key, ASCII letter case ignored, and a colon follows.
abbrev pub begins_with_key : List ℕ → List ℕ → Bool
begins_with_key text key = starts_with eq_ignore_ascii_case text (key ++ 58 ∷ [])

-- The line opens a title page.
abbrev pub title_opens : List ℕ → Bool
title_opens text = list_any (begins_with_key text) (centred_keys ++ other_keys)

-- The place of the first colon, or the length.
abbrev pub colon : List ℕ → ℕ
colon text = position_or_len (λ b. b == 58) text

-- The line begins with a tab or three U+0020.
abbrev pub is_indented : List ℕ → Bool
is_indented text = (slice_index_or text 0 0 == 9) || starts_with (λ a b. a == b) text (codes "   ")

-- The line has a key: it isn't indented, and its first colon isn't its first character.
abbrev pub has_key : List ℕ → Bool
has_key text = not (is_indented text) && nat_lt 0 (colon text) && nat_lt (colon text) (length text)

-- The two words are the same, ASCII letter case ignored.
abbrev pub same_word : List ℕ → List ℕ → Bool
same_word a b = (length a == length b) && starts_with eq_ignore_ascii_case a b

-- The line's key, what stands before the first colon, is one whose values are centred.
abbrev pub is_centred_key : List ℕ → Bool
is_centred_key text = list_any (same_word (take (colon text) text)) centred_keys

-- The line has a key whose values are centred.
abbrev pub opens_centred : List ℕ → Bool
opens_centred text = has_key text && is_centred_key text

-- Where the line's value begins: behind the key's colon, or with the line where it has no key.
abbrev pub value_from : List ℕ → ℕ
value_from text = if has_key text then colon text + 1 else 0

-- The line's value, trimmed.
abbrev pub value_cut : List ℕ → Cut
value_cut text = trim_cut text (record { from = value_from text; to = length text })

-- The place in the line of a byte of its kept text, or the line's end where the text has no such byte.
abbrev pub place_or_end : List ℕ → List SpanOf → ℕ → ℕ
place_or_end line kept byte = unwrap_or (place_in kept byte) (length line)

-- The place in the line of the first byte of its kept text that is no space, from a byte on, or the line's end.
abbrev pub unspaced_place : List ℕ → List SpanOf → ℕ → ℕ
unspaced_place line kept from =
    place_or_end line kept (from + position_or_len (λ b. not (is_space b)) (drop from (text_in line kept)))

-- Where the value of a line with these kept parts begins in the line, or the line's end where it has none.
abbrev pub value_place : List ℕ → List SpanOf → ℕ
value_place line kept = unspaced_place line kept (value_from (text_in line kept))

-- What a line with these kept parts is on a title page: nothing where it has only spaces, else a new key or a further value.
abbrev pub title_line_of : List ℕ → List SpanOf → TitleLine
title_line_of line kept =
    if list_all is_space (text_in line kept) then lines.Nothing
    else (if has_key (text_in line kept) then lines.Opens (value_place line kept) (is_centred_key (text_in line kept))
    else lines.Value (value_place line kept))
