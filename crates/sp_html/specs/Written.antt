-- What is written of bytes and of parts (docs/RULES.md, "HTML pages").
use Rattle.std.specs.Prelude.{ℕ, ◌==◌, ◌||◌, Bool, List, [], ◌∷◌}
use Rattle.spec_sheets.specs.RowBytes.{untabbed}
use Rattle.spec_html.specs.HtmlSheets.{escaped, marked}
use Rattle.spec_html.specs.Marks.{marks_of}

-- Something else is written in place of the byte.
abbrev pub is_changed : ℕ → Bool
is_changed byte = (byte == 9) || ((byte == 38) || ((byte == 60) || (byte == 62)))

abbrev pub written : ℕ → List ℕ
written byte = escaped (untabbed (byte ∷ []))

-- A text between the marks of its style.
abbrev pub marked_part : ℕ → List ℕ → List ℕ
marked_part style text = marked (marks_of style) (untabbed text)
