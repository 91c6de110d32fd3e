-- What notes leave of a stanza's lines (docs/RULES.md, "Notes").
use Rattle.std.specs.Prelude.{ℕ, Bool, true, false, not, ◌&&◌, ◌||◌, ◌==◌, if◌then◌else◌, List, [], ◌∷◌, Option, None, map, option_and_then}
use Rattle.std.specs.List.{list_all}
use Rattle.spec_text.specs.Parts.{SpanOf}
use Rattle.spec_script.specs.declared.Sort.{Sort}
use Rattle.spec_script.specs.declared.Sort.TheVariants as sorts
use Rattle.spec_script.specs.Marked.{Turns, covered, inside_after, joined, cut_flags, open_at}
use Rattle.spec_script.specs.Spans.{cut_spans, text_in, place_in, is_touched, bytes_left}
use Rattle.spec_script.specs.Trim.{is_space}

-- `[[` opens a note, and `]]` closes it.
abbrev pub note_turns : Turns
note_turns inside a b = if inside then (a == 93) && (b == 93) else (a == 91) && (b == 91)

-- A closing mark stands in the text.
abbrev pub has_close : List ℕ → Bool
has_close [] = false
has_close (a ∷ []) = false
has_close (a ∷ b ∷ rest) = ((a == 93) && (b == 93)) || has_close (b ∷ rest)

-- For each byte, whether it lies in a note; a `[[` that no `]]` closes is literal.
abbrev pub noted : Bool → List ℕ → List Bool
noted inside [] = []
noted inside (a ∷ []) = inside ∷ []
noted inside (a ∷ b ∷ rest) =
    if note_turns inside a b && (inside || has_close rest) then true ∷ true ∷ noted (not inside) rest
    else inside ∷ noted inside (b ∷ rest)

-- What the notes of a stanza cover of the kept text of each of its lines.
abbrev pub notes : List (List ℕ) → List (List Bool)
notes lines = cut_flags lines (noted false (joined lines))

-- The sort of a line without its notes: one that a note took a part of, and that has only spaces left, is absent.
abbrev pub sort_without : Sort → List ℕ → List Bool → Sort
sort_without sort kept gone =
    if is_touched gone && list_all is_space (bytes_left kept gone) then sorts.Absent else sort

-- The notes of a line by itself, where each opening is taken as closed later: the parts in them, whether the next
-- line begins inside one, and the place of an opening in this line that the line doesn't close.
pub record ScannedNotes : Type 0 where
  pub gone : List SpanOf
  pub inside : Bool
  pub unclosed : Option ℕ

-- The notes of a line by itself, by its text and its kept parts, where it begins inside a note or not.
abbrev pub note_scanned : List ℕ → List SpanOf → Bool → ScannedNotes
note_scanned text kept inside = record {
  gone = cut_spans kept (map not (covered note_turns inside (text_in text kept)));
  inside = inside_after note_turns inside (text_in text kept);
  unclosed = option_and_then (place_in kept) (open_at note_turns inside None 0 (text_in text kept));
}
