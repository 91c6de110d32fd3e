-- What boneyards leave of each line (docs/RULES.md, "Boneyards" and "Sorts of lines").
use Rattle.std.specs.Prelude.{ℕ, Bool, false, ◌&&◌, ◌||◌, ◌==◌, if◌then◌else◌, List, length, nat_le}
use Rattle.std.specs.List.{list_all}
use Rattle.spec_text.specs.Parts.{SpanOf}
use Rattle.spec_script.specs.declared.Sort.{Sort}
use Rattle.spec_script.specs.declared.Sort.TheVariants as sorts
use Rattle.spec_script.specs.Marked.{Turns, Covered, covered, inside_after, joined, cut}
use Rattle.spec_script.specs.Trim.{is_space}
use Rattle.spec_script.specs.Spans.{runs_left, is_touched, bytes_left}

-- `/*` opens a boneyard, and `*/` closes it.
abbrev pub yard_turns : Turns
yard_turns inside a b = if inside then (a == 42) && (b == 47) else (a == 47) && (b == 42)

-- What the boneyards of a text cover of each of its lines.
abbrev pub yards : List (List ℕ) → List Covered
yards lines = cut false lines (covered yard_turns false (joined lines))

-- The sort of a line by its text, its kept text, and whether it begins in a boneyard or has a part of one.
abbrev pub sort_by : List ℕ → List ℕ → Bool → Sort
sort_by text kept touched =
    if list_all is_space kept then
    (if touched then sorts.Absent
    else (if nat_le 2 (length text) && list_all (λ b. b == 32) text then sorts.Held else sorts.Empty))
    else sorts.Plain

-- The sort of a line by its text, whether it begins in a boneyard, and which of its bytes are gone.
abbrev pub sort_of : List ℕ → Bool → List Bool → Sort
sort_of text began gone = sort_by text (bytes_left text gone) (began || is_touched gone)

-- A line by itself: the parts outside boneyards, whether the next line begins inside one, and the sort.
pub record ScannedLine : Type 0 where
  pub kept : List SpanOf
  pub inside : Bool
  pub sort : Sort

-- What a line by itself is, where it begins inside a boneyard or not.
abbrev pub scanned : List ℕ → Bool → ScannedLine
scanned text inside = record {
  kept = runs_left 0 0 (covered yard_turns inside text);
  inside = inside_after yard_turns inside text;
  sort = sort_of text inside (covered yard_turns inside text);
}
