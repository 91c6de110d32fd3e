-- Parts of a text that two marks of two bytes open and close (docs/RULES.md, "Boneyards" and "Notes").
use Rattle.std.specs.Prelude.{ℕ, Bool, true, false, not, ◌&&◌, if◌then◌else◌, List, [], ◌∷◌, ◌++◌, Option, Some, None, length, take, drop, replicate, slice_index, slice_index_or, nat_lt, ◌+◌, ◌-◌}

-- The two bytes end the state that the text is in: they close where it is inside, and open where it is outside.
abbrev pub Turns : Type 0
Turns = Bool → ℕ → ℕ → Bool

-- For each byte, whether it lies in a marked part; a mark belongs to its part, and is used up as a whole.
abbrev pub covered : Turns → Bool → List ℕ → List Bool
covered turns inside [] = []
covered turns inside (a ∷ []) = inside ∷ []
covered turns inside (a ∷ b ∷ rest) =
    if turns inside a b then true ∷ true ∷ covered turns (not inside) rest
    else inside ∷ covered turns inside (b ∷ rest)

-- Whether what follows the text begins inside a marked part.
abbrev pub inside_after : Turns → Bool → List ℕ → Bool
inside_after turns inside [] = inside
inside_after turns inside (a ∷ []) = inside
inside_after turns inside (a ∷ b ∷ rest) =
    if turns inside a b then inside_after turns (not inside) rest
    else inside_after turns inside (b ∷ rest)

-- The two bytes at a place of the text end the state that it is in there.
abbrev pub turns_at : Turns → Bool → List ℕ → ℕ → Bool
turns_at turns inside text at =
    nat_lt (at + 1) (length text) && turns inside (slice_index text at) (slice_index text (at + 1))

-- The lines, joined by line feeds.
abbrev pub joined : List (List ℕ) → List ℕ
joined [] = []
joined (line ∷ []) = line
joined (line ∷ next ∷ lines) = line ++ 10 ∷ joined (next ∷ lines)

-- What the marked parts of a text cover of one of its lines.
pub record Covered : Type 0 where
  pub began : Bool
  pub gone : List Bool

-- The flags of a joined text, cut at its line ends; a line begins inside where the line feed before it is covered.
abbrev pub cut : Bool → List (List ℕ) → List Bool → List Covered
cut began [] flags = []
cut began (line ∷ lines) flags =
    record { began = began; gone = take (length line) flags }
    ∷ cut (slice_index_or flags (length line) false) lines (drop (length line + 1) flags)

-- The flags alone of a joined text, cut at its line ends.
abbrev pub cut_flags : List (List ℕ) → List Bool → List (List Bool)
cut_flags [] flags = []
cut_flags (line ∷ lines) flags = take (length line) flags ∷ cut_flags lines (drop (length line + 1) flags)

-- The opening left unclosed; `opened` is the one that the text begins with, `at` the place of its first byte.
abbrev pub open_at : Turns → Bool → Option ℕ → ℕ → List ℕ → Option ℕ
open_at turns inside opened at [] = opened
open_at turns inside opened at (a ∷ []) = opened
open_at turns inside opened at (a ∷ b ∷ rest) =
    if turns inside a b then open_at turns (not inside) (if inside then None else Some at) (at + 2) rest
    else open_at turns inside opened (at + 1) (b ∷ rest)

-- Flags that begin at the place `at`, where those from an unclosed opening on are literal.
abbrev pub literal_from : ℕ → Option ℕ → List Bool → List Bool
literal_from at None flags = flags
literal_from at (Some place) flags = take (place - at) flags ++ replicate (length flags - (place - at)) false

-- Each line by itself, with what the lines before it leave.
abbrev pub line_by_line : Turns → Bool → List (List ℕ) → List Covered
line_by_line turns inside [] = []
line_by_line turns inside (line ∷ lines) =
    record { began = inside; gone = covered turns inside line }
    ∷ line_by_line turns (inside_after turns inside line) lines

-- The flags alone of each line, with what the lines before it leave.
abbrev pub flags_by_line : Turns → Bool → List (List ℕ) → List (List Bool)
flags_by_line turns inside [] = []
flags_by_line turns inside (line ∷ lines) =
    covered turns inside line ∷ flags_by_line turns (inside_after turns inside line) lines

-- The opening that the lines leave unclosed, each read by itself; the first begins at the place `at`.
abbrev pub open_by_line : Turns → Bool → Option ℕ → ℕ → List (List ℕ) → Option ℕ
open_by_line turns inside opened at [] = opened
open_by_line turns inside opened at (line ∷ lines) =
    open_by_line turns (inside_after turns inside line) (open_at turns inside opened at line) (at + length line + 1) lines

-- The flags of lines, the first of which begins at the place `at`, where those from an unclosed opening on are literal.
abbrev pub settled : ℕ → Option ℕ → List (List Bool) → List (List Bool)
settled at opened [] = []
settled at opened (flags ∷ lines) = literal_from at opened flags ∷ settled (at + length flags + 1) opened lines
