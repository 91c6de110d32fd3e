-- The command lines of an input, and their limits (docs/RULES.md, "Sessions").
use Rattle.std.specs.Prelude.{◌≡◌, ◌≢◌, ℕ, ◌-◌, ◌<◌, ◌≤◌, Bool, ◌==◌, if◌then◌else◌, List, [], ◌∷◌, ◌++◌, length, take, flat_map, All, slice_index_or}
use Rattle.std.specs.List.{list_any}

-- The most bytes of a command line, without its line feed.
abbrev pub command_limit : ℕ
command_limit = 1048576

-- The most command lines of a session.
abbrev pub command_count_limit : ℕ
command_count_limit = 1000000

-- The most bytes that one call of a source is asked for.
abbrev pub piece_limit : ℕ
piece_limit = 65536

abbrev pub is_feed : ℕ → Bool
is_feed byte = byte == 10

-- No byte is a line feed.
abbrev pub HasNoFeed : List ℕ → Type 0
HasNoFeed bytes = All (λ byte. byte ≢ 10) bytes

-- The byte stands at the front of the first line, where there is one.
abbrev pub onto_first : ℕ → List (List ℕ) → List (List ℕ)
onto_first byte [] = []
onto_first byte (line ∷ lines) = (byte ∷ line) ∷ lines

-- The lines that a line feed ends.
abbrev pub whole_lines : List ℕ → List (List ℕ)
whole_lines [] = []
whole_lines (byte ∷ bytes) = if is_feed byte then [] ∷ whole_lines bytes else onto_first byte (whole_lines bytes)

-- What follows the last line feed; all, where there is none.
abbrev pub open_line : List ℕ → List ℕ
open_line [] = []
open_line (byte ∷ bytes) = if list_any is_feed (byte ∷ bytes) then open_line bytes else byte ∷ bytes

-- A last piece is a line where it has a byte.
abbrev pub last_line : List ℕ → List (List ℕ)
last_line [] = []
last_line (byte ∷ bytes) = (byte ∷ bytes) ∷ []

-- The command lines of an input: cut at each line feed, and what follows the last where it has a byte.
abbrev pub command_lines : List ℕ → List (List ℕ)
command_lines bytes = whole_lines bytes ++ last_line (open_line bytes)

-- A line with its line feed.
abbrev pub ended : List ℕ → List ℕ
ended line = line ++ 10 ∷ []

-- Lines, each with its line feed.
abbrev pub ended_lines : List (List ℕ) → List ℕ
ended_lines lines = flat_map ended lines

-- Bytes are these whole lines and what follows the last line feed.
pub record Splits (bytes : List ℕ) (lines : List (List ℕ)) (rest : List ℕ) : Type 0 where
  pub whole : bytes ≡ ended_lines lines ++ rest
  pub lines_plain : All HasNoFeed lines
  pub rest_plain : HasNoFeed rest

abbrev pub IsShort : List ℕ → Type 0
IsShort line = length line ≤ command_limit

-- The lines of an input keep both limits.
pub record KeepsLimits (bytes : List ℕ) : Type 0 where
  pub few : length (command_lines bytes) ≤ command_count_limit
  pub short : All IsShort (command_lines bytes)

-- Bytes without the last one.
abbrev pub without_last : List ℕ → List ℕ
without_last bytes = take (length bytes - 1) bytes

-- Both limits are kept, but for the last byte at most.
abbrev pub KeepsBudget : List ℕ → Type 0
KeepsBudget bytes = KeepsLimits (without_last bytes)

-- The line with this number is the first that is too long, among those that a session may have.
pub record IsFirstLong (bytes : List ℕ) (number : ℕ) : Type 0 where
  pub within : number < command_count_limit
  pub there : number < length (command_lines bytes)
  pub long : command_limit < length (slice_index_or (command_lines bytes) number [])
  pub short : All IsShort (take number (command_lines bytes))

-- There are more lines than a session may have, and none of those is too long.
pub record IsFull (bytes : List ℕ) : Type 0 where
  pub more : command_count_limit < length (command_lines bytes)
  pub short : All IsShort (take command_count_limit (command_lines bytes))
