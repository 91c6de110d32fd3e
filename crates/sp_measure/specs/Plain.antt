-- Characters that are clusters of one column beside one another, by their first bytes (docs/RULES.md, "Columns").
use Rattle.std.specs.Prelude.{ℕ, if◌then◌else◌}
use Rattle.std.specs.Int.{is_in_range}
use Rattle.spec_pages.specs.Clusters.{is_printable}

-- How many bytes the character has that begins with this byte, if it is printable ASCII or a letter from U+00C0 to U+02FF, and 0 for any other.
abbrev pub plain_length : ℕ → ℕ
plain_length byte = if is_printable byte then 1 else if is_in_range 0xC3 0xCB byte then 2 else 0
