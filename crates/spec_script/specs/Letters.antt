-- Tests of letters, and of a text's first and last byte (docs/RULES.md, "Letter tests").
use Rattle.std.specs.Prelude.{ℕ, ◌-◌, Bool, false, not, ◌&&◌, ◌==◌, nat_lt, List, [], ◌∷◌, length, slice_index}
use Rattle.std.specs.List.{list_all, list_any}
use Rattle.std.specs.Str.{chars}
use Rattle.unicode.specs.Binary.{is_alphabetic, is_lowercase}
pub use Rattle.unicode_segmentation.specs.Segments.{is_alphanumeric}

-- No character of the text is Lowercase.
abbrev pub has_no_lowercase : List ℕ → Bool
has_no_lowercase text = list_all (λ c. not (is_lowercase c)) (chars text)

-- A character of the text is Alphabetic.
abbrev pub has_alphabetic : List ℕ → Bool
has_alphabetic text = list_any is_alphabetic (chars text)

-- The text is uppercase: no character is Lowercase, and at least one is Alphabetic.
abbrev pub is_uppercase : List ℕ → Bool
is_uppercase text = has_no_lowercase text && has_alphabetic text

-- The first character is Alphabetic, or of general category Nd, Nl or No.
abbrev pub first_alphanumeric : List ℕ → Bool
first_alphanumeric [] = false
first_alphanumeric (c ∷ cs) = is_alphanumeric c

-- The text begins with an alphanumeric character.
abbrev pub begins_alphanumeric : List ℕ → Bool
begins_alphanumeric text = first_alphanumeric (chars text)

-- The text's first byte is the given one.
abbrev pub begins : ℕ → List ℕ → Bool
begins byte text = nat_lt 0 (length text) && (slice_index text 0 == byte)

-- The text's last byte is the given one.
abbrev pub ends : ℕ → List ℕ → Bool
ends byte text = nat_lt 0 (length text) && (slice_index text (length text - 1) == byte)

-- The text's first byte is one of the given ones.
abbrev pub begins_with_one : List ℕ → List ℕ → Bool
begins_with_one bytes text = list_any (λ byte. begins byte text) bytes
