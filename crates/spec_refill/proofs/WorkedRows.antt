-- Telling edits: the rows that they exchange.
use Rattle.std.proofs.Common.{◌≡◌, ℕ, List, [], ◌∷◌, refl}
use Rattle.std.specs.Prelude.{codes}
use Rattle.std.specs.Fmt.{digits}
use Rattle.std.specs.Str.{chars}
use Rattle.ucd_derived.specs.Binary.{is_lowercase, is_alphabetic}
use Rattle.ucd_derived.specs.AlphabeticRanges.{alphabetic_ranges}
use Rattle.ucd_derived.specs.LowercaseRanges.{lowercase_ranges}
use Rattle.ucd_table.specs.Rows.{in_ranges}
use Rattle.unicode_segmentation.proofs.Computing.{unicode_segmentation}
use Rattle.unicode_width.proofs.Computing.{unicode_width}
use Rattle.spec_text.specs.Edits.{Replacement}
use Rattle.spec_text.specs.Ranges.{range_of}
use Rattle.spec_pages.specs.Wrapping.{rows_of}
use Rattle.spec_state.specs.State.{opened_state}
use Rattle.spec_state.specs.Changes.{edited_state}
use Rattle.spec_edit.specs.PageWindows.{Exchange}
use Rattle.spec_refill.specs.Exchanges.{edit_exchange}

-- What an edit of a script exchanges, where its window is from one line to another.
abbrev exchange_in : List (List ℕ) → Replacement → ℕ → ℕ → Exchange
exchange_in texts it a b = edit_exchange (range_of it) (opened_state texts) (edited_state (opened_state texts) it) a b

abbrev exchange : ℕ → ℕ → ℕ → Exchange
exchange first old new = record { first = first; old = old; new = new }

-- A row of action, and the row behind it.
pub action_changed : exchange_in (codes "!a" ∷ [] ∷ codes "!a" ∷ [] ∷ codes "!a" ∷ []) (record { first = 2; old = 1; texts = codes "!ab" ∷ [] }) 2 4 ≡ exchange 1 2 2
unfolding chars is_lowercase is_alphabetic in_ranges lowercase_ranges alphabetic_ranges rows_of unicode_segmentation unicode_width lib.Utf8.encode digits
action_changed = refl

-- The last row of a text has none behind it.
pub last_changed : exchange_in (codes "!a" ∷ [] ∷ codes "!a" ∷ []) (record { first = 2; old = 1; texts = codes "!ab" ∷ [] }) 2 3 ≡ exchange 1 1 1
unfolding chars is_lowercase is_alphabetic in_ranges lowercase_ranges alphabetic_ranges rows_of unicode_segmentation unicode_width lib.Utf8.encode digits
last_changed = refl

-- An empty line between the halves of a pair relays nothing, and the pair's rows stand before the window.
pub empty_between : exchange_in (codes "ANNA" ∷ codes "x" ∷ [] ∷ codes "BERT ^" ∷ codes "y" ∷ [] ∷ codes "!b" ∷ []) (record { first = 3; old = 0; texts = [] ∷ [] }) 3 4 ≡ exchange 2 1 1
unfolding chars is_lowercase is_alphabetic in_ranges lowercase_ranges alphabetic_ranges rows_of unicode_segmentation unicode_width lib.Utf8.encode digits
empty_between = refl

-- Action between them relays both halves.
pub action_between : exchange_in (codes "ANNA" ∷ codes "x" ∷ [] ∷ codes "BERT ^" ∷ codes "y" ∷ [] ∷ codes "!b" ∷ []) (record { first = 3; old = 0; texts = codes "!c" ∷ [] ∷ [] }) 3 5 ≡ exchange 0 3 6
unfolding chars is_lowercase is_alphabetic in_ranges lowercase_ranges alphabetic_ranges rows_of unicode_segmentation unicode_width lib.Utf8.encode digits
action_between = refl
