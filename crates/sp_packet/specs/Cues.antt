-- The cue that a page repeats, by what page ends see of rows and by the first rows of records.
use Rattle.std.specs.Prelude.{ℕ, ◌+◌, ◌-◌, min, max, Bool, false, nat_le, if◌then◌else◌, List, [], ◌∷◌, drop, take, slice_get, Option, Some, None, unwrap_or, option_map}
use Rattle.std.specs.List.{prefix_len}
use Rattle.spec_pages.specs.declared.Shape.{Shape}
use Rattle.spec_pages.specs.Pages.{continues_speech}
use Rattle.spec_sheets.specs.Shown.{is_cue}
use Rattle.spec_packet.specs.SheetFacts.{PlacesOf}

abbrev pub is_cue_shape : Shape → Bool
is_cue_shape it = is_cue it.kind

-- Whether the row goes on with a speech, and the first row of that speech.
abbrev pub row_goes_on : List Shape → ℕ → Bool
row_goes_on shapes row = unwrap_or (option_map continues_speech (slice_get shapes row)) false

abbrev pub speech_row : List Shape → ℕ → ℕ
speech_row shapes row = row - unwrap_or (option_map (λ (it : Shape). it.index) (slice_get shapes row)) 0

-- How far the cue of a speech reaches whose rows come first.
abbrev pub reach : List Shape → ℕ
reach [] = 0
reach (shape ∷ shapes) = min (prefix_len is_cue_shape (take (shape.rest + 1) (shape ∷ shapes))) shape.rest

abbrev pub reach_row : List Shape → ℕ → ℕ
reach_row shapes row = max row (speech_row shapes row + reach (drop (speech_row shapes row) shapes))

-- The place of the last record that begins at a row or before it.
abbrev pub place_with : List ℕ → ℕ → ℕ
place_with starts row = prefix_len (λ (start : ℕ). nat_le start row) starts - 1

-- The records that the cue above a page comes from, by the page's first row.
abbrev pub places_by : List ℕ → List Shape → ℕ → Option PlacesOf
places_by starts shapes row =
    if row_goes_on shapes row then Some (record { first = place_with starts (speech_row shapes row); last = place_with starts (reach_row shapes row) }) else None
