-- The sheets of a packet, written one by one.
use Rattle.std.proofs.Common.{◌≡◌, ℕ, ◌+◌, ◌<◌, true, Some, List, length, get_or, slice_get, ap, ◌∙◌, subst, arith}
use Rattle.std.specs.Prelude.{All, is_some, option_map}
use Rattle.std.proofs.lemmas.Option.{get_or_from_slice_get, slice_get-get_or, slice_get-map}
use Rattle.spec_sheets.specs.Sheets.{Sheet}
use Rattle.spec_state.specs.State.{State}
use Rattle.spec_state.specs.StateSheets.{sheets_of_state}
use Rattle.spec_packet.specs.StatePackets.{handed_of, no_sheet, packet_places, sheets_at}
use Rattle.spec_packet.proofs.PlaceLaws.{handed-count, places-low}

-- The sheet at the place that stands at a place of some.
pub sheet-found : (sheets : List Sheet) (places : List ℕ) (i : ℕ) (page : Sheet) → slice_get sheets (get_or places i 0) ≡ Some page → i < length places → slice_get (sheets_at sheets places) i ≡ Some page
sheet-found sheets places i page found inside =
    let at : ℕ → Sheet = λ p. get_or sheets p no_sheet in
    slice_get-map at places i ∙ ap (option_map at) (slice_get-get_or places i 0 inside) ∙ ap Some (get_or_from_slice_get sheets (get_or places i 0) page no_sheet found)

-- The places of a packet are places of sheets.
pub places-within : (state : State) → is_some state.pages ≡ true → All (λ (place : ℕ). place < length (sheets_of_state state)) (packet_places state)
places-within state locked = subst (λ n. All (λ (place : ℕ). place < n) (packet_places state)) (plain (length (handed_of state)) ∙ handed-count state locked) (places-low 0 (handed_of state))
  where
    plain : (n : ℕ) → 0 + n ≡ n
    plain n = omega arith
