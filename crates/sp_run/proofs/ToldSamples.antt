-- The line that tells of a state, and the digest of its sheets.
use Rattle.std.proofs.Common.{◌≡◌, ℕ, ◌+◌, Some, List, [], ◌++◌, length, take, get_or, slice_get, ap, sym, ◌∙◌}
use Rattle.std.specs.List.{flat_map}
use Rattle.std.proofs.lemmas.Option.{slice_get_within, get_or_from_slice_get}
use Rattle.std.proofs.lemmas.List.{take_more, flat_map_more}
use Rattle.hex.specs.Hex.{encode_lower}
use Rattle.sha2.specs.Sha256.{sha256}
use Rattle.spec_sheets.specs.Sheets.{Sheet, sheet_bytes}
use Rattle.spec_state.specs.State.{State}
use Rattle.spec_state.specs.StateSheets.{sheets_of_state}
use Rattle.spec_state.specs.Printing.{printed_state}
use Rattle.spec_sample.specs.Sample.{state_line, told_line}

-- The bytes of one more sheet.
pub bytes-more : (sheets : List Sheet) (i : ℕ) (sheet : Sheet) (bytes : List ℕ) → slice_get sheets i ≡ Some sheet → bytes ≡ sheet_bytes sheet
    → flat_map sheet_bytes (take i sheets) ++ bytes ≡ flat_map sheet_bytes (take (i + 1) sheets)
bytes-more sheets i sheet bytes found is =
    let at : get_or sheets i sheet ≡ sheet = get_or_from_slice_get sheets i sheet sheet found in
    ap (λ xs. flat_map sheet_bytes (take i sheets) ++ xs) is ∙ sym (ap (λ (s : Sheet). flat_map sheet_bytes (take i sheets) ++ sheet_bytes s) at)
    ∙ flat_map_more sheet_bytes [] (take i sheets) (get_or sheets i sheet)
    ∙ sym (ap (flat_map sheet_bytes) (take_more sheets i sheet (slice_get_within sheets i sheet found)))

-- The line of these numbers and this digest is that of the state which has them.
pub told : (n l s r : ℕ) (state : State) (digest : List ℕ) → l ≡ length state.lines → s ≡ length (sheets_of_state state) → r ≡ state.round → digest ≡ encode_lower (sha256 (printed_state state))
    → told_line n l s r digest ≡ state_line n state
told n l s r state digest is_l is_s is_r is_digest =
    ap (λ x. told_line n x s r digest) is_l ∙ ap (λ x. told_line n (length state.lines) x r digest) is_s ∙ ap (λ x. told_line n (length state.lines) (length (sheets_of_state state)) x digest) is_r
    ∙ ap (λ x. told_line n (length state.lines) (length (sheets_of_state state)) state.round x) is_digest
