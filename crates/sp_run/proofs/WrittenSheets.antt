-- Sheets that are written one by one.
use Rattle.std.proofs.Common.{◌≡◌, ℕ, ◌+◌, Some, List, ◌++◌, [], take, drop, get_or, slice_get, ap, sym, ◌∙◌, subst}
use Rattle.std.specs.Prelude.{Ok, Err}
use Rattle.std.specs.List.{flat_map}
use Rattle.std.proofs.lemmas.Option.{slice_get_within, get_or_from_slice_get}
use Rattle.std.proofs.lemmas.List.{take_more, flat_map_more, take-append-drop}
use Rattle.std.proofs.lemmas.List.Concat.{flat_map-append}
use Rattle.spec_sheets.specs.Sheets.{Sheet}
use Rattle.sp_kit.specs.Outside.{SinkState}
use Rattle.sp_run.specs.Written.{WroteAll, IsWritten}
use Rattle.sp_run.specs.declared.status.Status.{Status}
use Rattle.sp_run.proofs.WrittenParts.{written-both, written-first}

-- The sink took the first of the sheets, each in this form.
abbrev pub WroteFirst : (Sheet → List ℕ) → SinkState → SinkState → List Sheet → ℕ → Type 0
WroteFirst form old new sheets i = WroteAll old new (flat_map form (take i sheets))

-- The bytes of one more sheet.
bytes-more : (form : Sheet → List ℕ) (sheets : List Sheet) (i : ℕ) (sheet : Sheet) → slice_get sheets i ≡ Some sheet
    → flat_map form (take i sheets) ++ form sheet ≡ flat_map form (take (i + 1) sheets)
bytes-more form sheets i sheet found =
    let at : get_or sheets i sheet ≡ sheet = get_or_from_slice_get sheets i sheet sheet found in
    sym (ap (λ (s : Sheet). flat_map form (take i sheets) ++ form s) at)
    ∙ flat_map_more form [] (take i sheets) (get_or sheets i sheet)
    ∙ sym (ap (flat_map form) (take_more sheets i sheet (slice_get_within sheets i sheet found)))

-- The bytes of the first sheets and of the others.
bytes-split : (form : Sheet → List ℕ) (sheets : List Sheet) (i : ℕ) → flat_map form (take i sheets) ++ flat_map form (drop i sheets) ≡ flat_map form sheets
bytes-split form sheets i = sym (flat_map-append form (take i sheets) (drop i sheets)) ∙ ap (flat_map form) (take-append-drop i sheets)

-- One more sheet is written.
pub wrote_next : (form : Sheet → List ℕ) (old mid new : SinkState) (sheets : List Sheet) (i : ℕ) (sheet : Sheet) → WroteFirst form old mid sheets i → slice_get sheets i ≡ Some sheet
    → WroteAll mid new (form sheet) → WroteFirst form old new sheets (i + 1)
wrote_next form old mid new sheets i sheet first found next =
    subst (WroteAll old new) (bytes-more form sheets i sheet found) (written-both old mid new (flat_map form (take i sheets)) (form sheet) (Ok tt) first next)

-- A sheet that isn't written whole ends the writing.
pub wrote_stopped : (form : Sheet → List ℕ) (old mid new : SinkState) (sheets : List Sheet) (i : ℕ) (sheet : Sheet) (status : Status) → WroteFirst form old mid sheets i → slice_get sheets i ≡ Some sheet
    → IsWritten mid new (form sheet) (Err status) → IsWritten old new (flat_map form sheets) (Err status)
wrote_stopped form old mid new sheets i sheet status first found next =
    let both = written-both old mid new (flat_map form (take i sheets)) (form sheet) (Err status) first next in
    let more : IsWritten old new (flat_map form (take (i + 1) sheets)) (Err status) =
    subst (λ (bytes : List ℕ). IsWritten old new bytes (Err status)) (bytes-more form sheets i sheet found) both in
    subst (λ (bytes : List ℕ). IsWritten old new bytes (Err status)) (bytes-split form sheets (i + 1))
    (written-first old new (flat_map form (take (i + 1) sheets)) (flat_map form (drop (i + 1) sheets)) status more)
