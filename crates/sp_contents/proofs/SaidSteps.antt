-- One more row, and one more block of a walk over speeches.
use Rattle.std.proofs.Common.{◌≡◌, ℕ, ◌+◌, ◌<◌, ◌≤◌, Bool, true, false, cond, Some, List, [], ◌∷◌, ◌++◌, length, drop, get_or, slice_get, refl, sym, ap, ◌∙◌, append_assoc, append-nil, arith, add-one, drop-cons}
use Rattle.std.proofs.lemmas.Option.{slice_get_within, get_or_from_slice_get}
use Rattle.spec_pages.specs.declared.Shape.{Shape}
use Rattle.spec_script.specs.Stanzas.{PlacedBlock}
use Rattle.spec_labels.specs.Labels.{LabelOf}
use Rattle.spec_labels.specs.PageRecords.{SheetOf}
use Rattle.spec_state.specs.Headings.{is_heading_block}
use Rattle.spec_cast.specs.Sides.{SaidOf}
use Rattle.spec_cast.specs.Places.{begins_speech}
use Rattle.sp_contents.specs.Speeches.{Walk, block_said, first_label, is_first, said_from, speech_sheets, walked}

front : {X : Type 0} (xs : List X) (i : ℕ) (d : X) → i < length xs → drop i xs ≡ get_or xs i d ∷ drop (i + 1) xs
front xs i d inside = rw (add-one, drop-cons xs i d) refl

-- A row that is looked at.
pub sheets-step : (sheets : List SheetOf) (shapes : List Shape) (row : ℕ) (shape : Shape) (old new all : List LabelOf) (b : Bool) → slice_get shapes row ≡ Some shape → b ≡ begins_speech shape
    → new ≡ old ++ cond b (first_label sheets row ∷ []) [] → old ++ speech_sheets sheets row (drop row shapes) ≡ all
    → new ++ speech_sheets sheets (row + 1) (drop (row + 1) shapes) ≡ all
sheets-step sheets shapes row shape old new all b found test is so_far =
    ap (λ (ls : List LabelOf). ls ++ later) is ∙ by b
    ∙ ap (λ t. old ++ cond t (first_label sheets row ∷ later) later) (test ∙ sym (ap begins_speech (get_or_from_slice_get shapes row shape shape found)))
    ∙ sym (ap (λ those. old ++ speech_sheets sheets row those) (front shapes row shape (slice_get_within shapes row shape found))) ∙ so_far
  where
    later : List LabelOf
    later = speech_sheets sheets (row + 1) (drop (row + 1) shapes)

    by : (t : Bool) → (old ++ cond t (first_label sheets row ∷ []) []) ++ later ≡ old ++ cond t (first_label sheets row ∷ later) later
    by true = append_assoc old (first_label sheets row ∷ []) later
    by false = ap (λ ls. ls ++ later) (append-nil old)

-- A block that is passed.
pub said-step : (scenes sheets : List LabelOf) (texts : List (List ℕ)) (blocks : List PlacedBlock) (i : ℕ) (d : PlacedBlock) (walk next : Walk) (old new all : List SaidOf) → i < length blocks
    → next ≡ walked walk (get_or blocks i d) → new ≡ old ++ block_said scenes sheets texts next (get_or blocks i d) → old ++ said_from scenes sheets texts walk (drop i blocks) ≡ all
    → new ++ said_from scenes sheets texts next (drop (i + 1) blocks) ≡ all
said-step scenes sheets texts blocks i d walk next old new all inside walks is so_far =
    let placed = get_or blocks i d in
    let later = said_from scenes sheets texts next (drop (i + 1) blocks) in
    ap (λ (those : List SaidOf). those ++ later) is
    ∙ append_assoc old (block_said scenes sheets texts next placed) later
    ∙ ap (λ (w : Walk). old ++ (block_said scenes sheets texts w placed ++ said_from scenes sheets texts w (drop (i + 1) blocks))) walks
    ∙ sym (ap (λ those. old ++ said_from scenes sheets texts walk those) (front blocks i d inside)) ∙ so_far

-- The counts of a walk rise by one at most.
pub walked-low : (walk next : Walk) (placed : PlacedBlock) (n : ℕ) → next ≡ walked walk placed → walk.headings ≤ n → next.headings ≤ n + 1
walked-low walk next placed n is low = let same = ap (λ (w : Walk). w.headings) is in by (is_heading_block placed) same
  where
    by : (t : Bool) → next.headings ≡ cond t (walk.headings + 1) walk.headings → next.headings ≤ n + 1
    by true same = omega (arith, same, low)
    by false same = omega (arith, same, low)

pub speeches-low : (walk next : Walk) (placed : PlacedBlock) (n : ℕ) → next ≡ walked walk placed → walk.speeches ≤ n → next.speeches ≤ n + 1
speeches-low walk next placed n is low = let same = ap (λ (w : Walk). w.speeches) is in by (is_first walk placed) same
  where
    by : (t : Bool) → next.speeches ≡ cond t (walk.speeches + 1) walk.speeches → next.speeches ≤ n + 1
    by true same = omega (arith, same, low)
    by false same = omega (arith, same, low)
