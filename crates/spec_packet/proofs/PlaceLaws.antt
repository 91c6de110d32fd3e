-- The sheets at the packet's places are the packet, printed.
use Rattle.std.proofs.Common.{◌≡◌, ℕ, suc, ◌+◌, ◌<◌, Bool, true, false, cond, List, [], ◌∷◌, ◌++◌, length, map, get_or, refl, ap, ap₂, sym, ◌∙◌, append_assoc, length-append, arith}
use Rattle.std.specs.Prelude.{All, is_some, filter}
use Rattle.std.specs.List.{flat_map}
use Rattle.std.proofs.lemmas.Grind.{flat_map-append}
use Rattle.std.proofs.lemmas.List.{get_or-append-add, length-map}
use Rattle.std.proofs.lemmas.List.Elements.{All-nil, All-cons}
use Rattle.spec_labels.specs.PageRecords.{SheetOf}
use Rattle.spec_sheets.specs.Sheets.{Sheet, sheet_bytes}
use Rattle.spec_packet.specs.SheetLists.{bytes_of}
use Rattle.spec_packet.specs.Collations.{Choice, sheet_of, is_handed, packet_of}
use Rattle.spec_state.specs.State.{State}
use Rattle.spec_state.specs.StateSheets.{rows_in, titles_in, title_starts, title_sheets, body_sheets, shown_sheet, sheets_of_state}
use Rattle.spec_packet.specs.Packets.{printed_of, laid_choices}
use Rattle.spec_packet.specs.StatePackets.{laid_of, packet_bytes, title_flag, handed_of, places_from, packet_places, no_sheet, sheets_at}
use Rattle.spec_packet.proofs.ChoiceLaws.{choices-present}
use Rattle.spec_packet.proofs.StatePrinted.{flat-titles, body-laid}

-- Places lie among so many.
pub places-low : (n : ℕ) (flags : List Bool) → All (λ (place : ℕ). place < n + length flags) (places_from n flags)
places-low n [] = All-nil (λ (place : ℕ). place < n + 0)
places-low n (flag ∷ flags) = by flag (λ k d below. (let low = places-low (n + 1) flags k d below in omega (arith, low)))
  where
    low : ℕ → Type 0
    low place = place < n + suc (length flags)

    by : (b : Bool) → All low (places_from (n + 1) flags) → All low (cond b (n ∷ places_from (n + 1) flags) (places_from (n + 1) flags))
    by true later = All-cons low n (places_from (n + 1) flags) (omega arith) later
    by false later = later

pub places-append : (n : ℕ) (xs ys : List Bool) → places_from n (xs ++ ys) ≡ places_from n xs ++ places_from (n + length xs) ys
places-append n [] ys = let e : n ≡ n + 0 = omega arith in ap (λ m. places_from m ys) e
places-append n (x ∷ xs) ys =
    let e : n + 1 + length xs ≡ n + suc (length xs) = omega arith in
    by x (places-append (n + 1) xs ys ∙ ap (λ m. places_from (n + 1) xs ++ places_from m ys) e)
  where
    by : (b : Bool) → places_from (n + 1) (xs ++ ys) ≡ places_from (n + 1) xs ++ places_from (n + suc (length xs)) ys
        → cond b (n ∷ places_from (n + 1) (xs ++ ys)) (places_from (n + 1) (xs ++ ys)) ≡ cond b (n ∷ places_from (n + 1) xs) (places_from (n + 1) xs) ++ places_from (n + suc (length xs)) ys
    by true later = ap (λ (ps : List ℕ). n ∷ ps) later
    by false later = later

-- Those of a list that are flagged.
abbrev pub flagged : List Bool → List Sheet → List Sheet
flagged [] sheets = []
flagged (flag ∷ flags) [] = []
flagged (flag ∷ flags) (sheet ∷ sheets) = cond flag (sheet ∷ flagged flags sheets) (flagged flags sheets)

at-places : (front sheets : List Sheet) (flags : List Bool) → length sheets ≡ length flags → sheets_at (front ++ sheets) (places_from (length front) flags) ≡ flagged flags sheets
at-places front [] [] same = refl
at-places front [] (flag ∷ flags) same = absurd (omega (arith, same))
at-places front (sheet ∷ sheets) [] same = absurd (omega (arith, same))
at-places front (sheet ∷ sheets) (flag ∷ flags) same =
    by flag (ap₂ (λ (l : List Sheet) n. sheets_at l (places_from n flags)) (sym whole) (sym more) ∙ at-places (front ++ (sheet ∷ [])) sheets flags (omega (arith, same)))
  where
    more : length (front ++ (sheet ∷ [])) ≡ length front + 1
    more = length-append front (sheet ∷ [])

    whole : (front ++ (sheet ∷ [])) ++ sheets ≡ front ++ (sheet ∷ sheets)
    whole = append_assoc front (sheet ∷ []) sheets

    all : List Sheet
    all = front ++ (sheet ∷ sheets)

    by : (b : Bool) → sheets_at all (places_from (length front + 1) flags) ≡ flagged flags sheets
        → sheets_at all (cond b (length front ∷ places_from (length front + 1) flags) (places_from (length front + 1) flags)) ≡ cond b (sheet ∷ flagged flags sheets) (flagged flags sheets)
    by true later =
        let zero_at : length front ≡ length front + 0 = omega arith in
        let here : get_or all (length front) no_sheet ≡ sheet = ap (λ n. get_or all n no_sheet) zero_at ∙ get_or-append-add front (sheet ∷ sheets) 0 no_sheet in
        ap₂ (λ (s : Sheet) (l : List Sheet). s ∷ l) here later
    by false later = later

titles-flagged : (titles : List Sheet) (flags : List Bool) (sheets : List Sheet) → flagged (map title_flag titles ++ flags) (titles ++ sheets) ≡ titles ++ flagged flags sheets
titles-flagged [] flags sheets = refl
titles-flagged (title ∷ titles) flags sheets = ap (λ (l : List Sheet). title ∷ l) (titles-flagged titles flags sheets)

module _ (state : State) where
  abbrev shown : SheetOf → Sheet
  shown = shown_sheet (rows_in state)

  choices-flagged : (choices : List Choice) (sheets : List SheetOf) → map sheet_of choices ≡ map (printed_of (laid_of state)) sheets
      → flat_map sheet_bytes (flagged (map is_handed choices) (map shown sheets)) ≡ flat_map bytes_of (packet_of choices)
  choices-flagged [] [] same = refl
  choices-flagged [] (sheet ∷ sheets) same = absurd (let no_way : ⊥ = cc in no_way)
  choices-flagged (choice ∷ choices) [] same = absurd (let no_way : ⊥ = cc in no_way)
  choices-flagged (choice ∷ choices) (sheet ∷ sheets) same =
      let head : choice.sheet ≡ printed_of (laid_of state) sheet = cc in
      let tail : map sheet_of choices ≡ map (printed_of (laid_of state)) sheets = cc in
      by choice.handed (ap bytes_of (sym head)) (choices-flagged choices sheets tail)
    where
      by : (b : Bool) → sheet_bytes (shown sheet) ≡ choice.sheet.bytes
          → flat_map sheet_bytes (flagged (map is_handed choices) (map shown sheets)) ≡ flat_map bytes_of (packet_of choices)
          → flat_map sheet_bytes (cond b (shown sheet ∷ flagged (map is_handed choices) (map shown sheets)) (flagged (map is_handed choices) (map shown sheets)))
          ≡ flat_map bytes_of (map sheet_of (cond b (choice ∷ filter is_handed choices) (filter is_handed choices)))
      by true own later = ap₂ (λ (a b : List ℕ). a ++ b) own later
      by false own later = later

  abbrev titles : List Sheet
  titles = title_sheets (titles_in state) (title_starts state)

  abbrev choices : List Choice
  choices = laid_choices state.round (laid_of state)

  choices-are : is_some state.pages ≡ true → map sheet_of choices ≡ map (printed_of (laid_of state)) (body_sheets state)
  choices-are locked = choices-present state.round (laid_of state) ∙ ap (map (printed_of (laid_of state))) (sym (body-laid state locked))

  -- Each sheet has its flag.
  pub handed-count : is_some state.pages ≡ true → length (handed_of state) ≡ length (sheets_of_state state)
  handed-count locked =
      let one = length-append (map title_flag titles) (map is_handed choices) in
      let other = length-append titles (map shown (body_sheets state)) in
      let a = length-map titles title_flag in
      let b = length-map choices is_handed in
      let c = length-map choices sheet_of in
      let d = length-map (body_sheets state) (printed_of (laid_of state)) in
      let e = length-map (body_sheets state) shown in
      let same = ap length (choices-are locked) in
      omega (arith, one, other, a, b, c, d, e, same)

  -- The sheets at its places, one after another, are the packet.
  pub places-packet : is_some state.pages ≡ true → flat_map sheet_bytes (sheets_at (sheets_of_state state) (packet_places state)) ≡ packet_bytes state
  places-packet locked =
      ap (flat_map sheet_bytes) (at-places [] (sheets_of_state state) (handed_of state) (sym (handed-count locked)) ∙ titles-flagged titles (map is_handed choices) (map shown (body_sheets state)))
      ∙ flat_map-append sheet_bytes titles (flagged (map is_handed choices) (map shown (body_sheets state)))
      ∙ ap₂ (λ (a b : List ℕ). a ++ b) (flat-titles titles) (choices-flagged choices (body_sheets state) (choices-are locked))
