-- The places that the facts of sheets and the fresh records give are those of the packet.
use Rattle.std.proofs.Common.{◌≡◌, ℕ, ◌+◌, ◌-◌, ◌<◌, ◌≤◌, ◌^◌, Bool, true, false, cond, Option, Some, None, List, [], ◌∷◌, ◌++◌, length, map, drop, get_or, replicate, append_assoc, refl, ap, ap₂, sym, ◌∙◌, length-append, arith, unwrap_or}
use Rattle.std.specs.Prelude.{All, is_some}
use Rattle.std.proofs.lemmas.List.{drop_more, length-map}
use Rattle.spec_labels.specs.PageRecords.{PageRecordOf, segments}
use Rattle.spec_sheets.specs.Sheets.{Sheet}
use Rattle.spec_packet.specs.Collations.{is_handed, sheet_of}
use Rattle.spec_state.specs.State.{State}
use Rattle.spec_state.specs.Keeping.{IsWhole}
use Rattle.spec_state.specs.StateSheets.{body_sheets, rows_in, sheets_of_state, shown_sheet, title_sheets, title_starts, titles_in}
use Rattle.spec_locked_pages.specs.Segments.{records_in, segments_in}
use Rattle.spec_packet.specs.Packets.{is_fresh, laid_choices, laid_sheets, printed_of}
use Rattle.spec_packet.specs.SheetFacts.{PlacesOf, SheetFactsOf, is_chosen, laid_facts}
use Rattle.spec_packet.specs.StatePackets.{laid_of, packet_places, places_from, title_flag}
use Rattle.spec_packet.proofs.ChosenLaws.{chosen-by-facts}
use Rattle.spec_packet.proofs.ChoiceLaws.{choices-present}
use Rattle.spec_packet.proofs.PlaceLaws.{places-append}
use Rattle.spec_packet.proofs.StatePrinted.{body-laid}
use Rattle.sp_packet.specs.Fresh.{FreshCounts, counts_of, is_handed_by, is_of_round}
use Rattle.sp_packet.specs.Runs.{LieWithin, LiesBelow}
use Rattle.sp_packet.proofs.FactWalk.{are-starts, starts_in}
use Rattle.sp_packet.proofs.FreshLaws.{all-chosen}
use Rattle.sp_packet.proofs.SegmentLaws.{begins-at-zero, in-order}

fresh-records : (round rows : ℕ) (records : List PageRecordOf) (starts : List ℕ) → length starts ≡ length records → map (is_fresh round) (segments rows records starts) ≡ map (is_of_round round) records
fresh-records round rows [] [] same = refl
fresh-records round rows [] (start ∷ starts) same = absurd (omega (arith, same))
fresh-records round rows (it ∷ records) [] same = absurd (omega (arith, same))
fresh-records round rows (it ∷ records) (start ∷ starts) same = ap (λ (l : List Bool). is_of_round round it ∷ l) (fresh-records round rows records starts (omega (arith, same)))

all-titles : (titles : List Sheet) → map title_flag titles ≡ replicate (length titles) true
all-titles [] = refl
all-titles (title ∷ titles) = ap (λ (l : List Bool). true ∷ l) (all-titles titles)

pub packet-is : (state : State) → IsWhole state → (records : List PageRecordOf) → state.pages ≡ Some records → (titles : ℕ) → titles ≡ length (sheets_of_state state) - length (body_sheets state)
    → places_from 0 (replicate titles true) ++ places_from titles (map (is_handed_by (counts_of (map (is_of_round state.round) records))) (laid_facts (laid_of state))) ≡ packet_places state
packet-is state whole records is titles count =
    ap₂ (λ (a : List ℕ) (b : List Bool). a ++ places_from titles b) (ap (λ n. places_from 0 (replicate n true)) count_is ∙ ap (places_from 0) (sym (all-titles sheets))) chosen
    ∙ ap (λ n. places_from 0 (map title_flag sheets) ++ places_from n (map is_handed (laid_choices state.round (laid_of state)))) behind
    ∙ sym (places-append 0 (map title_flag sheets) (map is_handed (laid_choices state.round (laid_of state))))
  where
    sheets : List Sheet
    sheets = title_sheets (titles_in state) (title_starts state)

    locked : is_some state.pages ≡ true
    locked = ap is_some is

    are-records : records_in state ≡ records
    are-records = ap (λ (o : Option (List PageRecordOf)). unwrap_or o []) is

    count_is : titles ≡ length sheets
    count_is =
        let both = length-append sheets (map (shown_sheet (rows_in state)) (body_sheets state)) in
        let body = length-map (body_sheets state) (shown_sheet (rows_in state)) in
        omega (arith, count, both, body)

    behind : titles ≡ 0 + length (map title_flag sheets)
    behind = let same = length-map sheets title_flag in omega (arith, count_is, same)

    chosen : map (is_handed_by (counts_of (map (is_of_round state.round) records))) (laid_facts (laid_of state)) ≡ map is_handed (laid_choices state.round (laid_of state))
    chosen =
        let are = are-starts state whole locked in
        let fresh : map (is_of_round state.round) records ≡ map (is_fresh state.round) (segments_in state) =
        ap (map (is_of_round state.round)) (sym are-records) ∙ sym (fresh-records state.round (length (rows_in state)) (records_in state) (starts_in state) are.count) in
        all-chosen (map (is_of_round state.round) records) (laid_facts (laid_of state))
        ∙ ap (λ (f : List Bool). map (is_chosen f) (laid_facts (laid_of state))) fresh
        ∙ sym (chosen-by-facts state.round (laid_of state) (in-order (length (rows_in state)) (records_in state) (starts_in state) are) (begins-at-zero (length (rows_in state)) (records_in state) (starts_in state) are.first))

-- One more sheet is handed out, or isn't.
pub handed-step : (fresh : FreshCounts) (n place : ℕ) (facts : List SheetFactsOf) (it : SheetFactsOf) (b : Bool) (old new all : List ℕ) → place < length facts → get_or facts place it ≡ it → is_handed_by fresh it ≡ b
    → new ≡ old ++ cond b ((n + place) ∷ []) [] → old ++ places_from (n + place) (map (is_handed_by fresh) (drop place facts)) ≡ all
    → new ++ places_from (n + (place + 1)) (map (is_handed_by fresh) (drop (place + 1) facts)) ≡ all
handed-step fresh n place facts it b old new all inside here handed made before =
    let one : n + place + 1 ≡ n + (place + 1) = omega arith in
    let rest = places_from (n + (place + 1)) (map (is_handed_by fresh) (drop (place + 1) facts)) in
    let parts : drop place facts ≡ it ∷ drop (place + 1) facts = drop_more facts place it inside ∙ ap (λ (f : SheetFactsOf). f ∷ drop (place + 1) facts) here in
    ap (λ (l : List ℕ). l ++ rest) made ∙ append_assoc old (cond b ((n + place) ∷ []) []) rest
    ∙ ap (λ (l : List ℕ). old ++ l) (by b (is_handed_by fresh it) handed rest ∙ ap (λ m. cond (is_handed_by fresh it) ((n + place) ∷ places_from m (map (is_handed_by fresh) (drop (place + 1) facts))) (places_from m (map (is_handed_by fresh) (drop (place + 1) facts)))) (sym one))
    ∙ sym (ap (λ (l : List SheetFactsOf). old ++ places_from (n + place) (map (is_handed_by fresh) l)) parts) ∙ before
  where
    by : (b c : Bool) → c ≡ b → (rest : List ℕ) → cond b ((n + place) ∷ []) [] ++ rest ≡ cond c ((n + place) ∷ rest) rest
    by true c same rest = sym (ap (λ d. cond d ((n + place) ∷ rest) rest) same)
    by false c same rest = sym (ap (λ d. cond d ((n + place) ∷ rest) rest) same)

pub body-few : (state : State) → length (body_sheets state) ≤ length (sheets_of_state state)
body-few state =
    let both = length-append (title_sheets (titles_in state) (title_starts state)) (map (shown_sheet (rows_in state)) (body_sheets state)) in
    let body = length-map (body_sheets state) (shown_sheet (rows_in state)) in
    omega (arith, both, body)

-- There are as many facts as sheets with labels.
pub facts-count : (state : State) → IsWhole state → is_some state.pages ≡ true → length (laid_facts (laid_of state)) ≡ length (body_sheets state)
facts-count state whole locked =
    let are = are-starts state whole locked in
    let laid = laid_of state in
    let choices = laid_choices state.round (laid_of state) in
    let chosen = ap length (chosen-by-facts state.round (laid_of state) (in-order (length (rows_in state)) (records_in state) (starts_in state) are) (begins-at-zero (length (rows_in state)) (records_in state) (starts_in state) are.first)) in
    let a = length-map choices is_handed in
    let b = length-map (laid_facts (laid_of state)) (is_chosen (map (is_fresh state.round) (segments_in state))) in
    let c = ap length (choices-present state.round (laid_of state)) in
    let d = length-map choices sheet_of in
    let e = length-map (laid_sheets (laid_of state)) (printed_of (laid_of state)) in
    let f = ap length (body-laid state locked) in
    omega (arith, chosen, a, b, c, d, e, f)

-- Places of few records are low.
pub within-low : (count : ℕ) (facts : List SheetFactsOf) → count ≤ 2 ^ 63 → All (LieWithin count) facts → All (LieWithin (2 ^ 63)) facts
within-low count facts few all k d below =
    let it = all k d below in
    record { records_are = (let last = it.records_are in omega (arith, last, few)); cue_is = by _ it.cue_is }
  where
    by : (cue : Option PlacesOf) → LiesBelow count cue → LiesBelow (2 ^ 63) cue
    by None low = tt
    by (Some places) low = omega (arith, low, few)
