-- The sheets of a record's pages are those of what stands in its segment.
use Rattle.std.proofs.Common.{◌≡◌, ◌⊎◌, ℕ, zero, suc, ◌+◌, ◌<◌, ◌≤◌, Bool, true, false, ◌||◌, cond, eqb, Option, Some, List, [], ◌∷◌, ◌++◌, map, length, inl, inr, refl, sym, ap, ap₂, subst, ◌∙◌, arith, length-append}
use Rattle.std.specs.Prelude.{filter, All, slice_range, slice_index_or}
use Rattle.std.proofs.lemmas.Bool.{cases_lt, eq-eqb, lt-ltb, le-ltb}
use Rattle.std.proofs.lemmas.List.{length-map}
use Rattle.std.proofs.lemmas.List.Elements.{All-nil, All-cons, All-head, All-tail}
use Rattle.spec_pages.specs.Heights.{Heights, next_of, starts_behind}
use Rattle.spec_pages.specs.OwnPages.{own_heights, is_among, lies_in, AreJoined}
use Rattle.spec_labels.specs.Labels.{LabelOf}
use Rattle.spec_labels.specs.PageRecords.{PageRecordOf, SegmentOf, SheetOf, page_sheet, page_sheets, page_label}
use Rattle.spec_labels.specs.Spots.{Spot, Bounds, AtMost}
use Rattle.spec_sheets.specs.Shown.{Shown, shape_of}
use Rattle.spec_sheets.specs.Sheets.{sheet_bytes}
use Rattle.spec_sheets.specs.PageRows.{page_body}
use Rattle.spec_state.specs.StateSheets.{shown_sheet}
use Rattle.spec_edit.specs.Items.{Sight, Item, sights_in, rows_among, shapes_among, breaks_among, all_sights, front_of, back_of, start_of, starts_of_spots}
use Rattle.spec_edit.proofs.Steps.{IsOne, LiesBetween, IsLaidOut}
use Rattle.spec_edit.proofs.AmongLaws.{shapes_among-append}
use Rattle.spec_edit.proofs.SplitLaws.{front-high, text-parts, start_of-rises}
use Rattle.spec_locked_pages.proofs.CutLaws.{segment_starts, text_starts, range-middle, Cut, SpareInside, text_starts-middle}

-- A record with the next one's label and its rows as a segment.
abbrev pub segment_of : PageRecordOf → Option LabelOf → ℕ → ℕ → SegmentOf
segment_of owner next start end = record { owner = owner; next = next; start = start; end = end }

-- A sheet of these rows, printed.
abbrev pub printed : List Shown → SheetOf → List ℕ
printed rows sheet = sheet_bytes (shown_sheet rows sheet)

-- What stands in a segment, printed: its pages, the first with the record's label.
abbrev pub own_sheets : ℕ → PageRecordOf → Option LabelOf → List Sight → List (List ℕ)
own_sheets limit owner next sights =
    map (printed (rows_among sights)) (page_sheets (segment_of owner next 0 (length (shapes_among sights))) 0 (segment_starts limit sights))

-- Page starts are rows.
starts-inside : (limit : ℕ) (rows : Heights) (count : ℕ) (stops : List ℕ) (pages p : ℕ) → All (λ q. q < count) (starts_behind limit rows count stops pages p)
starts-inside limit rows count stops zero p = All-nil (λ q. q < count)
starts-inside limit rows count stops (suc pages) p =
    elim (cases_lt p count) [
      | inl inside ↦
          subst (All (λ q. q < count)) (sym (ap (λ b. cond b (p ∷ later) []) (lt-ltb p count inside)))
          (All-cons (λ q. q < count) p later inside (starts-inside limit rows count stops pages (next_of limit rows count stops p)))
      | inr past ↦ subst (All (λ q. q < count)) (sym (ap (λ b. cond b (p ∷ later) []) (le-ltb p count past))) (All-nil (λ q. q < count))
    ]
  where
    later : List ℕ
    later = starts_behind limit rows count stops pages (next_of limit rows count stops p)

end-shift : (s len : ℕ) (later : List ℕ) → slice_index_or (map (λ q. s + q) later) 0 (s + len) ≡ s + slice_index_or later 0 len
end-shift s len [] = refl
end-shift s len (q ∷ later) = refl

end-low : (len : ℕ) (later : List ℕ) → All (λ q. q < len) later → slice_index_or later 0 len ≤ len
end-low len [] all = omega arith
end-low len (q ∷ later) all = let h = All-head (λ q. q < len) q later all in omega (arith, h)

abbrev bytes_with : LabelOf → ℕ → List Shown → List ℕ
bytes_with label round rows = sheet_bytes (record { label = Some (record { first = label; last = label }); round = round; rows = page_body round rows })

-- The sheets of pages in the middle of rows.
sheets-shift : (owner : PageRecordOf) (next : Option LabelOf) (xs ys zs : List Shown) (m : ℕ) (pages : List ℕ) → All (λ q. q < length ys) pages
    → map (printed (xs ++ (ys ++ zs))) (page_sheets (segment_of owner next (length xs) (length xs + length ys)) m (map (λ q. length xs + q) pages))
    ≡ map (printed ys) (page_sheets (segment_of owner next 0 (length ys)) m pages)
sheets-shift owner next xs ys zs m [] all = refl
sheets-shift owner next xs ys zs m (p ∷ later) all =
    let s = length xs in
    let len = length ys in
    let rest = All-tail (λ q. q < len) p later all in
    let label = page_label (segment_of owner next s (s + len)) m in
    ap₂ (λ a (b : List (List ℕ)). a ∷ b)
    (ap (bytes_with label owner.changed)
    (ap (slice_range (xs ++ (ys ++ zs)) (s + p)) (end-shift s len later) ∙ range-middle xs ys zs p (slice_index_or later 0 len) (end-low len later rest)))
    (sheets-shift owner next xs ys zs (m + 1) later rest)

-- Conditions of a cut.
one-among : (items : List Item) (spots : List Spot) (spot : Spot) → IsOne spots spot → is_among (starts_of_spots items spots) (start_of items spot) ≡ true
one-among items [] spot is = absurd is
one-among items (one ∷ spots) spot is =
    elim is [
      | inl same ↦ first (eqb (start_of items one) (start_of items spot)) (eq-eqb (start_of items one) (start_of items spot) (ap (start_of items) same))
      | inr later ↦ second (eqb (start_of items one) (start_of items spot)) (one-among items spots spot later)
    ]
  where
    first : (b : Bool) → b ≡ true → (b || is_among (starts_of_spots items spots) (start_of items spot)) ≡ true
    first b h = ap (λ b. b || is_among (starts_of_spots items spots) (start_of items spot)) h

    second : (b : Bool) → is_among (starts_of_spots items spots) (start_of items spot) ≡ true → (b || is_among (starts_of_spots items spots) (start_of items spot)) ≡ true
    second true h = refl
    second false h = h

spare-starts : (items : List Item) (spots : List Spot) (bounds : Bounds) → All (λ spot. AtMost spot bounds.low ⊎ AtMost bounds.high spot) spots
    → SpareInside (start_of items bounds.low) (start_of items bounds.high) (starts_of_spots items spots)
spare-starts items [] bounds all = All-nil (λ start. (start ≤ start_of items bounds.low) ⊎ (start_of items bounds.high ≤ start))
spare-starts items (spot ∷ spots) bounds all =
    let P : Spot → Type 0 = λ spot. AtMost spot bounds.low ⊎ AtMost bounds.high spot in
    All-cons (λ start. (start ≤ start_of items bounds.low) ⊎ (start_of items bounds.high ≤ start)) (start_of items spot) (starts_of_spots items spots)
    (elim (All-head P spot spots all) [
      | inl low ↦ inl (start_of-rises spot bounds.low items low)
      | inr high ↦ inr (start_of-rises bounds.high spot items high)
    ])
    (spare-starts items spots bounds (All-tail P spot spots all))

-- Where a segment ends.
pub segment-end : (items : List Item) (bounds : Bounds) → IsLaidOut items → AtMost bounds.low bounds.high
    → start_of items bounds.high ≡ start_of items bounds.low + length (shapes_among (sights_in bounds items))
segment-end items bounds laid order =
    let xs = front_of bounds.low items in
    let ys = sights_in bounds items in
    ap (λ l. length (shapes_among l)) (front-high bounds items laid.rising order) ∙ ap length (shapes_among-append xs ys) ∙ length-append (shapes_among xs) (shapes_among ys)

-- The sheets of a record's pages, by what stands in its segment alone. The rows of the text are those of its items there.
pub record_sheets-own : (limit : ℕ) (items : List Item) (spots : List Spot) (owner : PageRecordOf) (next : Option LabelOf) (bounds : Bounds) (front back : List Shown)
    → IsLaidOut items → LiesBetween items spots bounds → length front ≡ start_of items bounds.low
    → map (printed (front ++ (rows_among (sights_in bounds items) ++ back)))
    (page_sheets (segment_of owner next (start_of items bounds.low) (start_of items bounds.high)) 0
    (filter (lies_in (start_of items bounds.low) (start_of items bounds.high)) (text_starts limit (all_sights items) (starts_of_spots items spots))))
    ≡ own_sheets limit owner next (sights_in bounds items)
record_sheets-own limit items spots owner next bounds front back laid lies size =
    let xs = front_of bounds.low items in
    let ys = sights_in bounds items in
    let zs = back_of bounds.high items in
    let whole : all_sights items ≡ xs ++ (ys ++ zs) = text-parts bounds items laid.rising lies.order in
    let end : start_of items bounds.high ≡ length (shapes_among xs) + length (shapes_among ys) = segment-end items bounds laid lies.order in
    let starts = starts_of_spots items spots in
    let s = length (shapes_among xs) in
    let len = length (shapes_among ys) in
    let cut : Cut xs ys zs starts = record {
      joined = subst (λ l. AreJoined (shapes_among l)) whole laid.joined;
      spare = subst (λ e. SpareInside s e starts) end (spare-starts items spots bounds lies.spare);
      begin = elim lies.begin [ inl none ↦ inl (ap (λ l. length (shapes_among l)) none) | inr one ↦ inr (one-among items spots bounds.low one) ];
      end = elim lies.end [ inl none ↦ inl (ap (λ l. length (shapes_among l)) none) | inr one ↦ inr (subst (λ e. is_among starts e ≡ true) end (one-among items spots bounds.high one)) ];
    } in
    let pages = segment_starts limit ys in
    let inside : All (λ q. q < len) pages = starts-inside limit (own_heights (shapes_among ys)) len (breaks_among 0 ys) len 0 in
    let rows_len : length (rows_among ys) ≡ len = sym (length-map (rows_among ys) shape_of) in
    let rows = front ++ (rows_among ys ++ back) in
    ap (λ e. map (printed rows) (page_sheets (segment_of owner next s e) 0 (filter (lies_in s e) (text_starts limit (all_sights items) starts)))) end
    ∙ ap (λ l. map (printed rows) (page_sheets (segment_of owner next s (s + len)) 0 (filter (lies_in s (s + len)) (text_starts limit l starts)))) whole
    ∙ ap (λ ps. map (printed rows) (page_sheets (segment_of owner next s (s + len)) 0 ps)) (text_starts-middle limit xs ys zs starts cut)
    ∙ ap₂ (λ a b. map (printed rows) (page_sheets (segment_of owner next a (a + b)) 0 (map (λ q. a + q) pages))) (sym size) (sym rows_len)
    ∙ sheets-shift owner next front (rows_among ys) back 0 pages (subst (λ n. All (λ q. q < n) pages) (sym rows_len) inside)
    ∙ ap (λ n. map (printed (rows_among ys)) (page_sheets (segment_of owner next 0 n) 0 pages)) rows_len

-- Sheets don't show a record's anchor.
abbrev record_with : LabelOf → ℕ → ℕ → ℕ → PageRecordOf
record_with label line row changed = record { label = label; line = line; row = row; changed = changed }

pages-same : (label : LabelOf) (line other row at changed : ℕ) (next : Option LabelOf) (start end m : ℕ) (pages : List ℕ)
    → page_sheets (segment_of (record_with label line row changed) next start end) m pages ≡ page_sheets (segment_of (record_with label other at changed) next start end) m pages
pages-same label line other row at changed next start end m [] = refl
pages-same label line other row at changed next start end m (page ∷ pages) =
    ap (λ (sheets : List SheetOf). page_sheet (segment_of (record_with label other at changed) next start end) m page pages ∷ sheets)
    (pages-same label line other row at changed next start end (m + 1) pages)

pub place-same : (limit : ℕ) (one other : PageRecordOf) (next after : Option LabelOf) (sights : List Sight) → other.label ≡ one.label → other.changed ≡ one.changed → after ≡ next
    → own_sheets limit other after sights ≡ own_sheets limit one next sights
place-same limit one other next after sights label changed same =
    let end = length (shapes_among sights) in
    let pages = segment_starts limit sights in
    ap (map (printed (rows_among sights)))
    (ap₂ (λ (l : LabelOf) c. page_sheets (segment_of (record_with l other.line other.row c) after 0 end) 0 pages) label changed
    ∙ ap (λ n. page_sheets (segment_of (record_with one.label other.line other.row one.changed) n 0 end) 0 pages) same
    ∙ pages-same one.label other.line one.line other.row one.row one.changed next 0 end 0 pages)
