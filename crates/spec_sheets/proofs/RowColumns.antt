-- What is written of a row is its clusters at their columns, and spaces at all others.
use Rattle.std.proofs.Common.{◌≡◌, ℕ, zero, suc, ◌+◌, ◌-◌, ◌<◌, ◌≤◌, Bool, true, false, ◌&&◌, ◌||◌, cond, ◌==◌, leb, ltb, List, [], ◌∷◌, ◌++◌, length, inl, inr, refl, sym, ap, ap₂, subst, ◌∙◌, arith, append_assoc}
use Rattle.std.specs.Prelude.{All, filter, sum_by}
use Rattle.std.specs.List.{flat_map, list_any, concat}
use Rattle.std.specs.Str.{IsUtf8}
use Rattle.std.proofs.lemmas.Bool.{cases_lt, eq-eqb, ne_eqb, eqb-false, le-leb, lt-leb, le-ltb, lt-ltb}
use Rattle.std.proofs.lemmas.List.{append-nil}
use Rattle.std.proofs.lemmas.List.Elements.{All-head, All-tail, All-nil, All-cons, All-append}
use Rattle.std.proofs.lemmas.List.Folds.{concat-append}
use Rattle.std.proofs.lemmas.List.Concat.{flat_map-append}
use Rattle.std.proofs.lemmas.List.Sums.{sum_by-cons, sum_by-append}
use Rattle.std.proofs.lemmas.Str.{IsUtf8-from_ascii}
use Rattle.std.proofs.lemmas.Str.Ascii.{IsAscii-from_all}
use Rattle.std.specs.Prelude.{codes}
use Rattle.unicode_segmentation.specs.Grapheme.{graphemes, is_grapheme_break}
use Rattle.unicode_segmentation.proofs.SegmentsLemmas.{concat-segments}
use Rattle.spec_pages.specs.Clusters.{width_of, columns_of}
use Rattle.spec_sheets.specs.Cells.{ShownPart, ShownCell, part_text, cell_text, cell_width, fixed_cell}
use Rattle.spec_sheets.specs.RowBytes.{ShownRow, spaces, untabbed, part_bytes, is_blank, gap, cells_bytes, star_cells, row_bytes}
use Rattle.spec_sheets.specs.RowColumns.{Placed, placed_from, cell_clusters, start_of, placed_cells, row_placed, stands_at, takes, standing_at, written_at, written_from, end_of, row_written}

-- ---- clusters in order

-- The first stands not before a column, and each other not before the end of the one before it.
abbrev InOrder : ℕ → List Placed → Type 0
InOrder low [] = Unit {0}
InOrder low (it ∷ later) = (low ≤ it.column) × InOrder (it.column + it.width) later

order-end : (low : ℕ) (its : List Placed) → InOrder low its → low ≤ end_of low its
order-end low [] o = omega arith
order-end low (it ∷ later) o = let rest = order-end (it.column + it.width) later o.1 in let first = o.0 in omega (arith, first, rest)

order-lower : (low at : ℕ) (its : List Placed) → low ≤ at → InOrder at its → InOrder low its
order-lower low at [] h o = tt
order-lower low at (it ∷ later) h o = let first = o.0 in (omega (arith, first, h), o.1)

-- Before them none stands at a column, and none takes it.
none-stands : (k low : ℕ) (its : List Placed) → InOrder low its → k < low → filter (stands_at k) its ≡ []
none-stands k low [] o h = refl
none-stands k low (it ∷ later) o h =
    let first = o.0 in
    ap (λ b. cond b (it ∷ filter (stands_at k) later) (filter (stands_at k) later)) (ne_eqb it.column k (λ same. omega (arith, same, first, h)))
    ∙ none-stands k (it.column + it.width) later o.1 (omega (arith, first, h))

none-takes : (k low : ℕ) (its : List Placed) → InOrder low its → k < low → list_any (takes k) its ≡ false
none-takes k low [] o h = refl
none-takes k low (it ∷ later) o h =
    let first = o.0 in
    ap (λ b. (b && ltb k (it.column + it.width)) || list_any (takes k) later) (lt-leb it.column k (omega (arith, first, h)))
    ∙ none-takes k (it.column + it.width) later o.1 (omega (arith, first, h))

and-no : (a b : Bool) → b ≡ false → (a && b) ≡ false
and-no true b h = h
and-no false b h = refl

and-both : (a b : Bool) → a ≡ true → b ≡ true → (a && b) ≡ true
and-both true b h g = g
and-both false b h g = h

-- ---- what is written at columns, by the first cluster

-- The bytes of clusters.
abbrev bytes_in : List Placed → List ℕ
bytes_in its = flat_map (λ (it : Placed). it.bytes) its

standing-by : (it : Placed) (its : List Placed) (k : ℕ) (s : Bool) → stands_at k it ≡ s
    → standing_at (it ∷ its) k ≡ bytes_in (cond s (it ∷ filter (stands_at k) its) (filter (stands_at k) its))
standing-by it its k s is = ap (λ b. bytes_in (cond b (it ∷ filter (stands_at k) its) (filter (stands_at k) its))) is

written-by : (it : Placed) (its : List Placed) (k : ℕ) (s t : Bool) → stands_at k it ≡ s → takes k it ≡ t
    → written_at (it ∷ its) k ≡ bytes_in (cond s (it ∷ filter (stands_at k) its) (filter (stands_at k) its)) ++ cond (t || list_any (takes k) its) [] (32 ∷ [])
written-by it its k s t is takes_is =
    ap₂ (λ (a : List ℕ) b. a ++ cond (b || list_any (takes k) its) [] (32 ∷ [])) (standing-by it its k s is) takes_is

-- Behind it.
written-later : (it : Placed) (its : List Placed) (k : ℕ) → it.column < k → it.column + it.width ≤ k → written_at (it ∷ its) k ≡ written_at its k
written-later it its k low past =
    written-by it its k false false (ne_eqb it.column k (λ same. omega (arith, same, low))) (and-no (leb it.column k) (ltb k (it.column + it.width)) (le-ltb k (it.column + it.width) past))

standing-later : (it : Placed) (its : List Placed) (k : ℕ) → it.column < k → standing_at (it ∷ its) k ≡ standing_at its k
standing-later it its k low = standing-by it its k false (ne_eqb it.column k (λ same. omega (arith, same, low)))

-- In it.
written-inside : (it : Placed) (its : List Placed) (k : ℕ) → InOrder (it.column + it.width) its → it.column < k → k < it.column + it.width → written_at (it ∷ its) k ≡ []
written-inside it its k o low high =
    written-by it its k false true (ne_eqb it.column k (λ same. omega (arith, same, low))) (and-both (leb it.column k) (ltb k (it.column + it.width)) (le-leb it.column k (omega (arith, low))) (lt-ltb k (it.column + it.width) high))
    ∙ ap (λ (l : List Placed). bytes_in l ++ []) (none-stands k (it.column + it.width) its o high)

-- At its column.
standing-here : (it : Placed) (its : List Placed) → standing_at (it ∷ its) it.column ≡ it.bytes ++ standing_at its it.column
standing-here it its = standing-by it its it.column true (eq-eqb it.column it.column refl)

written-wide : (it : Placed) (its : List Placed) → InOrder (it.column + it.width) its → 0 < it.width → written_at (it ∷ its) it.column ≡ it.bytes
written-wide it its o some =
    let k = it.column in
    written-by it its k true true (eq-eqb k k refl) (and-both (leb k k) (ltb k (k + it.width)) (le-leb k k (omega arith)) (lt-ltb k (k + it.width) (omega (arith, some))))
    ∙ append-nil (bytes_in (it ∷ filter (stands_at k) its))
    ∙ ap (λ (l : List Placed). bytes_in (it ∷ l)) (none-stands k (k + it.width) its o (omega (arith, some)))
    ∙ append-nil it.bytes

written-flat : (it : Placed) (its : List Placed) → it.width ≡ 0 → written_at (it ∷ its) it.column ≡ it.bytes ++ written_at its it.column
written-flat it its flat =
    let k = it.column in
    written-by it its k true false (eq-eqb k k refl) (and-no (leb k k) (ltb k (k + it.width)) (le-ltb k (k + it.width) (omega (arith, flat))))
    ∙ append_assoc it.bytes (standing_at its k) (cond (list_any (takes k) its) [] (32 ∷ []))

-- ---- runs of columns

written-split : (its : List Placed) (at m n total : ℕ) → total ≡ m + n → written_from its at total ≡ written_from its at m ++ written_from its (at + m) n
written-split its at zero n total is =
    let same : total ≡ n = omega (arith, is) in
    let here : at ≡ at + 0 = omega arith in
    ap₂ (written_from its) here same
written-split its at (suc m) n zero is = absurd (omega (arith, is))
written-split its at (suc m) n (suc total) is =
    let there : at + 1 + m ≡ at + suc m = omega arith in
    ap (λ (l : List ℕ). written_at its at ++ l) (written-split its (at + 1) m n total (omega (arith, is)))
    ∙ sym (append_assoc (written_at its at) (written_from its (at + 1) m) (written_from its (at + 1 + m) n))
    ∙ ap (λ k. (written_at its at ++ written_from its (at + 1) m) ++ written_from its k n) there

-- Before the clusters stand spaces.
written-before : (its : List Placed) (low at n : ℕ) → InOrder low its → at + n ≤ low → written_from its at n ≡ spaces n
written-before its low at zero o h = refl
written-before its low at (suc n) o h =
    ap₂ (λ (a b : List ℕ). a ++ b)
    (ap₂ (λ (l : List Placed) t. bytes_in l ++ cond t [] (32 ∷ [])) (none-stands at low its o (omega (arith, h))) (none-takes at low its o (omega (arith, h))))
    (written-before its low (at + 1) n o (omega (arith, h)))

all-later : (it : Placed) (its : List Placed) (at n : ℕ) → it.column < at → it.column + it.width ≤ at → written_from (it ∷ its) at n ≡ written_from its at n
all-later it its at zero low past = refl
all-later it its at (suc n) low past =
    ap₂ (λ (a b : List ℕ). a ++ b) (written-later it its at low past) (all-later it its (at + 1) n (omega (arith, low)) (omega (arith, past)))

all-inside : (it : Placed) (its : List Placed) (at n : ℕ) → InOrder (it.column + it.width) its → it.column < at → at + n ≤ it.column + it.width → written_from (it ∷ its) at n ≡ []
all-inside it its at zero o low high = refl
all-inside it its at (suc n) o low high =
    ap₂ (λ (a b : List ℕ). a ++ b) (written-inside it its at o low (omega (arith, high))) (all-inside it its (at + 1) n o (omega (arith, low)) (omega (arith, high)))

-- From the column of the first cluster on, up to a column behind it: what it shows, and what the others do.
abbrev Rest : List Placed → ℕ → ℕ → List ℕ
Rest its at end = written_from its at (end - at) ++ standing_at its end

own-wide : (it : Placed) (its : List Placed) (end : ℕ) → InOrder (it.column + it.width) its → 0 < it.width → it.column + it.width ≤ end → Rest (it ∷ its) it.column end ≡ it.bytes ++ Rest its (it.column + it.width) end
own-wide it its end o some past =
    let k = it.column in
    let e = k + it.width in
    let one : written_from (it ∷ its) k 1 ≡ it.bytes = append-nil (written_at (it ∷ its) k) ∙ written-wide it its o some in
    let inner : written_from (it ∷ its) (k + 1) (it.width - 1) ≡ [] = all-inside it its (k + 1) (it.width - 1) o (omega arith) (omega (arith, some)) in
    let own : written_from (it ∷ its) k it.width ≡ it.bytes =
    written-split (it ∷ its) k 1 (it.width - 1) it.width (omega (arith, some)) ∙ ap₂ (λ (a b : List ℕ). a ++ b) one inner ∙ append-nil it.bytes in
    let rest : written_from (it ∷ its) e (end - e) ≡ written_from its e (end - e) = all-later it its e (end - e) (omega (arith, some)) (omega arith) in
    ap (λ (l : List ℕ). l ++ standing_at (it ∷ its) end) (written-split (it ∷ its) k it.width (end - e) (end - k) (omega (arith, past)) ∙ ap₂ (λ (a b : List ℕ). a ++ b) own rest)
    ∙ append_assoc it.bytes (written_from its e (end - e)) (standing_at (it ∷ its) end)
    ∙ ap (λ (l : List ℕ). it.bytes ++ (written_from its e (end - e) ++ l)) (standing-later it its end (omega (arith, some, past)))

-- The same of so many columns, where it takes none.
flat-columns : (it : Placed) (its : List Placed) (n end : ℕ) → it.width ≡ 0 → end ≡ it.column + n
    → written_from (it ∷ its) it.column n ++ standing_at (it ∷ its) end ≡ it.bytes ++ (written_from its it.column n ++ standing_at its end)
flat-columns it its zero end flat is =
    let here : end ≡ it.column = omega (arith, is) in
    ap (standing_at (it ∷ its)) here ∙ standing-here it its ∙ ap (λ k. it.bytes ++ standing_at its k) (sym here)
flat-columns it its (suc n) end flat is =
    let k = it.column in
    let later = written_from its (k + 1) n in
    ap₂ (λ (a b : List ℕ). a ++ b)
    (ap₂ (λ (a b : List ℕ). a ++ b) (written-flat it its flat) (all-later it its (k + 1) n (omega arith) (omega (arith, flat))))
    (standing-later it its end (omega (arith, is)))
    ∙ ap (λ (l : List ℕ). l ++ standing_at its end) (append_assoc it.bytes (written_at its k) later)
    ∙ append_assoc it.bytes (written_at its k ++ later) (standing_at its end)

own-flat : (it : Placed) (its : List Placed) (end : ℕ) → it.width ≡ 0 → it.column ≤ end → Rest (it ∷ its) it.column end ≡ it.bytes ++ Rest its (it.column + it.width) end
own-flat it its end flat past =
    let here : it.column ≡ it.column + it.width = omega (arith, flat) in
    flat-columns it its (end - it.column) end flat (omega (arith, past)) ∙ ap (λ k. it.bytes ++ Rest its k end) here

own : (it : Placed) (its : List Placed) (end : ℕ) → InOrder (it.column + it.width) its → it.column + it.width ≤ end → Rest (it ∷ its) it.column end ≡ it.bytes ++ Rest its (it.column + it.width) end
own it its end o past = elim (cases_lt 0 it.width) [
  | inl some ↦ own-wide it its end o some past
  | inr none ↦ own-flat it its end (omega (arith, none)) (omega (arith, past))
]

-- ---- clusters one behind the other

-- Spaces up to each, and its bytes.
abbrev walk : ℕ → List Placed → List ℕ
walk at [] = []
walk at (it ∷ its) = spaces (it.column - at) ++ (it.bytes ++ walk (it.column + it.width) its)

walk-columns : (at : ℕ) (its : List Placed) → InOrder at its → walk at its ≡ Rest its at (end_of at its)
walk-columns at [] o = let none : at - at ≡ 0 = omega arith in sym (ap (λ n. written_from [] at n ++ []) none)
walk-columns at (it ∷ its) o =
    let k = it.column in
    let e = k + it.width in
    let end = end_of e its in
    let first = o.0 in
    let past = order-end e its o.1 in
    let there : at + (k - at) ≡ k = omega (arith, first) in
    let before = written-before (it ∷ its) k at (k - at) (omega arith, o.1) (omega (arith, first)) in
    let split : written_from (it ∷ its) at (end - at) ≡ spaces (k - at) ++ written_from (it ∷ its) k (end - k) =
    written-split (it ∷ its) at (k - at) (end - k) (end - at) (omega (arith, first, past)) ∙ ap₂ (λ (a : List ℕ) n. a ++ written_from (it ∷ its) n (end - k)) before there in
    ap (λ (l : List ℕ). spaces (k - at) ++ (it.bytes ++ l)) (walk-columns e its o.1)
    ∙ sym (ap (λ (l : List ℕ). l ++ standing_at (it ∷ its) end) split
    ∙ append_assoc (spaces (k - at)) (written_from (it ∷ its) k (end - k)) (standing_at (it ∷ its) end)
    ∙ ap (λ (l : List ℕ). spaces (k - at) ++ l) (own it its end o.1 past))

-- ---- the clusters of a cell

no-gap : (at : ℕ) (bytes : List ℕ) → spaces (at - at) ++ bytes ≡ bytes
no-gap at bytes = let none : at - at ≡ 0 = omega arith in ap (λ n. spaces n ++ bytes) none

-- What follows the first of them's place.
walk-pieces : (at : ℕ) (piece : List ℕ) (pieces : List (List ℕ)) (rest : List Placed)
    → untabbed piece ++ walk (at + width_of piece) (placed_from (at + width_of piece) pieces ++ rest) ≡ flat_map untabbed (piece ∷ pieces) ++ walk (at + sum_by width_of (piece ∷ pieces)) rest
walk-pieces at piece [] rest =
    let sum = sum_by-cons width_of piece [] in
    let end : at + width_of piece ≡ at + sum_by width_of (piece ∷ []) = omega (arith, sum) in
    ap₂ (λ (a : List ℕ) n. a ++ walk n rest) (sym (append-nil (untabbed piece))) end
walk-pieces at piece (next ∷ pieces) rest =
    let behind = at + width_of piece in
    let sum = sum_by-cons width_of piece (next ∷ pieces) in
    let end : behind + sum_by width_of (next ∷ pieces) ≡ at + sum_by width_of (piece ∷ next ∷ pieces) = omega (arith, sum) in
    ap (λ (l : List ℕ). untabbed piece ++ l)
    (no-gap behind (untabbed next ++ walk (behind + width_of next) (placed_from (behind + width_of next) pieces ++ rest)) ∙ walk-pieces behind next pieces rest)
    ∙ sym (append_assoc (untabbed piece) (flat_map untabbed (next ∷ pieces)) (walk (behind + sum_by width_of (next ∷ pieces)) rest))
    ∙ ap (λ n. flat_map untabbed (piece ∷ next ∷ pieces) ++ walk n rest) end

walk-cell : (end start : ℕ) (pieces : List (List ℕ)) (rest : List Placed) → (pieces ≡ [] → ⊥)
    → walk end (placed_from start pieces ++ rest) ≡ spaces (start - end) ++ (flat_map untabbed pieces ++ walk (start + sum_by width_of pieces) rest)
walk-cell end start [] rest some = absurd (some refl)
walk-cell end start (piece ∷ pieces) rest some = ap (λ (l : List ℕ). spaces (start - end) ++ l) (walk-pieces start piece pieces rest)

placed-order : (low at : ℕ) (pieces : List (List ℕ)) (rest : List Placed) → low ≤ at → InOrder (at + sum_by width_of pieces) rest → InOrder low (placed_from at pieces ++ rest)
placed-order low at [] rest h o = order-lower low (at + sum_by width_of []) rest (omega (arith, h)) o
placed-order low at (piece ∷ pieces) rest h o =
    let sum = sum_by-cons width_of piece pieces in
    let end : at + sum_by width_of (piece ∷ pieces) ≡ at + width_of piece + sum_by width_of pieces = omega (arith, sum) in
    (h, placed-order (at + width_of piece) (at + width_of piece) pieces rest (omega arith) (subst (λ n. InOrder n rest) end o))

-- What the parts of a cell show is text.
abbrev pub HasText : ShownCell → Type 0
HasText cell = All (λ (part : ShownPart). IsUtf8 (part_text part)) cell.parts

abbrev clusters_in : List ShownPart → List (List ℕ)
clusters_in parts = flat_map (λ (part : ShownPart). graphemes true (part_text part)) parts

untabbed-pieces : (pieces : List (List ℕ)) → flat_map untabbed pieces ≡ untabbed (concat pieces)
untabbed-pieces [] = refl
untabbed-pieces (piece ∷ pieces) =
    ap (λ (l : List ℕ). untabbed piece ++ l) (untabbed-pieces pieces) ∙ sym (flat_map-append (λ b. cond (b == 9) (spaces 4) (b ∷ [])) piece (concat pieces))

parts-bytes : (parts : List ShownPart) → All (λ (part : ShownPart). IsUtf8 (part_text part)) parts → flat_map untabbed (clusters_in parts) ≡ flat_map part_bytes parts
parts-bytes [] all = refl
parts-bytes (part ∷ parts) all =
    let P : ShownPart → Type 0 = λ (it : ShownPart). IsUtf8 (part_text it) in
    let own = graphemes true (part_text part) in
    flat_map-append untabbed own (clusters_in parts)
    ∙ ap₂ (λ (a b : List ℕ). a ++ b) (untabbed-pieces own ∙ ap untabbed (concat-segments (is_grapheme_break true) (part_text part) (All-head P part parts all))) (parts-bytes parts (All-tail P part parts all))

parts-text : (parts : List ShownPart) → All (λ (part : ShownPart). IsUtf8 (part_text part)) parts → concat (clusters_in parts) ≡ flat_map part_text parts
parts-text [] all = refl
parts-text (part ∷ parts) all =
    let P : ShownPart → Type 0 = λ (it : ShownPart). IsUtf8 (part_text it) in
    let own = graphemes true (part_text part) in
    concat-append own (clusters_in parts)
    ∙ ap₂ (λ (a b : List ℕ). a ++ b) (concat-segments (is_grapheme_break true) (part_text part) (All-head P part parts all)) (parts-text parts (All-tail P part parts all))

parts-width : (parts : List ShownPart) → sum_by width_of (clusters_in parts) ≡ sum_by (λ (part : ShownPart). columns_of (part_text part)) parts
parts-width [] = refl
parts-width (part ∷ parts) =
    let own = graphemes true (part_text part) in
    let both = sum_by-append width_of own (clusters_in parts) in
    let sum = sum_by-cons (λ (it : ShownPart). columns_of (part_text it)) part parts in
    let rest = parts-width parts in
    omega (arith, both, sum, rest)

some-clusters : (cell : ShownCell) → HasText cell → is_blank cell ≡ false → cell_clusters cell ≡ [] → ⊥
some-clusters cell text blank none =
    let same : cell_text cell ≡ [] = sym (parts-text cell.parts text) ∙ ap concat none in
    eqb-false (length (cell_text cell)) 0 blank (ap length same)

-- ---- cells and rows

gap-start : (end : ℕ) (cell : ShownCell) → end + gap cell.column end ≡ start_of end cell
gap-start end cell = elim (cases_lt end cell.column) [
  | inl less ↦ let fill = ap (λ b. cond b (cell.column - end) 1) (lt-ltb end cell.column less) in omega (arith, fill, less)
  | inr past ↦ let one = ap (λ b. cond b (cell.column - end) 1) (le-ltb end cell.column past) in omega (arith, one, past)
]

cells-order : (end : ℕ) (cells : List ShownCell) → InOrder end (placed_cells end cells)
cells-order end [] = tt
cells-order end (cell ∷ cells) = by (is_blank cell) (cells-order end cells) (cells-order (start_of end cell + cell_width cell) cells)
  where
    start : ℕ
    start = start_of end cell

    by : (b : Bool) → InOrder end (placed_cells end cells) → InOrder (start + cell_width cell) (placed_cells (start + cell_width cell) cells)
        → InOrder end (cond b (placed_cells end cells) (placed_from start (cell_clusters cell) ++ placed_cells (start + cell_width cell) cells))
    by true skipped behind = skipped
    by false skipped behind =
        let width : start + cell_width cell ≡ start + sum_by width_of (cell_clusters cell) = ap (λ n. start + n) (sym (parts-width cell.parts)) in
        let rest = placed_cells (start + cell_width cell) cells in
        placed-order end start (cell_clusters cell) rest (omega arith) (subst (λ n. InOrder n rest) width behind)

cells-walk : (end : ℕ) (cells : List ShownCell) → All HasText cells → cells_bytes end cells ≡ walk end (placed_cells end cells)
cells-walk end [] all = refl
cells-walk end (cell ∷ cells) all =
    by (is_blank cell) refl (cells-walk end cells (All-tail HasText cell cells all)) (cells-walk (start_of end cell + cell_width cell) cells (All-tail HasText cell cells all))
  where
    start : ℕ
    start = start_of end cell

    by : (b : Bool) → is_blank cell ≡ b → cells_bytes end cells ≡ walk end (placed_cells end cells)
        → cells_bytes (start + cell_width cell) cells ≡ walk (start + cell_width cell) (placed_cells (start + cell_width cell) cells)
        → cond b [] (spaces (gap cell.column end) ++ flat_map part_bytes cell.parts) ++ cells_bytes (cond b end (end + gap cell.column end + cell_width cell)) cells
        ≡ walk end (cond b (placed_cells end cells) (placed_from start (cell_clusters cell) ++ placed_cells (start + cell_width cell) cells))
    by true is skipped later = skipped
    by false is skipped later =
        let text = All-head HasText cell cells all in
        let rest = placed_cells (start + cell_width cell) cells in
        let fill = gap-start end cell in
        let size : gap cell.column end ≡ start - end = omega (arith, fill) in
        let behind : end + gap cell.column end + cell_width cell ≡ start + cell_width cell = ap (λ n. n + cell_width cell) fill in
        let width : start + cell_width cell ≡ start + sum_by width_of (cell_clusters cell) = ap (λ n. start + n) (sym (parts-width cell.parts)) in
        append_assoc (spaces (gap cell.column end)) (flat_map part_bytes cell.parts) (cells_bytes (end + gap cell.column end + cell_width cell) cells)
        ∙ ap₂ (λ n (l : List ℕ). spaces n ++ (l ++ cells_bytes (end + gap cell.column end + cell_width cell) cells)) size (sym (parts-bytes cell.parts text))
        ∙ ap (λ (l : List ℕ). spaces (start - end) ++ (flat_map untabbed (cell_clusters cell) ++ l))
        (ap (λ n. cells_bytes n cells) behind ∙ later ∙ ap (λ n. walk n rest) width)
        ∙ sym (walk-cell end start (cell_clusters cell) rest (some-clusters cell text is))

star-ascii : IsUtf8 (codes "*")
star-ascii = let Low : ℕ → Type 0 = λ b. b < 128 in IsUtf8-from_ascii (codes "*") (IsAscii-from_all (codes "*") (All-cons Low 42 [] (omega arith) (All-nil Low)))

star-text : (star : Bool) → All HasText (star_cells star)
star-text true =
    let P : ShownPart → Type 0 = λ (part : ShownPart). IsUtf8 (part_text part) in
    All-cons HasText (fixed_cell 80 (codes "*")) [] (All-cons P _ [] star-ascii (All-nil P)) (All-nil HasText)
star-text false = All-nil HasText

-- The bytes of a row are those of its clusters at their columns.
pub row-columns : (row : ShownRow) → All HasText row.cells → row_bytes row ≡ row_written (row_placed row)
row-columns row all =
    let cells = row.cells ++ star_cells row.star in
    let placed = placed_cells 0 cells in
    let whole : end_of 0 placed - 0 ≡ end_of 0 placed = omega arith in
    cells-walk 0 cells (All-append HasText row.cells (star_cells row.star) all (star-text row.star))
    ∙ walk-columns 0 placed (cells-order 0 cells)
    ∙ ap (λ n. written_from placed 0 n ++ standing_at placed (end_of 0 placed)) whole
