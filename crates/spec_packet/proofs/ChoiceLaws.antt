-- The sheets that a packet leaves out are old ones, and each old sheet's label is that of a present one.
use Rattle.std.proofs.Common.{◌≡◌, inl, inr, ℕ, Bool, true, false, ◌&&◌, ◌||◌, cond, List, [], ◌∷◌, ◌++◌, map, refl, ap, ap₂, sym, subst, ◌∙◌, arith}
use Rattle.std.specs.List.{list_all, list_any, flat_map}
use Rattle.std.proofs.lemmas.Bool.{and_parts}
use Rattle.std.proofs.lemmas.List.{map-append}
use Rattle.spec_labels.specs.PageRecords.{SegmentOf, is_empty, owner_of, SheetOf, segment_pages, page_sheets, omitted_sheet, runs_of, run_sheets}
use Rattle.spec_labels.proofs.SheetLaws.{in_runs}
use Rattle.spec_labels.proofs.RunLaws.{IsRun}
use Rattle.spec_packet.specs.SheetLists.{PrintedOf, IsIn}
use Rattle.spec_packet.specs.Collations.{Choice, sheet_of, present_of}
use Rattle.spec_packet.specs.Packets.{LaidOf, printed_of, laid_printed, is_fresh, page_choice, omitted_choice, run_choices, first_fresh, last_fresh, runs_choices, laid_choices, Both, was_of, now_of, SameRecord}
use Rattle.spec_packet.proofs.Lists.{in-left, in-right, append-in}
use Rattle.spec_packet.proofs.RunCuts.{Full, LastIs, FirstIs}

-- A list with one of it in the middle.
pub record Cut {X : Type 0} (x : X) (xs : List X) : Type 0 where
  pub front : List X
  pub back : List X
  pub is : xs ≡ front ++ (x ∷ back)

pub cut-at : {X : Type 0} (x : X) (xs : List X) → IsIn x xs → Cut x xs
cut-at x [] is = absurd is
cut-at {X} x (y ∷ ys) is = elim is [
  | inl same ↦ record { front = []; back = ys; is = ap (λ (z : X). z ∷ ys) same }
  | inr later ↦ let c = cut-at x ys later in record { front = y ∷ c.front; back = c.back; is = ap (λ (zs : List X). y ∷ zs) c.is }
]

-- What of a flat map comes from where.
pub in-flat : {X Y : Type 0} (f : X → List Y) (x : X) (y : Y) (xs : List X) → IsIn x xs → IsIn y (f x) → IsIn y (flat_map f xs)
in-flat f x y [] is here = absurd is
in-flat f x y (z ∷ xs) is here = elim is [
  | inl same ↦ in-left y (f z) (flat_map f xs) (subst (λ w. IsIn y (f w)) (sym same) here)
  | inr later ↦ in-right y (f z) (flat_map f xs) (in-flat f x y xs later here)
]

pub record FromFlat {X Y : Type 0} (f : X → List Y) (y : Y) (xs : List X) : Type 0 where
  pub it : X
  pub there : IsIn it xs
  pub here : IsIn y (f it)

pub flat-in : {X Y : Type 0} (f : X → List Y) (y : Y) (xs : List X) → IsIn y (flat_map f xs) → FromFlat f y xs
flat-in f y [] is = absurd is
flat-in f y (x ∷ xs) is = elim (append-in y (f x) (flat_map f xs) is) [
  | inl one ↦ record { it = x; there = inl refl; here = one }
  | inr other ↦ let from = flat-in f y xs other in record { it = from.it; there = inr from.there; here = from.here }
]

-- A changed list in two parts.
pub record MapCut {X Y : Type 0} (f : X → Y) (all : List X) (xs ys : List Y) : Type 0 where
  pub front : List X
  pub back : List X
  pub is : all ≡ front ++ back
  pub first : map f front ≡ xs
  pub second : map f back ≡ ys

pub map-cut : {X Y : Type 0} (f : X → Y) (all : List X) (xs ys : List Y) → map f all ≡ xs ++ ys → MapCut f all xs ys
map-cut f all [] ys same = record { front = []; back = all; is = refl; first = refl; second = same }
map-cut f [] (x ∷ xs) ys same = absurd (let bad = same in let no_way : ⊥ = cc in no_way)
map-cut {X} {Y} f (a ∷ all) (x ∷ xs) ys same =
    let head : f a ≡ x = cc in
    let tail : map f all ≡ xs ++ ys = cc in
    let c = map-cut f all xs ys tail in
    record { front = a ∷ c.front; back = c.back; is = ap (λ (l : List X). a ∷ l) c.is; first = ap₂ (λ (b : Y) (bs : List Y). b ∷ bs) head c.first; second = c.second }

-- The choices of one run among those of all.
abbrev pub fresh_end : ℕ → Bool → List (List SegmentOf) → Bool
fresh_end round before [] = before
fresh_end round before (run ∷ runs) = fresh_end round (last_fresh round before run) runs

pub record ChoiceIn (round : ℕ) (laid : LaidOf) (before : Bool) (choice : Choice) (runs : List (List SegmentOf)) : Type 0 where
  pub front : List (List SegmentOf)
  pub run : List SegmentOf
  pub back : List (List SegmentOf)
  pub is : runs ≡ front ++ (run ∷ back)
  pub there : IsIn choice (run_choices round laid (fresh_end round before front) run (first_fresh round back))

pub choice-in : (round : ℕ) (laid : LaidOf) (before : Bool) (choice : Choice) (runs : List (List SegmentOf)) → IsIn choice (runs_choices round laid before runs) → ChoiceIn round laid before choice runs
choice-in round laid before choice [] is = absurd is
choice-in round laid before choice (run ∷ runs) is =
    elim (append-in choice (run_choices round laid before run (first_fresh round runs)) (runs_choices round laid (last_fresh round before run) runs) is) [
      | inl here ↦ record { front = []; run = run; back = runs; is = refl; there = here }
      | inr later ↦
          let c = choice-in round laid (last_fresh round before run) choice runs later in
          record { front = run ∷ c.front; run = c.run; back = c.back; is = ap (λ (rs : List (List SegmentOf)). run ∷ rs) c.is; there = c.there }
    ]

pub in-choices : (round : ℕ) (laid : LaidOf) (before : Bool) (choice : Choice) (front : List (List SegmentOf)) (run : List SegmentOf) (back : List (List SegmentOf))
    → IsIn choice (run_choices round laid (fresh_end round before front) run (first_fresh round back)) → IsIn choice (runs_choices round laid before (front ++ (run ∷ back)))
in-choices round laid before choice [] run back is = in-left choice (run_choices round laid before run (first_fresh round back)) (runs_choices round laid (last_fresh round before run) back) is
in-choices round laid before choice (one ∷ front) run back is =
    in-right choice (run_choices round laid before one (first_fresh round (front ++ (run ∷ back)))) (runs_choices round laid (last_fresh round before one) (front ++ (run ∷ back)))
    (in-choices round laid (last_fresh round before one) choice front run back is)

-- The choices are of all sheets.
run-present : (round : ℕ) (laid : LaidOf) (before : Bool) (run : List SegmentOf) (behind : Bool) → present_of (run_choices round laid before run behind) ≡ map (printed_of laid) (run_sheets laid.pages run)
run-present round laid before [] behind = refl
run-present round laid before (segment ∷ others) behind = by (is_empty segment)
  where
    pages : (sheets : List SheetOf) → present_of (map (page_choice round laid segment) sheets) ≡ map (printed_of laid) sheets
    pages [] = refl
    pages (sheet ∷ sheets) = ap (λ (ps : List PrintedOf). printed_of laid sheet ∷ ps) (pages sheets)

    by : (b : Bool) → present_of (cond b (omitted_choice round laid before segment others behind ∷ []) (map (page_choice round laid segment) (page_sheets segment 0 (segment_pages segment laid.pages))))
        ≡ map (printed_of laid) (cond b (omitted_sheet segment.start segment.owner (map owner_of others) ∷ []) (page_sheets segment 0 (segment_pages segment laid.pages)))
    by true = refl
    by false = pages (page_sheets segment 0 (segment_pages segment laid.pages))

runs-present : (round : ℕ) (laid : LaidOf) (before : Bool) (runs : List (List SegmentOf)) → present_of (runs_choices round laid before runs) ≡ map (printed_of laid) (flat_map (run_sheets laid.pages) runs)
runs-present round laid before [] = refl
runs-present round laid before (run ∷ runs) =
    map-append sheet_of (run_choices round laid before run (first_fresh round runs)) (runs_choices round laid (last_fresh round before run) runs)
    ∙ ap₂ (λ (a b : List PrintedOf). a ++ b) (run-present round laid before run (first_fresh round runs)) (runs-present round laid (last_fresh round before run) runs)
    ∙ sym (map-append (printed_of laid) (run_sheets laid.pages run) (flat_map (run_sheets laid.pages) runs))

pub choices-present : (round : ℕ) (laid : LaidOf) → present_of (laid_choices round laid) ≡ laid_printed laid
choices-present round laid = runs-present round laid false (runs_of laid.segments)

-- The record before a run is fresh, by the last segment of those before it.
pub last-fresh-append : (round : ℕ) (before : Bool) (xs ys : List SegmentOf) → last_fresh round before (xs ++ ys) ≡ last_fresh round (last_fresh round before xs) ys
last-fresh-append round before [] ys = refl
last-fresh-append round before (x ∷ xs) ys = last-fresh-append round (is_fresh round x) xs ys

pub fresh_end-all : (round : ℕ) (before : Bool) (runs : List (List SegmentOf)) → fresh_end round before runs ≡ last_fresh round before (in_runs runs)
fresh_end-all round before [] = refl
fresh_end-all round before (run ∷ runs) = fresh_end-all round (last_fresh round before run) runs ∙ sym (last-fresh-append round before run (in_runs runs))

abbrev pub Stale : ℕ → SegmentOf → Type 0
Stale round segment = is_fresh round segment ≡ false

pub last-stale : (round : ℕ) (before : Bool) (xs : List SegmentOf) → last_fresh round before xs ≡ false → LastIs (Stale round) xs
last-stale round before [] none = tt
last-stale round before (x ∷ []) none = none
last-stale round before (x ∷ y ∷ ys) none = last-stale round (is_fresh round x) (y ∷ ys) none

pub first-stale : (round : ℕ) (runs : List (List SegmentOf)) → ((run : List SegmentOf) → IsIn run runs → IsRun run) → first_fresh round runs ≡ false → FirstIs (Stale round) (in_runs runs)
first-stale round [] are none = tt
first-stale round ([] ∷ runs) are none = absurd (let some = (are [] (inl refl)).some in omega (arith, some))
first-stale round ((segment ∷ others) ∷ runs) are none = none

pub all-stale : (round : ℕ) (xs : List SegmentOf) → list_any (is_fresh round) xs ≡ false → (x : SegmentOf) → IsIn x xs → Stale round x
all-stale round [] none x is = absurd is
all-stale round (y ∷ ys) none x is =
    let (here, later) = neither (is_fresh round y) (list_any (is_fresh round) ys) none in
    elim is [ inl same ↦ subst (Stale round) same here | inr behind ↦ all-stale round ys later x behind ]
  where
    neither : (a b : Bool) → (a || b) ≡ false → (a ≡ false) × (b ≡ false)
    neither true b h = cc
    neither false b h = (refl, h)

-- Where the last of the present segments is full and stale, the last of the old ones is full.
pub last-was : (round : ℕ) (records : List Both) → ((both : Both) → IsIn both records → SameRecord round both) → LastIs Full (map now_of records) → LastIs (Stale round) (map now_of records) → LastIs Full (map was_of records)
last-was round [] same full stale = tt
last-was round (both ∷ []) same full stale = (same both (inl refl)).empty stale ∙ full
last-was round (both ∷ next ∷ records) same full stale = last-was round (next ∷ records) (λ b is. same b (inr is)) full stale

pub first-was : (round : ℕ) (records : List Both) → ((both : Both) → IsIn both records → SameRecord round both) → FirstIs Full (map now_of records) → FirstIs (Stale round) (map now_of records) → FirstIs Full (map was_of records)
first-was round [] same full stale = tt
first-was round (both ∷ records) same full stale = (same both (inl refl)).empty stale ∙ full

pub empty-was : (round : ℕ) (records : List Both) → ((both : Both) → IsIn both records → SameRecord round both) → ((both : Both) → IsIn both records → Stale round both.now) → list_all is_empty (map now_of records) ≡ true
    → list_all is_empty (map was_of records) ≡ true
empty-was round [] same stale empty = refl
empty-was round (both ∷ records) same stale empty =
    let (here, later) = and_parts (is_empty both.now) (list_all is_empty (map now_of records)) empty in
    ap₂ (λ a b. a && b) ((same both (inl refl)).empty (stale both (inl refl)) ∙ here) (empty-was round records (λ b is. same b (inr is)) (λ b is. stale b (inr is)) later)
