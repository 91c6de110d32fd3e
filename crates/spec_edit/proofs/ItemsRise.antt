-- The spots of what stands in a text rise, where those of its rows do.
use Rattle.std.proofs.Common.{◌≡◌, ℕ, suc, Option, ◌<◌, ◌≤◌, Bool, true, false, cond, List, [], ◌∷◌, ◌++◌, length, map, get_or, inl, inr, sym, ap, ap₂, subst, arith, length-append}
use Rattle.std.specs.Prelude.{All, AllPairs}
use Rattle.std.specs.List.{flat_map}
use Rattle.std.specs.Str.{IsUtf8}
use Rattle.std.proofs.lemmas.Bool.{cases_Bool}
use Rattle.std.proofs.lemmas.List.{get_or_append_left}
use Rattle.std.proofs.lemmas.List.Elements.{All-nil, All-cons, All-append}
use Rattle.std.proofs.lemmas.List.Kept.{AllPairs-cons}
use Rattle.spec_text.specs.Limits.{line_count_limit}
use Rattle.spec_text.specs.Lines.{LineState, line_texts}
use Rattle.spec_text.proofs.ListLaws.{pairs-none, pairs-join, pairs-map}
use Rattle.spec_script.specs.LongestRuns.{Group}
use Rattle.spec_script.specs.Stanzas.{PlacedBlock}
use Rattle.spec_script.specs.Elements.{line_of_block, is_dual, alone, pair, elements_of}
use Rattle.spec_pages.specs.Rows.{Row, is_title}
use Rattle.spec_labels.specs.Labels.{LabelOf}
use Rattle.spec_labels.specs.Spots.{is_ahead}
use Rattle.spec_labels.proofs.SpotLaws.{ahead-from}
use Rattle.spec_sheets.specs.Cells.{ShownCell}
use Rattle.spec_sheets.specs.Layout.{KeyBelow, is_page_break}
use Rattle.spec_sheets.specs.Shown.{element_cue}
use Rattle.spec_sheets.proofs.ElementPlaces.{placed_from, placed_to}
use Rattle.spec_edit.specs.Items.{Item, page_break}
use Rattle.spec_edit.specs.TextItems.{Script, element_label, text_rows, row_item, row_items, break_items, element_items}
use Rattle.spec_edit.proofs.Steps.{AreRising}
use Rattle.spec_edit.specs.RowLines.{RowAt}
use Rattle.spec_edit.proofs.RowMoves.{single-on, pair-on}
use Rattle.spec_edit.proofs.RowPlaces.{single-at, pair-at}
use Rattle.spec_edit.proofs.ItemRows.{break-none, break-some, no-break, pair-no-break}
use Rattle.spec_edit.proofs.SoundElements.{IsSound, SoundSteps, elements-sound}

abbrev Ahead : Item → Item → Type 0
Ahead one other = is_ahead one.spot other.spot ≡ true

-- Items stand at lines between two places, and their spots rise.
abbrev IsBetween : ℕ → ℕ → Item → Type 0
IsBetween low high item = (low ≤ item.spot.place) × (item.spot.place < high)

record Rises (low high : ℕ) (items : List Item) : Type 0 where
  order : low ≤ high
  inside : All (IsBetween low high) items
  rise : AreRising items

rises-none : (low high : ℕ) → low ≤ high → Rises low high []
rises-none low high order = record { order = order; inside = All-nil (IsBetween low high); rise = pairs-none Ahead }

rises-append : (low from to high : ℕ) (items others : List Item) → low ≤ from → Rises from to items → Rises to high others → Rises low high (items ++ others)
rises-append low from to high items others below front back =
    let one = front.order in
    let two = back.order in
    record {
      order = omega (arith, below, one, two);
      inside = All-append (IsBetween low high) items others
          (λ k d h. let it = front.inside k d h in let a = it.0 in let b = it.1 in (omega (arith, below, a), omega (arith, two, b)))
          (λ k d h. let it = back.inside k d h in let a = it.0 in let b = it.1 in (omega (arith, below, one, a), b));
      rise = pairs-join Ahead items others front.rise back.rise
          (λ k d h j e g. let here = (front.inside k d h).1 in let there = (back.inside j e g).0 in
          ahead-from (get_or items k d).spot (get_or others j e).spot (inl (omega (arith, here, there))));
    }

-- Rows as items.
rows-rise : (lines : List LineState) (cue : List ShownCell) (label : Option LabelOf) (those : List Row) → AllPairs KeyBelow those → AreRising (map (row_item lines cue label) those)
rows-rise lines cue label those all =
    pairs-map Ahead (row_item lines cue label) those (λ i j d below inside.
    ahead-from (row_item lines cue label (get_or those i d)).spot (row_item lines cue label (get_or those j d)).spot (all i j d below inside))

rows-inside : (lines : List LineState) (cue : List ShownCell) (label : Option LabelOf) (low high : ℕ) (those : List Row) → All (RowAt (λ place. (low ≤ place) × (place < high))) those
    → All (IsBetween low high) (map (row_item lines cue label) those)
rows-inside lines cue label low high [] all = All-nil (IsBetween low high)
rows-inside lines cue label low high (row ∷ those) all =
    All-cons (IsBetween low high) (row_item lines cue label row) (map (row_item lines cue label) those) ((all 0 row (omega arith)).row)
    (rows-inside lines cue label low high those (λ k d h. all (suc k) d (omega (arith, h))))

-- Rows in front of others rise, and those behind others.
front-rise : (those others : List Row) → AllPairs KeyBelow (those ++ others) → AllPairs KeyBelow those
front-rise those others all i j d below inside =
    let size = length-append those others in
    let one = get_or_append_left those others d i (omega (arith, below, inside)) in
    let two = get_or_append_left those others d j inside in
    subst (λ row. KeyBelow row (get_or those j d)) one (subst (λ row. KeyBelow (get_or (those ++ others) i d) row) two (all i j d below (omega (arith, size, inside))))

back-rise : (those others : List Row) → AllPairs KeyBelow (those ++ others) → AllPairs KeyBelow others
back-rise [] others all = all
back-rise (row ∷ those) others all = back-rise those others (λ i j d below inside. all (suc i) (suc j) d (omega (arith, below)) (omega (arith, inside)))

title-rows : (P : ℕ → Type 0) (b : Bool) (made : List Row) → All (RowAt P) made → All (RowAt P) (cond b [] made)
title-rows P true made all = All-nil (RowAt P)
title-rows P false made all = all

row-items : (script : Script) (element : Group PlacedBlock) (low high : ℕ) → low ≤ high → break_items element.first ≡ [] → All (RowAt (λ place. (low ≤ place) × (place < high))) (text_rows script element)
    → AllPairs KeyBelow (text_rows script element) → Rises low high (element_items script element)
row-items script element low high order none at rise =
    let cue = element_cue (line_texts script.lines) (text_rows script element) in
    let label = element_label script element in
    subst (Rises low high) (sym (ap (λ (a : List Item). a ++ row_items script element) none))
    (record { order = order; inside = rows-inside script.lines cue label low high (text_rows script element) at; rise = rows-rise script.lines cue label (text_rows script element) rise })

single-items : (script : Script) (block : PlacedBlock) → IsSound block → AllPairs KeyBelow (text_rows script (alone block)) → Rises (placed_from block) (placed_to block) (element_items script (alone block))
single-items script block it rise =
    let some = it.some in
    let own = script.continued (line_of_block block) in
    elim (cases_Bool (is_page_break block.block.kind)) [
      | inl is ↦
          let one : Item = record { spot = record { place = line_of_block block; row = 0 }; sight = page_break } in
          let rows_none : row_items script (alone block) ≡ [] = ap (λ (those : List Row). map (row_item script.lines (element_cue (line_texts script.lines) those) (element_label script (alone block))) those) (break-none script block is) in
          subst (Rises (placed_from block) (placed_to block)) (sym (ap₂ (λ (a b : List Item). a ++ b) (break-some block is) rows_none))
          (record {
            order = omega (arith, some);
            inside = All-cons (IsBetween (placed_from block) (placed_to block)) one [] (omega arith, omega (arith, some)) (All-nil (IsBetween (placed_from block) (placed_to block)));
            rise = AllPairs-cons Ahead one [] (All-nil (Ahead one)) (pairs-none Ahead);
          })
      | inr not ↦
          let P : ℕ → Type 0 = λ place. (placed_from block ≤ place) × (place < placed_to block) in
          row-items script (alone block) (placed_from block) (placed_to block) (omega (arith, some)) (no-break block not)
          (title-rows P (is_title block.block.kind) _
          (subst (All (RowAt P)) (sym (single-on script.lines block own)) (single-at P script.lines block own (λ n low high. (omega (arith, low), omega (arith, high))) it.lines some))) rise
    ]

pair-items : (script : Script) (left right : PlacedBlock) → IsSound left → IsSound right → is_dual left right ≡ true → left.first ≤ right.first → placed_to left ≤ placed_from right
    → AllPairs KeyBelow (text_rows script (pair left right)) → Rises (placed_from left) (placed_to right) (element_items script (pair left right))
pair-items script left right l r dual order apart rise =
    let one = script.continued (line_of_block left) in
    let other = script.continued (line_of_block right) in
    let some = l.some in
    let more = r.some in
    let P : ℕ → Type 0 = λ place. (placed_from left ≤ place) × (place < placed_to right) in
    row-items script (pair left right) (placed_from left) (placed_to right) (omega (arith, some, more, apart)) (pair-no-break left right dual)
    (title-rows P (is_title left.block.kind) _
    (subst (All (RowAt P)) (sym (pair-on script.lines left one right other order))
    (pair-at P script.lines left one right other (λ n low high. (omega (arith, low), omega (arith, high, apart, more))) (λ n low high. (omega (arith, low, apart, some), omega (arith, high))) l.lines r.lines))) rise

abbrev ItemsRise : Script → ℕ → ℕ → List (Group PlacedBlock) → Type 0
ItemsRise script low high elements = AllPairs KeyBelow (flat_map (text_rows script) elements) → Rises low high (flat_map (element_items script) elements)

next-items : (script : Script) (low from to high : ℕ) (element : Group PlacedBlock) (others : List (Group PlacedBlock)) → low ≤ from
    → (AllPairs KeyBelow (text_rows script element) → Rises from to (element_items script element)) → ItemsRise script to high others → ItemsRise script low high (element ∷ others)
next-items script low from to high element others order here behind all =
    let own = text_rows script element in
    let later = flat_map (text_rows script) others in
    rises-append low from to high (element_items script element) (flat_map (element_items script) others) order (here (front-rise own later all)) (behind (back-rise own later all))

abbrev pub Any : PlacedBlock → Type 0
Any block = Unit {0}

item-steps : (script : Script) → SoundSteps Any (ItemsRise script)
item-steps script = record {
  none = λ low high order all. rises-none low high order;
  single = λ low high block others is any order behind. next-items script low (placed_from block) (placed_to block) high (alone block) others order (single-items script block is) behind;
  double = λ low high left right others l r dual places order apart behind.
      next-items script low (placed_from left) (placed_to right) high (pair left right) others order (pair-items script left right l r dual places apart) behind;
}

-- The rows of a text, as its script has them.
abbrev pub all_rows : Script → List Row
all_rows script = flat_map (text_rows script) (elements_of (line_texts script.lines))

items-all : (script : Script) → All IsUtf8 (line_texts script.lines) → length (line_texts script.lines) ≤ line_count_limit → AllPairs KeyBelow (all_rows script)
    → Rises 0 (length (line_texts script.lines)) (flat_map (element_items script) (elements_of (line_texts script.lines)))
items-all script utf8 few rows = elements-sound (line_texts script.lines) Any (ItemsRise script) (item-steps script) (λ k d h. tt) utf8 few rows

-- Of two items of a text, the earlier has the lower spot.
pub items-rise : (script : Script) → All IsUtf8 (line_texts script.lines) → length (line_texts script.lines) ≤ line_count_limit → AllPairs KeyBelow (all_rows script)
    → AreRising (flat_map (element_items script) (elements_of (line_texts script.lines)))
items-rise script utf8 few rows = (items-all script utf8 few rows).rise

-- Each stands at a line of the text.
pub items-within : (script : Script) → All IsUtf8 (line_texts script.lines) → length (line_texts script.lines) ≤ line_count_limit → AllPairs KeyBelow (all_rows script)
    → All (λ (item : Item). item.spot.place < length (line_texts script.lines)) (flat_map (element_items script) (elements_of (line_texts script.lines)))
items-within script utf8 few rows k d h = ((items-all script utf8 few rows).inside k d h).1
