-- Standing in a segment that has rows, by the numbers of its first row and of the one behind it.
use Rattle.std.proofs.Common.{◌≡◌, ◌||◌, ◌⊎◌, ℕ, ◌+◌, ◌<◌, ◌≤◌, true, List, [], ◌∷◌, length, inl, inr, ap, Bool, false, cond, not, map, refl, sym, subst, ◌∙◌, arith, length-append}
use Rattle.std.specs.Prelude.{All}
use Rattle.std.specs.List.{flat_map, list_any}
use Rattle.std.proofs.lemmas.Bool.{cases_Bool, cases_lt}
use Rattle.std.proofs.lemmas.List.{length-map}
use Rattle.std.proofs.lemmas.List.Elements.{All-head, All-tail}
use Rattle.std.proofs.lemmas.Bool.{true≢false}
use Rattle.spec_script.specs.LongestRuns.{Group}
use Rattle.spec_script.specs.Stanzas.{PlacedBlock}
use Rattle.spec_pages.specs.Rows.{is_title, placed_rows, shifted_row}
use Rattle.spec_sheets.specs.Speakers.{Spoken}
use Rattle.spec_sheets.specs.Layout.{laid_out, rows_behind}
use Rattle.spec_sheets.proofs.LaidRows.{rows_behind-count}
use Rattle.spec_edit.specs.Touched.{touches_element}
use Rattle.spec_edit.specs.TextItems.{Script, spoken_by, spoken_group, text_rows, element_items, in_text}
use Rattle.spec_edit.proofs.FairElements.{text_with}
use Rattle.spec_edit.proofs.ItemRows.{element-count}
use Rattle.spec_labels.specs.Spots.{Bounds, BoundsFollow, AtMost}
use Rattle.spec_text.specs.Ranges.{RangeOf}
use Rattle.spec_edit.specs.Items.{all_sights, Sight, Item, sights_in, rows_among, shapes_among, start_of, front_of}
use Rattle.spec_edit.proofs.Steps.{Step, before_of, after_of, Keeps, AreRising, touches, NoneTouchedStands}
use Rattle.spec_sheets.specs.Shown.{shape_of}
use Rattle.spec_edit.proofs.AmongLaws.{rows_among-append, shapes_among-append}
use Rattle.spec_edit.proofs.SplitLaws.{front-high}
use Rattle.spec_edit.proofs.SegmentLaws.{sights_in-append, sights_in-moved}
use Rattle.spec_edit.specs.Standing.{StandsIn, NoneStands}

stands-in : (s e before rows : ℕ) → s < e → (((0 < rows) × (s < before + rows) × (before < e)) ⊎ ((rows ≡ 0) × (s ≤ before) × (before ≤ e))) → StandsIn s e before rows
stands-in s e before rows some (inl it) =
    elim (cases_lt before s) [
      | inl early ↦ inl (s, omega (arith, early), it.1, (omega arith, some))
      | inr late ↦ inl (before, omega arith, (let more = it.0 in omega (arith, more)), (late, it.2))
    ]
stands-in s e before rows some (inr it) =
    elim (cases_lt before e) [
      | inl inside ↦ inr (it.0, inr (it.1, inside))
      | inr end ↦ inr (it.0, inl (omega (arith, some, end), (omega (arith, some, end), (let low = it.2 in omega (arith, low, some)))))
    ]

-- An element is touched whatever its script says.
any-in : (script : Script) (touched : PlacedBlock → Bool) (more : List PlacedBlock) → list_any (λ (it : Spoken). touched it.placed) (map (spoken_by script) more) ≡ list_any touched more
any-in script touched [] = refl
any-in script touched (placed ∷ more) = ap (λ b. touched placed || b) (any-in script touched more)

pub touched-in : (script : Script) (touched : PlacedBlock → Bool) (element : Group PlacedBlock) → touches_element touched (spoken_group script element) ≡ touches touched element
touched-in script touched element = ap (λ b. touched element.first || b) (any-in script touched element.more)

body-count : (script : Script) (element : Group PlacedBlock) → in_text element ≡ true → length (text_rows script element) ≡ length (laid_out script.lines (spoken_group script element)).rows
body-count script element there = by (is_title element.first.block.kind) there
  where
    by : (b : Bool) → cond b false true ≡ true → length (cond b [] (placed_rows (laid_out script.lines (spoken_group script element)))) ≡ length (laid_out script.lines (spoken_group script element)).rows
    by true h = absurd (true≢false (sym h))
    by false h = length-map (laid_out script.lines (spoken_group script element)).rows (shifted_row (laid_out script.lines (spoken_group script element)).first)

in-body : (element : Group PlacedBlock) → in_text element ≡ true → not (is_title element.first.block.kind) ≡ true
in-body element there = by (is_title element.first.block.kind) there
  where
    by : (b : Bool) → cond b false true ≡ true → not b ≡ true
    by true h = absurd (true≢false (sym h))
    by false h = refl

-- Where no touched element stands in a segment that has rows, this is what the edit law asks.
pub none-from : (script : Script) (touched : PlacedBlock → Bool) (s e n : ℕ) (elements : List (Group PlacedBlock)) → s < e
    → NoneStands (touches_element touched) script.lines s e n (map (spoken_group script) elements) → NoneTouchedStands (text_with script (touches touched)) s e n elements
none-from script touched s e n [] some none = tt
none-from script touched s e n (it ∷ elements) some none =
    let count = element-count script it in
    let behind : rows_behind script.lines n (spoken_group script it) ≡ n + length (shapes_among (map (λ (item : Item). item.sight) (element_items script it))) =
    rows_behind-count script.lines n (spoken_group script it) ∙ ap (λ k. n + k) (sym count) in (
      λ body is stands. none.0 (in-body it body) (touched-in script touched it ∙ is)
          (subst (StandsIn s e n) (count ∙ body-count script it body) (stands-in s e n (length (shapes_among (all_sights (element_items script it)))) some stands)),
      none-from script touched s e (n + length (shapes_among (map (λ (item : Item). item.sight) (element_items script it)))) elements some
          (subst (λ k. NoneStands (touches_element touched) script.lines s e k (map (spoken_group script) elements)) behind none.1),
    )

-- A segment has as many rows as its bounds say.
pub segment-rows : (bounds : Bounds) (items : List Item) → AreRising items → AtMost bounds.low bounds.high
    → start_of items bounds.high ≡ start_of items bounds.low + length (rows_among (sights_in bounds items))
segment-rows bounds items rising order =
    let front = front_of bounds.low items in
    let own = sights_in bounds items in
    ap (λ (s : List Sight). length (shapes_among s)) (front-high bounds items rising order)
    ∙ ap length (shapes_among-append front own) ∙ length-append (shapes_among front) (shapes_among own)
    ∙ ap (λ n. length (shapes_among front) + n) (length-map (rows_among own) shape_of)

-- An edit takes no row out of a segment in which no touched element stood.
pub rows-kept : (range : RangeOf) (bounds new : Bounds) (steps : List Step) → BoundsFollow range bounds new → All (Keeps range) steps
    → All (λ (step : Step). step.touched ≡ true → sights_in bounds step.before ≡ []) steps
    → length (rows_among (sights_in bounds (flat_map before_of steps))) ≤ length (rows_among (sights_in new (flat_map after_of steps)))
rows-kept range bounds new [] follow keeps clear = omega arith
rows-kept range bounds new (step ∷ steps) follow keeps clear =
    let P : Step → Type 0 = λ (step : Step). step.touched ≡ true → sights_in bounds step.before ≡ [] in
    let old = flat_map before_of steps in
    let later = flat_map after_of steps in
    let count = λ (b : Bounds) (xs ys : List Item). ap (λ (s : List Sight). length (rows_among s)) (sights_in-append b xs ys)
    ∙ ap length (rows_among-append (sights_in b xs) (sights_in b ys)) ∙ length-append (rows_among (sights_in b xs)) (rows_among (sights_in b ys)) in
    let rest = rows-kept range bounds new steps follow (All-tail (Keeps range) step steps keeps) (All-tail P step steps clear) in
    let here : length (rows_among (sights_in bounds step.before)) ≤ length (rows_among (sights_in new step.after)) = elim (cases_Bool step.touched) [
      | inl touched ↦
          let none = ap (λ (s : List Sight). length (rows_among s)) (All-head P step steps clear touched) in
          omega (arith, none)
      | inr untouched ↦
          let keep = All-head (Keeps range) step steps keeps in
          let same = ap (λ (s : List Sight). length (rows_among s)) (ap (sights_in new) (keep.moved untouched) ∙ sights_in-moved range bounds new step.before follow (keep.left untouched)) in
          omega (arith, same)
    ] in
    let one = count bounds step.before old in
    let two = count new step.after later in
    omega (arith, one, two, here, rest)
