-- Page breaks of elements, part by part.
use Rattle.std.proofs.Common.{◌≡◌, ℕ, ◌+◌, ◌<◌, ◌≤◌, Bool, true, false, List, [], ◌∷◌, ◌++◌, length, map, filter, Option, None, cond, refl, sym, ap, subst, ◌∙◌, length-append, arith}
use Rattle.std.specs.Prelude.{All, AllPairs}
use Rattle.std.proofs.lemmas.List.{length-map}
use Rattle.spec_text.specs.Lines.{LineState, TextState, IsText, line_texts}
use Rattle.spec_script.specs.BlockParts.{Rise}
use Rattle.spec_script.specs.Elements.{is_dual}
use Rattle.spec_script.specs.LongestRuns.{Group}
use Rattle.spec_script.specs.Stanzas.{PlacedBlock, blocks_of}
use Rattle.spec_sheets.specs.Speakers.{Spoken, speaker_after, spoken_elements, text_elements}
use Rattle.spec_sheets.specs.Layout.{in_body, laid_out, is_page_break, kind_of}
use Rattle.spec_sheets.proofs.ElementPlaces.{blocks_of-stand, placed_from, placed_to}
use Rattle.spec_sheets.proofs.RowLaws.{IsText-texts}
use Rattle.spec_sheets.proofs.SpokenLaws.{spoken_elements-alone, spoken_elements-pair}
use Rattle.spec_edit.specs.Moved.{moved_group, moved_place}
use Rattle.spec_edit.proofs.LayoutParts.{laid_of, laid-append}
use Rattle.sp_layout.specs.LaidOut.{break_places, places_behind}
use Rattle.sp_layout.proofs.BreakPlaces.{bodies_in, break_places-append, break_places-lie, break_places-shifted}

-- How many elements of the body these are.
abbrev pub elements_in : List LineState → List (Group Spoken) → ℕ
elements_in lines groups = length (laid_of in_body lines groups)

bodies-laid : (lines : List LineState) (groups : List (Group Spoken)) → bodies_in groups ≡ elements_in lines groups
bodies-laid lines groups = sym (length-map (filter in_body groups) (laid_out lines))

pub elements-append : (lines : List LineState) (xs ys : List (Group Spoken)) → elements_in lines (xs ++ ys) ≡ elements_in lines xs + elements_in lines ys
elements-append lines xs ys = ap length (laid-append in_body lines xs ys) ∙ length-append (laid_of in_body lines xs) (laid_of in_body lines ys)

pub breaks-append : (lines : List LineState) (count : ℕ) (xs ys : List (Group Spoken)) → break_places count (xs ++ ys) ≡ break_places count xs ++ break_places (count + elements_in lines xs) ys
breaks-append lines count xs ys = break_places-append count xs ys ∙ ap (λ n. break_places count xs ++ break_places (count + n) ys) (bodies-laid lines xs)

-- Three parts: how many elements there are doesn't depend on the lines.
pub breaks-three : (lines later : List LineState) (xs ys zs : List (Group Spoken))
    → break_places 0 (xs ++ (ys ++ zs)) ≡ break_places 0 xs ++ (break_places (elements_in lines xs) ys ++ break_places (elements_in lines xs + elements_in later ys) zs)
breaks-three lines later xs ys zs =
    let first : 0 + elements_in lines xs ≡ elements_in lines xs = omega arith in
    breaks-append lines 0 xs (ys ++ zs) ∙ ap (λ n. break_places 0 xs ++ break_places n (ys ++ zs)) first ∙ ap (λ (ns : List ℕ). break_places 0 xs ++ ns) (breaks-append later (elements_in lines xs) ys zs)

pub breaks-shifted : (less more count : ℕ) (xs : List (Group Spoken)) → less ≤ count → map (moved_place less more) (break_places count xs) ≡ break_places (moved_place less more count) xs
breaks-shifted less more count xs low = break_places-shifted less more count xs low

-- An edit moves the lines of elements, and page breaks stay what they are.
pub breaks-moved : (less more count : ℕ) (groups : List (Group Spoken)) → break_places count (map (moved_group less more) groups) ≡ break_places count groups
breaks-moved less more count [] = refl
breaks-moved less more count (g ∷ groups) = ap (λ (those : List ℕ). cond (is_page_break (kind_of g)) (count ∷ those) those) (breaks-moved less more (places_behind count g) groups)

pub breaks-low : (count : ℕ) (groups : List (Group Spoken)) → All (λ (place : ℕ). count ≤ place) (break_places count groups)
breaks-low count groups = (break_places-lie count (count + bodies_in groups) groups (omega arith)).above

pub breaks-high : (lines : List LineState) (count : ℕ) (groups : List (Group Spoken)) → All (λ (place : ℕ). place < count + elements_in lines groups) (break_places count groups)
breaks-high lines count groups = subst (λ n. All (λ (place : ℕ). place < count + n) (break_places count groups)) (bodies-laid lines groups) (break_places-lie count (count + bodies_in groups) groups (omega arith)).below

pub breaks-rise : (count : ℕ) (groups : List (Group Spoken)) → AllPairs (λ (one other : ℕ). one ≤ other) (break_places count groups)
breaks-rise count groups = let rise = (break_places-lie count (count + bodies_in groups) groups (omega arith)).rise in λ i j d order inside. let less = rise i j d order inside in omega (arith, less)

-- Blocks are no more than the lines in which they stand, and elements no more than blocks.
blocks-few : (low high : ℕ) (blocks : List PlacedBlock) → Rise placed_from placed_to low high blocks → low + length blocks ≤ high
blocks-few low high [] rise = omega (arith, rise)
blocks-few low high (block ∷ blocks) rise = let rest = blocks-few (placed_to block) high blocks rise.2 in let from = rise.0 in let some = rise.1 in omega (arith, rest, from, some)

elements-step : (on : Bool) (lines : List LineState) (last : Option (List ℕ)) (block next : PlacedBlock) (blocks : List PlacedBlock) (t : Bool) → is_dual block next ≡ t
    → let behind = speaker_after (line_texts lines) last block in length (spoken_elements on lines behind (next ∷ blocks)) ≤ length blocks + 1
    → length (spoken_elements on lines (speaker_after (line_texts lines) behind next) blocks) ≤ length blocks
    → length (spoken_elements on lines last (block ∷ next ∷ blocks)) ≤ length blocks + 2
elements-step on lines last block next blocks true dual apart both =
    let is = ap (λ (gs : List (Group Spoken)). length gs) (spoken_elements-pair on lines last block next blocks dual) in
    omega (arith, is, both)
elements-step on lines last block next blocks false other apart both =
    let is = ap (λ (gs : List (Group Spoken)). length gs) (spoken_elements-alone on lines last block next blocks other) in
    omega (arith, is, apart)

elements-few : (on : Bool) (lines : List LineState) (last : Option (List ℕ)) (blocks : List PlacedBlock) → length (spoken_elements on lines last blocks) ≤ length blocks
elements-few on lines last [] = omega arith
elements-few on lines last (block ∷ []) = omega arith
elements-few on lines last (block ∷ next ∷ blocks) =
    let behind = speaker_after (line_texts lines) last block in
    let apart = elements-few on lines behind (next ∷ blocks) in
    let both = elements-few on lines (speaker_after (line_texts lines) behind next) blocks in
    let all = elements-step on lines last block next blocks (is_dual block next) refl (omega (arith, apart)) both in
    omega (arith, all)

bodies-few : (groups : List (Group Spoken)) → bodies_in groups ≤ length groups
bodies-few [] = omega arith
bodies-few (g ∷ groups) = by (in_body g) (bodies-few groups)
  where
    by : (b : Bool) → bodies_in groups ≤ length groups → length (cond b (g ∷ filter in_body groups) (filter in_body groups)) ≤ length (g ∷ groups)
    by true rest = omega (arith, rest)
    by false rest = omega (arith, rest)

-- The body of a text has at most as many elements as a text may have lines.
pub text-few : (on : Bool) (text : TextState) → IsText text → elements_in text.lines (text_elements on text.lines) ≤ 200000
text-few on text keeps =
    let texts = line_texts text.lines in
    let are = IsText-texts text keeps in
    let blocks = blocks-few 0 (length texts) (blocks_of texts) (blocks_of-stand texts are.utf8 are.few).rise in
    let elements = elements-few on text.lines None (blocks_of texts) in
    let bodies = bodies-few (text_elements on text.lines) in
    let laid = bodies-laid text.lines (text_elements on text.lines) in
    let few = are.few in
    omega (arith, blocks, elements, bodies, laid, few)
