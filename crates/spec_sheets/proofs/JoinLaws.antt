-- A speech goes on behind a row exactly where the next row continues it.
use Rattle.std.proofs.Common.{◌≡◌, ℕ, ◌+◌, ◌-◌, ◌<◌, Bool, true, false, ◌&&◌, cond, nat_lt, Option, None, List, [], ◌∷◌, ◌++◌, not, length, map, filter, get_or, inl, inr, refl, sym, ap, ap₂, subst, ◌∙◌, arith, length-append}
use Rattle.std.specs.Prelude.{All}
use Rattle.std.specs.List.{flat_map}
use Rattle.std.proofs.lemmas.Bool.{cases_lt, cases_eq, lt-ltb}
use Rattle.std.proofs.lemmas.List.{get_or_append_left, get_or-append_right, get_or-append-add}
use Rattle.std.proofs.lemmas.List.Elements.{All-nil, All-cons, All-head, All-tail}
use Rattle.spec_text.specs.Lines.{LineState, line_texts}
use Rattle.spec_pages.specs.Pages.{is_speech, continues_speech, goes_on}
use Rattle.spec_pages.specs.Rows.{Row, ElementOf}
use Rattle.spec_sheets.specs.Layout.{AreJoined}
use Rattle.spec_script.specs.LongestRuns.{Group}
use Rattle.spec_script.specs.Stanzas.{PlacedBlock, blocks_of}
use Rattle.spec_script.proofs.RunSteps.{one_alone, two_together}
use Rattle.spec_text.specs.Lines.{TextState, IsText}
use Rattle.spec_sheets.specs.Speakers.{Spoken, spoken_elements}
use Rattle.spec_sheets.specs.Layout.{laid_out, is_title_element, in_body, layout_in, layout_of, placed_in}
use Rattle.spec_sheets.proofs.ElementPlaces.{BlocksStand, Steps, blocks_of-stand, spoken_elements-rise}
use Rattle.spec_sheets.proofs.LaidRows.{element_rows, body_rows, layout-body}
use Rattle.spec_sheets.proofs.RowLaws.{IsText-texts}
use Rattle.spec_sheets.proofs.IndexLaws.{AreOfElement, single_rows-element, dual_rows-element, placed_rows-element}

-- In an element each row but the first goes on with a speech where the one before it is left, and so does neither end.
test-above : (n : ℕ) → 0 < n → nat_lt 0 n ≡ true
test-above n some = lt-ltb 0 n some

and-false : (t : Bool) (n : ℕ) → n ≡ 0 → (t && nat_lt 0 n) ≡ false
and-false true n none = ap (λ m. nat_lt 0 m) none
and-false false n none = refl

element-joined : (those : List Row) → AreOfElement those → AreJoined those
element-joined those is = record {
  next = λ q d some inside.
      let before : q - 1 < length those = omega (arith, inside) in
      let here = is.indexed q d inside in
      let above = is.indexed (q - 1) d before in
      let one = is.speaks q d inside in
      let other = is.speaks (q - 1) d before in
      let late : 0 < (get_or those q d).shape.index = omega (arith, here.index, some) in
      let left : 0 < (get_or those (q - 1) d).shape.rest = omega (arith, above.rest, inside, some) in
      ap₂ (λ a b. a && b) one (test-above _ late) ∙ sym (ap₂ (λ a b. a && b) other (test-above _ left));
  first = λ d some. let here = is.indexed 0 d some in and-false (is_speech (get_or those 0 d).shape.kind) _ here.index;
  last = λ d some.
      let inside : length those - 1 < length those = omega (arith, some) in
      let here = is.indexed (length those - 1) d inside in
      and-false (is_speech (get_or those (length those - 1) d).shape.kind) _ (omega (arith, here.rest, some));
}

-- Rows, and those of the elements behind them.
joined-none : AreJoined []
joined-none = record { next = λ q d some inside. absurd (omega arith); first = λ d some. absurd (omega arith); last = λ d some. absurd (omega arith) }

joined-append : (xs ys : List Row) → AreJoined xs → AreJoined ys → AreJoined (xs ++ ys)
joined-append [] ys front back = back
joined-append (x ∷ xs) ys front back =
    let own = x ∷ xs in
    let size = length-append own ys in
    record {
      next = λ q d some inside. elim (cases_lt q (length own)) [
        | inl low ↦
            let here = get_or_append_left own ys d q low in
            let before = get_or_append_left own ys d (q - 1) (omega (arith, low)) in
            ap (λ (row : Row). continues_speech row.shape) here ∙ front.next q d some low ∙ sym (ap (λ (row : Row). goes_on row.shape) before)
        | inr high ↦
            let here = get_or-append_right own ys (length own) q d refl high in
            elim (cases_eq q (length own)) [
              | inl seam ↦
                  let none : q - length own ≡ 0 = omega (arith, seam) in
                  let at : q - 1 ≡ length own - 1 = omega (arith, seam) in
                  let before = get_or_append_left own ys d (q - 1) (omega (arith, seam, some)) in
                  ap (λ (row : Row). continues_speech row.shape) here ∙ ap (λ n. continues_speech (get_or ys n d).shape) none ∙ back.first d (omega (arith, inside, size, seam))
                  ∙ sym (ap (λ (row : Row). goes_on row.shape) before ∙ ap (λ n. goes_on (get_or own n d).shape) at ∙ front.last d (omega arith))
              | inr behind ↦
                  let before = get_or-append_right own ys (length own) (q - 1) d refl (omega (arith, high, behind)) in
                  let at : q - 1 - length own ≡ q - length own - 1 = omega (arith, high, behind) in
                  ap (λ (row : Row). continues_speech row.shape) here ∙ back.next (q - length own) d (omega (arith, high, behind)) (omega (arith, inside, size, high))
                  ∙ sym (ap (λ (row : Row). goes_on row.shape) before ∙ ap (λ n. goes_on (get_or ys n d).shape) at)
            ]
      ];
      first = λ d some. front.first d (omega arith);
      last = λ d some. last-by ys d back;
    }
  where
    last-by : (ys : List Row) (d : Row) → AreJoined ys → goes_on (get_or ((x ∷ xs) ++ ys) (length ((x ∷ xs) ++ ys) - 1) d).shape ≡ false
    last-by [] d behind =
        let size = length-append (x ∷ xs) [] in
        let at : length ((x ∷ xs) ++ []) - 1 ≡ length (x ∷ xs) - 1 = omega (arith, size) in
        let same = get_or_append_left (x ∷ xs) [] d (length (x ∷ xs) - 1) (omega arith) in
        ap (λ n. goes_on (get_or ((x ∷ xs) ++ []) n d).shape) at ∙ ap (λ (row : Row). goes_on row.shape) same ∙ front.last d (omega arith)
    last-by (y ∷ ys) d behind =
        let own = x ∷ xs in
        let size = length-append own (y ∷ ys) in
        let at : length (own ++ y ∷ ys) - 1 ≡ length own + (length (y ∷ ys) - 1) = omega (arith, size) in
        ap (λ n. goes_on (get_or (own ++ y ∷ ys) n d).shape) at ∙ ap (λ (row : Row). goes_on row.shape) (get_or-append-add own (y ∷ ys) (length (y ∷ ys) - 1) d) ∙ behind.last d (omega arith)

-- The elements of a body, each by itself and all of them.
record BodyOfElements (lines : List LineState) (low high : ℕ) (elements : List (Group Spoken)) : Type 0 where
  each : All (λ (element : Group Spoken). is_title_element element ≡ false → AreOfElement (laid_out lines element).rows) elements
  joined : AreJoined (flat_map (body_rows lines) elements)

body-joined : (t : Bool) (those : List Row) → (t ≡ false → AreJoined those) → AreJoined (cond t [] those)
body-joined true those made = joined-none
body-joined false those made = made refl

next-joined : (lines : List LineState) (low high to : ℕ) (element : Group Spoken) (others : List (Group Spoken)) → (is_title_element element ≡ false → AreOfElement (laid_out lines element).rows)
    → BodyOfElements lines to high others → BodyOfElements lines low high (element ∷ others)
next-joined lines low high to element others is behind = record {
  each = All-cons (λ (it : Group Spoken). is_title_element it ≡ false → AreOfElement (laid_out lines it).rows) element others is behind.each;
  joined =
      joined-append (body_rows lines element) (flat_map (body_rows lines) others)
      (body-joined (is_title_element element) (element_rows lines element) (λ body. element-joined (element_rows lines element) (placed_rows-element (laid_out lines element) (is body))))
      behind.joined;
}

joined-steps : (lines : List LineState) → Steps (line_texts lines) (BodyOfElements lines)
joined-steps lines = record {
  none = λ low high order. record { each = All-nil _; joined = joined-none };
  single = λ low high it others stands order behind.
      next-joined lines low high _ (one_alone it) others (λ body. single_rows-element lines it.placed.first it.placed.block it.continued body stands.speech) behind;
  double = λ low high left right others l r dual places order apart behind.
      next-joined lines low high _ (two_together left right) others
      (λ body. dual_rows-element lines left.placed.first left.placed.block left.continued right.placed.first right.placed.block right.continued) behind;
}

-- The rows of a body of blocks that stand in a text.
pub layout_in-joined : (speakers : Bool) (lines : List LineState) (last : Option (List ℕ)) (low high place : ℕ) (blocks : List PlacedBlock) → BlocksStand (line_texts lines) low high place blocks
    → AreJoined (placed_in (layout_in lines (spoken_elements speakers lines last blocks)).body)
layout_in-joined speakers lines last low high place blocks stand =
    subst AreJoined (sym (layout-body lines (spoken_elements speakers lines last blocks)))
    (spoken_elements-rise speakers lines (BodyOfElements lines) (joined-steps lines) last low high place blocks stand).joined

-- The rows of each element of the body know their places in it.
abbrev OfElement : ElementOf → Type 0
OfElement element = AreOfElement element.rows

abbrev IsBodyElement : List LineState → Group Spoken → Type 0
IsBodyElement lines element = is_title_element element ≡ false → AreOfElement (laid_out lines element).rows

next-body : (lines : List LineState) (t : Bool) (element : Group Spoken) (others : List (Group Spoken)) → (t ≡ false → AreOfElement (laid_out lines element).rows)
    → All OfElement (map (laid_out lines) others) → All OfElement (map (laid_out lines) (cond (not t) (element ∷ others) others))
next-body lines true element others is behind = behind
next-body lines false element others is behind = All-cons OfElement (laid_out lines element) (map (laid_out lines) others) (is refl) behind

bodies : (lines : List LineState) (elements : List (Group Spoken)) → All (IsBodyElement lines) elements → All OfElement (layout_in lines elements).body
bodies lines [] all = All-nil OfElement
bodies lines (element ∷ elements) all =
    next-body lines (is_title_element element) element (filter in_body elements) (All-head (IsBodyElement lines) element elements all)
    (bodies lines elements (All-tail (IsBodyElement lines) element elements all))

pub layout_in-indexed : (speakers : Bool) (lines : List LineState) (last : Option (List ℕ)) (low high place : ℕ) (blocks : List PlacedBlock) → BlocksStand (line_texts lines) low high place blocks
    → All (λ (element : ElementOf). AreOfElement element.rows) (layout_in lines (spoken_elements speakers lines last blocks)).body
layout_in-indexed speakers lines last low high place blocks stand =
    bodies lines (spoken_elements speakers lines last blocks)
    (spoken_elements-rise speakers lines (BodyOfElements lines) (joined-steps lines) last low high place blocks stand).each

-- The rows of a text.
pub layout-joined : (speakers : Bool) (text : TextState) → IsText text → AreJoined (placed_in (layout_of speakers text.lines).body)
layout-joined speakers text is =
    let texts = line_texts text.lines in
    let are = IsText-texts text is in
    layout_in-joined speakers text.lines None 0 (length texts) 0 (blocks_of texts) (blocks_of-stand texts are.utf8 are.few)

pub layout-indexed : (speakers : Bool) (text : TextState) → IsText text → All (λ (element : ElementOf). AreOfElement element.rows) (layout_of speakers text.lines).body
layout-indexed speakers text is =
    let texts = line_texts text.lines in
    let are = IsText-texts text is in
    layout_in-indexed speakers text.lines None 0 (length texts) 0 (blocks_of texts) (blocks_of-stand texts are.utf8 are.few)
