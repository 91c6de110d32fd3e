-- A row of elements, by the element that it stands in.
use Rattle.std.proofs.Common.{◌≡◌, ℕ, ◌+◌, ◌-◌, ◌<◌, List, [], ◌∷◌, ◌++◌, length, take, get_or, sym, ap, subst, ◌∙◌, arith, length-append}
use Rattle.std.proofs.lemmas.List.{get_or-map, length-map, take_more}
use Rattle.std.proofs.lemmas.List.Concat.{get_or-flat_map}
use Rattle.spec_pages.specs.Rows.{Row, ElementOf, placed_rows, shifted_row}
use Rattle.spec_sheets.specs.Layout.{placed_in}
use Rattle.sp_layout.specs.Bodies.{StandsIn, row_count}
use Rattle.sp_layout.proofs.BodyLaws.{placed_in-push}

-- An element that was read from a list, by its fields.
pub element-read : (elements all : List ElementOf) (place : ℕ) (read element : ElementOf) → element ≡ read → read ≡ get_or all place read → all ≡ elements → element ≡ get_or elements place element
element-read elements all place read element own is are = own ∙ is ∙ ap (λ (those : List ElementOf). get_or those place read) are ∙ ap (get_or elements place) (sym own)

-- A row stands among the rows of its element.
pub row-inside : (elements : List ElementOf) (row place start : ℕ) (element : ElementOf) → StandsIn elements row place → start ≡ row_count (take place elements) → element ≡ get_or elements place element
    → row - start < length element.rows
row-inside elements row place start element stands begin is =
    let inside = stands.inside in
    let from = stands.from in
    let to = stands.to in
    let more : row_count (take (place + 1) elements) ≡ length (placed_in (take place elements) ++ placed_rows element) =
    ap row_count (take_more elements place element inside ∙ ap (λ (e : ElementOf). take place elements ++ e ∷ []) (sym is)) ∙ ap length (placed_in-push (take place elements) element) in
    let both = length-append (placed_in (take place elements)) (placed_rows element) in
    let size = length-map element.rows (shifted_row element.first) in
    omega (arith, begin, from, to, more, both, size)

pub row-there : (elements : List ElementOf) (row place start : ℕ) (element : ElementOf) (it d : Row) → StandsIn elements row place → start ≡ row_count (take place elements)
    → element ≡ get_or elements place element → it ≡ get_or element.rows (row - start) it → get_or (placed_in elements) row d ≡ shifted_row element.first it
row-there elements row place start element it d stands begin is own =
    let inside = stands.inside in
    let from = stands.from in
    let low = row-inside elements row place start element stands begin is in
    let size = length-map element.rows (shifted_row element.first) in
    let here : row - start < length (placed_rows (get_or elements place element)) =
    subst (λ (e : ElementOf). row - start < length (placed_rows e)) is (omega (arith, low, size)) in
    let at : row ≡ row_count (take place elements) + (row - start) = omega (arith, begin, from) in
    ap (λ n. get_or (placed_in elements) n d) at
    ∙ get_or-flat_map placed_rows elements place (row - start) element d inside here
    ∙ ap (λ (e : ElementOf). get_or (placed_rows e) (row - start) d) (sym is)
    ∙ get_or-map (shifted_row element.first) element.rows (row - start) it d low
    ∙ ap (shifted_row element.first) (sym own)
