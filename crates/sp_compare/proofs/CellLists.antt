-- Parts and cells, compared one by one.
use Rattle.std.proofs.Common.{◌≡◌, ◌≢◌, ℕ, zero, suc, ◌+◌, ◌-◌, ◌<◌, ◌≤◌, Bool, true, false, cond, List, [], ◌∷◌, length, map, drop, get_or, eq-eqb, ne_eqb, refl, sym, ap, subst, ◌∙◌, arith}
use Rattle.std.specs.Prelude.{not, nat_eq, ◌&&◌, All}
use Rattle.std.proofs.lemmas.List.{drop_more, drop_all, get_or-map, length-map}
use Rattle.spec_pages.specs.Rows.{Cell, shifted_cell}
use Rattle.spec_sheets.specs.Cells.{ShownCell, ShownPart, shown_cell, without_numbers}
use Rattle.spec_state.specs.SameRows.{same_cells, same_part, same_parts}
use Rattle.sp_compare.specs.BareRows.{bare_cells}

-- ---- parts

pub parts-differ : (xs ys : List ShownPart) → length xs ≢ length ys → same_parts xs ys ≡ false
parts-differ [] [] ne = absurd (ne refl)
parts-differ [] (y ∷ ys) ne = refl
parts-differ (x ∷ xs) [] ne = refl
parts-differ (x ∷ xs) (y ∷ ys) ne = ap (λ b. same_part x y && b) (parts-differ xs ys (λ e. ne (ap suc e))) ∙ and-false (same_part x y)
  where
    and-false : (b : Bool) → (b && false) ≡ false
    and-false true = refl
    and-false false = refl

pub bare-is : (texts : List (List ℕ)) (first : ℕ) (cells : List Cell) → bare_cells texts first cells ≡ map (λ (cell : Cell). shown_cell texts (shifted_cell first cell)) (without_numbers cells)
bare-is texts first [] = refl
bare-is texts first (cell ∷ cells) = by (bare-is texts first cells) cell.number
  where
    by : bare_cells texts first cells ≡ map (λ (it : Cell). shown_cell texts (shifted_cell first it)) (without_numbers cells) → (number : Bool)
        → map (shown_cell texts) (cond (not number) (shifted_cell first cell ∷ without_numbers (map (shifted_cell first) cells)) (without_numbers (map (shifted_cell first) cells)))
        ≡ map (λ (it : Cell). shown_cell texts (shifted_cell first it)) (cond (not number) (cell ∷ without_numbers cells) (without_numbers cells))
    by rest true = rest
    by rest false = ap (λ (those : List ShownCell). shown_cell texts (shifted_cell first cell) ∷ those) rest

pub numbers-one : (cells : List Cell) (i : ℕ) (d : Cell) → i < length cells → (get_or cells i d).number ≡ false → without_numbers (drop i cells) ≡ get_or cells i d ∷ without_numbers (drop (i + 1) cells)
numbers-one cells i d inside number =
    ap without_numbers (drop_more cells i d inside)
    ∙ ap (λ (b : Bool). cond (not b) (get_or cells i d ∷ without_numbers (drop (i + 1) cells)) (without_numbers (drop (i + 1) cells))) number

pub bare-past : (texts : List (List ℕ)) (first : ℕ) (xs ys : List Cell) → without_numbers xs ≡ without_numbers ys → bare_cells texts first xs ≡ bare_cells texts first ys
bare-past texts first xs ys same = bare-is texts first xs ∙ ap (map (λ (cell : Cell). shown_cell texts (shifted_cell first cell))) same ∙ sym (bare-is texts first ys)

pub bare-one : (texts : List (List ℕ)) (first : ℕ) (cells : List Cell) (i : ℕ) (d : Cell) → i < length cells → (get_or cells i d).number ≡ false
    → bare_cells texts first (drop i cells) ≡ shown_cell texts (shifted_cell first (get_or cells i d)) ∷ bare_cells texts first (drop (i + 1) cells)
bare-one texts first cells i d inside number =
    bare-is texts first (drop i cells) ∙ ap (map (λ (cell : Cell). shown_cell texts (shifted_cell first cell))) (numbers-one cells i d inside number)
    ∙ ap (λ (those : List ShownCell). shown_cell texts (shifted_cell first (get_or cells i d)) ∷ those) (sym (bare-is texts first (drop (i + 1) cells)))

pub bare-end : (texts : List (List ℕ)) (first : ℕ) (cells : List Cell) (i : ℕ) → length cells ≤ i → bare_cells texts first (drop i cells) ≡ []
bare-end texts first cells i past = ap (bare_cells texts first) (drop_all i cells past)

-- A cell that isn't a number, at a place.
pub bare-item : (texts : List (List ℕ)) (first : ℕ) (cells : List Cell) (i : ℕ) (cell : Cell) → i < length cells → cell ≡ get_or cells i cell → cell.number ≡ false
    → bare_cells texts first (drop i cells) ≡ shown_cell texts (shifted_cell first cell) ∷ bare_cells texts first (drop (i + 1) cells)
bare-item texts first cells i cell inside is number =
    bare-one texts first cells i cell inside (ap (λ (it : Cell). it.number) (sym is) ∙ number)
    ∙ ap (λ (it : Cell). shown_cell texts (shifted_cell first it) ∷ bare_cells texts first (drop (i + 1) cells)) (sym is)

no_cell : Cell
no_cell = record { column = 0; line = 0; runs = []; fixed = false; number = false }

-- Where no cells are left on one side, the other has none if its place is its end.
pub bare-ends : (texts : List (List ℕ)) (first : ℕ) (cells : List Cell) (p : ℕ) → p ≤ length cells → ((d : Cell) → p < length cells → (get_or cells p d).number ≡ false)
    → nat_eq p (length cells) ≡ same_cells [] (bare_cells texts first (drop p cells))
bare-ends texts first cells p within bare = by (length cells - p) (let e : length cells ≡ p + (length cells - p) = omega (arith, within) in e)
  where
    by : (q : ℕ) → length cells ≡ p + q → nat_eq p (length cells) ≡ same_cells [] (bare_cells texts first (drop p cells))
    by zero e = eq-eqb p (length cells) (omega (arith, e)) ∙ sym (ap (same_cells []) (bare-end texts first cells p (omega (arith, e))))
    by (suc q) e =
        ne_eqb p (length cells) (λ same. omega (arith, e, same))
        ∙ sym (ap (same_cells []) (bare-one texts first cells p no_cell (omega (arith, e)) (bare no_cell (omega (arith, e)))))

pub All-image : {X Y : Type 0} (P : Y → Type 0) (f : X → Y) (xs : List X) (i : ℕ) (x : X) → All P (map f xs) → i < length xs → x ≡ get_or xs i x → P (f x)
All-image P f xs i x all inside is =
    let count = length-map xs f in
    subst P (get_or-map f xs i x (f x) inside ∙ ap f (sym is)) (all i (f x) (omega (arith, inside, count)))
