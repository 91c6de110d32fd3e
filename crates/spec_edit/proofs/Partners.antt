-- The partner of a block is the one directly before or behind it.
use Rattle.std.proofs.Common.{◌≡◌, ℕ, ◌<◌, ◌≤◌, ◌==◌, false, cond, Option, Some, None, List, [], ◌∷◌, ◌++◌, refl, ap, ◌∙◌, arith}
use Rattle.std.specs.Prelude.{All}
use Rattle.std.proofs.lemmas.Bool.{eq-eqb, ne_eqb}
use Rattle.std.proofs.lemmas.List.Elements.{All-nil, All-cons, All-head, All-tail}
use Rattle.spec_script.specs.BlockParts.{Rise}
use Rattle.spec_script.specs.Stanzas.{PlacedBlock}
use Rattle.spec_script.specs.Elements.{line_of_block, is_dual}
use Rattle.spec_sheets.proofs.ElementPlaces.{placed_from, placed_to}
use Rattle.spec_edit.specs.Touched.{partner_from}

-- The line of the block behind, where it is the partner.
abbrev pub right_partner : PlacedBlock → List PlacedBlock → Option ℕ
right_partner block [] = None
right_partner block (next ∷ blocks) = cond (is_dual block next) (Some (line_of_block next)) None

-- The line of the block before, where it is the partner.
abbrev pub left_partner : Option ℕ → List PlacedBlock → PlacedBlock → Option ℕ
left_partner before [] block = before
left_partner before (one ∷ []) block = cond (is_dual one block) (Some (line_of_block one)) None
left_partner before (one ∷ next ∷ blocks) block = left_partner None (next ∷ blocks) block

-- Blocks begin with earlier lines.
abbrev pub BeginBefore : PlacedBlock → PlacedBlock → Type 0
BeginBefore block one = line_of_block one < line_of_block block

here : (block : PlacedBlock) {X : Type 0} (x y : X) → cond (line_of_block block == line_of_block block) x y ≡ x
here block x y = ap (λ b. cond b x y) (eq-eqb (line_of_block block) (line_of_block block) refl)

not-here : (one block : PlacedBlock) {X : Type 0} (x y : X) → BeginBefore block one → cond (line_of_block one == line_of_block block) x y ≡ y
not-here one block x y less = ap (λ b. cond b x y) (ne_eqb (line_of_block one) (line_of_block block) (λ e. omega (arith, e, less)))

-- The partner of a block, by the blocks behind it: the next one, where they are joined, or else the one before it.
abbrev pub partner_at : Option ℕ → PlacedBlock → List PlacedBlock → Option ℕ
partner_at before block [] = before
partner_at before block (next ∷ blocks) = cond (is_dual block next) (Some (line_of_block next)) before

found : (before : Option ℕ) (front : List PlacedBlock) (block : PlacedBlock) (back : List PlacedBlock) → All (BeginBefore block) front
    → partner_from before (front ++ block ∷ back) (line_of_block block) ≡ partner_at (left_partner before front block) block back
found before [] block [] all = here block before None
found before [] block (next ∷ back) all =
    here block (cond (is_dual block next) (Some (line_of_block next)) before) (partner_from (cond (is_dual block next) (Some (line_of_block block)) None) (next ∷ back) (line_of_block block))
found before (one ∷ []) block back all =
    not-here one block (cond (is_dual one block) (Some (line_of_block block)) before) (partner_from (cond (is_dual one block) (Some (line_of_block one)) None) (block ∷ back) (line_of_block block)) (All-head (BeginBefore block) one [] all)
    ∙ found (cond (is_dual one block) (Some (line_of_block one)) None) [] block back (All-nil (BeginBefore block))
found before (one ∷ next ∷ front) block back all =
    not-here one block (cond (is_dual one next) (Some (line_of_block next)) before) (partner_from (cond (is_dual one next) (Some (line_of_block one)) None) (next ∷ (front ++ block ∷ back)) (line_of_block block)) (All-head (BeginBefore block) one (next ∷ front) all)
    ∙ found (cond (is_dual one next) (Some (line_of_block one)) None) (next ∷ front) block back (All-tail (BeginBefore block) one (next ∷ front) all)
    ∙ ap (λ o. partner_at o block back) (any-before (cond (is_dual one next) (Some (line_of_block one)) None) next front)
  where
    any-before : (before : Option ℕ) (x : PlacedBlock) (xs : List PlacedBlock) → left_partner before (x ∷ xs) block ≡ left_partner None (x ∷ xs) block
    any-before before x [] = refl
    any-before before x (y ∷ xs) = refl

pub partner-found : (front : List PlacedBlock) (block : PlacedBlock) (back : List PlacedBlock) → All (BeginBefore block) front
    → partner_from None (front ++ block ∷ back) (line_of_block block) ≡ partner_at (left_partner None front block) block back
partner-found front block back all = found None front block back all

-- Of a block that is no right half.
pub partner-right : (front : List PlacedBlock) (block : PlacedBlock) (back : List PlacedBlock) → All (BeginBefore block) front
    → ((z : PlacedBlock) → is_dual z block ≡ false) → partner_from None (front ++ block ∷ back) (line_of_block block) ≡ right_partner block back
partner-right front block back all apart =
    partner-found front block back all ∙ ap (λ o. partner_at o block back) (none-left front) ∙ is-right back
  where
    none-left : (front : List PlacedBlock) → left_partner None front block ≡ None
    none-left [] = refl
    none-left (one ∷ []) = ap (λ b. cond b (Some (line_of_block one)) None) (apart one)
    none-left (one ∷ next ∷ front) = none-left (next ∷ front)

    is-right : (back : List PlacedBlock) → partner_at None block back ≡ right_partner block back
    is-right [] = refl
    is-right (next ∷ back) = refl

-- Of a block that is no left half.
pub partner-left : (front : List PlacedBlock) (block : PlacedBlock) (back : List PlacedBlock) → All (BeginBefore block) front
    → ((z : PlacedBlock) → is_dual block z ≡ false) → partner_from None (front ++ block ∷ back) (line_of_block block) ≡ left_partner None front block
partner-left front block back all apart = partner-found front block back all ∙ is-left back
  where
    is-left : (back : List PlacedBlock) → partner_at (left_partner None front block) block back ≡ left_partner None front block
    is-left [] = refl
    is-left (next ∷ back) = ap (λ b. cond b (Some (line_of_block next)) (left_partner None front block)) (apart next)

-- Blocks that stand in order begin with earlier lines than those behind them.
rise-low : (low high : ℕ) (front : List PlacedBlock) (block : PlacedBlock) (back : List PlacedBlock) → Rise placed_from placed_to low high (front ++ block ∷ back) → low ≤ line_of_block block
rise-low low high [] block back rise = rise.0
rise-low low high (one ∷ front) block back rise = omega (arith, rise.0, rise.1, rise-low (placed_to one) high front block back rise.2)

pub rise-before : (low high : ℕ) (front : List PlacedBlock) (block : PlacedBlock) (back : List PlacedBlock) → Rise placed_from placed_to low high (front ++ block ∷ back) → All (BeginBefore block) front
rise-before low high [] block back rise = All-nil (BeginBefore block)
rise-before low high (one ∷ front) block back rise =
    All-cons (BeginBefore block) one front (let above = rise-low (placed_to one) high front block back rise.2 in let some = rise.1 in omega (arith, above, some)) (rise-before (placed_to one) high front block back rise.2)
