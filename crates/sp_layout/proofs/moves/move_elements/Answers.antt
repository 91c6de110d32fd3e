use Rattle.std.proofs.Common.{◌≡◌, ℕ, ◌-◌, ◌+◌, ◌++◌, All, List, [], ◌∷◌, map, take, drop, refl, sym, ap, ap₂, ◌∙◌, arith, take-append-drop}
use Rattle.std.proofs.lemmas.List.Elements.{All-head, All-tail}
use Rattle.spec_pages.specs.Rows.{ElementOf}
use Rattle.sp_layout.specs.Exchanges.{moved_element, CanMove}
use Rattle.sp_layout.proofs.moves.move_elements.Goals as goal

still : (less more : ℕ) (elements : List ElementOf) → less ≡ more → All (CanMove less more) elements → map (moved_element less more) elements ≡ elements
still less more [] same can = refl
still less more (element ∷ elements) same can =
    let from = (All-head (CanMove less more) element elements can).from in
    let first : element.first - less + more ≡ element.first = omega (arith, from, same) in
    ap₂ (λ (n : ℕ) (rest : List ElementOf). record { first = n; rows = element.rows } ∷ rest) first (still less more elements same (All-tail (CanMove less more) element elements can))

pub returns-else-less-more-clause-elements : goal.returns-else-less-more-clause-elements
returns-else-less-more-clause-elements c =
    let from = c.args.from in
    let items = c.args.elements.now.items in
    sym (take-append-drop from items) ∙ ap (λ (rest : List ElementOf). take from items ++ rest) (sym (still c.args.less c.args.more (drop from items) c.if-less-more.false c.requires.can))
