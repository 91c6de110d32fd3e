-- The elements of blocks begin where the first of their blocks do.
use Rattle.std.proofs.Common.{◌≡◌, ℕ, Bool, List, [], ◌∷◌, get_or, map, filter, Option, refl, sym, subst}
use Rattle.std.specs.Prelude.{All}
use Rattle.std.proofs.lemmas.List.Elements.{All-nil, All-cons, All-head, All-tail, All-filter, All-map}
use Rattle.spec_text.specs.Lines.{LineState}
use Rattle.spec_script.specs.LongestRuns.{Group}
use Rattle.spec_script.specs.Stanzas.{PlacedBlock}
use Rattle.spec_script.proofs.RunSteps.{map_group}
use Rattle.spec_pages.specs.Rows.{ElementOf}
use Rattle.spec_sheets.specs.Speakers.{Spoken, spoken_elements}
use Rattle.spec_sheets.specs.Layout.{laid_beside, laid_out}
use Rattle.spec_sheets.proofs.SpokenLaws.{placed_of, spoken_elements-placed}
use Rattle.spec_edit.proofs.FairElements.{AllIn, elements-all}
use Rattle.spec_edit.proofs.LayoutParts.{laid_of}

-- Where an element begins: at the first line of its first block's stanza.
abbrev pub element_first : Group Spoken → ℕ
element_first group = group.first.placed.first

laid-by : (lines : List LineState) (it : Spoken) (others : List Spoken) → (laid_beside lines it others).first ≡ it.placed.first
laid-by lines it [] = refl
laid-by lines it (right ∷ others) = refl

pub laid-first : (lines : List LineState) (group : Group Spoken) → (laid_out lines group).first ≡ element_first group
laid-first lines group = laid-by lines group.first group.more

firsts : (P : PlacedBlock → Type 0) (groups : List (Group Spoken)) → All (AllIn P) (map (map_group placed_of) groups) → All (λ (g : Group Spoken). P g.first.placed) groups
firsts P [] all = All-nil (λ (g : Group Spoken). P g.first.placed)
firsts P (group ∷ groups) all =
    let here = All-head (AllIn P) (map_group placed_of group) (map (map_group placed_of) groups) all in
    All-cons (λ (g : Group Spoken). P g.first.placed) group groups (All-head P group.first.placed (map placed_of group.more) here)
    (firsts P groups (All-tail (AllIn P) (map_group placed_of group) (map (map_group placed_of) groups) all))

-- What holds of blocks holds of the first block of each element.
pub spoken-firsts : (on : Bool) (lines : List LineState) (last : Option (List ℕ)) (P : PlacedBlock → Type 0) (blocks : List PlacedBlock) → All P blocks
    → All (λ (g : Group Spoken). P g.first.placed) (spoken_elements on lines last blocks)
spoken-firsts on lines last P blocks all =
    firsts P (spoken_elements on lines last blocks) (subst (All (AllIn P)) (sym (spoken_elements-placed on lines last blocks)) (elements-all P blocks all))

-- And what holds of where elements begin holds of those laid out.
pub laid-firsts : (Q : ℕ → Type 0) (among : Group Spoken → Bool) (lines : List LineState) (groups : List (Group Spoken)) → All (λ (g : Group Spoken). Q (element_first g)) groups
    → All (λ (e : ElementOf). Q e.first) (laid_of among lines groups)
laid-firsts Q among lines groups all =
    let P : Group Spoken → Type 0 = λ (g : Group Spoken). Q (element_first g) in
    let some = All-filter among P groups all in
    All-map (λ (e : ElementOf). Q e.first) (laid_out lines) (filter among groups) (λ k d h. subst Q (sym (laid-first lines (get_or (filter among groups) k d))) (some k d h))
