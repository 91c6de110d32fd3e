-- Elements with their speakers, taken one after another; their blocks are the elements of the blocks.
use Rattle.std.proofs.Common.{◌≡◌, ℕ, Bool, true, false, List, [], ◌∷◌, map, Option, ap, ap₂, ◌∙◌, refl}
use Rattle.spec_text.specs.Lines.{LineState, line_texts}
use Rattle.spec_script.specs.LongestRuns.{Group, longest_runs}
use Rattle.spec_script.specs.Stanzas.{PlacedBlock}
use Rattle.spec_script.specs.Elements.{is_dual, elements_in}
use Rattle.spec_script.proofs.ElementLaws.{dual-last}
use Rattle.spec_script.proofs.RunSteps.{one_alone, two_together, map_group, longest_runs-alone, longest_runs-pair, longest_runs-map}
use Rattle.spec_pages.specs.declared.Side.TheVariants as sides
use Rattle.spec_sheets.specs.Speakers.{Spoken, named_block, named_from, speaker_after, is_pair, settled, settled_element, spoken_elements}

-- A block by itself behind a last speaker, and a pair.
abbrev pub spoken_alone : Bool → List LineState → Option (List ℕ) → PlacedBlock → Group Spoken
spoken_alone speakers lines last block = one_alone (settled lines sides.Alone (named_block speakers (line_texts lines) last block))

abbrev pub spoken_pair : Bool → List LineState → Option (List ℕ) → PlacedBlock → PlacedBlock → Group Spoken
spoken_pair speakers lines last left right =
    two_together (settled lines sides.Left (named_block speakers (line_texts lines) last left))
    (settled lines sides.Right (named_block speakers (line_texts lines) (speaker_after (line_texts lines) last left) right))

-- The first two blocks are no dual dialogue.
pub spoken_elements-alone : (speakers : Bool) (lines : List LineState) (last : Option (List ℕ)) (block next : PlacedBlock) (blocks : List PlacedBlock) → is_dual block next ≡ false
    → spoken_elements speakers lines last (block ∷ next ∷ blocks)
    ≡ spoken_alone speakers lines last block ∷ spoken_elements speakers lines (speaker_after (line_texts lines) last block) (next ∷ blocks)
spoken_elements-alone speakers lines last block next blocks apart =
    let texts = line_texts lines in
    let behind = speaker_after texts last block in
    ap (map (settled_element lines))
    (longest_runs-alone is_pair (named_block speakers texts last block) (named_block speakers texts behind next) (named_from speakers texts (speaker_after texts behind next) blocks) apart)

-- They are.
pub spoken_elements-pair : (speakers : Bool) (lines : List LineState) (last : Option (List ℕ)) (left right : PlacedBlock) (blocks : List PlacedBlock) → is_dual left right ≡ true
    → spoken_elements speakers lines last (left ∷ right ∷ blocks)
    ≡ spoken_pair speakers lines last left right ∷ spoken_elements speakers lines (speaker_after (line_texts lines) (speaker_after (line_texts lines) last left) right) blocks
spoken_elements-pair speakers lines last left right blocks dual =
    let texts = line_texts lines in
    let between = speaker_after texts last left in
    ap (map (settled_element lines))
    (longest_runs-pair is_pair (named_block speakers texts last left) (named_block speakers texts between right) (named_from speakers texts (speaker_after texts between right) blocks) dual
    (λ it. dual-last left right dual it.placed))

-- The blocks of an element.
abbrev pub placed_of : Spoken → PlacedBlock
placed_of it = it.placed

named_from-placed : (speakers : Bool) (texts : List (List ℕ)) (last : Option (List ℕ)) (blocks : List PlacedBlock) → map placed_of (named_from speakers texts last blocks) ≡ blocks
named_from-placed speakers texts last [] = refl
named_from-placed speakers texts last (block ∷ blocks) = ap (λ those. block ∷ those) (named_from-placed speakers texts (speaker_after texts last block) blocks)

others-placed : (lines : List LineState) (those : List Spoken) → map placed_of (map (settled lines sides.Right) those) ≡ map placed_of those
others-placed lines [] = refl
others-placed lines (it ∷ those) = ap (λ (blocks : List PlacedBlock). it.placed ∷ blocks) (others-placed lines those)

elements-placed : (lines : List LineState) (groups : List (Group Spoken)) → map (map_group placed_of) (map (settled_element lines) groups) ≡ map (map_group placed_of) groups
elements-placed lines [] = refl
elements-placed lines (group ∷ groups) =
    ap₂ (λ (more : List PlacedBlock) (later : List (Group PlacedBlock)). record { first = group.first.placed; more = more } ∷ later)
    (others-placed lines group.more) (elements-placed lines groups)

-- The blocks of elements are the elements of the blocks.
pub spoken_elements-placed : (speakers : Bool) (lines : List LineState) (last : Option (List ℕ)) (blocks : List PlacedBlock)
    → map (map_group placed_of) (spoken_elements speakers lines last blocks) ≡ elements_in blocks
spoken_elements-placed speakers lines last blocks =
    let named = named_from speakers (line_texts lines) last blocks in
    elements-placed lines (longest_runs is_pair named) ∙ longest_runs-map placed_of is_dual named ∙ ap elements_in (named_from-placed speakers (line_texts lines) last blocks)

-- Where speakers who go on aren't told, it doesn't matter who spoke last.
named_from-off : (texts : List (List ℕ)) (one other : Option (List ℕ)) (blocks : List PlacedBlock) → named_from false texts one blocks ≡ named_from false texts other blocks
named_from-off texts one other [] = refl
named_from-off texts one other (block ∷ blocks) =
    ap (λ (those : List Spoken). named_block false texts other block ∷ those) (named_from-off texts (speaker_after texts one block) (speaker_after texts other block) blocks)

pub spoken_elements-off : (lines : List LineState) (one other : Option (List ℕ)) (blocks : List PlacedBlock) → spoken_elements false lines one blocks ≡ spoken_elements false lines other blocks
spoken_elements-off lines one other blocks = ap (λ those. map (settled_element lines) (longest_runs is_pair those)) (named_from-off (line_texts lines) one other blocks)
