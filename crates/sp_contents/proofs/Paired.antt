-- The replies of blocks, one behind the other.
use Rattle.std.proofs.Common.{◌≡◌, ℕ, Bool, true, false, cond, List, [], ◌∷◌, ◌++◌, map, take, drop, refl, sym, ap, ◌∙◌}
use Rattle.std.specs.List.{flat_map}
use Rattle.spec_script.specs.LongestRuns.{Group, members, in_front, longest_runs, run_more}
use Rattle.spec_script.proofs.LongestRuns.{longest_runs-first}
use Rattle.spec_script.specs.Stanzas.{PlacedBlock}
use Rattle.spec_script.specs.Elements.{is_dual, elements_in}
use Rattle.spec_wire.specs.Replies.{BlockReplyOf}
use Rattle.spec_machine.specs.Blocks.{block_reply, element_replies}
use Rattle.sp_contents.specs.Pairs.{opens_pair, is_second}

-- The replies of blocks, by whether the block before them may be the first of a pair.
abbrev pub replies_behind : List (List ℕ) → Bool → List PlacedBlock → List BlockReplyOf
replies_behind texts opened [] = []
replies_behind texts opened (placed ∷ blocks) = block_reply texts (is_second opened placed) placed ∷ replies_behind texts (opens_pair placed) blocks

-- The replies of elements, of which the first block is told so.
abbrev replies_from : List (List ℕ) → Bool → List (Group PlacedBlock) → List BlockReplyOf
replies_from texts dual [] = []
replies_from texts dual (element ∷ elements) =
    (block_reply texts dual element.first ∷ map (block_reply texts true) element.more) ++ flat_map (element_replies texts) elements

from-first : (texts : List (List ℕ)) (elements : List (Group PlacedBlock)) → flat_map (element_replies texts) elements ≡ replies_from texts false elements
from-first texts [] = refl
from-first texts (element ∷ elements) = refl

-- A block in front of elements.
front-replies : (texts : List (List ℕ)) (dual : Bool) (placed : PlacedBlock) (element : Group PlacedBlock) (elements : List (Group PlacedBlock))
    → replies_from texts dual (in_front is_dual placed (element ∷ elements)) ≡ block_reply texts dual placed ∷ replies_from texts (is_dual placed element.first) (element ∷ elements)
front-replies texts dual placed element elements = by (is_dual placed element.first)
  where
    by : (t : Bool) → replies_from texts dual (cond t (record { first = placed; more = members element } ∷ elements) (record { first = placed; more = [] } ∷ element ∷ elements))
        ≡ block_reply texts dual placed ∷ replies_from texts t (element ∷ elements)
    by true = refl
    by false = refl

runs-replies : (texts : List (List ℕ)) (opened : Bool) (placed : PlacedBlock) (blocks : List PlacedBlock)
    → replies_from texts (is_second opened placed) (longest_runs is_dual (placed ∷ blocks)) ≡ replies_behind texts opened (placed ∷ blocks)
runs-replies texts opened placed [] = refl
runs-replies texts opened placed (next ∷ blocks) =
    let dual = is_second opened placed in
    let own : Group PlacedBlock = record { first = next; more = take (run_more is_dual next blocks) blocks } in
    let behind = longest_runs is_dual (drop (run_more is_dual next blocks) blocks) in
    let runs : longest_runs is_dual (next ∷ blocks) ≡ own ∷ behind = longest_runs-first is_dual next blocks in
    ap (λ (elements : List (Group PlacedBlock)). replies_from texts dual (in_front is_dual placed elements)) runs
    ∙ front-replies texts dual placed own behind
    ∙ ap (λ (elements : List (Group PlacedBlock)). block_reply texts dual placed ∷ replies_from texts (is_dual placed next) elements) (sym runs)
    ∙ ap (λ (replies : List BlockReplyOf). block_reply texts dual placed ∷ replies) (runs-replies texts (opens_pair placed) next blocks)

-- The replies of the elements of blocks are those of the blocks.
pub paired-replies : (texts : List (List ℕ)) (blocks : List PlacedBlock) → flat_map (element_replies texts) (elements_in blocks) ≡ replies_behind texts false blocks
paired-replies texts [] = refl
paired-replies texts (placed ∷ blocks) = from-first texts (elements_in (placed ∷ blocks)) ∙ runs-replies texts false placed blocks
