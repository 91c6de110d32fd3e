-- Elements on both sides of a place where no two blocks are joined.
use Rattle.std.proofs.Common.{◌≡◌, ℕ, Bool, true, false, cond, List, [], ◌∷◌, ◌++◌, map, Some, refl, sym, ap, ◌∙◌, ◌&&◌, not}
use Rattle.std.proofs.lemmas.List.{append-nil}
use Rattle.spec_script.specs.LongestRuns.{Group, members, in_front}
use Rattle.spec_script.specs.Stanzas.{PlacedBlock}
use Rattle.spec_script.specs.Elements.{is_speech_kind, is_dual, elements_in}
use Rattle.spec_edit.specs.WindowBlocks.{pushed, joined_by, last_block, joins}
use Rattle.spec_edit.proofs.Splits.{Parted, runs-append}

parted-blocks : (xs : List PlacedBlock) (y : PlacedBlock) → joined_by (last_block xs) (Some y) ≡ false → Parted is_dual xs y
parted-blocks [] y apart = tt
parted-blocks (x ∷ []) y apart = apart
parted-blocks (x ∷ z ∷ xs) y apart = parted-blocks (z ∷ xs) y apart

-- Where the last block of one list and the first of the other are not joined, the elements of both lists are theirs.
pub elements-apart : (xs ys : List PlacedBlock) → joins xs ys ≡ false → elements_in (xs ++ ys) ≡ elements_in xs ++ elements_in ys
elements-apart xs [] apart = ap elements_in (append-nil xs) ∙ sym (append-nil (elements_in xs))
elements-apart xs (y ∷ ys) apart = runs-append is_dual xs y ys (parted-blocks xs y apart)

-- The element, so many lines further on.
abbrev pub pushed_group : ℕ → Group PlacedBlock → Group PlacedBlock
pushed_group n g = record { first = pushed n g.first; more = map (pushed n) g.more }

front-pushed : (n : ℕ) (x : PlacedBlock) (gs : List (Group PlacedBlock)) → in_front is_dual (pushed n x) (map (pushed_group n) gs) ≡ map (pushed_group n) (in_front is_dual x gs)
front-pushed n x [] = refl
front-pushed n x (g ∷ gs) = front-if (is_dual x g.first)
  where
    front-if : (t : Bool) → cond t (record { first = pushed n x; more = members (pushed_group n g) } ∷ map (pushed_group n) gs) (record { first = pushed n x; more = [] } ∷ pushed_group n g ∷ map (pushed_group n) gs)
        ≡ map (pushed_group n) (cond t (record { first = x; more = members g } ∷ gs) (record { first = x; more = [] } ∷ g ∷ gs))
    front-if true = refl
    front-if false = refl

-- Elements don't depend on places.
pub elements-pushed : (n : ℕ) (xs : List PlacedBlock) → elements_in (map (pushed n) xs) ≡ map (pushed_group n) (elements_in xs)
elements-pushed n [] = refl
elements-pushed n (x ∷ xs) = ap (in_front is_dual (pushed n x)) (elements-pushed n xs) ∙ front-pushed n x (elements_in xs)

-- Three lists of blocks, neither of which is joined with what stands behind it.
pub elements-three : (n : ℕ) (front middle rest : List PlacedBlock) → joins front (middle ++ map (pushed n) rest) ≡ false → joins middle (map (pushed n) rest) ≡ false → elements_in (front ++ (middle ++ map (pushed n) rest)) ≡ elements_in front ++ (elements_in middle ++ map (pushed_group n) (elements_in rest))
elements-three n front middle rest one two =
    elements-apart front (middle ++ map (pushed n) rest) one
    ∙ ap (λ (gs : List (Group PlacedBlock)). elements_in front ++ gs) (elements-apart middle (map (pushed n) rest) two ∙ ap (λ (gs : List (Group PlacedBlock)). elements_in middle ++ gs) (elements-pushed n rest))

-- A left half is joined with no block before it.
pub left-free : (before left right : PlacedBlock) → is_dual left right ≡ true → is_dual before left ≡ false
left-free before left right dual = free (is_speech_kind before.block.kind) before.block.caret (is_speech_kind left.block.kind) left.block.caret (is_speech_kind right.block.kind) right.block.caret dual
  where
    free : (a b c d e f : Bool) → (c && not d && e && f) ≡ true → (a && not b && c && d) ≡ false
    free a b false d e f is = cc
    free a b true true e f is = cc
    free true true true false e f is = refl
    free true false true false e f is = refl
    free false b true false e f is = refl

-- A right half is joined with no block behind it.
pub right-free : (left right behind : PlacedBlock) → is_dual left right ≡ true → is_dual right behind ≡ false
right-free left right behind dual = free (is_speech_kind left.block.kind) left.block.caret (is_speech_kind right.block.kind) right.block.caret (is_speech_kind behind.block.kind) behind.block.caret dual
  where
    free : (a b c d e f : Bool) → (a && not b && c && d) ≡ true → (c && not d && e && f) ≡ false
    free a b false d e f is = refl
    free a b true true e f is = refl
    free true true true false e f is = cc
    free true false true false e f is = cc
    free false b true false e f is = cc
