-- Elements are pairs of dual dialogue and single blocks, taken one after another.
use Rattle.std.proofs.Common.{◌≡◌, Bool, true, false, not, ◌&&◌, List, ◌∷◌, refl}
use Rattle.spec_script.specs.declared.Kind.{Kind}
use Rattle.spec_script.specs.declared.Kind.TheVariants as kinds
use Rattle.spec_script.specs.Stanzas.{PlacedBlock}
use Rattle.spec_script.specs.Elements.{is_speech_kind, is_dual, alone, pair, elements_in}
use Rattle.spec_script.proofs.RunSteps.{longest_runs-alone, longest_runs-pair}

-- What the parts of a test are.
both : (a b : Bool) → (a && b) ≡ true → (a ≡ true) × (b ≡ true)
both true b h = (refl, h)
both false b h = cc

-- A right half joins no block behind it.
right-apart : (speech caret other rest : Bool) → caret ≡ true → (speech && not caret && other && rest) ≡ false
right-apart true true other rest is = refl
right-apart false caret other rest is = refl
right-apart true false other rest is = cc

-- What makes two blocks dual dialogue.
dual-parts : (a b c d : Bool) → (a && b && c && d) ≡ true → (a ≡ true) × (d ≡ true)
dual-parts a b c d dual =
    let last = both (a && b && c) d dual in
    let third = both (a && b) c last.0 in
    ((both a b third.0).0, last.1)

dual-caret : (left right : PlacedBlock) → is_dual left right ≡ true → right.block.caret ≡ true
dual-caret left right dual = (dual-parts (is_speech_kind left.block.kind) (not left.block.caret) (is_speech_kind right.block.kind) right.block.caret dual).1

pub dual-last : (left right : PlacedBlock) → is_dual left right ≡ true → (block : PlacedBlock) → is_dual right block ≡ false
dual-last left right dual block =
    right-apart (is_speech_kind right.block.kind) right.block.caret (is_speech_kind block.block.kind) block.block.caret (dual-caret left right dual)

-- The first two blocks are dual dialogue.
pub elements_in-pair : (left right : PlacedBlock) (blocks : List PlacedBlock) → is_dual left right ≡ true → elements_in (left ∷ right ∷ blocks) ≡ pair left right ∷ elements_in blocks
elements_in-pair left right blocks dual = longest_runs-pair is_dual left right blocks dual (dual-last left right dual)

-- The first two are not.
pub elements_in-alone : (block next : PlacedBlock) (blocks : List PlacedBlock) → is_dual block next ≡ false → elements_in (block ∷ next ∷ blocks) ≡ alone block ∷ elements_in (next ∷ blocks)
elements_in-alone block next blocks apart = longest_runs-alone is_dual block next blocks apart

-- A pair begins with a speech.
pub dual-speech : (left right : PlacedBlock) → is_dual left right ≡ true → left.block.kind ≡ kinds.Speech
dual-speech left right dual =
    speech left.block.kind (dual-parts (is_speech_kind left.block.kind) (not left.block.caret) (is_speech_kind right.block.kind) right.block.caret dual).0
  where
    speech : (kind : Kind) → is_speech_kind kind ≡ true → kind ≡ kinds.Speech
    speech kinds.Speech is = refl
    speech kinds.Heading is = cc
    speech kinds.Action is = cc
    speech kinds.Lyric is = cc
    speech kinds.Transition is = cc
    speech kinds.Centred is = cc
    speech kinds.PageBreak is = cc
    speech kinds.Section is = cc
    speech kinds.Synopsis is = cc
    speech kinds.Title is = cc
