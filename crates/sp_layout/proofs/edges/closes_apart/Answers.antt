use Rattle.std.proofs.Common.{◌≡◌, ◌&&◌, ◌-◌, Bool, not, true, false, List, Some, slice_get, length, refl, sym, ap, subst, ◌∙◌}
use Rattle.spec_script.specs.BlockValues.{BlockOf, StanzaOf}
use Rattle.spec_edit.specs.Moved.{is_left}
use Rattle.spec_edit.specs.RelaidStanzas.{last_apart}
use Rattle.sp_layout.proofs.StanzaLists.{last-get}
use Rattle.sp_layout.proofs.edges.closes_apart.Goals as goal

-- By whether a block is a speech, and whether it has a caret.
no-speech : (speech caret : Bool) → speech ≡ false → not speech ≡ not (speech && not caret)
no-speech false caret is = refl
no-speech true caret is = let never : ⊥ = cc (is) in absurd never

by-caret : (speech caret : Bool) → speech ≡ true → caret ≡ not (speech && not caret)
by-caret true true is = refl
by-caret true false is = refl
by-caret false caret is = let never : ⊥ = cc (is) in absurd never

last-of : (blocks those : List BlockOf) (block : BlockOf) → those ≡ blocks → Some block ≡ slice_get those (length those - 1) → last_apart blocks ≡ not (is_left block)
last-of blocks those block is at = last-get blocks block (subst (λ (bs : List BlockOf). slice_get bs (length bs - 1) ≡ Some block) is (sym at))

pub returns-then-not-is_speech_kind : goal.returns-then-not-is_speech_kind
returns-then-not-is_speech_kind c =
    let blocks = c.deref.ensures.value ∙ ap (λ (s : StanzaOf). s.blocks) c.stanza.view_is in
    let last = last-of c.args.stanza.now.blocks c.deref.result.now c.in-Some.block.now blocks c.in-Some.ensures.value in
    let own = c.is_speech_kind.ensures in
    no-speech c.is_speech_kind.result c.block.inside.caret c.if-not-is_speech_kind.true
    ∙ ap (λ s. not (s && not c.block.inside.caret)) own ∙ ap (λ (b : BlockOf). not (is_left b)) c.block.view_is ∙ sym last

pub returns-else-not-is_speech_kind : goal.returns-else-not-is_speech_kind
returns-else-not-is_speech_kind c =
    let blocks = c.deref.ensures.value ∙ ap (λ (s : StanzaOf). s.blocks) c.stanza.view_is in
    let last = last-of c.args.stanza.now.blocks c.deref.result.now c.in-Some.block.now blocks c.in-Some.ensures.value in
    let own = c.is_speech_kind.ensures in
    by-caret c.is_speech_kind.result c.block.inside.caret c.if-not-is_speech_kind.false
    ∙ ap (λ s. not (s && not c.block.inside.caret)) own ∙ ap (λ (b : BlockOf). not (is_left b)) c.block.view_is ∙ sym last
