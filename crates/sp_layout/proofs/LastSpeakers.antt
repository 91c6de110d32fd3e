-- The last speaker of blocks, from their end.
use Rattle.std.proofs.Common.{◌≡◌, ℕ, ◌+◌, ◌<◌, Option, None, List, [], ◌∷◌, ◌++◌, length, take, drop, get_or, fold, refl, sym, ap, subst, ◌∙◌, take-append-drop}
use Rattle.std.proofs.lemmas.List.{at_drop_more}
use Rattle.spec_script.specs.declared.Kind.{Kind}
use Rattle.spec_script.specs.declared.Kind.TheVariants as kinds
use Rattle.spec_script.specs.Stanzas.{PlacedBlock}
use Rattle.spec_sheets.specs.Speakers.{cue_text, name_in, speaker_after, speaker_by}
use Rattle.sp_layout.specs.Speaking.{last_speaker}

-- Behind these blocks the last speaker is the one before them.
pub record IsQuiet (texts : List (List ℕ)) (blocks : List PlacedBlock) : Type 0 where
  pub same : (last : Option (List ℕ)) → fold (speaker_after texts) last blocks ≡ last

fold-append : (texts : List (List ℕ)) (last : Option (List ℕ)) (front behind : List PlacedBlock)
    → fold (speaker_after texts) last (front ++ behind) ≡ fold (speaker_after texts) (fold (speaker_after texts) last front) behind
fold-append texts last [] behind = refl
fold-append texts last (block ∷ front) behind = fold-append texts (speaker_after texts last block) front behind

-- All blocks, by the one at a place, behind which the others are quiet.
pub last_speaker-at : (texts : List (List ℕ)) (blocks : List PlacedBlock) (place : ℕ) (block : PlacedBlock) → place < length blocks → block ≡ get_or blocks place block → IsQuiet texts (drop (place + 1) blocks)
    → last_speaker texts blocks ≡ speaker_after texts (last_speaker texts (take place blocks)) block
last_speaker-at texts blocks place block inside is quiet =
    let front = take place blocks in
    let behind = drop (place + 1) blocks in
    let split : drop place blocks ≡ block ∷ behind = at_drop_more (λ (those : List PlacedBlock). those) blocks place block inside ∙ ap (λ (it : PlacedBlock). it ∷ behind) (sym is) in
    ap (fold (speaker_after texts) None) (sym (take-append-drop place blocks) ∙ ap (λ (those : List PlacedBlock). front ++ those) split)
    ∙ fold-append texts None front (block ∷ behind)
    ∙ quiet.same (speaker_after texts (last_speaker texts front) block)

-- Behind a block that is neither a heading nor a speech the last speaker is the one before it.
passes : (kind : Kind) (name : List ℕ) (last : Option (List ℕ)) → (kind ≡ kinds.Heading → ⊥) → (kind ≡ kinds.Speech → ⊥) → speaker_by kind name last ≡ last
passes kinds.Heading name last heading speech = absurd (heading refl)
passes kinds.Speech name last heading speech = absurd (speech refl)
passes kinds.Title name last heading speech = refl
passes kinds.PageBreak name last heading speech = refl
passes kinds.Action name last heading speech = refl
passes kinds.Lyric name last heading speech = refl
passes kinds.Transition name last heading speech = refl
passes kinds.Centred name last heading speech = refl
passes kinds.Section name last heading speech = refl
passes kinds.Synopsis name last heading speech = refl

pub quiet-more : (texts : List (List ℕ)) (blocks : List PlacedBlock) (place : ℕ) (block : PlacedBlock) → place < length blocks → block ≡ get_or blocks place block → (block.block.kind ≡ kinds.Heading → ⊥) → (block.block.kind ≡ kinds.Speech → ⊥)
    → IsQuiet texts (drop (place + 1) blocks) → IsQuiet texts (drop place blocks)
quiet-more texts blocks place block inside is heading speech quiet =
    let behind = drop (place + 1) blocks in
    let split : drop place blocks ≡ block ∷ behind = at_drop_more (λ (those : List PlacedBlock). those) blocks place block inside ∙ ap (λ (it : PlacedBlock). it ∷ behind) (sym is) in
    subst (IsQuiet texts) (sym split) (record {
      same = λ last. ap (λ it. fold (speaker_after texts) it behind) (passes block.block.kind (name_in (cue_text texts block)) last heading speech) ∙ quiet.same last;
    })
