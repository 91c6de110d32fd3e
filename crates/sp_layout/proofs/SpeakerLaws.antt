-- Blocks that don't tell who spoke last, or to which it doesn't matter.
use Rattle.std.proofs.Common.{◌≡◌, ℕ, Bool, true, false, ◌&&◌, Option, List, [], ◌∷◌, map, refl, sym, ap, ap₂, ◌∙◌}
use Rattle.std.specs.List.{list_any}
use Rattle.std.proofs.lemmas.Bool.{or_parts}
use Rattle.spec_text.specs.Lines.{LineState, line_texts}
use Rattle.spec_script.specs.declared.Kind.{Kind}
use Rattle.spec_script.specs.declared.Kind.TheVariants as kinds
use Rattle.spec_script.specs.LongestRuns.{longest_runs}
use Rattle.spec_script.specs.Stanzas.{PlacedBlock}
use Rattle.spec_script.specs.Elements.{is_speech_block}
use Rattle.spec_sheets.specs.Speakers.{Spoken, cue_text, is_last_speaker, is_pair, name_in, named_block, named_from, settled_element, speaker_after, speaker_by, spoken_elements}
use Rattle.spec_sheets.proofs.SpokenLaws.{spoken_elements-off}
use Rattle.spec_edit.specs.Settling.{settles_kind}
use Rattle.spec_edit.specs.Moved.{settles, speaker_behind}

-- Behind blocks without a heading and a speech the same one spoke last as before them.
pub passed-by : (kind : Kind) (name : List ℕ) (last : Option (List ℕ)) → settles_kind kind ≡ false → speaker_by kind name last ≡ last
passed-by kinds.Heading name last none = cc
passed-by kinds.Speech name last none = cc
passed-by kinds.Title name last none = refl
passed-by kinds.PageBreak name last none = refl
passed-by kinds.Action name last none = refl
passed-by kinds.Lyric name last none = refl
passed-by kinds.Transition name last none = refl
passed-by kinds.Centred name last none = refl
passed-by kinds.Section name last none = refl
passed-by kinds.Synopsis name last none = refl

pub behind-quiet : (texts : List (List ℕ)) (last : Option (List ℕ)) (blocks : List PlacedBlock) → list_any settles blocks ≡ false → speaker_behind texts last blocks ≡ last
behind-quiet texts last [] none = refl
behind-quiet texts last (block ∷ blocks) none =
    let both = or_parts (settles block) (list_any settles blocks) none in
    ap (λ it. speaker_behind texts it blocks) (passed-by block.block.kind (name_in (cue_text texts block)) last both.0) ∙ behind-quiet texts last blocks both.1

-- Blocks without a speech are the same elements, whoever spoke last.
pub says-alike : (on says one other : Bool) → says ≡ false → (on && says && one) ≡ (on && says && other)
says-alike false says one other none = refl
says-alike true says one other none = ap (λ b. b && one) none ∙ sym (ap (λ b. b && other) none)

named-alike : (on : Bool) (texts : List (List ℕ)) (one other : Option (List ℕ)) (blocks : List PlacedBlock) → list_any is_speech_block blocks ≡ false → named_from on texts one blocks ≡ named_from on texts other blocks
named-alike on texts one other [] none = refl
named-alike on texts one other (block ∷ blocks) none =
    let both = or_parts (is_speech_block block) (list_any is_speech_block blocks) none in
    let name = name_in (cue_text texts block) in
    let It : Bool → Spoken = λ continued. record { placed = block; continued = continued } in
    let own : named_block on texts one block ≡ named_block on texts other block = ap It (says-alike on (is_speech_block block) (is_last_speaker one name) (is_last_speaker other name) both.0) in
    ap₂ (λ it (those : List Spoken). it ∷ those) own (named-alike on texts (speaker_after texts one block) (speaker_after texts other block) blocks both.1)

pub spoken-alike : (on : Bool) (lines : List LineState) (one other : Option (List ℕ)) (blocks : List PlacedBlock) → (on && list_any is_speech_block blocks) ≡ false
    → spoken_elements on lines one blocks ≡ spoken_elements on lines other blocks
spoken-alike false lines one other blocks none = spoken_elements-off lines one other blocks
spoken-alike true lines one other blocks none = ap (λ (those : List Spoken). map (settled_element lines) (longest_runs is_pair those)) (named-alike true (line_texts lines) one other blocks none)
