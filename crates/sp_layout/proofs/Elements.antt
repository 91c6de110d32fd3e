-- The elements of blocks with speakers, one after another.
use Rattle.std.proofs.Common.{◌≡◌, ℕ, ◌+◌, ◌<◌, Bool, true, false, List, [], ◌∷◌, length, drop, get_or, inl, inr, refl, sym, ap, ap₂, ◌∙◌, arith}
use Rattle.std.proofs.lemmas.Bool.{cases_lt}
use Rattle.std.proofs.lemmas.List.{at_drop_more, drop_all, get_or_default}
use Rattle.spec_text.specs.Lines.{LineState, line_texts}
use Rattle.spec_script.specs.LongestRuns.{Group}
use Rattle.spec_script.specs.Stanzas.{PlacedBlock}
use Rattle.spec_script.specs.Elements.{is_dual}
use Rattle.spec_pages.specs.declared.Side.{Side}
use Rattle.spec_pages.specs.declared.Side.TheVariants as sides
use Rattle.spec_sheets.specs.Speakers.{Spoken, named_block, settled, speaker_after, spoken_elements}
use Rattle.spec_sheets.proofs.SpokenLaws.{spoken_elements-alone, spoken_elements-pair, spoken_elements-off}
use Rattle.sp_layout.specs.Speaking.{SpeakersOf, speakers_behind}
use Rattle.sp_layout.specs.LaidOut.{spoken_block, spoken_beside}

-- The elements of blocks behind speakers.
abbrev pub elements_behind : List LineState → SpeakersOf → List PlacedBlock → List (Group Spoken)
elements_behind lines speakers blocks = spoken_elements speakers.on lines speakers.last blocks

-- Whether a block's speaker goes on, at a side, behind speakers.
abbrev pub goes_on : List LineState → Side → SpeakersOf → PlacedBlock → Bool
goes_on lines side speakers block = (settled lines side (named_block speakers.on (line_texts lines) speakers.last block)).continued

-- Behind a block.
behind-elements : (lines : List LineState) (speakers : SpeakersOf) (block : PlacedBlock) (blocks : List PlacedBlock)
    → spoken_elements speakers.on lines (speaker_after (line_texts lines) speakers.last block) blocks ≡ elements_behind lines (speakers_behind (line_texts lines) speakers block) blocks
behind-elements lines speakers block blocks = by speakers.on
  where
    by : (on : Bool) → spoken_elements on lines (speaker_after (line_texts lines) speakers.last block) blocks
        ≡ elements_behind lines (speakers_behind (line_texts lines) (record { on = on; last = speakers.last }) block) blocks
    by true = refl
    by false = spoken_elements-off lines (speaker_after (line_texts lines) speakers.last block) speakers.last blocks

behind-two : (lines : List LineState) (speakers : SpeakersOf) (left right : PlacedBlock) (blocks : List PlacedBlock) → let texts = line_texts lines in
    spoken_elements speakers.on lines (speaker_after texts (speaker_after texts speakers.last left) right) blocks
    ≡ elements_behind lines (speakers_behind texts (speakers_behind texts speakers left) right) blocks
behind-two lines speakers left right blocks = by speakers.on
  where
    by : (on : Bool) → spoken_elements on lines (speaker_after (line_texts lines) (speaker_after (line_texts lines) speakers.last left) right) blocks
        ≡ elements_behind lines (speakers_behind (line_texts lines) (speakers_behind (line_texts lines) (record { on = on; last = speakers.last }) left) right) blocks
    by true = refl
    by false = spoken_elements-off lines (speaker_after (line_texts lines) (speaker_after (line_texts lines) speakers.last left) right) speakers.last blocks

behind-goes_on : (lines : List LineState) (side : Side) (speakers : SpeakersOf) (block next : PlacedBlock)
    → (settled lines side (named_block speakers.on (line_texts lines) (speaker_after (line_texts lines) speakers.last block) next)).continued
    ≡ goes_on lines side (speakers_behind (line_texts lines) speakers block) next
behind-goes_on lines side speakers block next = by speakers.on
  where
    by : (on : Bool) → (settled lines side (named_block on (line_texts lines) (speaker_after (line_texts lines) speakers.last block) next)).continued
        ≡ goes_on lines side (speakers_behind (line_texts lines) (record { on = on; last = speakers.last }) block) next
    by true = refl
    by false = refl

-- The block at a place stands at the front of those from there on.
front : (blocks : List PlacedBlock) (place : ℕ) (block : PlacedBlock) → place < length blocks → block ≡ get_or blocks place block → drop place blocks ≡ block ∷ drop (place + 1) blocks
front blocks place block inside is =
    at_drop_more (λ (those : List PlacedBlock). those) blocks place block inside ∙ ap (λ (it : PlacedBlock). it ∷ drop (place + 1) blocks) (sym is)

-- Two blocks that are dual dialogue.
pub split-pair : (lines : List LineState) (blocks : List PlacedBlock) (place : ℕ) (speakers : SpeakersOf) (left right : PlacedBlock) (continued second : Bool) → place + 1 < length blocks
    → left ≡ get_or blocks place left → right ≡ get_or blocks (place + 1) right → is_dual left right ≡ true → continued ≡ goes_on lines sides.Left speakers left
    → second ≡ goes_on lines sides.Right (speakers_behind (line_texts lines) speakers left) right
    → elements_behind lines speakers (drop place blocks)
    ≡ spoken_beside left continued right second ∷ elements_behind lines (speakers_behind (line_texts lines) (speakers_behind (line_texts lines) speakers left) right) (drop (place + 2) blocks)
split-pair lines blocks place speakers left right continued second inside is after dual one other =
    let texts = line_texts lines in
    let between = speakers_behind texts speakers left in
    let last = speaker_after texts speakers.last left in
    let rest = drop (place + 2) blocks in
    let places : place + 1 + 1 ≡ place + 2 = omega arith in
    let both = front blocks place left (omega (arith, inside)) is ∙ ap (λ (those : List PlacedBlock). left ∷ those) (front blocks (place + 1) right inside after ∙ ap (λ n. right ∷ drop n blocks) places) in
    ap (elements_behind lines speakers) both
    ∙ spoken_elements-pair speakers.on lines speakers.last left right rest dual
    ∙ ap₂ (λ (a b : Bool). spoken_beside left a right b ∷ spoken_elements speakers.on lines (speaker_after texts last right) rest) (sym one) (behind-goes_on lines sides.Right speakers left right ∙ sym other)
    ∙ ap (λ (those : List (Group Spoken)). spoken_beside left continued right second ∷ those) (behind-two lines speakers left right rest)

-- A block by itself.
pub split-alone : (lines : List LineState) (blocks : List PlacedBlock) (place : ℕ) (speakers : SpeakersOf) (block : PlacedBlock) (continued : Bool) → place < length blocks
    → block ≡ get_or blocks place block → ((next : PlacedBlock) → place + 1 < length blocks → next ≡ get_or blocks (place + 1) next → is_dual block next ≡ false)
    → continued ≡ goes_on lines sides.Alone speakers block
    → elements_behind lines speakers (drop place blocks) ≡ spoken_block block continued ∷ elements_behind lines (speakers_behind (line_texts lines) speakers block) (drop (place + 1) blocks)
split-alone lines blocks place speakers block continued inside is apart one = elim (cases_lt (place + 1) (length blocks)) [
  | inl more ↦
      let next = get_or blocks (place + 1) block in
      let rest = drop (place + 1 + 1) blocks in
      let later : drop (place + 1) blocks ≡ next ∷ rest = at_drop_more (λ (those : List PlacedBlock). those) blocks (place + 1) block more in
      let other = apart next more (get_or_default blocks (place + 1) block next more) in
      ap (elements_behind lines speakers) (front blocks place block inside is ∙ ap (λ (those : List PlacedBlock). block ∷ those) later)
      ∙ spoken_elements-alone speakers.on lines speakers.last block next rest other
      ∙ ap (λ (a : Bool). spoken_block block a ∷ spoken_elements speakers.on lines (speaker_after (line_texts lines) speakers.last block) (next ∷ rest)) (sym one)
      ∙ ap (λ (those : List (Group Spoken)). spoken_block block continued ∷ those)
      (behind-elements lines speakers block (next ∷ rest) ∙ ap (elements_behind lines (speakers_behind (line_texts lines) speakers block)) (sym later))
  | inr last ↦
      let none = drop_all (place + 1) blocks last in
      ap (elements_behind lines speakers) (front blocks place block inside is ∙ ap (λ (those : List PlacedBlock). block ∷ those) none)
      ∙ ap (λ (a : Bool). spoken_block block a ∷ []) (sym one)
      ∙ ap (λ (those : List PlacedBlock). spoken_block block continued ∷ elements_behind lines (speakers_behind (line_texts lines) speakers block) those) (sym none)
]
