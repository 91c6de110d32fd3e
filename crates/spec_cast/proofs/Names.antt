-- The names of the cast sides are those of the outline's cast, in the same order.
use Rattle.std.proofs.Common.{◌≡◌, ℕ, Bool, true, false, not, cond, Option, None, List, [], ◌∷◌, ◌++◌, map, filter, refl, sym, ap, ap₂, ◌∙◌}
use Rattle.std.specs.Prelude.{bytes_eq}
use Rattle.spec_text.specs.Lines.{line_texts}
use Rattle.spec_script.specs.LongestRuns.{Group, members}
use Rattle.spec_script.specs.Stanzas.{PlacedBlock, blocks_of}
use Rattle.spec_script.specs.Elements.{is_speech_kind, is_speech_block, is_dual}
use Rattle.spec_script.proofs.ElementLaws.{dual-speech}
use Rattle.spec_sheets.specs.Speakers.{Spoken, cue_text, name_in, speaker_after, spoken_elements}
use Rattle.spec_sheets.proofs.SpokenLaws.{spoken_alone, spoken_pair}
use Rattle.spec_machine.specs.Outline.{CastLineOf, cast_of}
use Rattle.spec_machine.specs.Outlines.{speaker_names, names_of}
use Rattle.spec_state.specs.State.{State}
use Rattle.spec_cast.specs.Sides.{each_once, name_of, names_in}
use Rattle.spec_cast.specs.Places.{each_behind}
use Rattle.spec_cast.specs.Said.{speech_said, element_said, said_of}
use Rattle.spec_cast.proofs.FirstRows.{dual-second, elements-step}

-- Each speech has the name of its cue.
names-from : (state : State) (last : Option (List ℕ)) (blocks : List PlacedBlock) (before : List (Group Spoken))
    → map name_of (each_behind (element_said state) before (spoken_elements state.speakers state.lines last blocks)) ≡ speaker_names (line_texts state.lines) blocks
names-from state last [] before = refl
names-from state last (block ∷ []) before = by (is_speech_block block)
  where
    by : (b : Bool) → map name_of (cond b (map (speech_said state before) (members (spoken_alone state.speakers state.lines last block))) [] ++ []) ≡ map (λ placed. name_in (cue_text (line_texts state.lines) placed)) (cond b (block ∷ []) [])
    by true = refl
    by false = refl
names-from state last (block ∷ next ∷ blocks) before =
    elements-step (λ elements. map name_of (each_behind (element_said state) before elements) ≡ speaker_names (line_texts state.lines) (block ∷ next ∷ blocks)) state.speakers state.lines last block next blocks
    (is_dual block next) refl
    (λ apart. alone (is_speech_block block) (names-from state after (next ∷ blocks) (before ++ spoken_alone state.speakers state.lines last block ∷ [])))
    (λ dual. both dual (names-from state (speaker_after (line_texts state.lines) after next) blocks (before ++ spoken_pair state.speakers state.lines last block next ∷ [])))
  where
    after : Option (List ℕ)
    after = speaker_after (line_texts state.lines) last block

    name : PlacedBlock → List ℕ
    name placed = name_in (cue_text (line_texts state.lines) placed)

    alone : (b : Bool) → let one = spoken_alone state.speakers state.lines last block in
        let later = each_behind (element_said state) (before ++ one ∷ []) (spoken_elements state.speakers state.lines after (next ∷ blocks)) in
        map name_of later ≡ map name (filter is_speech_block (next ∷ blocks))
        → map name_of (cond b (map (speech_said state before) (members one)) [] ++ later)
        ≡ map name (cond b (block ∷ filter is_speech_block (next ∷ blocks)) (filter is_speech_block (next ∷ blocks)))
    alone true rest = ap (λ (names : List (List ℕ)). name block ∷ names) rest
    alone false rest = rest

    both : is_dual block next ≡ true
        → map name_of (each_behind (element_said state) (before ++ spoken_pair state.speakers state.lines last block next ∷ []) (spoken_elements state.speakers state.lines (speaker_after (line_texts state.lines) after next) blocks))
        ≡ map name (filter is_speech_block blocks)
        → map name_of (each_behind (element_said state) before (spoken_pair state.speakers state.lines last block next ∷ spoken_elements state.speakers state.lines (speaker_after (line_texts state.lines) after next) blocks))
        ≡ map name (filter is_speech_block (block ∷ next ∷ blocks))
    both dual rest =
        let pair = spoken_pair state.speakers state.lines last block next in
        let others = filter is_speech_block blocks in
        let later = each_behind (element_said state) (before ++ pair ∷ []) (spoken_elements state.speakers state.lines (speaker_after (line_texts state.lines) after next) blocks) in
        let first : is_speech_block block ≡ true = ap is_speech_kind (dual-speech block next dual) in
        let second : is_speech_block next ≡ true = dual-second block next dual in
        ap (λ b. map name_of (cond b (map (speech_said state before) (members pair)) [] ++ later)) first
        ∙ ap (λ (names : List (List ℕ)). name block ∷ name next ∷ names) rest
        ∙ sym (ap₂ (λ a b. map name (cond a (block ∷ cond b (next ∷ others) others) (cond b (next ∷ others) others))) first second)

pub said-names : (state : State) → map name_of (said_of state) ≡ names_of state
said-names state = names-from state None (blocks_of (line_texts state.lines)) []

abbrev line_name : CastLineOf → List ℕ
line_name line = line.name

others : (name : List ℕ) (cast : List CastLineOf) → map line_name (filter (λ (line : CastLineOf). not (bytes_eq name line.name)) cast) ≡ filter (λ (other : List ℕ). not (bytes_eq name other)) (map line_name cast)
others name [] = refl
others name (line ∷ cast) = by (not (bytes_eq name line.name)) (others name cast)
  where
    by : (b : Bool) → map line_name (filter (λ (line : CastLineOf). not (bytes_eq name line.name)) cast) ≡ filter (λ (other : List ℕ). not (bytes_eq name other)) (map line_name cast)
        → map line_name (cond b (line ∷ filter (λ (line : CastLineOf). not (bytes_eq name line.name)) cast) (filter (λ (line : CastLineOf). not (bytes_eq name line.name)) cast))
        ≡ cond b (line.name ∷ filter (λ (other : List ℕ). not (bytes_eq name other)) (map line_name cast)) (filter (λ (other : List ℕ). not (bytes_eq name other)) (map line_name cast))
    by true rest = ap (λ (names : List (List ℕ)). line.name ∷ names) rest
    by false rest = rest

-- The cast has each name once, in order of first speeches.
cast-once : (names : List (List ℕ)) → map line_name (cast_of names) ≡ each_once bytes_eq names
cast-once [] = refl
cast-once (name ∷ names) =
    ap (λ (later : List (List ℕ)). name ∷ later)
    (others name (cast_of names) ∙ ap (filter (λ (other : List ℕ). not (bytes_eq name other))) (cast-once names))

pub side-names : (state : State) → names_in (said_of state) ≡ map (λ (line : CastLineOf). line.name) (cast_of (names_of state))
side-names state = ap (each_once bytes_eq) (said-names state) ∙ sym (cast-once (names_of state))
