-- The first speech of blocks, behind one who spoke last and behind another.
use Rattle.std.proofs.Common.{◌≡◌, ℕ, ◌+◌, Bool, true, false, cond, not, ◌&&◌, ◌==◌, Option, None, Some, List, [], ◌∷◌, ◌++◌, length, map, filter, take, inl, inr, refl, sym, ap, ap₂, subst, ◌∙◌, arith, length-append}
use Rattle.std.specs.List.{list_any}
use Rattle.std.specs.Str.{bytes_eq}
use Rattle.std.proofs.lemmas.Slice.Eq.{bytes_eq-Decides}
use Rattle.std.proofs.lemmas.Bool.{cases_Bool, or_parts, true≢false}
use Rattle.std.proofs.lemmas.List.{append-nil, map-append}
use Rattle.std.proofs.lemmas.List.Sums.{sum_by-cons}
use Rattle.spec_text.specs.Lines.{LineState, line_texts}
use Rattle.spec_script.specs.declared.Kind.{Kind}
use Rattle.spec_script.specs.declared.Kind.TheVariants as kinds
use Rattle.spec_script.specs.BlockValues.{BlockOf}
use Rattle.spec_script.specs.LongestRuns.{Group, longest_runs}
use Rattle.spec_script.specs.Stanzas.{PlacedBlock}
use Rattle.spec_script.specs.Elements.{is_dual, is_speech_kind, placed_at}
use Rattle.spec_pages.specs.declared.Side.TheVariants as sides
use Rattle.spec_pages.specs.Rows.{Row, ElementOf, is_title, single_rows, shifted_row, spoken_rows, with_speakers, placed_rows, block_alone, blocks_beside, title_row}
use Rattle.spec_pages.specs.Columns.{has_rows}
use Rattle.spec_labels.specs.declared.RowKey.{RowKey}
use Rattle.spec_sheets.specs.Shown.{row_key}
use Rattle.spec_sheets.specs.Speakers.{Spoken, cue_text, is_last_speaker, is_pair, name_in, named_block, named_from, settled, settled_element, speaker_after, speaker_by, spoken_elements}
use Rattle.spec_sheets.specs.Layout.{in_body, is_page_break, is_title_element, kind_of, laid_out, placed_in}
use Rattle.spec_sheets.proofs.SpokenLaws.{spoken_alone, spoken_elements-alone, spoken_elements-pair, spoken_pair}
use Rattle.spec_edit.specs.Settling.{settles_kind}
use Rattle.spec_edit.specs.Moved.{settles}
use Rattle.spec_edit.proofs.LayoutParts.{laid_of, laid-append}
use Rattle.spec_edit.proofs.Parts.{settled-by}
use Rattle.sp_layout.specs.Bodies.{body_of}
use Rattle.sp_layout.specs.Exchanges.{AreRowsAlike, rows_at, with_rows_at}
use Rattle.sp_layout.proofs.BodyLaws.{placed_in-append}
use Rattle.sp_layout.proofs.RowSwaps.{rows-beside, rows-there}
use Rattle.sp_layout.specs.LaidOut.{LayoutOf, break_places, keyed, places_behind}
use Rattle.sp_layout.specs.Speaking.{SpeakersOf, speakers_after}
use Rattle.sp_layout.specs.Changes.{IsSpeechIn, SpeechOf, with_speech}
use Rattle.sp_layout.specs.Speeches.{body_blocks, Speaks, first_goes_on, goes_by}
use Rattle.sp_layout.proofs.BreakLaws.{breaks-append, elements_in}
use Rattle.sp_layout.proofs.SpeakerLaws.{passed-by, says-alike}

-- ---- kinds

goes-quiet : (kind : Kind) (own later : Bool) → settles_kind kind ≡ false → goes_by kind own later ≡ later
goes-quiet kinds.Heading own later none = cc
goes-quiet kinds.Speech own later none = cc
goes-quiet kinds.Title own later none = refl
goes-quiet kinds.PageBreak own later none = refl
goes-quiet kinds.Action own later none = refl
goes-quiet kinds.Lyric own later none = refl
goes-quiet kinds.Transition own later none = refl
goes-quiet kinds.Centred own later none = refl
goes-quiet kinds.Section own later none = refl
goes-quiet kinds.Synopsis own later none = refl

-- What is a speech.
record IsSpeech (kind : Kind) : Type 0 where
  goes : (own later : Bool) → goes_by kind own later ≡ own
  told : (name : List ℕ) (last : Option (List ℕ)) → speaker_by kind name last ≡ Some name
  settled : settles_kind kind ≡ true
  body : is_title kind ≡ false
  stays : is_page_break kind ≡ false

speech-is : (kind : Kind) → is_speech_kind kind ≡ true → IsSpeech kind
speech-is kinds.Speech is = record { goes = λ own later. refl; told = λ name last. refl; settled = refl; body = refl; stays = refl }
speech-is kinds.Heading is = absurd (true≢false (sym is))
speech-is kinds.Title is = absurd (true≢false (sym is))
speech-is kinds.PageBreak is = absurd (true≢false (sym is))
speech-is kinds.Action is = absurd (true≢false (sym is))
speech-is kinds.Lyric is = absurd (true≢false (sym is))
speech-is kinds.Transition is = absurd (true≢false (sym is))
speech-is kinds.Centred is = absurd (true≢false (sym is))
speech-is kinds.Section is = absurd (true≢false (sym is))
speech-is kinds.Synopsis is = absurd (true≢false (sym is))

-- What settles and is none is a heading.
goes-heading : (kind : Kind) (own later : Bool) → settles_kind kind ≡ true → is_speech_kind kind ≡ false → goes_by kind own later ≡ false
goes-heading kinds.Heading own later some none = refl
goes-heading kinds.Speech own later some none = cc
goes-heading kinds.Title own later some none = cc
goes-heading kinds.PageBreak own later some none = cc
goes-heading kinds.Action own later some none = cc
goes-heading kinds.Lyric own later some none = cc
goes-heading kinds.Transition own later some none = cc
goes-heading kinds.Centred own later some none = cc
goes-heading kinds.Section own later some none = cc
goes-heading kinds.Synopsis own later some none = cc

quiet-speaks : (kind : Kind) → settles_kind kind ≡ false → is_speech_kind kind ≡ false
quiet-speaks kinds.Heading none = refl
quiet-speaks kinds.Speech none = cc
quiet-speaks kinds.Title none = refl
quiet-speaks kinds.PageBreak none = refl
quiet-speaks kinds.Action none = refl
quiet-speaks kinds.Lyric none = refl
quiet-speaks kinds.Transition none = refl
quiet-speaks kinds.Centred none = refl
quiet-speaks kinds.Section none = refl
quiet-speaks kinds.Synopsis none = refl

-- ---- whether it goes on

pub goes-behind : (texts : List (List ℕ)) (last : Option (List ℕ)) (quiet blocks : List PlacedBlock) → list_any settles quiet ≡ false → first_goes_on texts last (quiet ++ blocks) ≡ first_goes_on texts last blocks
goes-behind texts last [] blocks none = refl
goes-behind texts last (block ∷ quiet) blocks none =
    let both = or_parts (settles block) (list_any settles quiet) none in
    goes-quiet block.block.kind (is_last_speaker last (name_in (cue_text texts block))) (first_goes_on texts last (quiet ++ blocks)) both.0 ∙ goes-behind texts last quiet blocks both.1

pub goes-none : (texts : List (List ℕ)) (last : Option (List ℕ)) (blocks : List PlacedBlock) → list_any settles blocks ≡ false → first_goes_on texts last blocks ≡ false
goes-none texts last blocks none = ap (first_goes_on texts last) (sym (append-nil blocks)) ∙ goes-behind texts last blocks [] none

pub goes-past-heading : (texts : List (List ℕ)) (last : Option (List ℕ)) (block : PlacedBlock) (blocks : List PlacedBlock) → settles block ≡ true → is_speech_kind block.block.kind ≡ false → first_goes_on texts last (block ∷ blocks) ≡ false
goes-past-heading texts last block blocks some none = goes-heading block.block.kind (is_last_speaker last (name_in (cue_text texts block))) (first_goes_on texts last blocks) some none

pub goes-speech : (texts : List (List ℕ)) (last : Option (List ℕ)) (block : PlacedBlock) (blocks : List PlacedBlock) → is_speech_kind block.block.kind ≡ true
    → first_goes_on texts last (block ∷ blocks) ≡ is_last_speaker last (name_in (cue_text texts block))
goes-speech texts last block blocks is = (speech-is block.block.kind is).goes (is_last_speaker last (name_in (cue_text texts block))) (first_goes_on texts last blocks)

-- Where neither of both speaks in it, it goes on behind none.
other-speaks : (last : Option (List ℕ)) (name : List ℕ) → (Some name ≡ last → ⊥) → is_last_speaker last name ≡ false
other-speaks None name differs = refl
other-speaks (Some last) name differs = elim (cases_Bool (bytes_eq last name)) [
  | inl same ↦ absurd (differs (ap Some (sym ((bytes_eq-Decides last name).0 same))))
  | inr other ↦ ap (λ b. not (length name == 0) && b) other ∙ none (not (length name == 0))
]
  where
    none : (b : Bool) → (b && false) ≡ false
    none true = refl
    none false = refl

pub neither-speaks : (texts : List (List ℕ)) (before after : Option (List ℕ)) (own : SpeakersOf) (speech : List PlacedBlock) → Speaks speech → own ≡ speakers_after texts true (take 1 speech)
    → (own.last ≡ before → ⊥) → (own.last ≡ after → ⊥) → first_goes_on texts before speech ≡ first_goes_on texts after speech
neither-speaks texts before after own [] says is one other = absurd says
neither-speaks texts before after own (speech ∷ blocks) says is one other =
    let name = name_in (cue_text texts speech) in
    let told : own.last ≡ Some name = ap (λ (s : SpeakersOf). s.last) is ∙ (speech-is speech.block.kind says).told name None in
    goes-speech texts before speech blocks says ∙ other-speaks before name (λ same. one (told ∙ same)) ∙ sym (goes-speech texts after speech blocks says ∙ other-speaks after name (λ same. other (told ∙ same)))

-- Where the first speech goes on behind both or behind none, the blocks are the same elements behind both.
named-same : (on : Bool) (texts : List (List ℕ)) (one other : Option (List ℕ)) (blocks : List PlacedBlock) → first_goes_on texts one blocks ≡ first_goes_on texts other blocks → named_from on texts one blocks ≡ named_from on texts other blocks
named-same on texts one other [] same = refl
named-same on texts one other (block ∷ blocks) same =
    let kind = block.block.kind in
    let name = name_in (cue_text texts block) in
    let a = is_last_speaker one name in
    let b = is_last_speaker other name in
    let It : Bool → Spoken = λ continued. record { placed = block; continued = continued } in
    let both : (settles_kind kind ≡ true) → named_from on texts (speaker_after texts one block) blocks ≡ named_from on texts (speaker_after texts other block) blocks =
    λ some. ap (λ who. named_from on texts who blocks) (settled-by kind name one other some) in
    elim (cases_Bool (is_speech_kind kind)) [
      | inl is ↦
          let it = speech-is kind is in
          let flags : a ≡ b = sym (it.goes a (first_goes_on texts one blocks)) ∙ same ∙ it.goes b (first_goes_on texts other blocks) in
          ap₂ (λ continued (those : List Spoken). It (on && is_speech_kind kind && continued) ∷ those) flags (both it.settled)
      | inr none ↦
          let own : named_block on texts one block ≡ named_block on texts other block = ap It (says-alike on (is_speech_kind kind) a b none) in
          elim (cases_Bool (settles_kind kind)) [
            | inl some ↦ ap₂ (λ it (those : List Spoken). it ∷ those) own (both some)
            | inr quiet ↦
                let later : first_goes_on texts one blocks ≡ first_goes_on texts other blocks = sym (goes-quiet kind a (first_goes_on texts one blocks) quiet) ∙ same ∙ goes-quiet kind b (first_goes_on texts other blocks) quiet in
                ap₂ (λ it (those : List Spoken). it ∷ those) own
                (ap (λ who. named_from on texts who blocks) (passed-by kind name one quiet) ∙ named-same on texts one other blocks later ∙ sym (ap (λ who. named_from on texts who blocks) (passed-by kind name other quiet)))
          ]
    ]

pub spoken-same : (on : Bool) (lines : List LineState) (one other : Option (List ℕ)) (blocks : List PlacedBlock) → first_goes_on (line_texts lines) one blocks ≡ first_goes_on (line_texts lines) other blocks
    → spoken_elements on lines one blocks ≡ spoken_elements on lines other blocks
spoken-same on lines one other blocks same = ap (λ (those : List Spoken). map (settled_element lines) (longest_runs is_pair those)) (named-same on (line_texts lines) one other blocks same)

-- ---- blocks without a heading and a speech in front

quiet-cons : (on : Bool) (lines : List LineState) (last : Option (List ℕ)) (block : PlacedBlock) (blocks : List PlacedBlock) → settles block ≡ false
    → spoken_elements on lines last (block ∷ blocks) ≡ spoken_alone on lines last block ∷ spoken_elements on lines last blocks
quiet-cons on lines last block [] none = refl
quiet-cons on lines last block (next ∷ blocks) none =
    let kind = block.block.kind in
    let apart : is_dual block next ≡ false = ap (λ b. b && not block.block.caret && is_speech_kind next.block.kind && next.block.caret) (quiet-speaks kind none) in
    spoken_elements-alone on lines last block next blocks apart
    ∙ ap (λ who. spoken_alone on lines last block ∷ spoken_elements on lines who (next ∷ blocks)) (passed-by kind (name_in (cue_text (line_texts lines) block)) last none)

pub quiet-split : (on : Bool) (lines : List LineState) (last : Option (List ℕ)) (quiet blocks : List PlacedBlock) → list_any settles quiet ≡ false
    → spoken_elements on lines last (quiet ++ blocks) ≡ spoken_elements on lines last quiet ++ spoken_elements on lines last blocks
quiet-split on lines last [] blocks none = refl
quiet-split on lines last (block ∷ quiet) blocks none =
    let both = or_parts (settles block) (list_any settles quiet) none in
    quiet-cons on lines last block (quiet ++ blocks) both.0
    ∙ ap (λ (those : List (Group Spoken)). spoken_alone on lines last block ∷ those) (quiet-split on lines last quiet blocks both.1)
    ∙ ap (λ (those : List (Group Spoken)). those ++ spoken_elements on lines last blocks) (sym (quiet-cons on lines last block quiet both.0))

pub quiet-same : (on : Bool) (lines : List LineState) (one other : Option (List ℕ)) (quiet : List PlacedBlock) → list_any settles quiet ≡ false → spoken_elements on lines one quiet ≡ spoken_elements on lines other quiet
quiet-same on lines one other quiet none =
    spoken-same on lines one other quiet (goes-none (line_texts lines) one quiet none ∙ sym (goes-none (line_texts lines) other quiet none))

-- Each is an element by itself.
pub quiet-count : (on : Bool) (lines : List LineState) (last : Option (List ℕ)) (line : ℕ) (blocks : List BlockOf) → list_any settles (map (placed_at line) blocks) ≡ false
    → length (laid_of in_body lines (spoken_elements on lines last (map (placed_at line) blocks))) ≡ body_blocks blocks
quiet-count on lines last line [] none = refl
quiet-count on lines last line (block ∷ blocks) none =
    let placed = placed_at line block in
    let both = or_parts (settles placed) (list_any settles (map (placed_at line) blocks)) none in
    let rest = spoken_elements on lines last (map (placed_at line) blocks) in
    let more = sum_by-cons (λ (b : BlockOf). cond (is_title b.kind) 0 1) block blocks in
    let later = quiet-count on lines last line blocks both.1 in
    let own = by (is_title block.kind) rest in
    omega (arith, ap (λ (gs : List (Group Spoken)). length (laid_of in_body lines gs)) (quiet-cons on lines last placed (map (placed_at line) blocks) both.0), own, more, later)
  where
    by : (t : Bool) (rest : List (Group Spoken)) → length (map (laid_out lines) (cond (not t) (spoken_alone on lines last (placed_at line block) ∷ filter in_body rest) (filter in_body rest))) ≡ cond t 0 1 + length (laid_of in_body lines rest)
    by true rest = omega arith
    by false rest = omega arith

-- ---- the element that a speech begins, and those behind it

abbrev pub head_of : Bool → List LineState → Option (List ℕ) → PlacedBlock → List PlacedBlock → Group Spoken
head_of on lines last speech [] = spoken_alone on lines last speech
head_of on lines last speech (next ∷ blocks) = cond (is_dual speech next) (spoken_pair on lines last speech next) (spoken_alone on lines last speech)

abbrev later_of : Bool → List LineState → Option (List ℕ) → PlacedBlock → List PlacedBlock → List (Group Spoken)
later_of on lines behind speech [] = []
later_of on lines behind speech (next ∷ blocks) = cond (is_dual speech next) (spoken_elements on lines (speaker_after (line_texts lines) behind next) blocks) (spoken_elements on lines behind (next ∷ blocks))

head-is : (on : Bool) (lines : List LineState) (last : Option (List ℕ)) (speech : PlacedBlock) (blocks : List PlacedBlock)
    → spoken_elements on lines last (speech ∷ blocks) ≡ head_of on lines last speech blocks ∷ later_of on lines (speaker_after (line_texts lines) last speech) speech blocks
head-is on lines last speech [] = refl
head-is on lines last speech (next ∷ blocks) = by (is_dual speech next) refl
  where
    by : (dual : Bool) → is_dual speech next ≡ dual
        → spoken_elements on lines last (speech ∷ next ∷ blocks)
        ≡ cond dual (spoken_pair on lines last speech next) (spoken_alone on lines last speech)
        ∷ cond dual (spoken_elements on lines (speaker_after (line_texts lines) (speaker_after (line_texts lines) last speech) next) blocks) (spoken_elements on lines (speaker_after (line_texts lines) last speech) (next ∷ blocks))
    by true dual = spoken_elements-pair on lines last speech next blocks dual
    by false apart = spoken_elements-alone on lines last speech next blocks apart

-- The block behind it is all that is asked for it.
pub head-first : (on : Bool) (lines : List LineState) (last : Option (List ℕ)) (speech : PlacedBlock) (blocks : List PlacedBlock) → head_of on lines last speech (take 1 blocks) ≡ head_of on lines last speech blocks
head-first on lines last speech [] = refl
head-first on lines last speech (next ∷ blocks) = refl

-- ---- rows of a speech that goes on or not

speakers-field : {X : Type 0} (field : Row → X) (lines : List LineState) (first : ℕ) (speakers : List Bool) (rows : List Row) → map field (spoken_rows lines first speakers rows) ≡ map field rows → map field (with_speakers lines first speakers rows) ≡ map field rows
speakers-field field lines first speakers rows same = by (list_any (λ goes_on. goes_on) speakers)
  where
    by : (some : Bool) → map field (cond some (spoken_rows lines first speakers rows) rows) ≡ map field rows
    by true = same
    by false = refl

single-field : {X : Type 0} (field : Row → X) → ((lines : List LineState) (first : ℕ) (speakers : List Bool) (rows : List Row) → map field (spoken_rows lines first speakers rows) ≡ map field rows)
    → (lines : List LineState) (first : ℕ) (block : BlockOf) (one other : Bool) → map field (single_rows lines first block one) ≡ map field (single_rows lines first block other)
single-field field same lines first block one other = by (has_rows block.kind) (is_title block.kind)
  where
    bare : List Row
    bare = block_alone lines first block

    by : (some title : Bool) → map field (cond some (cond title (map title_row bare) (with_speakers lines first (one ∷ []) bare)) []) ≡ map field (cond some (cond title (map title_row bare) (with_speakers lines first (other ∷ []) bare)) [])
    by true true = refl
    by true false = speakers-field field lines first (one ∷ []) bare (same lines first (one ∷ []) bare) ∙ sym (speakers-field field lines first (other ∷ []) bare (same lines first (other ∷ []) bare))
    by false title = refl

shape-same : (lines : List LineState) (first : ℕ) (speakers : List Bool) (rows : List Row) → map (λ (row : Row). row.shape) (spoken_rows lines first speakers rows) ≡ map (λ (row : Row). row.shape) rows
shape-same lines first speakers [] = refl
shape-same lines first speakers (row ∷ rows) = refl

mark-same : (lines : List LineState) (first : ℕ) (speakers : List Bool) (rows : List Row) → map (λ (row : Row). row.mark) (spoken_rows lines first speakers rows) ≡ map (λ (row : Row). row.mark) rows
mark-same lines first speakers [] = refl
mark-same lines first speakers (row ∷ rows) = refl

-- The key of a row of an element that begins at a line.
abbrev key_from : List LineState → ℕ → Row → RowKey
key_from own line row = row_key own (shifted_row line row)

key-same : (own : List LineState) (line : ℕ) (lines : List LineState) (first : ℕ) (speakers : List Bool) (rows : List Row) → map (key_from own line) (spoken_rows lines first speakers rows) ≡ map (key_from own line) rows
key-same own line lines first speakers [] = refl
key-same own line lines first speakers (row ∷ rows) = refl

keys-placed : (lines : List LineState) (first : ℕ) (rows : List Row) → map (row_key lines) (map (shifted_row first) rows) ≡ map (key_from lines first) rows
keys-placed lines first [] = refl
keys-placed lines first (row ∷ rows) = ap (λ (keys : List RowKey). key_from lines first row ∷ keys) (keys-placed lines first rows)

-- Elements that begin where the same block does, with rows that are alike and have the same keys.
pub record AreSpeechesAlike (lines : List LineState) (one other : Group Spoken) : Type 0 where
  pub first : (laid_out lines one).first ≡ (laid_out lines other).first
  pub rows : AreRowsAlike (laid_out lines one).rows (laid_out lines other).rows
  pub keys : map (row_key lines) (placed_rows (laid_out lines one)) ≡ map (row_key lines) (placed_rows (laid_out lines other))
  pub body : (in_body one ≡ true) × (in_body other ≡ true)
  pub titles : (is_title_element one ≡ false) × (is_title_element other ≡ false)
  pub breaks : (is_page_break (kind_of one) ≡ false) × (is_page_break (kind_of other) ≡ false)

single-alike : (lines : List LineState) (placed : PlacedBlock) (one other : Bool) → IsSpeech placed.block.kind
    → AreSpeechesAlike lines (record { first = record { placed = placed; continued = one }; more = [] }) (record { first = record { placed = placed; continued = other }; more = [] })
single-alike lines placed one other it =
    let first = placed.first in
    let block = placed.block in
    let a = single_rows lines first block one in
    let b = single_rows lines first block other in
    let body = ap not it.body in
    record {
      first = refl;
      rows = record { shapes = single-field (λ (row : Row). row.shape) shape-same lines first block one other; marks = single-field (λ (row : Row). row.mark) mark-same lines first block one other };
      keys = keys-placed lines first a ∙ single-field (key_from lines first) (key-same lines first) lines first block one other ∙ sym (keys-placed lines first b);
      body = (body, body);
      titles = (it.body, it.body);
      breaks = (it.stays, it.stays);
    }

dual-field : {X : Type 0} (field : Row → X) (lines : List LineState) (first : ℕ) (rows : List Row) (second one other : Bool) → ((speakers : List Bool) → map field (spoken_rows lines first speakers rows) ≡ map field rows)
    → map field (with_speakers lines first (one ∷ second ∷ []) rows) ≡ map field (with_speakers lines first (other ∷ second ∷ []) rows)
dual-field field lines first rows second one other same =
    speakers-field field lines first (one ∷ second ∷ []) rows (same (one ∷ second ∷ [])) ∙ sym (speakers-field field lines first (other ∷ second ∷ []) rows (same (other ∷ second ∷ [])))

pair-alike : (lines : List LineState) (left : PlacedBlock) (one other : Bool) (right : Spoken) → IsSpeech left.block.kind
    → AreSpeechesAlike lines (record { first = record { placed = left; continued = one }; more = right ∷ [] }) (record { first = record { placed = left; continued = other }; more = right ∷ [] })
pair-alike lines left one other right it =
    let first = left.first in
    let second = right.continued in
    let bare = blocks_beside lines first left.block right.placed.first right.placed.block in
    let body = ap not it.body in
    record {
      first = refl;
      rows = record {
        shapes = dual-field (λ (row : Row). row.shape) lines first bare second one other (λ speakers. shape-same lines first speakers bare);
        marks = dual-field (λ (row : Row). row.mark) lines first bare second one other (λ speakers. mark-same lines first speakers bare);
      };
      keys = keys-placed lines first (with_speakers lines first (one ∷ second ∷ []) bare) ∙ dual-field (key_from lines first) lines first bare second one other (λ speakers. key-same lines first lines first speakers bare)
          ∙ sym (keys-placed lines first (with_speakers lines first (other ∷ second ∷ []) bare));
      body = (body, body);
      titles = (it.body, it.body);
      breaks = (it.stays, it.stays);
    }

heads-alike : (on : Bool) (lines : List LineState) (one other : Option (List ℕ)) (speech : PlacedBlock) (blocks : List PlacedBlock) → IsSpeech speech.block.kind
    → AreSpeechesAlike lines (head_of on lines one speech blocks) (head_of on lines other speech blocks)
heads-alike on lines one other speech [] it =
    single-alike lines speech (spoken_alone on lines one speech).first.continued (spoken_alone on lines other speech).first.continued it
heads-alike on lines one other speech (next ∷ blocks) it = by (is_dual speech next)
  where
    by : (dual : Bool) → AreSpeechesAlike lines (cond dual (spoken_pair on lines one speech next) (spoken_alone on lines one speech)) (cond dual (spoken_pair on lines other speech next) (spoken_alone on lines other speech))
    by false = single-alike lines speech (spoken_alone on lines one speech).first.continued (spoken_alone on lines other speech).first.continued it
    by true =
        let texts = line_texts lines in
        let a = spoken_pair on lines one speech next in
        let b = spoken_pair on lines other speech next in
        let beside : Option (List ℕ) → Spoken = λ who. settled lines sides.Right (named_block on texts who next) in
        let same : beside (speaker_after texts one speech) ≡ beside (speaker_after texts other speech) = ap beside (settled-by speech.block.kind (name_in (cue_text texts speech)) one other it.settled) in
        subst (λ (right : Spoken). AreSpeechesAlike lines a (record { first = b.first; more = right ∷ [] })) same (pair-alike lines speech a.first.continued b.first.continued (beside (speaker_after texts one speech)) it)

-- Behind a speech it doesn't matter who spoke before it; so the elements behind one and another differ in its own alone.
pub record SpeechParts (on : Bool) (lines : List LineState) (one other : Option (List ℕ)) (quiet : List PlacedBlock) (speech : PlacedBlock) (blocks : List PlacedBlock) : Type 0 where
  pub front : List (Group Spoken)
  pub later : List (Group Spoken)
  pub front_is : front ≡ spoken_elements on lines one quiet
  pub old : spoken_elements on lines one (quiet ++ speech ∷ blocks) ≡ front ++ head_of on lines one speech blocks ∷ later
  pub new : spoken_elements on lines other (quiet ++ speech ∷ blocks) ≡ front ++ head_of on lines other speech blocks ∷ later
  pub alike : AreSpeechesAlike lines (head_of on lines other speech blocks) (head_of on lines one speech blocks)

pub speech-parts : (on : Bool) (lines : List LineState) (one other : Option (List ℕ)) (quiet : List PlacedBlock) (speech : PlacedBlock) (blocks : List PlacedBlock) → list_any settles quiet ≡ false → is_speech_kind speech.block.kind ≡ true
    → SpeechParts on lines one other quiet speech blocks
speech-parts on lines one other quiet speech blocks none is =
    let texts = line_texts lines in
    let it = speech-is speech.block.kind is in
    let front = spoken_elements on lines one quiet in
    let later = later_of on lines (speaker_after texts one speech) speech blocks in
    record {
      front = front;
      later = later;
      front_is = refl;
      old = quiet-split on lines one quiet (speech ∷ blocks) none ∙ ap (λ (those : List (Group Spoken)). front ++ those) (head-is on lines one speech blocks);
      new = quiet-split on lines other quiet (speech ∷ blocks) none
          ∙ ap₂ (λ (xs ys : List (Group Spoken)). xs ++ ys) (quiet-same on lines other one quiet none)
          (head-is on lines other speech blocks ∙ ap (λ who. head_of on lines other speech blocks ∷ later_of on lines who speech blocks) (settled-by speech.block.kind (name_in (cue_text texts speech)) other one it.settled));
      alike = heads-alike on lines other one speech blocks it;
    }

-- ---- the layout

laid-body : (lines : List LineState) (group : Group Spoken) (groups : List (Group Spoken)) → in_body group ≡ true → laid_of in_body lines (group ∷ groups) ≡ laid_out lines group ∷ laid_of in_body lines groups
laid-body lines group groups is = ap (λ b. map (laid_out lines) (cond b (group ∷ filter in_body groups) (filter in_body groups))) is

laid-titles : (lines : List LineState) (group : Group Spoken) (groups : List (Group Spoken)) → is_title_element group ≡ false → laid_of is_title_element lines (group ∷ groups) ≡ laid_of is_title_element lines groups
laid-titles lines group groups none = ap (λ b. map (laid_out lines) (cond b (group ∷ filter is_title_element groups) (filter is_title_element groups))) none

-- The rows of a speech, laid out with the block behind it alone.
pub first-rows : (on : Bool) (lines : List LineState) (last : Option (List ℕ)) (speech : PlacedBlock) (blocks : List PlacedBlock) → is_speech_kind speech.block.kind ≡ true
    → rows_at (laid_of in_body lines (spoken_elements on lines last (speech ∷ take 1 blocks))) 0 ≡ (laid_out lines (head_of on lines last speech blocks)).rows
first-rows on lines last speech blocks is =
    let own = head_of on lines last speech blocks in
    let later = later_of on lines (speaker_after (line_texts lines) last speech) speech (take 1 blocks) in
    let alike = heads-alike on lines last last speech blocks (speech-is speech.block.kind is) in
    ap (λ (gs : List (Group Spoken)). rows_at (laid_of in_body lines gs) 0) (head-is on lines last speech (take 1 blocks) ∙ ap (λ (g : Group Spoken). g ∷ later) (head-first on lines last speech blocks))
    ∙ ap (λ (es : List ElementOf). rows_at es 0) (laid-body lines own later alike.body.0)

keys-append : (lines : List LineState) (one other : List ElementOf) → map (row_key lines) (placed_in (one ++ other)) ≡ map (row_key lines) (placed_in one) ++ map (row_key lines) (placed_in other)
keys-append lines one other = ap (map (row_key lines)) (placed_in-append one other) ∙ map-append (row_key lines) (placed_in one) (placed_in other)

-- One element of a layout exchanged for one that is alike.
module _ (lines : List LineState) (front : List (Group Spoken)) (new old : Group Spoken) (later : List (Group Spoken)) (alike : AreSpeechesAlike lines new old) where
  abbrev place : ℕ
  place = length (laid_of in_body lines front)

  abbrev rows : List Row
  rows = (laid_out lines new).rows

  abbrev speech : SpeechOf
  speech = record { element = place; rows = rows }

  abbrev was : LayoutOf
  was = keyed lines (front ++ old ∷ later)

  body-with : (group : Group Spoken) → in_body group ≡ true → laid_of in_body lines (front ++ group ∷ later) ≡ laid_of in_body lines front ++ laid_out lines group ∷ laid_of in_body lines later
  body-with group is = laid-append in_body lines front (group ∷ later) ∙ ap (λ (es : List ElementOf). laid_of in_body lines front ++ es) (laid-body lines group later is)

  titles-with : (group : Group Spoken) → is_title_element group ≡ false → laid_of is_title_element lines (front ++ group ∷ later) ≡ laid_of is_title_element lines front ++ laid_of is_title_element lines later
  titles-with group none = laid-append is_title_element lines front (group ∷ later) ∙ ap (λ (es : List ElementOf). laid_of is_title_element lines front ++ es) (laid-titles lines group later none)

  breaks-with : (group : Group Spoken) → in_body group ≡ true → is_page_break (kind_of group) ≡ false
      → break_places 0 (front ++ group ∷ later) ≡ break_places 0 front ++ break_places (0 + elements_in lines front + 1) later
  breaks-with group is none =
      let count = 0 + elements_in lines front in
      breaks-append lines 0 front (group ∷ later)
      ∙ ap (λ b. break_places 0 front ++ cond b (count ∷ break_places (places_behind count group) later) (break_places (places_behind count group) later)) none
      ∙ ap (λ b. break_places 0 front ++ break_places (cond b (count + 1) count) later) is

  keys-with : (group : Group Spoken) → map (row_key lines) (placed_in (laid_of in_body lines front ++ laid_out lines group ∷ laid_of in_body lines later))
      ≡ map (row_key lines) (placed_in (laid_of in_body lines front)) ++ (map (row_key lines) (placed_rows (laid_out lines group)) ++ map (row_key lines) (placed_in (laid_of in_body lines later)))
  keys-with group =
      keys-append lines (laid_of in_body lines front) (laid_out lines group ∷ laid_of in_body lines later)
      ∙ ap (λ (ks : List RowKey). map (row_key lines) (placed_in (laid_of in_body lines front)) ++ ks) (map-append (row_key lines) (placed_rows (laid_out lines group)) (placed_in (laid_of in_body lines later)))

  elements-old : laid_of in_body lines (front ++ old ∷ later) ≡ laid_of in_body lines front ++ laid_out lines old ∷ laid_of in_body lines later
  elements-old = body-with old alike.body.1

  pub speech-in : IsSpeechIn was 0 speech
  speech-in = record {
    behind = omega arith;
    inside = omega (arith, ap (λ (es : List ElementOf). length es) elements-old, length-append (laid_of in_body lines front) (laid_out lines old ∷ laid_of in_body lines later));
    alike = subst (AreRowsAlike rows) (sym (ap (λ (es : List ElementOf). rows_at es place) elements-old ∙ rows-there (laid_of in_body lines front) (laid_out lines old) (laid_of in_body lines later))) alike.rows;
  }

  elements-is : with_rows_at (laid_of in_body lines (front ++ old ∷ later)) place rows ≡ laid_of in_body lines (front ++ new ∷ later)
  elements-is =
      ap (λ (es : List ElementOf). with_rows_at es place rows) elements-old ∙ rows-beside (laid_of in_body lines front) (laid_out lines old) (laid_of in_body lines later) rows
      ∙ ap (λ first. laid_of in_body lines front ++ record { first = first; rows = rows } ∷ laid_of in_body lines later) (sym alike.first)
      ∙ sym (body-with new alike.body.0)

  keys-is : map (row_key lines) (placed_in (laid_of in_body lines (front ++ old ∷ later))) ≡ map (row_key lines) (placed_in (laid_of in_body lines (front ++ new ∷ later)))
  keys-is =
      ap (λ (es : List ElementOf). map (row_key lines) (placed_in es)) elements-old ∙ keys-with old
      ∙ ap (λ (ks : List RowKey). map (row_key lines) (placed_in (laid_of in_body lines front)) ++ (ks ++ map (row_key lines) (placed_in (laid_of in_body lines later)))) (sym alike.keys)
      ∙ sym (ap (λ (es : List ElementOf). map (row_key lines) (placed_in es)) (body-with new alike.body.0) ∙ keys-with new)

  breaks-is : break_places 0 (front ++ old ∷ later) ≡ break_places 0 (front ++ new ∷ later)
  breaks-is = breaks-with old alike.body.1 alike.breaks.1 ∙ sym (breaks-with new alike.body.0 alike.breaks.0)

  pub speech-laid : with_speech was (Some speech) ≡ keyed lines (front ++ new ∷ later)
  speech-laid =
      ap₂ (λ (es : List ElementOf) (ks : List RowKey). record { titles = was.titles; body = record { elements = es; keys = ks }; breaks = was.breaks }) elements-is keys-is
      ∙ ap₂ (λ (es : List ElementOf) (ns : List ℕ). record { titles = body_of lines es; body = body_of lines (laid_of in_body lines (front ++ new ∷ later)); breaks = ns })
      (titles-with old alike.titles.1 ∙ sym (titles-with new alike.titles.0)) breaks-is
