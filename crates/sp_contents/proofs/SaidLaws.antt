-- The walks over rows and blocks find the speeches of a state, each with the sheet that has the first row of its element.
use Rattle.std.proofs.Common.{◌≡◌, ℕ, suc, ◌+◌, ◌-◌, ◌&&◌, ◌==◌, Bool, true, false, not, cond, Option, Some, None, List, [], ◌∷◌, ◌++◌, length, map, filter, slice_get, refl, sym, ap, ap₂, ◌∙◌, arith, ne_eqb, append_assoc, append-nil, length-append}
use Rattle.std.specs.Prelude.{find, option_map, unwrap_or}
use Rattle.std.specs.Option.{option_map_or}
use Rattle.spec_text.specs.Lines.{line_texts}
use Rattle.spec_script.specs.declared.Kind.{Kind}
use Rattle.spec_script.specs.declared.Kind.TheVariants as kinds
use Rattle.spec_script.specs.LongestRuns.{Group, members}
use Rattle.spec_script.specs.Stanzas.{PlacedBlock, blocks_of}
use Rattle.spec_script.specs.Elements.{is_speech_kind, is_speech_block, is_dual}
use Rattle.spec_script.proofs.ElementLaws.{dual-speech}
use Rattle.spec_script.proofs.RunSteps.{one_alone, two_together}
use Rattle.spec_pages.specs.declared.Shape.{Shape}
use Rattle.spec_pages.specs.declared.Side.TheVariants as sides
use Rattle.spec_labels.specs.Labels.{LabelOf, plain_label}
use Rattle.spec_labels.specs.Scenes.{scene_labels}
use Rattle.spec_labels.specs.PageRecords.{SheetOf}
use Rattle.spec_sheets.specs.Shown.{shape_of}
use Rattle.spec_sheets.specs.Speakers.{Spoken, cue_text, name_in, named_block, settled, speaker_after, spoken_elements}
use Rattle.spec_sheets.proofs.SpokenLaws.{spoken_alone, spoken_pair}
use Rattle.spec_state.specs.State.{State}
use Rattle.spec_state.specs.Headings.{headings_of, is_heading_kind, is_heading_block}
use Rattle.spec_state.specs.Keeping.{IsWhole}
use Rattle.spec_state.specs.StateSheets.{rows_in, body_sheets}
use Rattle.spec_machine.specs.Outlines.{has_row}
use Rattle.spec_cast.specs.Sides.{SaidOf}
use Rattle.spec_cast.specs.Places.{state_elements, has_heading, has_speech, row_count, StandsOnOne, each_behind, opens_speech, begins_speech}
use Rattle.spec_cast.specs.Said.{last_label, first_of, speech_said, element_said, said_of}
use Rattle.spec_cast.proofs.FirstRows.{dual-second, elements-step}
use Rattle.spec_cast.proofs.RowPlaces.{places, first_rows, elements-places, count-next}
use Rattle.spec_cast.proofs.SheetLaws.{speech-one, state-shapes, state-speech, next-behind}
use Rattle.sp_contents.specs.Speeches.{Walk, walk_start, is_first, walked, first_label, speech_sheets, said_by, said_from}

-- ---- rows

speech-places : (sheets : List SheetOf) (row : ℕ) (shapes : List Shape) → speech_sheets sheets row shapes ≡ map (first_label sheets) (places opens_speech row shapes)
speech-places sheets row [] = refl
speech-places sheets row (shape ∷ shapes) = by (begins_speech shape) (speech-places sheets (row + 1) shapes)
  where
    by : (b : Bool) → speech_sheets sheets (row + 1) shapes ≡ map (first_label sheets) (places opens_speech (row + 1) shapes)
        → cond b (first_label sheets row ∷ speech_sheets sheets (row + 1) shapes) (speech_sheets sheets (row + 1) shapes)
        ≡ map (first_label sheets) (cond b (row ∷ places opens_speech (row + 1) shapes) (places opens_speech (row + 1) shapes))
    by true rest = ap (λ labels. first_label sheets row ∷ labels) rest
    by false rest = rest

-- The labels of the sheets on which the elements begin that are speeches or pairs.
speech-labels : (state : State)
    → speech_sheets (body_sheets state) 0 (map shape_of (rows_in state)) ≡ map (first_label (body_sheets state)) (first_rows has_speech state.lines 0 (state_elements state))
speech-labels state =
    speech-places (body_sheets state) 0 (map shape_of (rows_in state))
    ∙ ap (λ shapes. map (first_label (body_sheets state)) (places opens_speech 0 shapes)) (state-shapes state)
    ∙ ap (map (first_label (body_sheets state))) (elements-places opens_speech is_speech_kind state.lines 0 (state_elements state) (state-speech state))

-- ---- blocks

get-front : {X : Type 0} (front : List X) (x : X) (rest : List X) → slice_get (front ++ x ∷ rest) (length front) ≡ Some x
get-front [] x rest = refl
get-front (y ∷ front) x rest = get-front front x rest

last-front : (front : List LabelOf) (label : LabelOf) (rest : List LabelOf) (n : ℕ) → n ≡ suc (length front) → last_label (front ++ label ∷ rest) n ≡ Some label
last-front front label rest n is =
    let some : (n == 0) ≡ false = ne_eqb n 0 (λ e. omega (arith, is, e)) in
    let place : n - 1 ≡ length front = omega (arith, is) in
    ap (λ b. cond b None (slice_get (front ++ label ∷ rest) (n - 1))) some ∙ ap (λ k. slice_get (front ++ label ∷ rest) k) place ∙ get-front front label rest

filter-length : {X : Type 0} (p : X → Bool) (xs : List X) (x : X) → length (filter p (xs ++ x ∷ [])) ≡ cond (p x) (length (filter p xs) + 1) (length (filter p xs))
filter-length p [] x = by (p x)
  where
    by : (b : Bool) → length (cond b (x ∷ []) []) ≡ cond b 1 0
    by true = refl
    by false = refl
filter-length p (y ∷ xs) x = by (p y) (p x) (filter-length p xs x)
  where
    by : (a b : Bool) → length (filter p (xs ++ x ∷ [])) ≡ cond b (length (filter p xs) + 1) (length (filter p xs))
        → length (cond a (y ∷ filter p (xs ++ x ∷ [])) (filter p (xs ++ x ∷ []))) ≡ cond b (length (cond a (y ∷ filter p xs) (filter p xs)) + 1) (length (cond a (y ∷ filter p xs) (filter p xs)))
    by true true rest = omega (arith, rest)
    by true false rest = ap suc rest
    by false b rest = rest

-- A walk stands behind some elements, the labels of whose sheets are these.
record Stands (walk : Walk) (before : List (Group Spoken)) (front : List LabelOf) : Type 0 where
  headings : walk.headings ≡ length (filter has_heading before)
  speeches : walk.speeches ≡ length front

-- No block that follows is the second of a pair with the one before it.
abbrev Starts : Walk → List PlacedBlock → Type 0
Starts walk [] = Unit {0}
Starts walk (placed ∷ blocks) = is_first walk placed ≡ is_speech_block placed

-- A speech is no heading.
speech-other : (kind : Kind) → is_speech_kind kind ≡ true → is_heading_kind kind ≡ false
speech-other kinds.Heading is = cc
speech-other kinds.Speech is = refl
speech-other kinds.Action is = refl
speech-other kinds.Lyric is = refl
speech-other kinds.Transition is = refl
speech-other kinds.Centred is = refl
speech-other kinds.PageBreak is = refl
speech-other kinds.Section is = refl
speech-other kinds.Synopsis is = refl
speech-other kinds.Title is = refl

-- A block behind one that it isn't dual dialogue with, and one behind a pair.
starts-apart : (walk : Walk) (placed next : PlacedBlock) (blocks : List PlacedBlock) → is_dual placed next ≡ false → Starts (walked walk placed) (next ∷ blocks)
starts-apart walk placed next blocks apart = by (is_speech_block placed) (not placed.block.caret) (is_speech_block next) next.block.caret apart
  where
    by : (a b c d : Bool) → (a && b && c && d) ≡ false → (c && not ((a && b) && d)) ≡ c
    by a b false d is = refl
    by true true true true is = cc
    by true true true false is = refl
    by true false true d is = refl
    by false b true d is = refl

second-held : (walk : Walk) (placed next : PlacedBlock) → is_dual placed next ≡ true → is_first (walked walk placed) next ≡ false
second-held walk placed next dual = by (is_speech_block placed) (not placed.block.caret) (is_speech_block next) next.block.caret dual
  where
    by : (a b c d : Bool) → (a && b && c && d) ≡ true → (c && not ((a && b) && d)) ≡ false
    by true true true true is = refl
    by true true true false is = cc
    by true true false d is = cc
    by true false c d is = cc
    by false b c d is = cc

dual-caret : (placed next : PlacedBlock) → is_dual placed next ≡ true → next.block.caret ≡ true
dual-caret placed next dual = by (is_speech_block placed) (not placed.block.caret) (is_speech_block next) next.block.caret dual
  where
    by : (a b c d : Bool) → (a && b && c && d) ≡ true → d ≡ true
    by a b c true is = refl
    by true true true false is = cc
    by true true false false is = cc
    by true false c false is = cc
    by false b c false is = cc

starts-behind : (walk : Walk) (placed next : PlacedBlock) (blocks : List PlacedBlock) → is_dual placed next ≡ true → Starts (walked (walked walk placed) next) blocks
starts-behind walk placed next [] dual = tt
starts-behind walk placed next (other ∷ blocks) dual =
    ap (λ caret. is_speech_block other && not ((is_speech_block next && not caret) && other.block.caret)) (dual-caret placed next dual)
    ∙ by (is_speech_block next) (is_speech_block other)
  where
    by : (a b : Bool) → (b && not ((a && false) && other.block.caret)) ≡ b
    by true true = refl
    by true false = refl
    by false true = refl
    by false false = refl

-- Nothing stands before the first block.
starts-start : (blocks : List PlacedBlock) → Starts walk_start blocks
starts-start [] = tt
starts-start (placed ∷ blocks) = by (is_speech_block placed)
  where
    by : (b : Bool) → (b && not (false && placed.block.caret)) ≡ b
    by true = refl
    by false = refl

-- ---- speeches

module _ (state : State) (whole : IsWhole state) where
  abbrev scenes : List LabelOf
  scenes = scene_labels (headings_of state.lines) state.scenes

  -- The labels of sheets from an element on.
  abbrev labels_from : ℕ → List (Group Spoken) → List LabelOf
  labels_from row elements = map (first_label (body_sheets state)) (first_rows has_speech state.lines row elements)

  abbrev elements_of : Option (List ℕ) → List PlacedBlock → List (Group Spoken)
  elements_of last blocks = spoken_elements state.speakers state.lines last blocks

  abbrev after : Option (List ℕ) → PlacedBlock → Option (List ℕ)
  after last placed = speaker_after (line_texts state.lines) last placed

  -- A speech of an element behind others is told with the sheet of that element.
  own-said : (walk : Walk) (before : List (Group Spoken)) (front rest : List LabelOf) (it : Spoken) (labels : List LabelOf) (sheet : SheetOf)
      → find (has_row (row_count state.lines before)) (body_sheets state) ≡ Some sheet → labels ≡ front ++ first_label (body_sheets state) (row_count state.lines before) ∷ rest
      → walk.headings ≡ length (filter has_heading before) → walk.speeches ≡ suc (length front) → said_by scenes labels (line_texts state.lines) walk it.placed ≡ speech_said state before it
  own-said walk before front rest it labels sheet found are headings speeches =
      let row = row_count state.lines before in
      let name = name_in (cue_text (line_texts state.lines) it.placed) in
      let last : last_label labels walk.speeches ≡ Some (first_label (body_sheets state) row) =
      ap (λ (those : List LabelOf). last_label those walk.speeches) are ∙ last-front front (first_label (body_sheets state) row) rest walk.speeches speeches in
      let told : Some (unwrap_or (last_label labels walk.speeches) (plain_label 0)) ≡ option_map first_of (find (has_row row) (body_sheets state)) =
      ap (λ (o : Option LabelOf). Some (unwrap_or o (plain_label 0))) last
      ∙ ap (λ (o : Option SheetOf). Some (option_map_or (λ (it : SheetOf). it.first) o (plain_label 0))) found
      ∙ sym (ap (option_map first_of) found) in
      ap₂ (λ (n : ℕ) (label : Option LabelOf). let said : SaidOf = record { name = name; scene = last_label scenes n; sheet = label } in said) headings told

  -- The walk behind a block by itself, and behind a pair.
  stands-next : (walk : Walk) (before : List (Group Spoken)) (front more : List LabelOf) (element : Group Spoken) (next : Walk) → Stands walk before front
      → next.headings ≡ cond (has_heading element) (walk.headings + 1) walk.headings → next.speeches ≡ length (front ++ more) → Stands next (before ++ element ∷ []) (front ++ more)
  stands-next walk before front more element next stands headings speeches = record {
    headings = headings ∙ ap (λ n. cond (has_heading element) (n + 1) n) stands.headings ∙ sym (filter-length has_heading before element);
    speeches = speeches;
  }

  one-more : (front : List LabelOf) (label : LabelOf) → length (front ++ label ∷ []) ≡ suc (length front)
  one-more front label = (let sum = length-append front (label ∷ []) in omega (arith, sum))

  -- What is told from a block on, where its element stands behind others.
  abbrev Tells : Walk → List (Group Spoken) → List LabelOf → List PlacedBlock → List (Group Spoken) → Type 0
  Tells walk before front blocks elements = (labels : List LabelOf) → state_elements state ≡ before ++ elements → labels ≡ front ++ labels_from (row_count state.lines before) elements
      → said_from scenes labels (line_texts state.lines) walk blocks ≡ each_behind (element_said state) before elements

  alone-tells : (walk : Walk) (before : List (Group Spoken)) (front : List LabelOf) (it : Spoken) (blocks : List PlacedBlock) (elements : List (Group Spoken))
      → is_first walk it.placed ≡ is_speech_block it.placed → Stands walk before front
      → ((more : List LabelOf) → Stands (walked walk it.placed) (before ++ one_alone it ∷ []) (front ++ more) → Tells (walked walk it.placed) (before ++ one_alone it ∷ []) (front ++ more) blocks elements)
      → Tells walk before front (it.placed ∷ blocks) (one_alone it ∷ elements)
  alone-tells walk before front it blocks elements starts stands later labels split are = by (is_speech_block it.placed) refl
    where
      row : ℕ
      row = row_count state.lines before

      element : Group Spoken
      element = one_alone it

      behind : ℕ → List LabelOf
      behind n = labels_from n elements

      next : Walk
      next = walked walk it.placed

      by : (b : Bool) → is_speech_block it.placed ≡ b
          → cond b (said_by scenes labels (line_texts state.lines) next it.placed ∷ []) [] ++ said_from scenes labels (line_texts state.lines) next blocks
          ≡ cond b (map (speech_said state before) (members element)) [] ++ each_behind (element_said state) (before ++ element ∷ []) elements
      by true is =
          let label = first_label (body_sheets state) row in
          let one : labels ≡ front ++ label ∷ behind (row_count state.lines (before ++ element ∷ [])) =
          are ∙ ap₂ (λ (b : Bool) (n : ℕ). front ++ map (first_label (body_sheets state)) (cond b (row ∷ []) [] ++ first_rows has_speech state.lines n elements)) is (sym (count-next state.lines before element)) in
          let count : next.speeches ≡ suc (length front) = ap (λ b. cond b (walk.speeches + 1) walk.speeches) (starts ∙ is) ∙ (let same = stands.speeches in omega (arith, same)) in
          let other : is_heading_block it.placed ≡ false = speech-other it.placed.block.kind is in
          let headings : next.headings ≡ length (filter has_heading before) = ap (λ b. cond b (walk.headings + 1) walk.headings) other ∙ stands.headings in
          let found = speech-one state whole before element elements split is in
          ap₂ (λ (said : SaidOf) (those : List SaidOf). said ∷ those)
          (own-said next before front (behind (row_count state.lines (before ++ element ∷ []))) it labels found.sheet found.found one headings count)
          (later (label ∷ []) (stands-next walk before front (label ∷ []) element next stands refl (count ∙ sym (one-more front label))) labels
          (next-behind (state_elements state) before element elements split) (one ∙ sym (append_assoc front (label ∷ []) (behind (row_count state.lines (before ++ element ∷ []))))))
      by false is =
          let one : labels ≡ front ++ behind (row_count state.lines (before ++ element ∷ [])) =
          are ∙ ap₂ (λ (b : Bool) (n : ℕ). front ++ map (first_label (body_sheets state)) (cond b (row ∷ []) [] ++ first_rows has_speech state.lines n elements)) is (sym (count-next state.lines before element)) in
          let count : next.speeches ≡ length (front ++ []) = ap (λ b. cond b (walk.speeches + 1) walk.speeches) (starts ∙ is) ∙ stands.speeches ∙ ap length (sym (append-nil front)) in
          later [] (stands-next walk before front [] element next stands refl count) labels (next-behind (state_elements state) before element elements split)
          (one ∙ ap (λ (those : List LabelOf). those ++ behind (row_count state.lines (before ++ element ∷ []))) (sym (append-nil front)))

  pair-tells : (walk : Walk) (before : List (Group Spoken)) (front : List LabelOf) (left right : Spoken) (blocks : List PlacedBlock) (elements : List (Group Spoken)) → is_dual left.placed right.placed ≡ true
      → is_first walk left.placed ≡ is_speech_block left.placed → Stands walk before front
      → let behind = walked (walked walk left.placed) right.placed in
      ((more : List LabelOf) → Stands behind (before ++ two_together left right ∷ []) (front ++ more) → Tells behind (before ++ two_together left right ∷ []) (front ++ more) blocks elements)
      → Tells walk before front (left.placed ∷ right.placed ∷ blocks) (two_together left right ∷ elements)
  pair-tells walk before front left right blocks elements dual starts stands later labels split are =
      ap₂ (λ a b. cond a (said_by scenes labels texts middle left.placed ∷ []) [] ++ (cond b (said_by scenes labels texts next right.placed ∷ []) [] ++ said_from scenes labels texts next blocks)) first second
      ∙ ap₂ (λ (said : SaidOf) (those : List SaidOf). said ∷ those) (own-said middle before front (behind end) left labels found.sheet found.found one headings count)
      (ap₂ (λ (said : SaidOf) (those : List SaidOf). said ∷ those) (own-said next before front (behind end) right labels found.sheet found.found one headings_next count_next)
      (later (label ∷ []) (stands-next walk before front (label ∷ []) element next stands headings_kept (count_next ∙ sym (one-more front label))) labels
      (next-behind (state_elements state) before element elements split) (one ∙ sym (append_assoc front (label ∷ []) (behind end)))))
      ∙ sym (ap (λ b. cond b (map (speech_said state before) (members element)) [] ++ each_behind (element_said state) (before ++ element ∷ []) elements) first)
    where
      texts : List (List ℕ)
      texts = line_texts state.lines

      row : ℕ
      row = row_count state.lines before

      element : Group Spoken
      element = two_together left right

      middle : Walk
      middle = walked walk left.placed

      next : Walk
      next = walked middle right.placed

      end : ℕ
      end = row_count state.lines (before ++ element ∷ [])

      behind : ℕ → List LabelOf
      behind n = labels_from n elements

      label : LabelOf
      label = first_label (body_sheets state) row

      first : is_speech_block left.placed ≡ true
      first = ap is_speech_kind (dual-speech left.placed right.placed dual)

      second : is_speech_block right.placed ≡ true
      second = dual-second left.placed right.placed dual

      found : StandsOnOne (body_sheets state) row
      found = speech-one state whole before element elements split first

      one : labels ≡ front ++ label ∷ behind end
      one = are ∙ ap₂ (λ (b : Bool) (n : ℕ). front ++ map (first_label (body_sheets state)) (cond b (row ∷ []) [] ++ first_rows has_speech state.lines n elements)) first (sym (count-next state.lines before element))

      count : middle.speeches ≡ suc (length front)
      count = ap (λ b. cond b (walk.speeches + 1) walk.speeches) (starts ∙ first) ∙ (let same = stands.speeches in omega (arith, same))

      count_next : next.speeches ≡ suc (length front)
      count_next = ap (λ b. cond b (middle.speeches + 1) middle.speeches) (second-held walk left.placed right.placed dual) ∙ count

      left_other : is_heading_block left.placed ≡ false
      left_other = speech-other left.placed.block.kind first

      kept : middle.headings ≡ walk.headings
      kept = ap (λ b. cond b (walk.headings + 1) walk.headings) left_other

      kept_next : next.headings ≡ walk.headings
      kept_next = ap (λ b. cond b (middle.headings + 1) middle.headings) (speech-other right.placed.block.kind second) ∙ kept

      headings : middle.headings ≡ length (filter has_heading before)
      headings = kept ∙ stands.headings

      headings_next : next.headings ≡ length (filter has_heading before)
      headings_next = kept_next ∙ stands.headings

      headings_kept : next.headings ≡ cond (has_heading element) (walk.headings + 1) walk.headings
      headings_kept = kept_next ∙ sym (ap (λ b. cond b (walk.headings + 1) walk.headings) left_other)

  blocks-tell : (last : Option (List ℕ)) (blocks : List PlacedBlock) (walk : Walk) (before : List (Group Spoken)) (front : List LabelOf) → Starts walk blocks → Stands walk before front
      → Tells walk before front blocks (elements_of last blocks)
  blocks-tell last [] walk before front starts stands = λ labels split are. refl
  blocks-tell last (block ∷ []) walk before front starts stands =
      alone-tells walk before front (spoken_alone state.speakers state.lines last block).first [] [] starts stands
      (λ more behind. blocks-tell (after last block) [] (walked walk block) (before ++ spoken_alone state.speakers state.lines last block ∷ []) (front ++ more) tt behind)
  blocks-tell last (block ∷ next ∷ blocks) walk before front starts stands =
      elements-step (Tells walk before front (block ∷ next ∷ blocks)) state.speakers state.lines last block next blocks (is_dual block next) refl
      (λ apart.
      alone-tells walk before front (spoken_alone state.speakers state.lines last block).first (next ∷ blocks) (elements_of (after last block) (next ∷ blocks)) starts stands
      (λ more behind. blocks-tell (after last block) (next ∷ blocks) (walked walk block) (before ++ spoken_alone state.speakers state.lines last block ∷ []) (front ++ more)
      (starts-apart walk block next blocks apart) behind))
      (λ dual.
      let pair = spoken_pair state.speakers state.lines last block next in
      pair-tells walk before front pair.first (settled state.lines sides.Right (named_block state.speakers (line_texts state.lines) (after last block) next)) blocks (elements_of (after (after last block) next) blocks) dual starts stands
      (λ more behind. blocks-tell (after (after last block) next) blocks (walked (walked walk block) next) (before ++ pair ∷ []) (front ++ more) (starts-behind walk block next blocks dual) behind))

  -- The walks find the speeches of the state.
  pub walk-finds : said_from scenes (speech_sheets (body_sheets state) 0 (map shape_of (rows_in state))) (line_texts state.lines) walk_start (blocks_of (line_texts state.lines)) ≡ said_of state
  walk-finds =
      blocks-tell None (blocks_of (line_texts state.lines)) walk_start [] [] (starts-start (blocks_of (line_texts state.lines))) (record { headings = refl; speeches = refl })
      (speech_sheets (body_sheets state) 0 (map shape_of (rows_in state))) refl (speech-labels state)
