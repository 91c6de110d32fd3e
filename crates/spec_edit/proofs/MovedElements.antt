-- Elements whose lines stand elsewhere in another text keep their rows.
use Rattle.std.proofs.Common.{◌≡◌, ℕ, ◌+◌, ◌<◌, ◌≤◌, Bool, true, false, not, ◌&&◌, Option, List, [], ◌∷◌, ◌++◌, map, refl, sym, ap, ap₂, subst, ◌∙◌, arith}
use Rattle.std.specs.Prelude.{All}
use Rattle.std.proofs.lemmas.List.{map-append}
use Rattle.std.proofs.lemmas.List.Elements.{All-nil, All-cons, All-head, All-tail}
use Rattle.spec_text.specs.Lines.{LineState, line_texts}
use Rattle.spec_script.specs.BlockParts.{Rise, line_from, line_to}
use Rattle.spec_script.specs.BlockValues.{LineOf}
use Rattle.spec_script.specs.LongestRuns.{Group}
use Rattle.spec_script.specs.Stanzas.{PlacedBlock}
use Rattle.spec_script.specs.Elements.{is_speech_kind, is_dual, PlacesRise}
use Rattle.spec_script.proofs.RunSteps.{one_alone, two_together}
use Rattle.spec_pages.specs.declared.Side.{Side}
use Rattle.spec_pages.specs.declared.Side.TheVariants as sides
use Rattle.spec_pages.specs.Rows.{Row, ElementOf, line_state, single_rows, dual_rows, placed_rows}
use Rattle.spec_labels.specs.declared.RowKey.{RowKey}
use Rattle.spec_sheets.specs.Shown.{row_key}
use Rattle.spec_sheets.specs.Speakers.{Spoken, block_text, first_text, cue_text, name_in, speaker_after, speaker_by, is_last_speaker, named_block, settled, first_line_continued, last_row_continued, spoken_elements, shown_text}
use Rattle.spec_pages.specs.Columns.{width_of}
use Rattle.spec_pages.specs.Wrapping.{wrapped}
use Rattle.spec_sheets.specs.Layout.{laid_beside, laid_out, placed_in}
use Rattle.spec_sheets.proofs.SpokenLaws.{spoken_alone, spoken_pair, spoken_elements-alone, spoken_elements-pair}
use Rattle.spec_edit.specs.RowLines.{RowAt}
use Rattle.spec_edit.proofs.RowMoves.{row_to, SameText, texts_at, single-on, pair-on, BlockMoves, single-moved, pair-moved}
use Rattle.spec_edit.proofs.RowPlaces.{BlockAt, alone-at, beside-at, single-at, pair-at}
use Rattle.spec_edit.proofs.ItemMoves.{text-is}
use Rattle.spec_edit.specs.Moved.{moved_place, moved_block, moved_spoken, moved_group, moved_laid, BlockStays, speaker_behind}
use Rattle.spec_edit.proofs.RowShifts.{rows-same, rows-moved}

module _ (less more : ℕ) (lines later : List LineState) where
  abbrev Stays : PlacedBlock → Type 0
  Stays placed = BlockStays less more lines later placed

  abbrev move : PlacedBlock → PlacedBlock
  move placed = moved_block less more placed

  abbrev to : ℕ → ℕ
  to place = moved_place less more place

  -- Places of a block.
  place-in : (placed : PlacedBlock) (n : ℕ) → Stays placed → to (placed.first + n) ≡ (move placed).first + n
  place-in placed n it = let low = it.low in omega (arith, low)

  block-moves : (placed : PlacedBlock) → Stays placed → BlockMoves to lines later placed (move placed)
  block-moves placed it = record {
    block = refl;
    rise = it.rise;
    stands = record {
      place = λ n low high. place-in placed n it;
      line = λ n low high. subst (λ p. line_state later p ≡ line_state lines (placed.first + n)) (place-in placed n it) (it.line n low high);
    };
    some = it.some;
  }

  -- The lines at such places are the same, moved.
  abbrev pub SameLine : ℕ → Type 0
  SameLine place = line_state later (to place) ≡ line_state lines place

  same-lines : (placed : PlacedBlock) → Stays placed → BlockAt SameLine placed
  same-lines placed it n low high = it.line n low high

  same-texts : (placed : PlacedBlock) → Stays placed → BlockAt (SameText to (texts_at lines) (texts_at later)) placed
  same-texts placed it n low high = ap (λ (line : LineState). line.text) (it.line n low high)

  -- ---- rows

  single-stays : (placed : PlacedBlock) (continued : Bool) → Stays placed → single_rows later (move placed).first placed.block continued ≡ single_rows lines placed.first placed.block continued
  single-stays placed continued it =
      rows-same (move placed).first (single_rows later (move placed).first placed.block continued) (single_rows lines placed.first placed.block continued)
      (single-on later (move placed) continued
      ∙ single-moved to lines later placed (move placed) continued (block-moves placed it) (alone-at (SameText to (texts_at lines) (texts_at later)) lines placed (same-texts placed it) it.rise it.some)
      ∙ sym (ap (map (row_to to)) (single-on lines placed continued))
      ∙ rows-moved less more placed.first (single_rows lines placed.first placed.block continued) it.low)

  order-stays : (left right : PlacedBlock) → Stays left → left.first ≤ right.first → (move left).first ≤ (move right).first
  order-stays left right it order = let low = it.low in omega (arith, low, order)

  pair-stays : (left right : PlacedBlock) (continued second : Bool) → Stays left → Stays right → left.first ≤ right.first
      → dual_rows later (move left).first left.block continued (move right).first right.block second ≡ dual_rows lines left.first left.block continued right.first right.block second
  pair-stays left right continued second l r order =
      rows-same (move left).first (dual_rows later (move left).first left.block continued (move right).first right.block second) (dual_rows lines left.first left.block continued right.first right.block second)
      (pair-on later (move left) continued (move right) second (order-stays left right l order)
      ∙ pair-moved to lines later left right (move left) (move right) continued second (block-moves left l) (block-moves right r)
      (beside-at (SameText to (texts_at lines) (texts_at later)) lines left right (same-texts left l) (same-texts right r) l.rise r.rise)
      ∙ sym (ap (map (row_to to)) (pair-on lines left continued right second order))
      ∙ rows-moved less more left.first (dual_rows lines left.first left.block continued right.first right.block second) l.low)

  -- ---- elements

  abbrev pub StaysBeside : PlacedBlock → List Spoken → Type 0
  StaysBeside placed [] = Unit {0}
  StaysBeside placed (right ∷ []) = Stays right.placed × (placed.first ≤ right.placed.first)
  StaysBeside placed (right ∷ other ∷ others) = ⊥

  -- The blocks of an element stay.
  pub record GroupStays (group : Group Spoken) : Type 0 where
    pub first : Stays group.first.placed
    pub beside : StaysBeside group.first.placed group.more

  laid-by : (it : Spoken) (others : List Spoken) → Stays it.placed → StaysBeside it.placed others → laid_beside later (moved_spoken less more it) (map (moved_spoken less more) others) ≡ moved_laid less more (laid_beside lines it others)
  laid-by it [] stays beside = ap (λ (those : List Row). record { first = (move it.placed).first; rows = those }) (single-stays it.placed it.continued stays)
  laid-by it (right ∷ []) stays beside = ap (λ (those : List Row). record { first = (move it.placed).first; rows = those }) (pair-stays it.placed right.placed it.continued right.continued stays beside.0 beside.1)
  laid-by it (right ∷ other ∷ others) stays beside = absurd beside

  -- It keeps its rows.
  pub laid-stays : (group : Group Spoken) → GroupStays group → laid_out later (moved_group less more group) ≡ moved_laid less more (laid_out lines group)
  laid-stays group stays = laid-by group.first group.more stays.first stays.beside

  pub all-stay : (groups : List (Group Spoken)) → All GroupStays groups → map (laid_out later) (map (moved_group less more) groups) ≡ map (moved_laid less more) (map (laid_out lines) groups)
  all-stay [] all = refl
  all-stay (group ∷ groups) all =
      ap₂ (λ (e : ElementOf) (es : List ElementOf). e ∷ es) (laid-stays group (All-head GroupStays group groups all)) (all-stay groups (All-tail GroupStays group groups all))

  -- ---- keys

  laid-at : (it : Spoken) (others : List Spoken) → Stays it.placed → StaysBeside it.placed others → All (RowAt SameLine) (placed_rows (laid_beside lines it others))
  laid-at it [] stays beside =
      subst (All (RowAt SameLine)) (sym (single-on lines it.placed it.continued)) (single-at SameLine lines it.placed it.continued (same-lines it.placed stays) stays.rise stays.some)
  laid-at it (right ∷ []) stays beside =
      let r = beside.0 in
      subst (All (RowAt SameLine)) (sym (pair-on lines it.placed it.continued right.placed right.continued beside.1))
      (pair-at SameLine lines it.placed it.continued right.placed right.continued (same-lines it.placed stays) (same-lines right.placed r) stays.rise r.rise)
  laid-at it (right ∷ other ∷ others) stays beside = absurd beside

  keys-by : (those : List Row) → All (RowAt SameLine) those → map (row_key later) (map (row_to to) those) ≡ map (row_key lines) those
  keys-by [] all = refl
  keys-by (row ∷ those) all =
      ap₂ (λ (line : LineState) (keys : List RowKey). record { line = line.id; row = row.row } ∷ keys) ((All-head (RowAt SameLine) row those all).row) (keys-by those (All-tail (RowAt SameLine) row those all))

  low-by : (it : Spoken) (others : List Spoken) → Stays it.placed → less ≤ (laid_beside lines it others).first
  low-by it [] stays = stays.low
  low-by it (right ∷ others) stays = stays.low

  own-keys : (group : Group Spoken) → GroupStays group → map (row_key later) (placed_rows (moved_laid less more (laid_out lines group))) ≡ map (row_key lines) (placed_rows (laid_out lines group))
  own-keys group stays =
      let own = laid_out lines group in
      ap (map (row_key later)) (sym (rows-moved less more own.first own.rows (low-by group.first group.more stays.first)))
      ∙ keys-by (placed_rows own) (laid-at group.first group.more stays.first stays.beside)

  -- Their rows keep their keys.
  pub keys-stay : (groups : List (Group Spoken)) → All GroupStays groups
      → map (row_key later) (placed_in (map (moved_laid less more) (map (laid_out lines) groups))) ≡ map (row_key lines) (placed_in (map (laid_out lines) groups))
  keys-stay [] all = refl
  keys-stay (group ∷ groups) all =
      let own = laid_out lines group in
      let rest = map (laid_out lines) groups in
      map-append (row_key later) (placed_rows (moved_laid less more own)) (placed_in (map (moved_laid less more) rest))
      ∙ ap₂ (λ (a b : List RowKey). a ++ b) (own-keys group (All-head GroupStays group groups all)) (keys-stay groups (All-tail GroupStays group groups all))
      ∙ sym (map-append (row_key lines) (placed_rows own) (placed_in rest))

  -- ---- speakers

  text-stays : (placed : PlacedBlock) (line : LineOf) → Stays placed → placed.block.first ≤ line.offset → line.offset < placed.block.last + 1
      → block_text (line_texts later) (move placed).first line ≡ block_text (line_texts lines) placed.first line
  text-stays placed line it low high =
      text-is later ((move placed).first + line.offset)
      ∙ ap (λ (state : LineState). state.text) (subst (λ p. line_state later p ≡ line_state lines (placed.first + line.offset)) (place-in placed line.offset it) (it.line line.offset low high))
      ∙ sym (text-is lines (placed.first + line.offset))

  rise-order : (from high : ℕ) (those : List LineOf) → Rise line_from line_to from high those → from ≤ high
  rise-order from high [] rise = rise
  rise-order from high (line ∷ those) rise = omega (arith, rise.0, rise-order (line.offset + 1) high those rise.2)

  cue-by : (placed : PlacedBlock) (those : List LineOf) → Stays placed → Rise line_from line_to placed.block.first (placed.block.last + 1) those
      → first_text (line_texts later) (move placed).first those ≡ first_text (line_texts lines) placed.first those
  cue-by placed [] it rise = refl
  cue-by placed (line ∷ those) it rise =
      ap (λ text. shown_text text line.runs) (text-stays placed line it rise.0 (omega (arith, rise-order (line.offset + 1) (placed.block.last + 1) those rise.2)))

  pub cue-stays : (placed : PlacedBlock) → Stays placed → cue_text (line_texts later) (move placed) ≡ cue_text (line_texts lines) placed
  cue-stays placed it = cue-by placed placed.block.lines it it.rise

  pub speaker-stays : (last : Option (List ℕ)) (placed : PlacedBlock) → Stays placed → speaker_after (line_texts later) last (move placed) ≡ speaker_after (line_texts lines) last placed
  speaker-stays last placed it = ap (λ text. speaker_by placed.block.kind (name_in text) last) (cue-stays placed it)

  pub behind-stays : (last : Option (List ℕ)) (blocks : List PlacedBlock) → All Stays blocks → speaker_behind (line_texts later) last (map move blocks) ≡ speaker_behind (line_texts lines) last blocks
  behind-stays last [] all = refl
  behind-stays last (block ∷ blocks) all =
      ap (λ it. speaker_behind (line_texts later) it (map move blocks)) (speaker-stays last block (All-head Stays block blocks all))
      ∙ behind-stays (speaker_after (line_texts lines) last block) blocks (All-tail Stays block blocks all)

  ends-by : (side : Side) (placed : PlacedBlock) (those : List LineOf) → Stays placed → Rise line_from line_to placed.block.first (placed.block.last + 1) those
      → first_line_continued (line_texts later) side (move placed) those ≡ first_line_continued (line_texts lines) side placed those
  ends-by side placed [] it rise = refl
  ends-by side placed (line ∷ those) it rise =
      ap (λ text. last_row_continued text (wrapped text line.runs (width_of side placed.block.kind line.part)))
      (text-stays placed line it rise.0 (omega (arith, rise-order (line.offset + 1) (placed.block.last + 1) those rise.2)))

  -- Whether its speaker goes on.
  goes-stays : (on : Bool) (side : Side) (last : Option (List ℕ)) (placed : PlacedBlock) → Stays placed
      → settled later side (named_block on (line_texts later) last (move placed)) ≡ moved_spoken less more (settled lines side (named_block on (line_texts lines) last placed))
  goes-stays on side last placed it =
      ap₂ (λ (text : List ℕ) (ends : Bool). record { placed = move placed; continued = (on && is_speech_kind placed.block.kind && is_last_speaker last (name_in text)) && not ends })
      (cue-stays placed it) (ends-by side placed placed.block.lines it it.rise)

  -- ---- the elements of blocks

  -- The elements of blocks that stay are those before, moved, and their blocks stay.
  pub record SpokenStays (on : Bool) (last : Option (List ℕ)) (blocks : List PlacedBlock) : Type 0 where
    pub same : spoken_elements on later last (map move blocks) ≡ map (moved_group less more) (spoken_elements on lines last blocks)
    pub each : All GroupStays (spoken_elements on lines last blocks)

  one-more : (on : Bool) (last : Option (List ℕ)) (block next : PlacedBlock) (blocks : List PlacedBlock) → Stays block → Stays next → block.first ≤ next.first → (dual : Bool) → is_dual block next ≡ dual
      → SpokenStays on (speaker_after (line_texts lines) last block) (next ∷ blocks)
      → SpokenStays on (speaker_after (line_texts lines) (speaker_after (line_texts lines) last block) next) blocks
      → SpokenStays on last (block ∷ next ∷ blocks)
  one-more on last block next blocks here there order false apart behind past =
      let texts = line_texts lines in
      let rest = spoken_elements on lines (speaker_after texts last block) (next ∷ blocks) in
      let own = spoken_alone on lines last block in
      let split = spoken_elements-alone on lines last block next blocks apart in
      record {
        same = spoken_elements-alone on later last (move block) (move next) (map move blocks) apart
            ∙ ap₂ (λ (it : Spoken) (those : List (Group Spoken)). one_alone it ∷ those) (goes-stays on sides.Alone last block here)
            (ap (λ it. spoken_elements on later it (map move (next ∷ blocks))) (speaker-stays last block here) ∙ behind.same)
            ∙ sym (ap (map (moved_group less more)) split);
        each = subst (All GroupStays) (sym split) (All-cons GroupStays own rest (record { first = here; beside = tt }) behind.each);
      }
  one-more on last block next blocks here there order true both behind past =
      let texts = line_texts lines in
      let between = speaker_after texts last block in
      let rest = spoken_elements on lines (speaker_after texts between next) blocks in
      let own = spoken_pair on lines last block next in
      let split = spoken_elements-pair on lines last block next blocks both in
      let second : settled later sides.Right (named_block on (line_texts later) (speaker_after (line_texts later) last (move block)) (move next)) ≡ moved_spoken less more (settled lines sides.Right (named_block on texts between next)) =
      ap (λ it. settled later sides.Right (named_block on (line_texts later) it (move next))) (speaker-stays last block here) ∙ goes-stays on sides.Right between next there in
      record {
        same = spoken_elements-pair on later last (move block) (move next) (map move blocks) both
            ∙ ap₂ (λ (it other : Spoken). two_together it other ∷ spoken_elements on later (speaker_after (line_texts later) (speaker_after (line_texts later) last (move block)) (move next)) (map move blocks))
            (goes-stays on sides.Left last block here) second
            ∙ ap (λ (those : List (Group Spoken)). moved_group less more own ∷ those)
            (ap (λ it. spoken_elements on later it (map move blocks)) (ap (λ it. speaker_after (line_texts later) it (move next)) (speaker-stays last block here) ∙ speaker-stays between next there) ∙ past.same)
            ∙ sym (ap (map (moved_group less more)) split);
        each = subst (All GroupStays) (sym split) (All-cons GroupStays own rest (record { first = here; beside = (there, order) }) past.each);
      }

  pub spoken-stays : (on : Bool) (last : Option (List ℕ)) (place : ℕ) (blocks : List PlacedBlock) → All Stays blocks → PlacesRise place blocks → SpokenStays on last blocks
  spoken-stays on last place [] all rise = record { same = refl; each = All-nil GroupStays }
  spoken-stays on last place (block ∷ []) all rise =
      let here = All-head Stays block [] all in
      record {
        same = ap (λ (it : Spoken). one_alone it ∷ []) (goes-stays on sides.Alone last block here);
        each = All-cons GroupStays (spoken_alone on lines last block) [] (record { first = here; beside = tt }) (All-nil GroupStays);
      }
  spoken-stays on last place (block ∷ next ∷ blocks) all rise =
      let texts = line_texts lines in
      let behind = All-tail Stays block (next ∷ blocks) all in
      one-more on last block next blocks (All-head Stays block (next ∷ blocks) all) (All-head Stays next blocks behind) rise.1.0 (is_dual block next) refl
      (spoken-stays on (speaker_after texts last block) block.first (next ∷ blocks) behind rise.1)
      (spoken-stays on (speaker_after texts (speaker_after texts last block) next) next.first blocks (All-tail Stays next blocks behind) rise.1.1)
