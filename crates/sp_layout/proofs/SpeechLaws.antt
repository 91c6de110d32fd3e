-- The speech that comes first behind a part of a layout, with the rows that it has in the text after an edit.
use Rattle.std.proofs.Common.{◌≡◌, ◌⊎◌, ℕ, ◌+◌, ◌-◌, ◌<◌, ◌≤◌, true, false, Bool, ◌||◌, Option, Some, List, [], ◌∷◌, ◌++◌, length, map, take, drop, slice_get, slice_range, inl, inr, sym, ap, ap₂, subst, ◌∙◌, arith, append_assoc, length-append, length-drop, take-append-drop, drop_at, All}
use Rattle.std.specs.List.{list_any}
use Rattle.std.proofs.lemmas.List.{append-nil, drop_all, drop-append-le, length-map, length-take-le, map-append, take-append-le}
use Rattle.std.proofs.lemmas.List.Elements.{All-append, All-drop, All-head, All-tail}
use Rattle.std.proofs.lemmas.List.Folds.{drop_split, list_any-append}
use Rattle.std.proofs.lemmas.Option.{slice_get_within}
use Rattle.spec_text.specs.Lines.{LineState, TextState, IsText, line_texts}
use Rattle.spec_text.proofs.ListLaws.{All-back}
use Rattle.spec_script.specs.BlockValues.{BlockOf, StanzaOf}
use Rattle.spec_script.specs.Elements.{PlacesRise, is_speech_kind, placed_at}
use Rattle.spec_script.specs.LongestRuns.{Group}
use Rattle.spec_script.specs.Stanzas.{PlacedBlock, blocks_from, stanzas_of}
use Rattle.spec_pages.specs.Rows.{Row, ElementOf}
use Rattle.spec_sheets.specs.Speakers.{Spoken, spoken_elements}
use Rattle.spec_sheets.specs.Layout.{in_body, laid_out}
use Rattle.spec_sheets.proofs.RowLaws.{IsText-texts}
use Rattle.spec_edit.specs.Windows.{stanza_lines_in}
use Rattle.spec_edit.proofs.WindowBlocks.{blocks-append}
use Rattle.spec_edit.specs.Moved.{settles}
use Rattle.spec_edit.proofs.LayoutParts.{laid_of, laid-append}
use Rattle.spec_edit.proofs.PlacedElements.{element_first, spoken-firsts, laid-firsts}
use Rattle.spec_edit.proofs.RelaidStanzas.{front-stands}
use Rattle.spec_edit.proofs.StanzaBlocks.{any-blocks, any-placed, blocks-past, lines-append}
use Rattle.sp_gap.proofs.RunLaws.{slice-parts}
use Rattle.sp_layout.specs.Exchanges.{rows_at}
use Rattle.sp_layout.specs.Places.{ArePartedAt, CountsBefore}
use Rattle.sp_layout.proofs.ElementCounts.{counts-one, counts-parts}
use Rattle.sp_layout.specs.LaidOut.{LayoutOf, keyed}
use Rattle.sp_layout.specs.declared.speeches.BlockPlace.{BlockPlace}
use Rattle.sp_layout.specs.Changes.{IsSpeechIn, SpeechOf, with_speech}
use Rattle.sp_layout.specs.Speeches.{IsFirstSettling, IsSpeechElement, SpeaksNone, blocks_behind, body_blocks, first_goes_on}
use Rattle.sp_layout.proofs.SpokenAnew.{SpeechParts, first-rows, goes-behind, goes-past-heading, head_of, quiet-count, quiet-split, speech-in, speech-laid, speech-parts}
use Rattle.sp_reread.proofs.SettlingLaws.{drop-at}
use Rattle.sp_layout.proofs.StanzaLists.{one-there, take-split}

-- Blocks of the stanzas of a text from one on begin before a later one.
pub slice-low : (text : TextState) (stanzas : List StanzaOf) (from to : ℕ) → IsText text → stanzas ≡ stanzas_of (line_texts text.lines) → from ≤ to
    → All (λ (p : PlacedBlock). p.first < stanza_lines_in (take to stanzas)) (blocks_from (stanza_lines_in (take from stanzas)) (slice_range stanzas from to))
slice-low text stanzas from to keeps is order =
    let are = IsText-texts text keeps in
    let start : 0 + stanza_lines_in (take from stanzas) ≡ stanza_lines_in (take from stanzas) = omega arith in
    let P : PlacedBlock → Type 0 = λ (p : PlacedBlock). p.first < stanza_lines_in (take to stanzas) in
    let stands = front-stands (line_texts text.lines) (take to stanzas) (drop to stanzas) are.utf8 are.few (sym is ∙ sym (take-append-drop to stanzas)) in
    let all : blocks_from 0 (take to stanzas) ≡ blocks_from 0 (take from stanzas) ++ blocks_from (stanza_lines_in (take from stanzas)) (slice_range stanzas from to) =
    ap (blocks_from 0) (take-split stanzas from to order) ∙ blocks-append 0 (take from stanzas) (slice_range stanzas from to) ∙ ap (λ n. blocks_from 0 (take from stanzas) ++ blocks_from n (slice_range stanzas from to)) start in
    let each : All P (blocks_from 0 (take to stanzas)) = λ k d h. (stands.each k d h).below in
    All-back P (blocks_from 0 (take from stanzas)) (blocks_from (stanza_lines_in (take from stanzas)) (slice_range stanzas from to)) (subst (All P) all each)

-- Up to a stanza with blocks, and with it, there are blocks.
pub filled : (stanzas : List StanzaOf) (from place : ℕ) (s : StanzaOf) → from ≤ place → slice_get stanzas place ≡ Some s → 0 < length s.blocks → (p : ℕ) → 0 < length (blocks_from p (slice_range stanzas from (place + 1)))
filled stanzas from place s order there some p =
    let early = slice_range stanzas from place in
    let one : place + 1 - place ≡ 1 = omega arith in
    let own : slice_range stanzas place (place + 1) ≡ s ∷ [] = ap₂ (λ n (ss : List StanzaOf). take n ss) one (drop-at stanzas place s there) in
    let q = p + stanza_lines_in early in
    let all : blocks_from p (slice_range stanzas from (place + 1)) ≡ blocks_from p early ++ (map (placed_at q) s.blocks ++ []) =
    ap (blocks_from p) (sym (slice-parts stanzas from place (place + 1) order (omega arith))) ∙ blocks-append p early (slice_range stanzas place (place + 1)) ∙ ap (λ (ss : List StanzaOf). blocks_from p early ++ blocks_from q ss) own in
    omega (arith, ap (λ (bs : List PlacedBlock). length bs) all, length-append (blocks_from p early) (map (placed_at q) s.blocks ++ []), length-append (map (placed_at q) s.blocks) [], length-map s.blocks (placed_at q), some)

-- Blocks from a stanza on, before a later one and from that on.
pub behind-split : (stanzas : List StanzaOf) (from to : ℕ) → from ≤ to
    → blocks_behind stanzas from ≡ blocks_from (stanza_lines_in (take from stanzas)) (slice_range stanzas from to) ++ blocks_behind stanzas to
behind-split stanzas from to order =
    let first = stanza_lines_in (take from stanzas) in
    let early = slice_range stanzas from to in
    let sum : first + stanza_lines_in early ≡ stanza_lines_in (take to stanzas) = sym (ap stanza_lines_in (take-split stanzas from to order) ∙ lines-append (take from stanzas) early) in
    ap (blocks_from first) (drop_split stanzas from to order) ∙ blocks-append first early (drop to stanzas) ∙ ap (λ n. blocks_from first early ++ blocks_from n (drop to stanzas)) sum

rise-next : (low : ℕ) (blocks : List PlacedBlock) → All (λ (p : PlacedBlock). low ≤ p.first) blocks → PlacesRise low (take 1 blocks)
rise-next low [] all = tt
rise-next low (block ∷ blocks) all = (All-head (λ (p : PlacedBlock). low ≤ p.first) block blocks all, tt)

module _ (stanzas : List StanzaOf) (from : ℕ) (place : BlockPlace) (it : IsFirstSettling stanzas from place) where
  abbrev line : ℕ
  line = stanza_lines_in (take place.stanza stanzas)

  abbrev early : List PlacedBlock
  early = blocks_from (stanza_lines_in (take from stanzas)) (slice_range stanzas from place.stanza)

  abbrev ahead : List BlockOf
  ahead = take place.block it.stanza.blocks

  abbrev pub speech_at : PlacedBlock
  speech_at = placed_at line it.block

  abbrev pub blocks_past : List PlacedBlock
  blocks_past = map (placed_at line) (drop (place.block + 1) it.stanza.blocks) ++ blocks_from (line + it.stanza.lines) (drop (place.stanza + 1) stanzas)

  own-blocks : it.stanza.blocks ≡ ahead ++ it.block ∷ drop (place.block + 1) it.stanza.blocks
  own-blocks = sym (take-append-drop place.block it.stanza.blocks) ∙ ap (λ (bs : List BlockOf). ahead ++ bs) (drop-at it.stanza.blocks place.block it.block it.at)

  here : blocks_behind stanzas place.stanza ≡ map (placed_at line) ahead ++ speech_at ∷ blocks_past
  here =
      let rest = drop (place.block + 1) it.stanza.blocks in
      let behind = blocks_from (line + it.stanza.lines) (drop (place.stanza + 1) stanzas) in
      ap (blocks_from line) (drop-at stanzas place.stanza it.stanza it.there)
      ∙ ap (λ (bs : List PlacedBlock). bs ++ behind) (ap (map (placed_at line)) own-blocks ∙ map-append (placed_at line) ahead (it.block ∷ rest))
      ∙ append_assoc (map (placed_at line) ahead) (speech_at ∷ map (placed_at line) rest) behind

  ahead-count : length (map (placed_at line) ahead) ≡ place.block
  ahead-count =
      let inside = slice_get_within it.stanza.blocks place.block it.block it.at in
      length-map ahead (placed_at line) ∙ length-take-le place.block it.stanza.blocks (omega (arith, inside))

  -- The speech, and what stands behind it.
  pub from-speech : drop place.block (blocks_behind stanzas place.stanza) ≡ speech_at ∷ blocks_past
  from-speech = ap (drop place.block) here ∙ drop_at (map (placed_at line) ahead) (speech_at ∷ blocks_past) place.block ahead-count

  ahead-none : list_any settles (map (placed_at line) ahead) ≡ false
  ahead-none = any-placed line ahead ∙ it.none

  early-none : list_any settles early ≡ false
  early-none = any-blocks (stanza_lines_in (take from stanzas)) (slice_range stanzas from place.stanza) ∙ it.quiet

  abbrev quiet : List PlacedBlock
  quiet = early ++ map (placed_at line) ahead

  quiet-none : list_any settles quiet ≡ false
  quiet-none = list_any-append settles early (map (placed_at line) ahead) ∙ ap₂ (λ a b. a || b) early-none ahead-none

  pub from-quiet : blocks_behind stanzas from ≡ quiet ++ speech_at ∷ blocks_past
  from-quiet = behind-split stanzas from place.stanza it.low ∙ ap (λ (bs : List PlacedBlock). early ++ bs) here ∙ sym (append_assoc early (map (placed_at line) ahead) (speech_at ∷ blocks_past))

  -- The speech and the block behind it stand in the stanzas up to the next one with blocks.
  pub two-are : (until : ℕ) → place.stanza + 1 ≤ until → until ≤ length stanzas → (until ≡ length stanzas) ⊎ ((p : ℕ) → 0 < length (blocks_from p (slice_range stanzas (place.stanza + 1) until)))
      → take 2 (drop place.block (blocks_from line (slice_range stanzas place.stanza until))) ≡ speech_at ∷ take 1 blocks_past
  two-are until low within some =
      let b = place.block in
      let inside = slice_get_within it.stanza.blocks b it.block it.at in
      let one : place.stanza + 1 - place.stanza ≡ 1 = omega arith in
      let own : slice_range stanzas place.stanza (place.stanza + 1) ≡ it.stanza ∷ [] = ap₂ (λ n (ss : List StanzaOf). take n ss) one (drop-at stanzas place.stanza it.stanza it.there) in
      let mine = blocks_from line (slice_range stanzas place.stanza until) in
      let more = blocks_from (line + it.stanza.lines) (slice_range stanzas (place.stanza + 1) until) in
      let parts : mine ≡ map (placed_at line) it.stanza.blocks ++ more =
      ap (blocks_from line) (sym (slice-parts stanzas place.stanza (place.stanza + 1) until (omega arith) low) ∙ ap (λ (ss : List StanzaOf). ss ++ slice_range stanzas (place.stanza + 1) until) own) in
      let count : length mine ≡ length it.stanza.blocks + length more =
      omega (arith, ap (λ (bs : List PlacedBlock). length bs) parts, length-append (map (placed_at line) it.stanza.blocks) more, length-map it.stanza.blocks (placed_at line)) in
      let rest = blocks_from (line + stanza_lines_in (slice_range stanzas place.stanza until)) (drop until stanzas) in
      let all : blocks_behind stanzas place.stanza ≡ mine ++ rest =
      ap (blocks_from line) (drop_split stanzas place.stanza until (omega (arith, low))) ∙ blocks-append line (slice_range stanzas place.stanza until) (drop until stanzas) in
      let cut : drop b (mine ++ rest) ≡ drop b mine ++ rest = drop-append-le b mine rest (omega (arith, inside, count)) in
      let same : take 2 (drop b mine) ≡ take 2 (drop b (mine ++ rest)) = elim some [
        | inl last ↦
            let none : rest ≡ [] = ap (blocks_from (line + stanza_lines_in (slice_range stanzas place.stanza until))) (drop_all until stanzas (omega (arith, last))) in
            ap (take 2) (sym (append-nil (drop b mine)) ∙ ap (λ (bs : List PlacedBlock). drop b mine ++ bs) (sym none) ∙ sym cut)
        | inr filled ↦
            let few = filled (line + it.stanza.lines) in
            sym (ap (take 2) cut ∙ take-append-le 2 (drop b mine) rest (omega (arith, few, count, inside, length-drop b mine)))
      ] in
      same ∙ ap (λ (bs : List PlacedBlock). take 2 (drop b bs)) (sym all) ∙ ap (take 2) from-speech

  pub two-rise : PlacesRise 0 (speech_at ∷ take 1 blocks_past)
  two-rise =
      let P : PlacedBlock → Type 0 = λ (p : PlacedBlock). line ≤ p.first in
      let all = All-drop P place.block (blocks_behind stanzas place.stanza) (blocks-past line line (drop place.stanza stanzas) (omega arith)) in
      (omega arith, rise-next line blocks_past (All-tail P speech_at blocks_past (subst (All P) from-speech all)))

  -- A heading comes first.
  pub heading-first : settles speech_at ≡ true → is_speech_kind it.block.kind ≡ false → SpeaksNone stanzas from
  heading-first some none texts last =
      ap (first_goes_on texts last) from-quiet ∙ goes-behind texts last quiet (speech_at ∷ blocks_past) quiet-none ∙ goes-past-heading texts last speech_at blocks_past some none

  -- Whether the speech goes on tells it for all.
  pub goes-at : (texts : List (List ℕ)) (last : Option (List ℕ)) → first_goes_on texts last (blocks_behind stanzas from) ≡ first_goes_on texts last (speech_at ∷ blocks_past)
  goes-at texts last = ap (first_goes_on texts last) from-quiet ∙ goes-behind texts last quiet (speech_at ∷ blocks_past) quiet-none

  module _ (says : is_speech_kind it.block.kind ≡ true) (text : TextState) (keeps : IsText text) (list : stanzas ≡ stanzas_of (line_texts text.lines)) (on : Bool) (one other : Option (List ℕ)) (front : List (Group Spoken)) (layout : LayoutOf)
      (was : layout ≡ keyed text.lines (front ++ spoken_elements on text.lines one (blocks_behind stanzas from))) (low : All (λ (g : Group Spoken). element_first g < stanza_lines_in (take from stanzas)) front) where
    abbrev ls : List LineState
    ls = text.lines

    pub parts : SpeechParts on ls one other quiet speech_at blocks_past
    parts = speech-parts on ls one other quiet speech_at blocks_past quiet-none says

    -- The elements before the stanza of the speech, and from it on.
    abbrev till : List (Group Spoken)
    till = front ++ spoken_elements on ls one early

    abbrev onward : List (Group Spoken)
    onward = spoken_elements on ls one (blocks_behind stanzas place.stanza)

    in-two : front ++ spoken_elements on ls one (blocks_behind stanzas from) ≡ till ++ onward
    in-two =
        ap (λ (bs : List PlacedBlock). front ++ spoken_elements on ls one bs) (behind-split stanzas from place.stanza it.low)
        ∙ ap (λ (gs : List (Group Spoken)). front ++ gs) (quiet-split on ls one early (blocks_behind stanzas place.stanza) early-none)
        ∙ sym (append_assoc front (spoken_elements on ls one early) onward)

    body-two : layout.body.elements ≡ laid_of in_body ls till ++ laid_of in_body ls onward
    body-two = ap (λ (l : LayoutOf). l.body.elements) was ∙ ap (laid_of in_body ls) in-two ∙ laid-append in_body ls till onward

    counts : CountsBefore layout.body.elements line (length (laid_of in_body ls till))
    counts =
        let P : Group Spoken → Type 0 = λ (g : Group Spoken). element_first g < line in
        let Q : Group Spoken → Type 0 = λ (g : Group Spoken). line ≤ element_first g in
        let sum = ap stanza_lines_in (take-split stanzas from place.stanza it.low) ∙ lines-append (take from stanzas) (slice_range stanzas from place.stanza) in
        let first : All P front = λ k d h. let below = low k d h in omega (arith, below, sum) in
        let next : All P (spoken_elements on ls one early) = spoken-firsts on ls one (λ (p : PlacedBlock). p.first < line) early (slice-low text stanzas from place.stanza keeps list it.low) in
        let last : All Q onward = spoken-firsts on ls one (λ (p : PlacedBlock). line ≤ p.first) (blocks_behind stanzas place.stanza) (blocks-past line line (drop place.stanza stanzas) (omega arith)) in
        subst (λ (es : List ElementOf). CountsBefore es line (length (laid_of in_body ls till))) (sym body-two)
        (counts-parts line (laid_of in_body ls till) (laid_of in_body ls onward)
        (laid-firsts (λ n. n < line) in_body ls till (All-append P front (spoken_elements on ls one early) first next)) (laid-firsts (λ n. line ≤ n) in_body ls onward last))

    pub parted-at : ArePartedAt layout.body.elements line
    parted-at = record { count = length (laid_of in_body ls till); is = counts }

    pub element-is : (element : ℕ) → IsSpeechElement stanzas layout.body.elements place element → element ≡ length (laid_of in_body ls (front ++ parts.front))
    element-is element is =
        let same = counts-one layout.body.elements line is.count (length (laid_of in_body ls till)) is.before counts in
        let own : is.stanza ≡ it.stanza = one-there stanzas place.stanza is.stanza it.stanza is.there it.there in
        let count : body_blocks (take place.block is.stanza.blocks) ≡ body_blocks ahead = ap (λ (s : StanzaOf). body_blocks (take place.block s.blocks)) own in
        let split : parts.front ≡ spoken_elements on ls one early ++ spoken_elements on ls one (map (placed_at line) ahead) = parts.front_is ∙ quiet-split on ls one early (map (placed_at line) ahead) early-none in
        let all : laid_of in_body ls (front ++ parts.front) ≡ laid_of in_body ls till ++ laid_of in_body ls (spoken_elements on ls one (map (placed_at line) ahead)) =
        ap (λ (gs : List (Group Spoken)). laid_of in_body ls (front ++ gs)) split ∙ ap (laid_of in_body ls) (sym (append_assoc front (spoken_elements on ls one early) (spoken_elements on ls one (map (placed_at line) ahead))))
        ∙ laid-append in_body ls till (spoken_elements on ls one (map (placed_at line) ahead)) in
        omega (arith, is.is, same, count, ap (λ (es : List ElementOf). length es) all, length-append (laid_of in_body ls till) (laid_of in_body ls (spoken_elements on ls one (map (placed_at line) ahead))), quiet-count on ls one line ahead ahead-none)

    -- With the rows behind the other speaker it is the layout of the elements behind that one.
    pub record SpeechDone (speech : SpeechOf) : Type 0 where
      pub in_it : IsSpeechIn layout (length (laid_of in_body ls front)) speech
      pub laid : with_speech layout (Some speech) ≡ keyed ls (front ++ spoken_elements on ls other (blocks_behind stanzas from))

    pub speech-done : (speech : SpeechOf) → IsSpeechElement stanzas layout.body.elements place speech.element
        → speech.rows ≡ rows_at (laid_of in_body ls (spoken_elements on ls other (take 2 (drop place.block (blocks_behind stanzas place.stanza))))) 0 → SpeechDone speech
    speech-done speech element rows =
        let fore = front ++ parts.front in
        let new = head_of on ls other speech_at blocks_past in
        let old = head_of on ls one speech_at blocks_past in
        let own : SpeechOf = record { element = length (laid_of in_body ls fore); rows = (laid_out ls new).rows } in
        let is : speech ≡ own = ap₂ (λ n (those : List Row). record { element = n; rows = those }) (element-is speech.element element)
        (rows ∙ ap (λ (bs : List PlacedBlock). rows_at (laid_of in_body ls (spoken_elements on ls other (take 2 bs))) 0) from-speech ∙ first-rows on ls other speech_at blocks_past says) in
        let old_is : layout ≡ keyed ls (fore ++ old ∷ parts.later) =
        was ∙ ap (λ (gs : List (Group Spoken)). keyed ls gs) (ap (λ (bs : List PlacedBlock). front ++ spoken_elements on ls one bs) from-quiet ∙ ap (λ (gs : List (Group Spoken)). front ++ gs) parts.old ∙ sym (append_assoc front parts.front (old ∷ parts.later))) in
        let new_is : front ++ spoken_elements on ls other (blocks_behind stanzas from) ≡ fore ++ new ∷ parts.later =
        ap (λ (bs : List PlacedBlock). front ++ spoken_elements on ls other bs) from-quiet ∙ ap (λ (gs : List (Group Spoken)). front ++ gs) parts.new ∙ sym (append_assoc front parts.front (new ∷ parts.later)) in
        let inner = subst (IsSpeechIn layout 0) (sym is) (subst (λ (l : LayoutOf). IsSpeechIn l 0 own) (sym old_is) (speech-in ls fore new old parts.later parts.alike)) in
        record {
          in_it = record {
            behind = omega (arith, element-is speech.element element, ap (λ (es : List ElementOf). length es) (laid-append in_body ls front parts.front), length-append (laid_of in_body ls front) (laid_of in_body ls parts.front));
            inside = inner.inside;
            alike = inner.alike;
          };
          laid = ap₂ (λ (l : LayoutOf) (s : SpeechOf). with_speech l (Some s)) old_is is ∙ speech-laid ls fore new old parts.later parts.alike ∙ sym (ap (λ (gs : List (Group Spoken)). keyed ls gs) new_is);
        }
