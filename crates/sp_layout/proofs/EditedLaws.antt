-- The part of a layout that an edit changes, by the stanzas round its window.
use Rattle.std.proofs.Common.{◌≡◌, ◌⊎◌, ℕ, ◌+◌, ◌-◌, ◌<◌, ◌≤◌, Bool, true, false, cond, Option, None, List, [], ◌++◌, length, map, get_or, take, drop, slice_range, inl, inr, refl, sym, ap, ap₂, subst, ◌∙◌, arith, append_assoc, length-append, take-append-drop, get_or-take, get_or-drop, All}
use Rattle.std.specs.List.{list_any}
use Rattle.std.proofs.lemmas.List.{append-nil, drop_all, length-map}
use Rattle.std.proofs.lemmas.List.Elements.{All-append}
use Rattle.std.proofs.lemmas.List.Folds.{drop_split}
use Rattle.spec_text.specs.Lines.{LineState, TextState, IsText, line_texts}
use Rattle.spec_text.proofs.ListLaws.{All-front, All-back}
use Rattle.spec_script.specs.BlockValues.{StanzaOf}
use Rattle.spec_script.specs.Elements.{PlacedLies}
use Rattle.spec_script.specs.LongestRuns.{Group}
use Rattle.spec_script.specs.Stanzas.{PlacedBlock, blocks_from, blocks_of, stanzas_of}
use Rattle.spec_script.proofs.BlockPlaces.{blocks_of-lie}
use Rattle.spec_pages.specs.Rows.{ElementOf, line_state}
use Rattle.spec_sheets.specs.Speakers.{Spoken, spoken_elements, text_elements}
use Rattle.spec_sheets.proofs.RowLaws.{IsText-texts}
use Rattle.spec_sheets.proofs.SpokenLaws.{spoken_elements-off}
use Rattle.spec_edit.specs.Settling.{stanza_settles}
use Rattle.spec_edit.specs.Windows.{stanza_lines_in}
use Rattle.spec_edit.proofs.Counts.{count-from}
use Rattle.spec_edit.specs.Moved.{moved_place, moved_block, moved_group, speaker_behind}
use Rattle.spec_edit.specs.RelaidBlocks.{AreRelaid}
use Rattle.spec_edit.specs.RelaidStanzas.{ClosesApart, OpensApart, StanzasRelaid}
use Rattle.spec_edit.proofs.PlacedElements.{element_first, spoken-firsts}
use Rattle.spec_edit.proofs.LayoutParts.{laid_of, laid-append}
use Rattle.spec_edit.proofs.RelaidParts.{ElementsRelaid, elements-relaid}
use Rattle.spec_edit.proofs.MovedElements.{GroupStays}
use Rattle.spec_edit.proofs.RelaidStanzas.{front-stands, old-last, stanzas-relaid}
use Rattle.spec_edit.proofs.Parts.{behind-append, behind-settled}
use Rattle.spec_edit.proofs.StanzaBlocks.{any-blocks, blocks-moved, blocks-past, blocks-three, closes-more, lines-append, opens-more}
use Rattle.spec_edit.proofs.WindowBlocks.{blocks-append}
use Rattle.spec_sheets.specs.Layout.{is_title_element, in_body}
use Rattle.sp_layout.specs.LaidOut.{break_places, layout_behind, LayoutOf}
use Rattle.sp_layout.specs.Speaking.{SpeakersOf, speakers_after}
use Rattle.sp_gap.proofs.RunLaws.{slice-parts}
use Rattle.sp_reread.specs.Cache.{GivesBack, SwappedState}
use Rattle.sp_layout.specs.declared.edges.PartEdge.{PartEdge}
use Rattle.sp_layout.specs.declared.kept.PartPlaces.{PartPlaces}
use Rattle.sp_layout.specs.Kept.{CanSwap}
use Rattle.sp_layout.specs.Relaid.{IsRelaid, places_of}
use Rattle.sp_layout.specs.Speeches.{LastOf, blocks_behind}
use Rattle.sp_layout.specs.Edges.{CanPart, CanBegin, CanEnd, IsEdge, IsNearestBegin, IsNearestEnd, IsPartBegin, IsPartEnd, edge_places}
use Rattle.sp_layout.specs.Edited.{AreAlike, IsEdited, WasLaid, blocks_in, elements_at, last_behind, old_speakers, window_start, window_end, window_was}
use Rattle.sp_layout.proofs.BreakLaws.{breaks-append, elements_in}
use Rattle.sp_layout.proofs.StanzaLists.{take-split, part-four, opens-slice}
use Rattle.sp_layout.proofs.SpeakerLaws.{behind-quiet}
use Rattle.sp_layout.proofs.SpeechLaws.{slice-low}
use Rattle.sp_layout.proofs.EdgeLaws.{EdgeIs, edge-is, edge-last, can-part}
use Rattle.sp_layout.proofs.SwapLaws.{relaid-can}
use Rattle.sp_layout.proofs.FewBlocks.{ahead-few, behind-few, blocks-append as blocks_in-append, blocks-placed, elements-few, laid-count}

-- Where speakers who go on aren't told, nobody is remembered.
pub spoken-last : (on : Bool) (lines : List LineState) (last : Option (List ℕ)) (blocks : List PlacedBlock) → spoken_elements on lines (cond on last None) blocks ≡ spoken_elements on lines last blocks
spoken-last true lines last blocks = refl
spoken-last false lines last blocks = spoken_elements-off lines None last blocks

-- Who spoke last before a stanza, by those up to an earlier one and those behind it.
behind-to : (texts : List (List ℕ)) (stanzas : List StanzaOf) (from to : ℕ) → from ≤ to
    → speaker_behind texts None (blocks_from 0 (take to stanzas))
    ≡ speaker_behind texts (speaker_behind texts None (blocks_from 0 (take from stanzas))) (blocks_from (stanza_lines_in (take from stanzas)) (slice_range stanzas from to))
behind-to texts stanzas from to order =
    let start : 0 + stanza_lines_in (take from stanzas) ≡ stanza_lines_in (take from stanzas) = omega arith in
    let one = blocks_from 0 (take from stanzas) in
    let two = blocks_from (stanza_lines_in (take from stanzas)) (slice_range stanzas from to) in
    let blocks : blocks_from 0 (take to stanzas) ≡ one ++ two =
    ap (blocks_from 0) (take-split stanzas from to order) ∙ blocks-append 0 (take from stanzas) (slice_range stanzas from to) ∙ ap (λ n. one ++ blocks_from n (slice_range stanzas from to)) start in
    ap (speaker_behind texts None) blocks ∙ behind-append texts None one two

-- The same behind the window of an edit, in the text before it.
pub behind-window : (texts : List (List ℕ)) (stanzas : List StanzaOf) (swapped : SwappedState)
    → speaker_behind texts None (blocks_from 0 (take swapped.at stanzas ++ swapped.stanzas))
    ≡ speaker_behind texts (speaker_behind texts None (blocks_from 0 (take swapped.at stanzas))) (blocks_from (window_start stanzas swapped) swapped.stanzas)
behind-window texts stanzas swapped =
    let start : 0 + window_start stanzas swapped ≡ window_start stanzas swapped = omega arith in
    let one = blocks_from 0 (take swapped.at stanzas) in
    ap (speaker_behind texts None) (blocks-append 0 (take swapped.at stanzas) swapped.stanzas ∙ ap (λ n. one ++ blocks_from n swapped.stanzas) start)
    ∙ behind-append texts None one (blocks_from (window_start stanzas swapped) swapped.stanzas)

-- Where speakers who go on are told, it matters who spoke last.
spoken-at : (on : Bool) (lines : List LineState) (one other : Option (List ℕ)) (blocks : List PlacedBlock) → (on ≡ true → one ≡ other) → spoken_elements on lines one blocks ≡ spoken_elements on lines other blocks
spoken-at true lines one other blocks same = ap (λ who. spoken_elements true lines who blocks) (same refl)
spoken-at false lines one other blocks same = spoken_elements-off lines one other blocks

-- Who spoke last, where it is told.
told-last : (on : Bool) (texts : List (List ℕ)) (blocks : List PlacedBlock) → on ≡ true → (speakers_after texts on blocks).last ≡ speaker_behind texts None blocks
told-last true texts blocks is = refl
told-last false texts blocks is = cc

-- Lines in front of a place are those of another text.
pub still-by : (before lines : List LineState) (count : ℕ) → take count before ≡ take count lines → (place : ℕ) → place < count → line_state lines place ≡ line_state before place
still-by before lines count same place low =
    let d : LineState = record { id = 0; mark = 0; text = [] } in
    sym (get_or-take count lines place d low) ∙ ap (λ (ls : List LineState). get_or ls place d) (sym same) ∙ get_or-take count before place d low

places-same : (a b c d e f a' b' c' d' e' f' less more : ℕ) → a ≡ a' → b ≡ b' → c ≡ c' → d ≡ d' → e ≡ e' → f ≡ f'
    → let P : PartPlaces = record { title_from = a; title_to = b; from = c; to = d; break_from = e; break_to = f; less = less; more = more } in
    P ≡ record { title_from = a'; title_to = b'; from = c'; to = d'; break_from = e'; break_to = f'; less = less; more = more }
places-same a b c d e f a' b' c' d' e' f' less more one two three four five six =
    ap₂ (λ x y. record { title_from = x; title_to = y; from = c; to = d; break_from = e; break_to = f; less = less; more = more }) one two
    ∙ ap₂ (λ x y. record { title_from = a'; title_to = b'; from = x; to = y; break_from = e; break_to = f; less = less; more = more }) three four
    ∙ ap₂ (λ x y. record { title_from = a'; title_to = b'; from = c'; to = d'; break_from = x; break_to = y; less = less; more = more }) five six

-- The elements behind a part that is laid out anew: as they were, and in the text after the edit. Those in front begin before them, and
-- the lines of all stay.
pub record IsLaidBehind (olds before lines : List LineState) (stanzas : List StanzaOf) (swapped : SwappedState) (on : Bool) (stop : PartEdge) (speakers : SpeakersOf) (blocks : List PlacedBlock) (places : PartPlaces) (layout : LayoutOf)
    (it : IsRelaid before lines speakers blocks places layout) : Type 0 where
  pub rest_now : map (moved_group places.less places.more) it.rest ≡ spoken_elements on lines (last_behind olds lines stanzas swapped on stop.stanza).before.last (blocks_behind stanzas stop.stanza)
  pub said_now : it.said ≡ spoken_elements on lines (last_behind olds lines stanzas swapped on stop.stanza).after.last (blocks_behind stanzas stop.stanza)
  pub low : All (λ (g : Group Spoken). element_first g < stanza_lines_in (take stop.stanza stanzas)) (it.front ++ spoken_elements speakers.on lines speakers.last blocks)
  pub stood : List (Group Spoken)
  pub stood_is : it.said ≡ map (moved_group places.less places.more) stood
  pub stays : All (GroupStays places.less places.more before lines) stood

module _ (was_lines : List LineState) (lines : TextState) (stanzas : List StanzaOf) (swapped : SwappedState) (on : Bool) (layout : LayoutOf) (it : WasLaid was_lines lines.lines stanzas swapped on layout) where
  abbrev at : ℕ
  at = swapped.at

  abbrev to : ℕ
  to = swapped.at + swapped.stands

  abbrev was : ℕ
  was = window_was stanzas swapped

  abbrev end : ℕ
  end = window_end stanzas swapped

  abbrev olds : List StanzaOf
  olds = stanzas_of (line_texts it.before.lines)

  -- The stanzas of the text before the edit.
  old-stanzas : olds ≡ take at stanzas ++ (swapped.stanzas ++ drop to stanzas)
  old-stanzas = sym it.of.back.gives

  -- They have no more lines than a text.
  pub old-few : stanza_lines_in swapped.stanzas ≤ 200000
  old-few =
      let few = it.of.keeps.count in
      let count = count-from (line_texts it.before.lines) 0 in
      let size = length-map it.before.lines (λ (line : LineState). line.text) in
      omega (arith, few, count, size, ap stanza_lines_in old-stanzas, lines-append (take at stanzas) (swapped.stanzas ++ drop to stanzas), lines-append swapped.stanzas (drop to stanzas))

  -- Those in front of a place before the window, and those behind it.
  old-before : (i : ℕ) → i ≤ at → olds ≡ take i stanzas ++ (slice_range stanzas i at ++ (swapped.stanzas ++ drop to stanzas))
  old-before i low =
      old-stanzas ∙ ap (λ (ss : List StanzaOf). ss ++ (swapped.stanzas ++ drop to stanzas)) (take-split stanzas i at low) ∙ append_assoc (take i stanzas) (slice_range stanzas i at) (swapped.stanzas ++ drop to stanzas)

  pub can-begin : CanBegin stanzas at layout
  can-begin = record {
    opens = λ i low opens.
        can-part on it.before layout it.of.keeps it.of.was (take i stanzas) (slice_range stanzas i at ++ (swapped.stanzas ++ drop to stanzas)) (old-before i (omega (arith, low)))
        (inr (opens-more (slice_range stanzas i at) (swapped.stanzas ++ drop to stanzas) (opens-slice stanzas i at low opens)));
    closes = λ i low closes. can-part on it.before layout it.of.keeps it.of.was (take i stanzas) (slice_range stanzas i at ++ (swapped.stanzas ++ drop to stanzas)) (old-before i low) (inl closes);
  }

  pub can-begin-window : OpensApart swapped.stanzas → CanPart layout (stanza_lines_in (take at stanzas))
  can-begin-window opens = can-part on it.before layout it.of.keeps it.of.was (take at stanzas) (swapped.stanzas ++ drop to stanzas) old-stanzas (inr (opens-more swapped.stanzas (drop to stanzas) opens))

  can-end-where : (i : ℕ) → to ≤ i → ClosesApart (slice_range stanzas to i) ⊎ OpensApart (drop i stanzas) → CanPart layout (moved_place end was (stanza_lines_in (take i stanzas)))
  can-end-where i low apart =
      let later = slice_range stanzas to i in
      let front = take at stanzas ++ (swapped.stanzas ++ later) in
      let is : olds ≡ front ++ drop i stanzas =
      old-stanzas ∙ ap (λ (ss : List StanzaOf). take at stanzas ++ (swapped.stanzas ++ ss)) (drop_split stanzas to i low) ∙ part-four (take at stanzas) swapped.stanzas later (drop i stanzas) in
      let sum : stanza_lines_in (take i stanzas) ≡ end + stanza_lines_in later = ap stanza_lines_in (take-split stanzas to i low) ∙ lines-append (take to stanzas) later in
      let line : stanza_lines_in front ≡ moved_place end was (stanza_lines_in (take i stanzas)) =
      omega (arith, sum, lines-append (take at stanzas) (swapped.stanzas ++ later), lines-append swapped.stanzas later) in
      let both : ClosesApart front ⊎ OpensApart (drop i stanzas) = elim apart [
        | inl closes ↦ inl (closes-more (take at stanzas) (swapped.stanzas ++ later) (closes-more swapped.stanzas later closes))
        | inr opens ↦ inr opens
      ] in
      subst (CanPart layout) line (can-part on it.before layout it.of.keeps it.of.was front (drop i stanzas) is both)

  pub can-end : CanEnd stanzas to was end layout
  can-end = record {
    opens = λ i low inside opens. can-end-where i low (inr opens);
    closes = λ i low within closes. can-end-where i (omega (arith, low)) (inl closes);
  }

  -- The lines outside the window.
  lines-still : (place : ℕ) → place < window_start stanzas swapped → line_state lines.lines place ≡ line_state it.before.lines place
  lines-still = still-by it.before.lines lines.lines (window_start stanzas swapped) it.of.front

  lines-moved : (place : ℕ) → was ≤ place → line_state lines.lines (moved_place was end place) ≡ line_state it.before.lines place
  lines-moved place low =
      let d : LineState = record { id = 0; mark = 0; text = [] } in
      let n = place - was in
      let here : moved_place was end place ≡ end + n = omega arith in
      let there : was + n ≡ place = omega (arith, low) in
      ap (λ p. get_or lines.lines p d) here ∙ sym (get_or-drop end lines.lines n d) ∙ ap (λ (ls : List LineState). get_or ls n d) (sym it.of.rest) ∙ get_or-drop was it.before.lines n d ∙ ap (λ p. get_or it.before.lines p d) there

  module _ (list : stanzas ≡ stanzas_of (line_texts lines.lines)) (keeps : IsText lines) (start stop : PartEdge) (begins : IsPartBegin stanzas swapped layout start) (ends : IsPartEnd stanzas to was end layout stop) where
    abbrev front : List StanzaOf
    front = take start.stanza stanzas

    abbrev ahead : List StanzaOf
    ahead = slice_range stanzas start.stanza at

    abbrev come : List StanzaOf
    come = slice_range stanzas at to

    abbrev behind : List StanzaOf
    behind = slice_range stanzas to stop.stanza

    abbrev rest : List StanzaOf
    rest = drop stop.stanza stanzas

    abbrev gone : List StanzaOf
    gone = swapped.stanzas

    abbrev blocks : List PlacedBlock
    blocks = blocks_from (stanza_lines_in front) (slice_range stanzas start.stanza stop.stanza)

    abbrev speakers : SpeakersOf
    speakers = speakers_after (line_texts lines.lines) on (blocks_from 0 front)

    abbrev places : PartPlaces
    places = edge_places start stop was end

    inner : drop to stanzas ≡ behind ++ rest
    inner = drop_split stanzas to stop.stanza ends.low

    window : slice_range stanzas start.stanza stop.stanza ≡ ahead ++ (come ++ behind)
    window =
        let one = begins.within in
        let two = ends.low in
        sym (slice-parts stanzas start.stanza at stop.stanza one (omega (arith, two))) ∙ ap (λ (ss : List StanzaOf). ahead ++ ss) (sym (slice-parts stanzas at to stop.stanza (omega arith) two))

    -- The stanzas of both texts, of which some behind the window are laid out anew.
    old-front : olds ≡ front ++ (ahead ++ (gone ++ drop to stanzas))
    old-front =
        old-stanzas ∙ ap (λ (ss : List StanzaOf). ss ++ (gone ++ drop to stanzas)) (take-split stanzas start.stanza at begins.within)
        ∙ append_assoc front ahead (gone ++ drop to stanzas)

    new-front : stanzas ≡ front ++ (ahead ++ (come ++ drop to stanzas))
    new-front =
        sym (take-append-drop start.stanza stanzas)
        ∙ ap (λ (ss : List StanzaOf). front ++ ss) (drop_split stanzas start.stanza at begins.within ∙ ap (λ (ss : List StanzaOf). ahead ++ ss) (drop_split stanzas at to (omega arith)))

    part-to : (mid those others : List StanzaOf) → drop to stanzas ≡ those ++ others → front ++ (ahead ++ (mid ++ drop to stanzas)) ≡ front ++ ((ahead ++ (mid ++ those)) ++ others)
    part-to mid those others is = ap (λ (ss : List StanzaOf). front ++ ss) (ap (λ (ss : List StanzaOf). ahead ++ (mid ++ ss)) is ∙ part-four ahead mid those others)

    old-parts : olds ≡ front ++ ((ahead ++ (gone ++ behind)) ++ rest)
    old-parts = old-front ∙ part-to gone behind rest inner

    start-lines : window_start stanzas swapped ≡ stanza_lines_in front + stanza_lines_in ahead
    start-lines = ap stanza_lines_in (take-split stanzas start.stanza at begins.within) ∙ lines-append front ahead

    end-lines : end ≡ window_start stanzas swapped + stanza_lines_in come
    end-lines = ap stanza_lines_in (take-split stanzas at to (omega arith)) ∙ lines-append (take at stanzas) come

    parts-to : (those others : List StanzaOf) → drop to stanzas ≡ those ++ others → (others ≡ []) ⊎ (ClosesApart those ⊎ OpensApart others)
        → StanzasRelaid it.before.lines lines.lines front ahead gone come those others (window_start stanzas swapped) was end
    parts-to those others is apart = record {
      old = old-front ∙ part-to gone those others is;
      new = sym list ∙ new-front ∙ part-to come those others is;
      start_is = start-lines;
      was_is = refl;
      end_is = end-lines;
      front_apart = elim begins.is [
        | inl first ↦ inl (ap (λ (e : PartEdge). take e.stanza stanzas) first)
        | inr both ↦ inr both.0
      ];
      rest_apart = apart;
      still = lines-still;
      moved = lines-moved;
    }

    abbrev Relaid : Type 0
    Relaid = AreRelaid it.before.lines lines.lines was end (blocks_from 0 front) (blocks_from (stanza_lines_in front) (ahead ++ (gone ++ behind))) (blocks_from (stanza_lines_in front) (ahead ++ (come ++ behind)))
        (blocks_from (was + stanza_lines_in behind) rest)

    parts : StanzasRelaid it.before.lines lines.lines front ahead gone come behind rest (window_start stanzas swapped) was end
    parts = parts-to behind rest inner (elim ends.is [
      | inl last ↦ inl (ap (λ (e : PartEdge). drop e.stanza stanzas) last ∙ drop_all (length stanzas) stanzas (omega arith))
      | inr both ↦ inr both.0
    ])

    relaid : Relaid
    relaid =
        let are = IsText-texts it.before it.of.keeps in
        stanzas-relaid it.before.lines lines.lines front ahead gone come behind rest (window_start stanzas swapped) was end parts are.utf8 are.few

    elements : ElementsRelaid on it.before.lines lines.lines was end (blocks_from 0 front) (blocks_from (stanza_lines_in front) (ahead ++ (gone ++ behind))) (blocks_from (stanza_lines_in front) (ahead ++ (come ++ behind)))
        (blocks_from (was + stanza_lines_in behind) rest)
    elements =
        elements-relaid on it.before.lines lines.lines was end (blocks_from 0 front) (blocks_from (stanza_lines_in front) (ahead ++ (gone ++ behind))) (blocks_from (stanza_lines_in front) (ahead ++ (come ++ behind)))
        (blocks_from (was + stanza_lines_in behind) rest) relaid

    abbrev first : ℕ
    first = stanza_lines_in front

    abbrev past : ℕ
    past = was + stanza_lines_in behind

    window-lines : first + stanza_lines_in (ahead ++ (gone ++ behind)) ≡ past
    window-lines = omega (arith, start-lines, lines-append ahead (gone ++ behind), lines-append gone behind)

    -- Where their elements begin.
    front-low : All (λ (g : Group Spoken). element_first g < first) elements.elements_front
    front-low =
        let are = IsText-texts it.before it.of.keeps in
        let stands = front-stands (line_texts it.before.lines) front ((ahead ++ (gone ++ behind)) ++ rest) are.utf8 are.few old-parts in
        subst (All (λ (g : Group Spoken). element_first g < first)) (sym elements.front_is)
        (spoken-firsts on it.before.lines None (λ (p : PlacedBlock). p.first < first) (blocks_from 0 front) (λ k d h. (stands.each k d h).below))

    gone-low : All (λ (g : Group Spoken). element_first g < past) elements.elements_gone
    gone-low =
        let are = IsText-texts it.before it.of.keeps in
        let mid = ahead ++ (gone ++ behind) in
        let both : olds ≡ (front ++ mid) ++ rest = old-parts ∙ sym (append_assoc front mid rest) in
        let stands = front-stands (line_texts it.before.lines) (front ++ mid) rest are.utf8 are.few both in
        let start_at : 0 + first ≡ first = omega arith in
        let split : blocks_from 0 (front ++ mid) ≡ blocks_from 0 front ++ blocks_from first mid = blocks-append 0 front mid ∙ ap (λ n. blocks_from 0 front ++ blocks_from n mid) start_at in
        let P : PlacedBlock → Type 0 = λ (p : PlacedBlock). p.first < past in
        let sum : stanza_lines_in (front ++ mid) ≡ past = lines-append front mid ∙ window-lines in
        let each : All P (blocks_from 0 (front ++ mid)) = λ k d h. let below = (stands.each k d h).below in omega (arith, below, sum) in
        subst (All (λ (g : Group Spoken). element_first g < past)) (sym elements.gone_is)
        (spoken-firsts on it.before.lines (speaker_behind (line_texts it.before.lines) None (blocks_from 0 front)) P (blocks_from first mid) (All-back P (blocks_from 0 front) (blocks_from first mid) (subst (All P) split each)))

    gone-high : All (λ (g : Group Spoken). first ≤ element_first g) elements.elements_gone
    gone-high =
        subst (All (λ (g : Group Spoken). first ≤ element_first g)) (sym elements.gone_is)
        (spoken-firsts on it.before.lines (speaker_behind (line_texts it.before.lines) None (blocks_from 0 front)) (λ (p : PlacedBlock). first ≤ p.first) (blocks_from first (ahead ++ (gone ++ behind)))
        (blocks-past first first (ahead ++ (gone ++ behind)) (omega arith)))

    rest-high : (line : ℕ) → line ≤ past → All (λ (g : Group Spoken). line ≤ element_first g) elements.elements_rest
    rest-high line order =
        subst (All (λ (g : Group Spoken). line ≤ element_first g)) (sym elements.rest_is)
        (spoken-firsts on it.before.lines (speaker_behind (line_texts it.before.lines) None (blocks_from 0 front ++ blocks_from first (ahead ++ (gone ++ behind)))) (λ (p : PlacedBlock). line ≤ p.first) (blocks_from past rest)
        (blocks-past line past rest order))

    start-is : EdgeIs it.before.lines elements.elements_front start
    start-is = elim begins.is [
      | inl zero ↦
          let none : front ≡ [] = ap (λ (e : PartEdge). take e.stanza stanzas) zero in
          let nothing : elements.elements_front ≡ [] = elements.front_is ∙ ap (λ ss. spoken_elements on it.before.lines None (blocks_from 0 ss)) none in
          record {
            titles = ap (λ (e : PartEdge). e.titles) zero ∙ sym (ap (λ (gs : List (Group Spoken)). length (laid_of is_title_element it.before.lines gs)) nothing);
            body = ap (λ (e : PartEdge). e.body) zero ∙ sym (ap (λ (gs : List (Group Spoken)). length (laid_of in_body it.before.lines gs)) nothing);
            breaks = ap (λ (e : PartEdge). e.breaks) zero ∙ sym (ap (λ (gs : List (Group Spoken)). length (break_places 0 gs)) nothing);
          }
      | inr both ↦
          edge-is on it.before.lines layout it.of.was elements.elements_front (elements.elements_gone ++ elements.elements_rest) elements.old first start front-low
          (All-append (λ (g : Group Spoken). first ≤ element_first g) elements.elements_gone elements.elements_rest gone-high (rest-high first (omega (arith, window-lines)))) both.1
    ]

    stop-is : EdgeIs it.before.lines (elements.elements_front ++ elements.elements_gone) stop
    stop-is =
        let all : text_elements on it.before.lines ≡ (elements.elements_front ++ elements.elements_gone) ++ elements.elements_rest = elements.old ∙ sym (append_assoc elements.elements_front elements.elements_gone elements.elements_rest) in
        elim ends.is [
          | inl last ↦
              let none : rest ≡ [] = ap (λ (e : PartEdge). drop e.stanza stanzas) last ∙ drop_all (length stanzas) stanzas (omega arith) in
              let nothing : elements.elements_rest ≡ [] = elements.rest_is ∙ ap (λ ss. spoken_elements on it.before.lines (speaker_behind (line_texts it.before.lines) None (blocks_from 0 front ++ blocks_from first (ahead ++ (gone ++ behind)))) (blocks_from past ss)) none in
              edge-last on it.before.lines layout it.of.was stanzas stop last (elements.elements_front ++ elements.elements_gone)
              (all ∙ ap (λ (gs : List (Group Spoken)). (elements.elements_front ++ elements.elements_gone) ++ gs) nothing ∙ append-nil (elements.elements_front ++ elements.elements_gone))
          | inr both ↦
              let sum : stanza_lines_in (take stop.stanza stanzas) ≡ end + stanza_lines_in behind = ap stanza_lines_in (take-split stanzas to stop.stanza ends.low) ∙ lines-append (take to stanzas) behind in
              let line : moved_place end was (stanza_lines_in (take stop.stanza stanzas)) ≡ past = omega (arith, sum) in
              let order : first ≤ past = omega (arith, window-lines) in
              let low : All (λ (g : Group Spoken). element_first g < past) elements.elements_front = λ k d h. let less = front-low k d h in omega (arith, less, order) in
              edge-is on it.before.lines layout it.of.was (elements.elements_front ++ elements.elements_gone) elements.elements_rest all past stop
              (All-append (λ (g : Group Spoken). element_first g < past) elements.elements_front elements.elements_gone low gone-low) (rest-high past (omega arith))
              (subst (λ n. IsEdge layout n stop) line both.1)
        ]

    places-are : places ≡ places_of it.before.lines elements.elements_front elements.elements_gone was end
    places-are =
        let b = it.before.lines in
        let ef = elements.elements_front in
        let eg = elements.elements_gone in
        let one = start-is in
        let two = stop-is in
        let titles : stop.titles ≡ length (laid_of is_title_element b ef) + length (laid_of is_title_element b eg) =
        two.titles ∙ ap (λ (es : List ElementOf). length es) (laid-append is_title_element b ef eg) ∙ length-append (laid_of is_title_element b ef) (laid_of is_title_element b eg) in
        let body : stop.body ≡ length (laid_of in_body b ef) + length (laid_of in_body b eg) =
        two.body ∙ ap (λ (es : List ElementOf). length es) (laid-append in_body b ef eg) ∙ length-append (laid_of in_body b ef) (laid_of in_body b eg) in
        let count : 0 + elements_in b ef ≡ elements_in b ef = omega arith in
        let breaks : stop.breaks ≡ length (break_places 0 ef) + length (break_places (elements_in b ef) eg) =
        two.breaks ∙ ap (λ (ns : List ℕ). length ns) (breaks-append b 0 ef eg ∙ ap (λ n. break_places 0 ef ++ break_places n eg) count) ∙ length-append (break_places 0 ef) (break_places (elements_in b ef) eg) in
        places-same _ _ _ _ _ _ _ _ _ _ _ _ was end one.titles titles one.body body one.breaks breaks

    -- As many elements go as their blocks are at most.
    pub gone-few : elements_at places ≤ blocks_in (ahead ++ (gone ++ behind))
    gone-few =
        let b = it.before.lines in
        let eg = elements.elements_gone in
        let mid = ahead ++ (gone ++ behind) in
        let last = speaker_behind (line_texts b) None (blocks_from 0 front) in
        let count : length eg ≡ length (spoken_elements on b last (blocks_from first mid)) = ap (λ (gs : List (Group Spoken)). length gs) elements.gone_is in
        omega (arith, ap elements_at places-are, laid-count b eg, count, elements-few on b last (blocks_from first mid), blocks-placed first mid)

    -- The blocks behind the part, in the text after the edit.
    past-now : moved_place was end past ≡ stanza_lines_in (take stop.stanza stanzas)
    past-now =
        let sum : stanza_lines_in (take stop.stanza stanzas) ≡ end + stanza_lines_in behind = ap stanza_lines_in (take-split stanzas to stop.stanza ends.low) ∙ lines-append (take to stanzas) behind in
        omega (arith, sum)

    pub rest-blocks : map (moved_block was end) (blocks_from past rest) ≡ blocks_behind stanzas stop.stanza
    rest-blocks = sym (blocks-moved was end past rest (omega arith)) ∙ ap (λ n. blocks_from n rest) past-now

    -- Who spoke last before them, in both texts.
    abbrev last : LastOf
    last = last_behind was_lines lines.lines stanzas swapped on stop.stanza

    abbrev old_last : Option (List ℕ)
    old_last = speaker_behind (line_texts it.before.lines) None (blocks_from 0 front ++ blocks_from first (ahead ++ (gone ++ behind)))

    abbrev new_last : Option (List ℕ)
    new_last = speaker_behind (line_texts lines.lines) None (blocks_from 0 front ++ blocks_from first (ahead ++ (come ++ behind)))

    old-told : on ≡ true → old_last ≡ last.before.last
    old-told is =
        let are = IsText-texts it.before it.of.keeps in
        let olds = line_texts it.before.lines in
        let news = line_texts lines.lines in
        let start_at = window_start stanzas swapped in
        let moved_at : moved_place was end was ≡ end = omega arith in
        let own = speaker_behind olds (speaker_behind olds (speaker_behind olds None (blocks_from 0 front)) (blocks_from first ahead)) (blocks_from start_at gone) in
        let told : own ≡ (old_speakers (line_texts was_lines) stanzas swapped on).last =
        ap (λ who. speaker_behind olds who (blocks_from start_at gone)) (sym (behind-to olds stanzas start.stanza at begins.within)) ∙ sym (behind-window olds stanzas swapped)
        ∙ sym (told-last on olds (blocks_from 0 (take at stanzas ++ gone)) is) ∙ ap (λ (ls : List LineState). (old_speakers (line_texts ls) stanzas swapped on).last) it.is in
        old-last it.before.lines lines.lines front ahead gone come behind rest start_at was end parts are.utf8 are.few
        ∙ ap₂ (λ who (bs : List PlacedBlock). speaker_behind news who bs) told (sym (blocks-moved was end was behind (omega arith)) ∙ ap (λ n. blocks_from n behind) moved_at)

    new-told : on ≡ true → new_last ≡ last.after.last
    new-told is =
        let news = line_texts lines.lines in
        let start_at : 0 + first ≡ first = omega arith in
        let within : start.stanza ≤ stop.stanza = let one = begins.within in let two = ends.low in omega (arith, one, two) in
        let all : blocks_from 0 front ++ blocks_from first (ahead ++ (come ++ behind)) ≡ blocks_from 0 (take stop.stanza stanzas) =
        ap (λ (ss : List StanzaOf). blocks_from 0 front ++ blocks_from first ss) (sym window) ∙ ap (λ n. blocks_from 0 front ++ blocks_from n (slice_range stanzas start.stanza stop.stanza)) (sym start_at)
        ∙ sym (ap (blocks_from 0) (take-split stanzas start.stanza stop.stanza within) ∙ blocks-append 0 front (slice_range stanzas start.stanza stop.stanza)) in
        ap (speaker_behind news None) all ∙ behind-to news stanzas to stop.stanza ends.low
        ∙ ap (λ who. speaker_behind news who (blocks_from end behind)) (sym (told-last on news (blocks_from 0 (take to stanzas)) is))

    -- The elements behind the part: as they were, and in the text after the edit.
    rest-now : map (moved_group was end) elements.elements_rest ≡ spoken_elements on lines.lines last.before.last (blocks_behind stanzas stop.stanza)
    rest-now =
        ap (map (moved_group was end)) elements.rest_is ∙ sym (elements.stay old_last).same
        ∙ ap (spoken_elements on lines.lines old_last) rest-blocks ∙ spoken-at on lines.lines old_last last.before.last (blocks_behind stanzas stop.stanza) old-told

    said-now : spoken_elements on lines.lines new_last (map (moved_block was end) (blocks_from past rest)) ≡ spoken_elements on lines.lines last.after.last (blocks_behind stanzas stop.stanza)
    said-now = ap (spoken_elements on lines.lines new_last) rest-blocks ∙ spoken-at on lines.lines new_last last.after.last (blocks_behind stanzas stop.stanza) new-told

    -- Where the elements up to them begin.
    abbrev line : ℕ
    line = stanza_lines_in (take stop.stanza stanzas)

    come-low : (whose : Bool) (who : Option (List ℕ)) → All (λ (g : Group Spoken). element_first g < line) (spoken_elements whose lines.lines who (blocks_from first (slice_range stanzas start.stanza stop.stanza)))
    come-low whose who =
        let within : start.stanza ≤ stop.stanza = let one = begins.within in let two = ends.low in omega (arith, one, two) in
        spoken-firsts whose lines.lines who (λ (p : PlacedBlock). p.first < line) (blocks_from first (slice_range stanzas start.stanza stop.stanza)) (slice-low lines stanzas start.stanza stop.stanza keeps list within)

    ahead-low : (whose : Bool) (who : Option (List ℕ)) → All (λ (g : Group Spoken). element_first g < line) (elements.elements_front ++ spoken_elements whose lines.lines who (blocks_from first (slice_range stanzas start.stanza stop.stanza)))
    ahead-low whose who =
        let within : start.stanza ≤ stop.stanza = let one = begins.within in let two = ends.low in omega (arith, one, two) in
        let sum = ap stanza_lines_in (take-split stanzas start.stanza stop.stanza within) ∙ lines-append front (slice_range stanzas start.stanza stop.stanza) in
        All-append (λ (g : Group Spoken). element_first g < line) elements.elements_front (spoken_elements whose lines.lines who (blocks_from first (slice_range stanzas start.stanza stop.stanza)))
        (λ k d h. let low = front-low k d h in omega (arith, low, sum)) (come-low whose who)

    -- The elements of the part are laid out anew.
    pub edit-relaid : IsRelaid it.before.lines lines.lines speakers blocks places layout
    edit-relaid =
        let last = speaker_behind (line_texts lines.lines) None (blocks_from 0 front) in
        let said = spoken_elements on lines.lines new_last (map (moved_block was end) (blocks_from past rest)) in
        let same : spoken_elements on lines.lines last (blocks_from first (ahead ++ (come ++ behind))) ≡ spoken_elements on lines.lines speakers.last blocks =
        sym (spoken-last on lines.lines last blocks ∙ ap (λ ss. spoken_elements on lines.lines last (blocks_from first ss)) window) in
        record {
          front = elements.elements_front;
          gone = elements.elements_gone;
          rest = elements.elements_rest;
          said = said;
          was = it.of.was;
          old = elements.old;
          new = elements.new ∙ ap (λ (gs : List (Group Spoken)). elements.elements_front ++ (gs ++ said)) same;
          still = elements.still;
          moved = elements.moved;
          at = places-are;
        }

    pub edit-behind : IsLaidBehind was_lines it.before.lines lines.lines stanzas swapped on stop speakers blocks places layout edit-relaid
    unfolding edit-relaid elements
    edit-behind = record {
      rest_now = rest-now;
      said_now = said-now;
      low = ahead-low on speakers.last;
      stood = spoken_elements on it.before.lines new_last (blocks_from past rest);
      stood_is = (elements.stay new_last).same;
      stays = (elements.stay new_last).each;
    }

-- What is known at places that are those of the window.
pub at-window : (P : ℕ → ℕ → ℕ → Type 0) {a b c d e f : ℕ} → a ≡ d → b ≡ e → c ≡ f → P a b c → P d e f
at-window P {a} {b} {c} {d} {e} {f} one two three it = subst (P d e) three (subst (λ n. P d n c) two (subst (λ n. P n b c) one it))

pub can-end-at : (was_lines : List LineState) (lines : TextState) (stanzas : List StanzaOf) (swapped : SwappedState) (on : Bool) (layout : LayoutOf) → WasLaid was_lines lines.lines stanzas swapped on layout → (upto was end : ℕ) → upto ≡ swapped.at + swapped.stands
    → was ≡ window_was stanzas swapped → end ≡ window_end stanzas swapped → CanEnd stanzas upto was end layout
can-end-at was_lines lines stanzas swapped on layout it upto was end upto_is was_is end_is =
    subst (λ n. CanEnd stanzas n was end layout) (sym upto_is)
    (subst (λ n. CanEnd stanzas (swapped.at + swapped.stands) n end layout) (sym was_is)
    (subst (λ n. CanEnd stanzas (swapped.at + swapped.stands) (window_was stanzas swapped) n layout) (sym end_is) (can-end was_lines lines stanzas swapped on layout it)))

-- The stanzas of a text, and the first of them, have no more lines than a text.
pub record FewLines (stanzas : List StanzaOf) : Type 0 where
  pub all : stanza_lines_in stanzas ≤ 200000
  pub first : (i : ℕ) → stanza_lines_in (take i stanzas) ≤ 200000

pub few-lines : (text : TextState) (stanzas : List StanzaOf) → IsText text → stanzas ≡ stanzas_of (line_texts text.lines) → FewLines stanzas
few-lines text stanzas keeps is =
    let few = keeps.count in
    let count = count-from (line_texts text.lines) 0 in
    let size = length-map text.lines (λ (line : LineState). line.text) in
    let all : stanza_lines_in stanzas ≤ 200000 = omega (arith, few, count, size, ap stanza_lines_in is) in
    record {
      all = all;
      first = λ i. omega (arith, all, ap stanza_lines_in (take-append-drop i stanzas), lines-append (take i stanzas) (drop i stanzas));
    }

-- A part is laid out anew also behind other speakers, where its blocks are the same elements behind them.
relaid-alike : (olds before lines : List LineState) (stanzas : List StanzaOf) (swapped : SwappedState) (own : Bool) (stop : PartEdge) (speakers others : SpeakersOf) (blocks : List PlacedBlock) (places : PartPlaces) (layout : LayoutOf)
    → AreAlike lines blocks speakers others → (it : IsRelaid before lines others blocks places layout) → IsLaidBehind olds before lines stanzas swapped own stop others blocks places layout it
    → (r : IsRelaid before lines speakers blocks places layout) × IsLaidBehind olds before lines stanzas swapped own stop speakers blocks places layout r
relaid-alike olds before lines stanzas swapped own stop speakers others blocks places layout alike it behind =
    let P : Bool → Type 0 = λ on. (r : IsRelaid before lines (record { on = on; last = speakers.last }) blocks places layout) × IsLaidBehind olds before lines stanzas swapped own stop (record { on = on; last = speakers.last }) blocks places layout r in
    subst P (sym alike.on) (
      record {
        front = it.front;
        gone = it.gone;
        rest = it.rest;
        said = it.said;
        was = it.was;
        old = it.old;
        new = it.new ∙ ap (λ (gs : List (Group Spoken)). it.front ++ (gs ++ it.said)) (sym alike.same);
        still = it.still;
        moved = it.moved;
        at = it.at;
      },
      record {
        rest_now = behind.rest_now;
        said_now = behind.said_now;
        low = subst (λ (gs : List (Group Spoken)). All (λ (g : Group Spoken). element_first g < stanza_lines_in (take stop.stanza stanzas)) (it.front ++ gs)) (sym alike.same) behind.low;
        stood = behind.stood;
        stood_is = behind.stood_is;
        stays = behind.stays;
      },
    )

-- What the call that lays a part out anew asks and is asked for, and what stands behind the part.
pub record EditedPart (olds before lines : List LineState) (stanzas : List StanzaOf) (swapped : SwappedState) (on : Bool) (stop : PartEdge) (layout : LayoutOf) (speakers : SpeakersOf) (blocks : List PlacedBlock) (places : PartPlaces) : Type 0 where
  pub relaid : IsRelaid before lines speakers blocks places layout
  pub can : CanSwap layout places (layout_behind lines speakers blocks)
  pub behind : IsLaidBehind olds before lines stanzas swapped on stop speakers blocks places layout relaid

pub edited-part : (was_lines : List LineState) (lines : TextState) (stanzas : List StanzaOf) (swapped : SwappedState) (on : Bool) (layout : LayoutOf) (it : WasLaid was_lines lines.lines stanzas swapped on layout) → stanzas ≡ stanzas_of (line_texts lines.lines) → IsText lines
    → (upto was end : ℕ) (start stop : PartEdge) (speakers : SpeakersOf) (blocks : List PlacedBlock) (places : PartPlaces) → upto ≡ swapped.at + swapped.stands → was ≡ window_was stanzas swapped
    → end ≡ window_end stanzas swapped → IsPartBegin stanzas swapped layout start → IsPartEnd stanzas upto was end layout stop
    → blocks ≡ blocks_from (stanza_lines_in (take start.stanza stanzas)) (slice_range stanzas start.stanza stop.stanza)
    → AreAlike lines.lines blocks speakers (speakers_after (line_texts lines.lines) on (blocks_from 0 (take start.stanza stanzas))) → places ≡ edge_places start stop was end
    → EditedPart was_lines it.before.lines lines.lines stanzas swapped on stop layout speakers blocks places
edited-part was_lines lines stanzas swapped on layout it list keeps upto was end start stop speakers blocks places upto_is was_is end_is begins ends blocks_are alike places_are =
    let stops = subst (λ n. IsPartEnd stanzas (swapped.at + swapped.stands) (window_was stanzas swapped) n layout stop) end_is
    (subst (λ n. IsPartEnd stanzas (swapped.at + swapped.stands) n end layout stop) was_is (subst (λ n. IsPartEnd stanzas n was end layout stop) upto_is ends)) in
    let places_same : places ≡ edge_places start stop (window_was stanzas swapped) (window_end stanzas swapped) = places_are ∙ ap₂ (λ n m. edge_places start stop n m) was_is end_is in
    let own = speakers_after (line_texts lines.lines) on (blocks_from 0 (take start.stanza stanzas)) in
    let Q : List PlacedBlock → PartPlaces → Type 0 = λ (bs : List PlacedBlock) (p : PartPlaces). (r : IsRelaid it.before.lines lines.lines own bs p layout) × IsLaidBehind was_lines it.before.lines lines.lines stanzas swapped on stop own bs p layout r in
    let both : Q blocks places = subst (λ (p : PartPlaces). Q blocks p) (sym places_same)
    (subst (λ (bs : List PlacedBlock). Q bs (edge_places start stop (window_was stanzas swapped) (window_end stanzas swapped))) (sym blocks_are)
    (edit-relaid was_lines lines stanzas swapped on layout it list keeps start stop begins stops, edit-behind was_lines lines stanzas swapped on layout it list keeps start stop begins stops)) in
    let laid = relaid-alike was_lines it.before.lines lines.lines stanzas swapped on stop speakers own blocks places layout alike both.0 both.1 in
    let few = few-lines lines stanzas keeps list in
    let near : places.more ≤ 200000 = let first = few.first (swapped.at + swapped.stands) in let same = ap (λ (p : PartPlaces). p.more) places_same in omega (arith, first, same) in
    record {
      relaid = laid.0;
      can = relaid-can it.before lines speakers blocks places layout it.of.keeps keeps near laid.0;
      behind = laid.1;
    }

-- The blocks of stanzas of a text lie in it.
pub slice-lies : (text : TextState) (stanzas : List StanzaOf) (from to : ℕ) → IsText text → stanzas ≡ stanzas_of (line_texts text.lines) → from ≤ to
    → All (PlacedLies (line_texts text.lines)) (blocks_from (stanza_lines_in (take from stanzas)) (slice_range stanzas from to))
slice-lies text stanzas from to keeps is order =
    let texts = line_texts text.lines in
    let are = IsText-texts text keeps in
    let start : 0 + stanza_lines_in (take from stanzas) ≡ stanza_lines_in (take from stanzas) = omega arith in
    let parts : stanzas ≡ take from stanzas ++ (slice_range stanzas from to ++ drop to stanzas) =
    sym (take-append-drop from stanzas) ∙ ap (λ (ss : List StanzaOf). take from stanzas ++ ss) (drop_split stanzas from to order) in
    let mid = blocks_from (stanza_lines_in (take from stanzas)) (slice_range stanzas from to) in
    let last = blocks_from (stanza_lines_in (take from stanzas) + stanza_lines_in (slice_range stanzas from to)) (drop to stanzas) in
    let blocks : blocks_of texts ≡ blocks_from 0 (take from stanzas) ++ (mid ++ last) =
    ap (blocks_from 0) (sym is ∙ parts) ∙ blocks-three 0 (take from stanzas) (slice_range stanzas from to) (drop to stanzas)
    ∙ ap (λ n. blocks_from 0 (take from stanzas) ++ (blocks_from n (slice_range stanzas from to) ++ blocks_from (n + stanza_lines_in (slice_range stanzas from to)) (drop to stanzas))) start in
    let lie = subst (All (PlacedLies texts)) blocks (blocks_of-lie texts are.utf8 are.few).lie in
    All-front (PlacedLies texts) mid last (All-back (PlacedLies texts) (blocks_from 0 (take from stanzas)) (mid ++ last) lie)

-- Those from one with a heading or a speech on tell it, and those without one don't change it.
pub speakers-told : (texts : List (List ℕ)) (on : Bool) (stanzas : List StanzaOf) (from to : ℕ) → from ≤ to → (from ≡ 0) ⊎ (list_any stanza_settles (slice_range stanzas from to) ≡ true)
    → speakers_after texts on (blocks_from (stanza_lines_in (take from stanzas)) (slice_range stanzas from to)) ≡ speakers_after texts on (blocks_from 0 (take to stanzas))
speakers-told texts on stanzas from to order settles =
    let one = blocks_from 0 (take from stanzas) in
    let two = blocks_from (stanza_lines_in (take from stanzas)) (slice_range stanzas from to) in
    let same : speaker_behind texts (speaker_behind texts None one) two ≡ speaker_behind texts None two = elim settles [
      | inl zero ↦ ap (λ n. speaker_behind texts (speaker_behind texts None (blocks_from 0 (take n stanzas))) two) zero
      | inr some ↦ behind-settled texts (speaker_behind texts None one) None two (any-blocks (stanza_lines_in (take from stanzas)) (slice_range stanzas from to) ∙ some)
    ] in
    let P : Option (List ℕ) → SpeakersOf = λ last. record { on = on; last = cond on last None } in
    ap P (sym (behind-to texts stanzas from to order ∙ same))

pub speakers-kept : (texts : List (List ℕ)) (on : Bool) (stanzas : List StanzaOf) (from to : ℕ) → from ≤ to → list_any stanza_settles (slice_range stanzas from to) ≡ false
    → speakers_after texts on (blocks_from 0 (take from stanzas)) ≡ speakers_after texts on (blocks_from 0 (take to stanzas))
speakers-kept texts on stanzas from to order none =
    let last = speaker_behind texts None (blocks_from 0 (take from stanzas)) in
    let P : Option (List ℕ) → SpeakersOf = λ last. record { on = on; last = cond on last None } in
    let two = blocks_from (stanza_lines_in (take from stanzas)) (slice_range stanzas from to) in
    ap P (sym (behind-to texts stanzas from to order ∙ behind-quiet texts last two (any-blocks (stanza_lines_in (take from stanzas)) (slice_range stanzas from to) ∙ none)))

-- What an edit left is told without the layout.
pub edited : (was_lines lines : List LineState) (stanzas : List StanzaOf) (swapped : SwappedState) (on : Bool) (layout : LayoutOf) → WasLaid was_lines lines stanzas swapped on layout → IsEdited was_lines lines stanzas swapped
edited was_lines lines stanzas swapped on layout it =
    let start = window_start stanzas swapped in
    record {
      before = it.before;
      is = it.is;
      keeps = it.of.keeps;
      back = subst (λ (ls : List LineState). GivesBack swapped stanzas (stanzas_of (line_texts ls))) it.is it.of.back;
      front = subst (λ (ls : List LineState). take start ls ≡ take start lines) it.is it.of.front;
    }

-- What is laid out, and what stood there, has at most one element more than the window has blocks in front of it and one behind it.
pub record PartIsFew (stanzas : List StanzaOf) (swapped : SwappedState) (blocks : List PlacedBlock) (places : PartPlaces) : Type 0 where
  pub come : length blocks ≤ blocks_in (slice_range stanzas swapped.at (swapped.at + swapped.stands)) + 2
  pub go : elements_at places ≤ blocks_in swapped.stanzas + 2

pub part-few : (was_lines : List LineState) (lines : TextState) (stanzas : List StanzaOf) (swapped : SwappedState) (on : Bool) (layout : LayoutOf) (it : WasLaid was_lines lines.lines stanzas swapped on layout) → stanzas ≡ stanzas_of (line_texts lines.lines) → IsText lines
    → (start stop : PartEdge) (blocks : List PlacedBlock) (places : PartPlaces) → IsPartBegin stanzas swapped layout start → IsPartEnd stanzas (swapped.at + swapped.stands) (window_was stanzas swapped) (window_end stanzas swapped) layout stop
    → IsNearestBegin stanzas swapped start.stanza → IsNearestEnd stanzas (swapped.at + swapped.stands) stop.stanza
    → blocks ≡ blocks_from (stanza_lines_in (take start.stanza stanzas)) (slice_range stanzas start.stanza stop.stanza) → places ≡ edge_places start stop (window_was stanzas swapped) (window_end stanzas swapped)
    → PartIsFew stanzas swapped blocks places
part-few was_lines lines stanzas swapped on layout it list keeps start stop blocks places begins ends first last blocks_are places_are =
    let at = swapped.at in
    let to = swapped.at + swapped.stands in
    let ahead = slice_range stanzas start.stanza at in
    let come = slice_range stanzas at to in
    let behind = slice_range stanzas to stop.stanza in
    let one = ahead-few stanzas (line_texts lines.lines) list at start.stanza begins.within first.is in
    let other = behind-few stanzas (line_texts lines.lines) list to stop.stanza ends.low last in
    let within = begins.within in
    let low = ends.low in
    let window : slice_range stanzas start.stanza stop.stanza ≡ ahead ++ (come ++ behind) =
    sym (slice-parts stanzas start.stanza at stop.stanza within (omega (arith, low))) ∙ ap (λ (ss : List StanzaOf). ahead ++ ss) (sym (slice-parts stanzas at to stop.stanza (omega arith) low)) in
    let size = ap (λ (bs : List PlacedBlock). length bs) blocks_are ∙ blocks-placed (stanza_lines_in (take start.stanza stanzas)) (slice_range stanzas start.stanza stop.stanza) ∙ ap blocks_in window in
    let gone = gone-few was_lines lines stanzas swapped on layout it list keeps start stop begins ends in
    record {
      come = omega (arith, one, other, size, blocks_in-append ahead (come ++ behind), blocks_in-append come behind);
      go = omega (arith, one, other, gone, ap elements_at places_are, blocks_in-append ahead (swapped.stanzas ++ behind), blocks_in-append swapped.stanzas behind);
    }
