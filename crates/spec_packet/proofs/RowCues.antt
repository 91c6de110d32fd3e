-- The cue of a row that goes on with a speech is told by the rows of its speech, as an edit compares them.
use Rattle.std.proofs.Common.{◌≡◌, ◌⊎◌, inl, inr, ℕ, zero, suc, ◌+◌, ◌-◌, ◌<◌, ◌≤◌, ◌==◌, ◌&&◌, ◌||◌, Bool, true, false, cond, Option, Some, List, [], ◌∷◌, ◌++◌, length, map, take, drop, get_or, refl, sym, ap, ap₂, subst, ◌∙◌, arith, length-append, unwrap_or}
use Rattle.std.specs.Prelude.{All, filter, nat_eq, nat_lt, option_map, slice_get}
use Rattle.std.specs.List.{flat_map, list_any, prefix_len, ends_with}
use Rattle.std.proofs.Math.Seq.{drop-append-add, take-append_seam}
use Rattle.std.proofs.lemmas.Bool.{cases_lt, true≢false}
use Rattle.std.proofs.lemmas.List.{get_or-map, length-map, map-append, get_or_append_left, get_or-append_right}
use Rattle.std.proofs.lemmas.List.Elements.{All-nil, All-cons, All-head, All-tail}
use Rattle.std.proofs.lemmas.Option.{slice_get-get_or}
use Rattle.spec_text.specs.Lines.{LineState, IsText, line_texts}
use Rattle.spec_script.specs.LongestRuns.{Group, last_of}
use Rattle.spec_script.specs.Stanzas.{PlacedBlock}
use Rattle.spec_script.specs.Elements.{alone, pair}
use Rattle.spec_pages.specs.declared.RowKind.{RowKind}
use Rattle.spec_pages.specs.declared.RowKind.TheVariants as row_kinds
use Rattle.spec_pages.specs.Pages.{is_heading, is_speech, continues_speech}
use Rattle.spec_pages.specs.Rows.{Cell, Row, ElementOf, placed_rows}
use Rattle.spec_labels.specs.Labels.{LabelOf}
use Rattle.spec_sheets.specs.Cells.{ShownCell, cell_text, cells_text, shown_cell, continued, with_continued, ends_continued}
use Rattle.spec_sheets.specs.Layout.{in_body, laid_out}
use Rattle.spec_sheets.specs.Speakers.{Spoken}
use Rattle.spec_sheets.specs.Shown.{Shown, is_cue, is_fixed, cue_rows, repeated_cells, element_cue, shown_of, element_shown, heading_label, labels_behind, shown_rows}
use Rattle.spec_sheets.proofs.IndexLaws.{AreOfElement, placed_rows-element}
use Rattle.spec_sheets.proofs.JoinLaws.{layout-indexed}
use Rattle.spec_sheets.proofs.RowLaws.{IsText-texts}
use Rattle.spec_state.specs.Headings.{heading_labels}
use Rattle.spec_state.specs.SameRows.{BareRow, bare_of}
use Rattle.spec_state.specs.State.{State, text_of}
use Rattle.spec_state.specs.StateSheets.{layout_in, rows_in}
use Rattle.spec_edit.specs.TextItems.{Script, spoken_by, spoken_group}
use Rattle.spec_edit.proofs.SoundElements.{SoundSteps, elements-sound}
use Rattle.spec_locked_pages.proofs.StateScripts.{script_of, texts_of, blocks_in, elements-scripted}
use Rattle.spec_packet.specs.Packets.{is_cue_row, cue_len, speech_start, cue_at}
use Rattle.spec_packet.proofs.PlainRows.{NoNumber, without-none, Plain, TellsFixed, alone-plain, alone-tells, pair-plain, pair-tells, placed-plain, placed-tells}
use Rattle.spec_packet.proofs.RowNumbers.{IsKnown, blocks-known}

-- The cells that repeat a cue with these rows.
abbrev pub repeated : List BareRow → List ShownCell
repeated [] = []
repeated (row ∷ later) =
    cond (nat_lt 1 (length row.cells) || ends_with nat_eq (flat_map cell_text (last_of row later).cells) continued) row.cells (with_continued row.cells)

-- The rows of the cue that rows begin with.
abbrev cue_from : List BareRow → List BareRow
cue_from rows = take (cue_len rows) rows

is-cue-speech : (kind : RowKind) → is_cue kind ≡ true → is_speech kind ≡ true
is-cue-speech row_kinds.Cue is = refl
is-cue-speech row_kinds.Heading is = absurd (true≢false (sym is))
is-cue-speech row_kinds.Action is = absurd (true≢false (sym is))
is-cue-speech row_kinds.Parenthetical is = absurd (true≢false (sym is))
is-cue-speech row_kinds.Dialogue is = absurd (true≢false (sym is))
is-cue-speech row_kinds.Sung is = absurd (true≢false (sym is))
is-cue-speech row_kinds.Dual is = absurd (true≢false (sym is))
is-cue-speech row_kinds.Lyric is = absurd (true≢false (sym is))
is-cue-speech row_kinds.Transition is = absurd (true≢false (sym is))
is-cue-speech row_kinds.Centred is = absurd (true≢false (sym is))

speech-closed : (kind : RowKind) (first : Bool) → is_speech kind ≡ true → (is_heading kind && first) ≡ false
speech-closed row_kinds.Cue first is = refl
speech-closed row_kinds.Parenthetical first is = refl
speech-closed row_kinds.Dialogue first is = refl
speech-closed row_kinds.Sung first is = refl
speech-closed row_kinds.Heading first is = absurd (true≢false (sym is))
speech-closed row_kinds.Action first is = refl
speech-closed row_kinds.Dual first is = refl
speech-closed row_kinds.Lyric first is = refl
speech-closed row_kinds.Transition first is = refl
speech-closed row_kinds.Centred first is = refl

-- ---- the rows of one element

abbrev IsSpoken : Row → Type 0
IsSpoken row = is_speech row.shape.kind ≡ true

-- The rows of a cue have no written number.
cue-bare : (those : List Row) → All Plain those → All NoNumber (cue_rows those)
cue-bare [] plain = All-nil NoNumber
cue-bare (row ∷ later) plain = by (is_cue row.shape.kind) refl (cue-bare later (All-tail Plain row later plain))
  where
    rest : ℕ
    rest = prefix_len (λ (it : Row). is_cue it.shape.kind) later

    by : (b : Bool) → is_cue row.shape.kind ≡ b → All NoNumber (take rest later) → All NoNumber (take (cond b (1 + rest) 0) (row ∷ later))
    by true is behind =
        let e : suc rest ≡ 1 + rest = omega arith in
        let closed = speech-closed row.shape.kind (row.shape.index == 0) (is-cue-speech row.shape.kind is) in
        subst (λ n. All NoNumber (take n (row ∷ later))) e
        (All-cons NoNumber row (take rest later) ((All-head Plain row later plain).none closed) behind)
    by false is behind = All-nil NoNumber

module _ (lines : List LineState) (cue : List ShownCell) (label : Option LabelOf) where
  abbrev bare_row : Row → BareRow
  bare_row row = bare_of (shown_of lines cue label row)

  abbrev bares : List Row → List BareRow
  bares those = map bare_row those

  -- The cue of the rows as they are compared.
  cue-bares : (those : List Row) → take (prefix_len is_cue_row (bares those)) (bares those) ≡ bares (cue_rows those)
  cue-bares [] = refl
  cue-bares (row ∷ later) = by (is_cue row.shape.kind) (cue-bares later)
    where
      m : ℕ
      m = prefix_len is_cue_row (bares later)

      n : ℕ
      n = prefix_len (λ (it : Row). is_cue it.shape.kind) later

      by : (b : Bool) → take m (bares later) ≡ bares (take n later) → take (cond b (1 + m) 0) (bare_row row ∷ bares later) ≡ bares (take (cond b (1 + n) 0) (row ∷ later))
      by true same =
          let e : 1 + m ≡ suc m = omega arith in
          let f : suc n ≡ 1 + n = omega arith in
          ap (λ k. take k (bare_row row ∷ bares later)) e ∙ ap (λ (l : List BareRow). bare_row row ∷ l) same ∙ ap (λ k. bares (take k (row ∷ later))) f
      by false same = refl

  bare-cells : (row : Row) → NoNumber row → (bare_row row).cells ≡ map (shown_cell (line_texts lines)) row.cells
  bare-cells row none = ap (map (shown_cell (line_texts lines))) (without-none row none)

  flat-shown : (cells : List Cell) → cells_text (line_texts lines) cells ≡ flat_map cell_text (map (shown_cell (line_texts lines)) cells)
  flat-shown [] = refl
  flat-shown (cell ∷ cells) = ap (λ (l : List ℕ). cell_text (shown_cell (line_texts lines) cell) ++ l) (flat-shown cells)

  last-bare : (row : Row) (later : List Row) → last_of (bare_row row) (bares later) ≡ bare_row (last_of row later)
  last-bare row [] = refl
  last-bare row (next ∷ later) = last-bare next later

  last-none : (row : Row) (later : List Row) → All NoNumber (row ∷ later) → NoNumber (last_of row later)
  last-none row [] all = All-head NoNumber row [] all
  last-none row (next ∷ later) all = last-none next later (All-tail NoNumber row (next ∷ later) all)

  -- A cue is repeated as its rows tell.
  repeated-bares : (those : List Row) → All NoNumber those → TellsFixed those → All IsSpoken those → repeated_cells (line_texts lines) those ≡ repeated (bares those)
  repeated-bares [] none tells spoken = refl
  repeated-bares (row ∷ later) none tells spoken =
      let texts = line_texts lines in
      let cells = map (shown_cell texts) row.cells in
      let last = last_of row later in
      let own : (bare_row row).cells ≡ cells = bare-cells row (All-head NoNumber row later none) in
      let fixed : list_any is_fixed row.cells ≡ nat_lt 1 (length (bare_row row).cells) =
      tells (All-head IsSpoken row later spoken) ∙ ap (nat_lt 1) (sym (ap length own ∙ length-map row.cells (shown_cell texts))) in
      let ends : ends_continued texts last.cells ≡ ends_with nat_eq (flat_map cell_text (last_of (bare_row row) (bares later)).cells) continued =
      ap (λ (l : List ℕ). ends_with nat_eq l continued) (flat-shown last.cells ∙ ap (flat_map cell_text) (sym (bare-cells last (last-none row later none)) ∙ ap (λ (it : BareRow). it.cells) (sym (last-bare row later)))) in
      ap₂ (λ a b. cond (a || b) cells (with_continued cells)) fixed ends
      ∙ ap (λ (l : List ShownCell). cond (nat_lt 1 (length (bare_row row).cells) || ends_with nat_eq (flat_map cell_text (last_of (bare_row row) (bares later)).cells) continued) l (with_continued l)) (sym own)

cue-tells : (those : List Row) → TellsFixed those → TellsFixed (cue_rows those)
cue-tells [] tells = tt
cue-tells (row ∷ later) tells = by (is_cue row.shape.kind)
  where
    rest : ℕ
    rest = prefix_len (λ (it : Row). is_cue it.shape.kind) later

    by : (b : Bool) → TellsFixed (take (cond b (1 + rest) 0) (row ∷ later))
    by true = let e : suc rest ≡ 1 + rest = omega arith in subst (λ n. TellsFixed (take n (row ∷ later))) e tells
    by false = tt

cue-spoken : (those : List Row) → All IsSpoken (cue_rows those)
cue-spoken [] = All-nil IsSpoken
cue-spoken (row ∷ later) = by (is_cue row.shape.kind) refl (cue-spoken later)
  where
    rest : ℕ
    rest = prefix_len (λ (it : Row). is_cue it.shape.kind) later

    by : (b : Bool) → is_cue row.shape.kind ≡ b → All IsSpoken (take rest later) → All IsSpoken (take (cond b (1 + rest) 0) (row ∷ later))
    by true is later_spoken =
        let e : suc rest ≡ 1 + rest = omega arith in
        subst (λ n. All IsSpoken (take n (row ∷ later))) e (All-cons IsSpoken row (take rest later) (is-cue-speech row.shape.kind is) later_spoken)
    by false is later_spoken = All-nil IsSpoken

-- ---- the rows of elements

-- An element's rows know their places, and its cue is told.
pub record Tells (element : ElementOf) : Type 0 where
  pub own : AreOfElement element.rows
  pub plain : All Plain element.rows
  pub tells : TellsFixed element.rows

-- Rows stand no later than their index says, and the cue that one goes on with is told by its speech.
pub record Knows (rows : List Shown) : Type 0 where
  pub low : (k : ℕ) (d : Shown) → k < length rows → (get_or rows k d).shape.index ≤ k
  pub cue : (k : ℕ) (d : Shown) → k < length rows → continues_speech (get_or rows k d).shape ≡ true → (get_or rows k d).cue ≡ repeated (cue_at (map bare_of rows) k)

-- Where the speech of a row begins.
start-is : (rows : List Shown) (k : ℕ) (d : Shown) → k < length rows → speech_start (map bare_of rows) k ≡ k - (get_or rows k d).shape.index
start-is rows k d inside =
    let size = length-map rows bare_of in
    let at : slice_get (map bare_of rows) k ≡ Some (bare_of (get_or rows k d)) =
    slice_get-get_or (map bare_of rows) k (bare_of d) (omega (arith, inside, size)) ∙ ap (λ (it : BareRow). Some it) (get_or-map bare_of rows k d (bare_of d) inside) in
    ap (λ (o : Option BareRow). k - unwrap_or (option_map (λ (it : BareRow). it.shape.index) o) 0) at

knows-none : Knows []
knows-none = record { low = λ k d h. absurd (omega (arith, h)); cue = λ k d h speech. absurd (omega (arith, h)) }

knows-element : (lines : List LineState) (label : Option LabelOf) (element : ElementOf) (rest : List Shown) → Tells element → Knows rest → Knows (element_shown lines label element ++ rest)
knows-element lines label element rest is behind = record { low = low; cue = cue_told }
  where
    those : List Row
    those = placed_rows element

    texts : List (List ℕ)
    texts = line_texts lines

    own_cue : List ShownCell
    own_cue = element_cue texts those

    own : List Shown
    own = map (shown_of lines own_cue label) those

    those_are : AreOfElement those
    those_are = placed_rows-element element is.own

    size : length own ≡ length those
    size = length-map those (shown_of lines own_cue label)

    whole : length (own ++ rest) ≡ length own + length rest
    whole = length-append own rest

    -- A row of the element.
    at_own : (k : ℕ) (d : Shown) (e : Row) → k < length own → get_or (own ++ rest) k d ≡ shown_of lines own_cue label (get_or those k e)
    at_own k d e inside = get_or_append_left own rest d k inside ∙ get_or-map (shown_of lines own_cue label) those k e d (omega (arith, inside, size))

    at_rest : (k : ℕ) (d : Shown) → length own ≤ k → get_or (own ++ rest) k d ≡ get_or rest (k - length own) d
    at_rest k d past = get_or-append_right own rest (length own) k d refl past

    some_row : (k : ℕ) → k < length own → Row
    some_row k inside = first_of those (omega (arith, inside, size))
      where
        first_of : (rows : List Row) → 0 < length rows → Row
        first_of [] some = absurd (omega (arith, some))
        first_of (row ∷ rows) some = row

    low : (k : ℕ) (d : Shown) → k < length (own ++ rest) → (get_or (own ++ rest) k d).shape.index ≤ k
    low k d inside = elim (cases_lt k (length own)) [
      | inl here ↦
          let e = some_row k here in
          let same = ap (λ (it : Shown). it.shape.index) (at_own k d e here) in
          let place = (those_are.indexed k e (omega (arith, here, size))).index in
          omega (arith, same, place)
      | inr past ↦
          let same = ap (λ (it : Shown). it.shape.index) (at_rest k d past) in
          let later = behind.low (k - length own) d (omega (arith, inside, whole, past)) in
          omega (arith, same, later, past)
    ]

    joined : map bare_of (own ++ rest) ≡ map bare_of own ++ map bare_of rest
    joined = map-append bare_of own rest

    bare_own : (rows : List Row) → map bare_of (map (shown_of lines own_cue label) rows) ≡ bares lines own_cue label rows
    bare_own [] = refl
    bare_own (row ∷ rows) = ap (λ (l : List BareRow). bare_row lines own_cue label row ∷ l) (bare_own rows)

    -- The rows of the element are all that its cue is looked for in.
    own_part : (rows : List Row) → ((d : Row) → 0 < length rows → (get_or rows 0 d).shape.rest + 1 ≡ length rows)
        → (cue_from (bares lines own_cue label rows ++ map bare_of rest) ≡ take (prefix_len is_cue_row (bares lines own_cue label rows)) (bares lines own_cue label rows ++ map bare_of rest)) ⊎ (rows ≡ [])
    own_part [] rests = inr refl
    own_part (row ∷ rows) rests =
        let front = bares lines own_cue label (row ∷ rows) in
        let count : row.shape.rest + 1 ≡ length front = rests row (omega arith) ∙ sym (length-map (row ∷ rows) (bare_row lines own_cue label)) in
        let taken : take (row.shape.rest + 1) (front ++ map bare_of rest) ≡ front = ap (λ n. take n (front ++ map bare_of rest)) count ∙ take-append_seam front (map bare_of rest) in
        inl (ap (λ (l : List BareRow). take (prefix_len is_cue_row l) (front ++ map bare_of rest)) taken)

    prefix_short : (rows : List BareRow) → prefix_len is_cue_row rows ≤ length rows
    prefix_short [] = omega arith
    prefix_short (row ∷ rows) = by (is_cue_row row) (prefix_short rows)
      where
        by : (b : Bool) → prefix_len is_cue_row rows ≤ length rows → cond b (1 + prefix_len is_cue_row rows) 0 ≤ suc (length rows)
        by true short = omega (arith, short)
        by false short = omega arith

    take_front : (n : ℕ) (xs ys : List BareRow) → n ≤ length xs → take n (xs ++ ys) ≡ take n xs
    take_front zero xs ys short = refl
    take_front (suc n) [] ys short = absurd (omega (arith, short))
    take_front (suc n) (x ∷ xs) ys short = ap (λ (l : List BareRow). x ∷ l) (take_front n xs ys (omega (arith, short)))

    cue_own : (k : ℕ) → k < length own → own_cue ≡ repeated (cue_from (map bare_of (own ++ rest)))
    cue_own k inside =
        let front = bares lines own_cue label those in
        let back = map bare_of rest in
        let all : map bare_of (own ++ rest) ≡ front ++ back = joined ∙ ap (λ (l : List BareRow). l ++ back) (bare_own those) in
        let rests : (d : Row) → 0 < length those → (get_or those 0 d).shape.rest + 1 ≡ length those = λ d some. (let place = (those_are.indexed 0 d some).rest in omega (arith, place)) in
        let told : repeated_cells texts (cue_rows those) ≡ repeated (bares lines own_cue label (cue_rows those)) =
        repeated-bares lines own_cue label (cue_rows those) (cue-bare those (placed-plain element.first element.rows is.plain)) (cue-tells those (placed-tells element.first element.rows is.tells)) (cue-spoken those) in
        elim (own_part those rests) [
          | inl part ↦
              told ∙ ap repeated (sym (cue-bares lines own_cue label those))
              ∙ ap repeated (sym (take_front (prefix_len is_cue_row front) front back (prefix_short front)))
              ∙ ap repeated (sym part)
              ∙ ap (λ (l : List BareRow). repeated (cue_from l)) (sym all)
          | inr none ↦ (let few = ap length none in absurd (omega (arith, few, inside, size)))
        ]

    cue_told : (k : ℕ) (d : Shown) → k < length (own ++ rest) → continues_speech (get_or (own ++ rest) k d).shape ≡ true → (get_or (own ++ rest) k d).cue ≡ repeated (cue_at (map bare_of (own ++ rest)) k)
    cue_told k d inside speech = elim (cases_lt k (length own)) [
      | inl here ↦
          let e = some_row k here in
          let same = at_own k d e here in
          let place = (those_are.indexed k e (omega (arith, here, size))).index in
          let index = ap (λ (it : Shown). it.shape.index) same in
          let start : 0 ≡ speech_start (map bare_of (own ++ rest)) k = (let s = start-is (own ++ rest) k d inside in omega (arith, s, index, place)) in
          ap (λ (it : Shown). it.cue) same ∙ cue_own k here ∙ ap (λ n. repeated (cue_from (drop n (map bare_of (own ++ rest))))) start
      | inr past ↦
          let m = k - length own in
          let same = at_rest k d past in
          let below : m < length rest = omega (arith, inside, whole, past) in
          let goes : continues_speech (get_or rest m d).shape ≡ true = ap (λ (it : Shown). continues_speech it.shape) (sym same) ∙ speech in
          let later = behind.low m d below in
          let one = start-is (own ++ rest) k d inside in
          let other = start-is rest m d below in
          let index = ap (λ (it : Shown). it.shape.index) same in
          let front = map bare_of own in
          let bare_size = length-map own bare_of in
          let start : speech_start (map bare_of (own ++ rest)) k ≡ length front + speech_start (map bare_of rest) m = omega (arith, one, other, index, later, past, bare_size) in
          let speech_same : drop (speech_start (map bare_of (own ++ rest)) k) (map bare_of (own ++ rest)) ≡ drop (speech_start (map bare_of rest) m) (map bare_of rest) =
          ap₂ (λ n (l : List BareRow). drop n l) start joined ∙ drop-append-add front (map bare_of rest) (speech_start (map bare_of rest) m) in
          ap (λ (it : Shown). it.cue) same ∙ behind.cue m d below goes ∙ ap (λ (l : List BareRow). repeated (cue_from l)) (sym speech_same)
    ]

rows-know : (lines : List LineState) (labels : Option (List LabelOf)) (elements : List ElementOf) → All Tells elements → Knows (shown_rows lines labels elements)
rows-know lines labels [] all = knows-none
rows-know lines labels (element ∷ elements) all =
    knows-element lines (heading_label labels element) element (shown_rows lines (labels_behind labels element) elements) (All-head Tells element elements all)
    (rows-know lines (labels_behind labels element) elements (All-tail Tells element elements all))

-- ---- the rows of a state

record TellsRows (element : ElementOf) : Type 0 where
  plain : All Plain element.rows
  tells : TellsFixed element.rows

module _ (script : Script) where
  abbrev AllTell : ℕ → ℕ → List (Group PlacedBlock) → Type 0
  AllTell low high groups = All (λ (group : Group PlacedBlock). TellsRows (laid_out script.lines (spoken_group script group))) groups

  abbrev Here : Group PlacedBlock → Type 0
  Here group = TellsRows (laid_out script.lines (spoken_group script group))

  tell-steps : SoundSteps IsKnown AllTell
  tell-steps = record {
    none = λ low high order. All-nil Here;
    single = λ low high block others sound known order behind.
        All-cons Here (alone block) others
        (record { plain = alone-plain script.lines (spoken_by script block) known.lined known.plain; tells = alone-tells script.lines (spoken_by script block) known.lined known.plain }) behind;
    double = λ low high left right others l r dual places order apart behind.
        All-cons Here (pair left right) others
        (record { plain = pair-plain script.lines (spoken_by script left) (spoken_by script right); tells = pair-tells script.lines (spoken_by script left) (spoken_by script right) }) behind;
  }

  tell-bodies : (groups : List (Group PlacedBlock)) → All Here groups → All TellsRows (map (laid_out script.lines) (filter in_body (map (spoken_group script) groups)))
  tell-bodies [] all = All-nil TellsRows
  tell-bodies (group ∷ groups) all = by (in_body (spoken_group script group)) (tell-bodies groups (All-tail Here group groups all))
    where
      by : (b : Bool) → All TellsRows (map (laid_out script.lines) (filter in_body (map (spoken_group script) groups)))
          → All TellsRows (map (laid_out script.lines) (cond b (spoken_group script group ∷ filter in_body (map (spoken_group script) groups)) (filter in_body (map (spoken_group script) groups))))
      by true later = All-cons TellsRows (laid_out script.lines (spoken_group script group)) _ (All-head Here group groups all) later
      by false later = later

pub state-knows : (state : State) → IsText (text_of state) → Knows (rows_in state)
state-knows state is =
    let are = IsText-texts (text_of state) is in
    let script = script_of state in
    let all = elements-sound (texts_of state) IsKnown (AllTell script) (tell-steps script) (blocks-known (texts_of state)) are.utf8 are.few in
    let bodies : All TellsRows (layout_in state).body =
    subst (λ (groups : List (Group Spoken)). All TellsRows (map (laid_out state.lines) (filter in_body groups))) (sym (elements-scripted state is)) (tell-bodies script (blocks_in state) all) in
    let indexed = layout-indexed state.speakers (text_of state) is in
    rows-know state.lines (heading_labels state.lines state.scenes) (layout_in state).body
    (λ k d h. record { own = indexed k d h; plain = (bodies k d h).plain; tells = (bodies k d h).tells })
