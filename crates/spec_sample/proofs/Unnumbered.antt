-- Where no line of a text has a `#`, no heading has a written number.
use Rattle.std.proofs.Common.{◌≡◌, ℕ, zero, suc, ◌+◌, ◌-◌, Bool, true, false, not, ◌&&◌, ◌==◌, cond, eqb, ltb, List, [], ◌∷◌, length, map, take, drop, refl, sym, ap, ◌∙◌, subst, arith}
use Rattle.std.specs.Prelude.{All, nat_lt, slice_index, slice_range}
use Rattle.std.specs.List.{list_all}
use Rattle.std.proofs.lemmas.Bool.{and_parts, and_from, ltb-true}
use Rattle.std.proofs.lemmas.List.Elements.{All-nil, All-cons, All-head, All-tail, All-append, All-drop}
use Rattle.std.proofs.lemmas.List.Folds.{list_all-append}
use Rattle.std.proofs.lemmas.List.Recursion.{and_at}
use Rattle.spec_text.specs.Parts.{SpanOf}
use Rattle.spec_script.specs.declared.Sort.{Sort}
use Rattle.spec_script.specs.declared.Sort.TheVariants as sorts
use Rattle.spec_script.specs.Marked.{Covered}
use Rattle.spec_script.specs.Spans.{bytes_left, text_in}
use Rattle.spec_script.specs.Letters.{ends}
use Rattle.spec_script.specs.Trim.{trim_all}
use Rattle.spec_script.specs.LongestRuns.{Group, members, in_front, longest_runs}
use Rattle.spec_script.specs.BlockValues.{BlockOf}
use Rattle.spec_script.specs.Left.{Cleaned, Left, left_line, left_before, left_from, left_lines, trimmed}
use Rattle.spec_script.specs.Headings.{heading_skip, number_bytes, number_len, heading_with, heading_of}
use Rattle.spec_script.specs.Forms.{is_natural_heading, is_natural_transition, is_forced_heading, is_page_break, is_synopsis}
use Rattle.spec_script.specs.Title.{title_opens}
use Rattle.spec_script.specs.TitlePages.{one_key, title_of}
use Rattle.spec_script.specs.Speeches.{is_speech, speech_of}
use Rattle.spec_script.specs.Divisions.{ends_part, section_of, ending_blocks, one_block, group_block, run_blocks, part_blocks, piece_blocks, one_part, pieces_blocks}
use Rattle.spec_script.specs.Blocks.{left_blocks}
use Rattle.spec_script.specs.Boneyards.{yards}
use Rattle.spec_script.specs.Notes.{notes}
use Rattle.spec_script.specs.Stanzas.{Kept, kept_line, kept_each, kept_text, one_stanza, cleaned_line, cleaned_each, cleaned_lines, stanza_of, stanzas_in, blocks_from, lines_from, blocks_of}
use Rattle.spec_script.specs.Elements.{placed_at}
use Rattle.spec_script.proofs.EachBlock.{Placed}

-- ---- bytes that are no `#`

abbrev pub is_other : ℕ → Bool
is_other byte = not (byte == 35)

-- No byte is one.
pub record HasNone (text : List ℕ) : Type 0 where
  pub none : list_all is_other text ≡ true

none-take : (count : ℕ) (text : List ℕ) → list_all is_other text ≡ true → list_all is_other (take count text) ≡ true
none-take zero text none = refl
none-take (suc count) [] none = refl
none-take (suc count) (byte ∷ text) none =
    let parts = and_parts (is_other byte) (list_all is_other text) none in and_from (is_other byte) (list_all is_other (take count text)) parts.0 (none-take count text parts.1)

none-drop : (count : ℕ) (text : List ℕ) → list_all is_other text ≡ true → list_all is_other (drop count text) ≡ true
none-drop zero text none = none
none-drop (suc count) [] none = refl
none-drop (suc count) (byte ∷ text) none = none-drop count text (and_parts (is_other byte) (list_all is_other text) none).1

none-range : (from to : ℕ) (text : List ℕ) → list_all is_other text ≡ true → list_all is_other (slice_range text from to) ≡ true
none-range from to text none = none-take (to - from) (drop from text) (none-drop from text none)

none-in : (text : List ℕ) (spans : List SpanOf) → list_all is_other text ≡ true → list_all is_other (text_in text spans) ≡ true
none-in text [] none = refl
none-in text (span ∷ spans) none =
    list_all-append is_other (slice_range text span.0 span.1) (text_in text spans)
    ∙ and_from (list_all is_other (slice_range text span.0 span.1)) (list_all is_other (text_in text spans)) (none-range span.0 span.1 text none) (none-in text spans none)

none-left : (bytes : List ℕ) (gone : List Bool) → list_all is_other bytes ≡ true → list_all is_other (bytes_left bytes gone) ≡ true
none-left [] gone none = refl
none-left (byte ∷ bytes) [] none = none
none-left (byte ∷ bytes) (true ∷ gone) none = none-left bytes gone (and_parts (is_other byte) (list_all is_other bytes) none).1
none-left (byte ∷ bytes) (false ∷ gone) none =
    let parts = and_parts (is_other byte) (list_all is_other bytes) none in and_from (is_other byte) (list_all is_other (bytes_left bytes gone)) parts.0 (none-left bytes gone parts.1)

not-both : (b : Bool) → not b ≡ true → b ≡ false
not-both false is = refl
not-both true is = absurd (let bad : ⊥ = cc in bad)

-- So no such text ends in one.
none-ends : (text : List ℕ) → list_all is_other text ≡ true → ends 35 text ≡ false
none-ends text none = by (ltb 0 (length text)) refl
  where
    by : (b : Bool) → ltb 0 (length text) ≡ b → (b && eqb (slice_index text (length text - 1)) 35) ≡ false
    by false is = refl
    by true is =
        let inside = ltb-true 0 (length text) is in
        not-both (eqb (slice_index text (length text - 1)) 35) (and_at (list_all is_other) is_other refl (λ _ _. refl) text (length text - 1) 0 (omega (arith, inside)) none)

-- ---- lines of which none has one

record KeptNone (line : Kept) : Type 0 where
  none : list_all is_other line.line ≡ true

record CleanedNone (line : Cleaned) : Type 0 where
  none : list_all is_other line.text ≡ true

record LeftNone (line : Left) : Type 0 where
  none : list_all is_other line.text ≡ true

none-kept : (texts : List (List ℕ)) (covered : List Covered) → All HasNone texts → All KeptNone (kept_each texts covered)
none-kept [] covered all = All-nil KeptNone
none-kept (text ∷ texts) [] all = All-nil KeptNone
none-kept (text ∷ texts) (yard ∷ covered) all =
    let here : KeptNone (kept_line text yard) = record { none = (All-head HasNone text texts all).none } in
    All-cons KeptNone (kept_line text yard) (kept_each texts covered) here (none-kept texts covered (All-tail HasNone text texts all))

none-cleaned : (lines : List Kept) (noted : List (List Bool)) → All KeptNone lines → All CleanedNone (cleaned_each lines noted)
none-cleaned [] noted all = All-nil CleanedNone
none-cleaned (line ∷ lines) [] all = All-nil CleanedNone
none-cleaned (line ∷ lines) (flags ∷ noted) all =
    let own = All-head KeptNone line lines all in
    let here : CleanedNone (cleaned_line line flags) = record { none = none-left (kept_text line) flags (none-in line.line line.spans own.none) } in
    All-cons CleanedNone (cleaned_line line flags) (cleaned_each lines noted) here (none-cleaned lines noted (All-tail KeptNone line lines all))

none-before : (place : ℕ) (sort : Sort) (line : Cleaned) (rest : List Left) → CleanedNone line → All LeftNone rest → All LeftNone (left_before place sort line rest)
none-before place sorts.Empty line rest here all = all
none-before place sorts.Absent line rest here all = all
none-before place sorts.Held line rest here all = All-cons LeftNone (left_line place true line) rest (record { none = here.none }) all
none-before place sorts.Plain line rest here all = All-cons LeftNone (left_line place false line) rest (record { none = here.none }) all

none-from : (place : ℕ) (lines : List Cleaned) → All CleanedNone lines → All LeftNone (left_from place lines)
none-from place [] all = All-nil LeftNone
none-from place (line ∷ lines) all =
    none-before place line.sort line (left_from (place + 1) lines) (All-head CleanedNone line lines all) (none-from (place + 1) lines (All-tail CleanedNone line lines all))

-- ---- runs of elements

record Each {X : Type 0} (P : X → Type 0) (group : Group X) : Type 0 where
  all : All P (members group)

each-front : {X : Type 0} (P : X → Type 0) (joins : X → X → Bool) (x : X) (groups : List (Group X)) → P x → All (Each P) groups → All (Each P) (in_front joins x groups)
each-front P joins x [] here all = All-cons (Each P) _ [] (record { all = All-cons P x [] here (All-nil P) }) (All-nil (Each P))
each-front {X} P joins x (g ∷ gs) here all = by (joins x g.first)
  where
    by : (b : Bool) → All (Each P) (cond b ((record { first = x; more = members g }) ∷ gs) ((record { first = x; more = [] }) ∷ g ∷ gs))
    by true = All-cons (Each P) _ gs (record { all = All-cons P x (members g) here (All-head (Each P) g gs all).all }) (All-tail (Each P) g gs all)
    by false = All-cons (Each P) _ (g ∷ gs) (record { all = All-cons P x [] here (All-nil P) }) all

each-runs : {X : Type 0} (P : X → Type 0) (joins : X → X → Bool) (xs : List X) → All P xs → All (Each P) (longest_runs joins xs)
each-runs P joins [] all = All-nil (Each P)
each-runs P joins (x ∷ xs) all = each-front P joins x (longest_runs joins xs) (All-head P x xs all) (each-runs P joins xs (All-tail P x xs all))

-- ---- blocks

pub record Unnumbered (block : BlockOf) : Type 0 where
  pub none : block.number ≡ []

if-all : (b : Bool) (xs ys : List BlockOf) → All Unnumbered xs → All Unnumbered ys → All Unnumbered (cond b xs ys)
if-all true xs ys x y = x
if-all false xs ys x y = y

if-one : (b : Bool) (x y : BlockOf) → Unnumbered x → Unnumbered y → Unnumbered (cond b x y)
if-one true x y h other = h
if-one false x y h other = other

one : (block : BlockOf) → Unnumbered block → All Unnumbered (block ∷ [])
one block h = All-cons Unnumbered block [] h (All-nil Unnumbered)

no-number : (text : List ℕ) → list_all is_other text ≡ true → number_len text ≡ 0
no-number text none =
    ap (λ b. cond (b && nat_lt 0 (number_bytes text) && ends 35 (take (length text - (number_bytes text + 1)) text)) (number_bytes text) 0) (none-ends text none)

none-heading : (line : Left) → LeftNone line → Unnumbered (heading_of line)
none-heading line here =
    let text = drop (heading_skip line) (trimmed line) in
    let free = none-drop (heading_skip line) (trimmed line) (none-range (trim_all line.text).from (trim_all line.text).to line.text here.none) in
    let plain : Unnumbered (heading_with line 0) = record { none = refl } in
    subst (λ n. Unnumbered (heading_with line n)) (sym (no-number text free)) plain

none-group : (group : Group Left) → Each LeftNone group → Unnumbered (group_block group)
none-group group each =
    if-one (is_forced_heading (trimmed group.first)) (heading_of group.first) _ (none-heading group.first (All-head LeftNone group.first group.more each.all)) (record { none = refl })

none-groups : (groups : List (Group Left)) → All (Each LeftNone) groups → All Unnumbered (map group_block groups)
none-groups [] all = All-nil Unnumbered
none-groups (group ∷ groups) all =
    All-cons Unnumbered (group_block group) (map group_block groups) (none-group group (All-head (Each LeftNone) group groups all)) (none-groups groups (All-tail (Each LeftNone) group groups all))

none-ending : (line : Left) → All Unnumbered (ending_blocks line)
none-ending line =
    if-all line.held [] _ (All-nil Unnumbered)
    (if-all (is_page_break (trimmed line)) _ _ (one _ (record { none = refl }))
    (if-all (is_synopsis (trimmed line)) _ _ (one _ (record { none = refl })) (one (section_of line) (record { none = refl }))))

none-run : (lines : List Left) → All LeftNone lines → All Unnumbered (run_blocks lines)
none-run lines all = none-groups (longest_runs one_block lines) (each-runs LeftNone one_block lines all)

none-part : (line : Left) (more : List Left) → All LeftNone (line ∷ more) → All Unnumbered (part_blocks line more)
none-part line [] all =
    if-all (is_natural_heading (trimmed line)) (heading_of line ∷ []) _ (one (heading_of line) (none-heading line (All-head LeftNone line [] all)))
    (if-all (is_natural_transition line.text) _ (run_blocks (line ∷ [])) (one _ (record { none = refl })) (none-run (line ∷ []) all))
none-part line (next ∷ more) all = none-run (line ∷ next ∷ more) all

none-pieces : (groups : List (Group Left)) → All (Each LeftNone) groups → All Unnumbered (pieces_blocks groups)
none-pieces [] all = All-nil Unnumbered
none-pieces (group ∷ groups) all =
    All-append Unnumbered (piece_blocks group) (pieces_blocks groups)
    (if-all (ends_part group.first) (ending_blocks group.first) (part_blocks group.first group.more) (none-ending group.first)
    (none-part group.first group.more (All-head (Each LeftNone) group groups all).all))
    (none-pieces groups (All-tail (Each LeftNone) group groups all))

none-blocks : (first : Bool) (lines : List Left) → All LeftNone lines → All Unnumbered (left_blocks first lines)
none-blocks first [] all = All-nil Unnumbered
none-blocks first (line ∷ more) all =
    if-all (first && title_opens line.text) _ _ (one (title_of line more (longest_runs one_key (line ∷ more))) (record { none = refl }))
    (if-all (is_speech line more) _ _ (one (speech_of line more) (record { none = refl }))
    (none-pieces (longest_runs one_part (line ∷ more)) (each-runs LeftNone one_part (line ∷ more) all)))

none-placed : (place : ℕ) (blocks : List BlockOf) → All Unnumbered blocks → All (Placed Unnumbered) (map (placed_at place) blocks)
none-placed place [] all = All-nil (Placed Unnumbered)
none-placed place (block ∷ blocks) all =
    All-cons (Placed Unnumbered) (placed_at place block) (map (placed_at place) blocks) (All-head Unnumbered block blocks all) (none-placed place blocks (All-tail Unnumbered block blocks all))

none-stanza : (lines : List Kept) → All KeptNone lines → All LeftNone (left_lines (cleaned_lines lines))
none-stanza lines all =
    let those = left_from 0 (cleaned_lines lines) in
    All-drop LeftNone _ those (none-from 0 (cleaned_lines lines) (none-cleaned lines (notes (map kept_text lines)) all))

none-stanzas : (first : Bool) (place : ℕ) (groups : List (Group Kept)) → All (Each KeptNone) groups → All (Placed Unnumbered) (blocks_from place (stanzas_in first groups))
none-stanzas first place [] all = All-nil (Placed Unnumbered)
none-stanzas first place (group ∷ groups) all =
    let stanza = stanza_of first (members group) in
    All-append (Placed Unnumbered) (map (placed_at place) stanza.blocks) (blocks_from (place + stanza.lines) (stanzas_in false groups))
    (none-placed place stanza.blocks (none-blocks first (left_lines (cleaned_lines (members group))) (none-stanza (members group) (All-head (Each KeptNone) group groups all).all)))
    (none-stanzas false (place + stanza.lines) groups (All-tail (Each KeptNone) group groups all))

pub none-text : (texts : List (List ℕ)) → All HasNone texts → All (Placed Unnumbered) (blocks_of texts)
none-text texts all = none-stanzas true 0 (longest_runs one_stanza (lines_from texts 0)) (each-runs KeptNone one_stanza (lines_from texts 0) (none-kept texts (yards texts) all))
