-- What bytes are read as is the list of sheets that they are, or the first sheet that breaks it.
use Rattle.std.proofs.Common.{◌≡◌, ◌⊎◌, inl, inr, ℕ, zero, suc, ◌+◌, ◌<◌, ◌==◌, Bool, true, false, not, ◌&&◌, cond, List, [], ◌∷◌, ◌++◌, length, map, filter, take, Option, Some, None, refl, sym, ap, ap₂, subst, ◌∙◌, arith}
use Rattle.std.specs.Prelude.{All, option_map}
use Rattle.std.specs.List.{list_any, cons_option, filter_map, slice_split}
use Rattle.std.proofs.lemmas.Bool.{cases_Bool, and_parts, ne_eqb, true≢false}
use Rattle.std.proofs.lemmas.List.{take_all}
use Rattle.std.proofs.lemmas.List.Elements.{All-nil, All-cons, All-head, All-tail}
use Rattle.std.proofs.lemmas.List.Kept.{AllPairs-cons}
use Rattle.spec_text.proofs.ListLaws.{pairs-head, pairs-tail}
use Rattle.spec_labels.specs.Labels.{LabelOf, Below}
use Rattle.spec_sheets.specs.Sheets.{SheetLabelOf}
use Rattle.spec_packet.specs.SheetLists.{SheetListOf}
use Rattle.spec_packet.specs.SheetReadings.{is_line_end, is_sheet_end, header_in, header_labels, PieceKind, title, labelled, no_sheet, kind_by_labels, kind_of, SheetsReading, sheets, broken, with_title, with_labelled, follows, is_first, read_piece, read_pieces, sheets_in}
use Rattle.spec_packet.specs.SheetConditions.{AreCut, HasLine, has_stop, is_title, HasLabels, AreSheets, whole_sheet, printed_by, printed_of, list_of, AreListed, BreaksFirst}
use Rattle.spec_packet.proofs.LabelTests.{below-test, test-below}
use Rattle.spec_packet.proofs.ReadingLaws.{has-first}

-- ---- pieces

-- What a piece is.
data PieceView (piece : List ℕ) : Type 0 where
  is_none : kind_of piece ≡ no_sheet → (HasLine piece → (has_stop piece ≡ true) × ((label : SheetLabelOf) → HasLabels piece label → ⊥)) → PieceView piece
  is_titled : kind_of piece ≡ title → HasLine piece → has_stop piece ≡ false → PieceView piece
  is_labelled : (label : SheetLabelOf) → kind_of piece ≡ labelled label → HasLine piece → HasLabels piece label → PieceView piece

view : (piece : List ℕ) → PieceView piece
view piece = by (list_any is_line_end piece) refl (has_stop piece) refl (header_labels (header_in piece)) refl
  where
    by : (line : Bool) → list_any is_line_end piece ≡ line → (stop : Bool) → has_stop piece ≡ stop → (labels : Option SheetLabelOf) → header_labels (header_in piece) ≡ labels → PieceView piece
    by false l stop s labels o = is_none (ap (λ b. cond (not b) no_sheet (cond (has_stop piece) (kind_by_labels (header_labels (header_in piece))) title)) l) (λ h. absurd (true≢false (sym h ∙ l)))
    by true l false s labels o = is_titled (ap₂ (λ a b. cond (not a) no_sheet (cond b (kind_by_labels (header_labels (header_in piece))) title)) l s) l s
    by true l true s None o =
        is_none (ap₂ (λ a b. cond (not a) no_sheet (cond b (kind_by_labels (header_labels (header_in piece))) title)) l s ∙ ap kind_by_labels o)
        (λ h. (s, λ label has. let bad : ⊥ = cc (o, has.spells) in bad))
    by true l true s (Some label) o =
        is_labelled label (ap₂ (λ a b. cond (not a) no_sheet (cond b (kind_by_labels (header_labels (header_in piece))) title)) l s ∙ ap kind_by_labels o) l (record { stop = s; spells = o })

-- Behind a label, where one stands before, a piece is a next sheet.
abbrev fits : Option LabelOf → PieceKind → Bool
fits before no_sheet = false
fits before title = is_first before
fits before (labelled label) = follows before label.first

-- The last label up to a piece.
abbrev after : PieceKind → Option LabelOf
after no_sheet = None
after title = None
after (labelled label) = Some label.last

abbrev runs : Option LabelOf → List (List ℕ) → Bool
runs before [] = true
runs before (piece ∷ pieces) = fits before (kind_of piece) && runs (after (kind_of piece)) pieces

-- ---- the reader

read-next : (k : ℕ) (before : Option LabelOf) (piece : List ℕ) (pieces : List (List ℕ)) (rest : List ℕ)
    → read_pieces k before (piece ∷ (pieces ++ rest ∷ [])) ≡ read_piece k before piece (kind_of piece) (λ last. read_pieces (k + 1) last (pieces ++ rest ∷ []))
read-next k before piece [] rest = refl
read-next k before piece (next ∷ pieces) rest = refl

abbrev ended : ℕ → List (List ℕ) → List ℕ → SheetsReading
ended k pieces rest = cond (length rest == 0) (sheets (list_of pieces)) (broken (k + length pieces))

list-titled : (piece : List ℕ) (pieces : List (List ℕ)) → has_stop piece ≡ false
    → list_of (piece ∷ pieces) ≡ record { titles = whole_sheet piece ∷ (list_of pieces).titles; labelled = (list_of pieces).labelled }
list-titled piece pieces stop =
    ap (λ b.
    let list : SheetListOf = record {
      titles = map whole_sheet (cond (not b) (piece ∷ filter is_title pieces) (filter is_title pieces));
      labelled = cons_option (cond b (option_map (printed_by piece) (header_labels (header_in piece))) None) (filter_map printed_of pieces);
    } in
    list) stop

list-labelled : (piece : List ℕ) (pieces : List (List ℕ)) (label : SheetLabelOf) → HasLabels piece label
    → list_of (piece ∷ pieces) ≡ record { titles = (list_of pieces).titles; labelled = printed_by piece label ∷ (list_of pieces).labelled }
list-labelled piece pieces label has =
    ap₂ (λ (b : Bool) (labels : Option SheetLabelOf).
    let list : SheetListOf = record {
      titles = map whole_sheet (cond (not b) (piece ∷ filter is_title pieces) (filter is_title pieces));
      labelled = cons_option (cond b (option_map (printed_by piece) labels) None) (filter_map printed_of pieces);
    } in
    list) has.stop has.spells

-- Where all pieces are sheets.
read-all : (k : ℕ) (before : Option LabelOf) (pieces : List (List ℕ)) (rest : List ℕ) → runs before pieces ≡ true → read_pieces k before (pieces ++ rest ∷ []) ≡ ended k pieces rest
read-all k before [] rest run = ap (λ n. cond (length rest == 0) (sheets (record { titles = []; labelled = [] })) (broken n)) (omega arith)
read-all k before (piece ∷ pieces) rest run = read-next k before piece pieces rest ∙ by (view piece) (λ last behind. read-all (k + 1) last pieces rest behind)
  where
    later : Option LabelOf → SheetsReading
    later last = read_pieces (k + 1) last (pieces ++ rest ∷ [])

    parts : (fits before (kind_of piece) ≡ true) × (runs (after (kind_of piece)) pieces ≡ true)
    parts = and_parts (fits before (kind_of piece)) (runs (after (kind_of piece)) pieces) run

    Again : Type 0
    Again = (last : Option LabelOf) → runs last pieces ≡ true → later last ≡ ended (k + 1) pieces rest

    next : Again → (kind : PieceKind) → kind_of piece ≡ kind → later (after kind) ≡ ended (k + 1) pieces rest
    next again kind is = again (after kind) (subst (λ kind. runs (after kind) pieces ≡ true) is parts.1)

    fit : (kind : PieceKind) → kind_of piece ≡ kind → fits before kind ≡ true
    fit kind is = subst (λ kind. fits before kind ≡ true) is parts.0

    titled : has_stop piece ≡ false → (b : Bool)
        → with_title piece (cond b (sheets (list_of pieces)) (broken (k + 1 + length pieces))) ≡ cond b (sheets (list_of (piece ∷ pieces))) (broken (k + length (piece ∷ pieces)))
    titled stop true = ap sheets (sym (list-titled piece pieces stop))
    titled stop false = ap broken (omega arith)

    with-labels : (label : SheetLabelOf) → HasLabels piece label → (b : Bool)
        → with_labelled label piece (cond b (sheets (list_of pieces)) (broken (k + 1 + length pieces))) ≡ cond b (sheets (list_of (piece ∷ pieces))) (broken (k + length (piece ∷ pieces)))
    with-labels label has true = ap sheets (sym (list-labelled piece pieces label has))
    with-labels label has false = ap broken (omega arith)

    by : PieceView piece → Again → read_piece k before piece (kind_of piece) later ≡ ended k (piece ∷ pieces) rest
    by (is_none is why) again = absurd (true≢false (sym (fit no_sheet is)))
    by (is_titled is line stop) again =
        ap (λ kind. read_piece k before piece kind later) is
        ∙ ap (λ b. cond b (with_title piece (later None)) (broken k)) (fit title is)
        ∙ ap (with_title piece) (next again title is)
        ∙ titled stop (length rest == 0)
    by (is_labelled label is line has) again =
        ap (λ kind. read_piece k before piece kind later) is
        ∙ ap (λ b. cond b (with_labelled label piece (later (Some label.last))) (broken k)) (fit (labelled label) is)
        ∙ ap (with_labelled label piece) (next again (labelled label) is)
        ∙ with-labels label has (length rest == 0)

-- Where one isn't.
read-broken : (k : ℕ) (before : Option LabelOf) (pieces : List (List ℕ)) (rest : List ℕ) (i : ℕ) → i < length pieces → runs before (take i pieces) ≡ true → runs before (take (suc i) pieces) ≡ false
    → read_pieces k before (pieces ++ rest ∷ []) ≡ broken (k + i)
read-broken k before [] rest i inside run breaks = absurd (omega (arith, inside))
read-broken k before (piece ∷ pieces) rest zero inside run breaks = read-next k before piece pieces rest ∙ by (kind_of piece) (no_more (fits before (kind_of piece)) breaks)
  where
    no_more : (b : Bool) → (b && true) ≡ false → b ≡ false
    no_more true h = h
    no_more false h = refl

    by : (kind : PieceKind) → fits before kind ≡ false → read_piece k before piece kind (λ last. read_pieces (k + 1) last (pieces ++ rest ∷ [])) ≡ broken (k + 0)
    by no_sheet h = ap broken (omega arith)
    by title h = ap (λ b. cond b (with_title piece (read_pieces (k + 1) None (pieces ++ rest ∷ []))) (broken k)) h ∙ ap broken (omega arith)
    by (labelled label) h = ap (λ b. cond b (with_labelled label piece (read_pieces (k + 1) (Some label.last) (pieces ++ rest ∷ []))) (broken k)) h ∙ ap broken (omega arith)
read-broken k before (piece ∷ pieces) rest (suc i) inside run breaks = read-next k before piece pieces rest ∙ by (kind_of piece) parts.0 (read-broken (k + 1) (after (kind_of piece)) pieces rest i (omega (arith, inside)) parts.1 breaks_later ∙ ap broken (omega arith))
  where
    parts : (fits before (kind_of piece) ≡ true) × (runs (after (kind_of piece)) (take i pieces) ≡ true)
    parts = and_parts (fits before (kind_of piece)) (runs (after (kind_of piece)) (take i pieces)) run

    breaks_later : runs (after (kind_of piece)) (take (suc i) pieces) ≡ false
    breaks_later = sym (ap (λ b. b && runs (after (kind_of piece)) (take (suc i) pieces)) parts.0) ∙ breaks

    by : (kind : PieceKind) → fits before kind ≡ true → read_pieces (k + 1) (after kind) (pieces ++ rest ∷ []) ≡ broken (k + suc i)
        → read_piece k before piece kind (λ last. read_pieces (k + 1) last (pieces ++ rest ∷ [])) ≡ broken (k + suc i)
    by no_sheet h is = absurd (true≢false (sym h))
    by title h is = ap (λ b. cond b (with_title piece (read_pieces (k + 1) None (pieces ++ rest ∷ []))) (broken k)) h ∙ ap (with_title piece) is
    by (labelled label) h is = ap (λ b. cond b (with_labelled label piece (read_pieces (k + 1) (Some label.last) (pieces ++ rest ∷ []))) (broken k)) h ∙ ap (with_labelled label piece) is

-- All pieces are sheets, or there is a first one that isn't.
record BreaksAt (before : Option LabelOf) (pieces : List (List ℕ)) : Type 0 where
  at : ℕ
  inside : at < length pieces
  run : runs before (take at pieces) ≡ true
  breaks : runs before (take (suc at) pieces) ≡ false

decide : (before : Option LabelOf) (pieces : List (List ℕ)) → (runs before pieces ≡ true) ⊎ BreaksAt before pieces
decide before [] = inl refl
decide before (piece ∷ pieces) = elim (cases_Bool (fits before (kind_of piece))) [
  | inr unfit ↦ inr (record { at = 0; inside = omega arith; run = refl; breaks = ap (λ b. b && true) unfit })
  | inl fit ↦ elim (decide (after (kind_of piece)) pieces) [
    | inl run ↦ inl (ap₂ (λ a b. a && b) fit run)
    | inr it ↦ inr (record {
      at = suc it.at;
      inside = let low = it.inside in omega (arith, low);
      run = ap₂ (λ a b. a && b) fit it.run;
      breaks = ap₂ (λ a b. a && b) fit it.breaks;
    })
  ]
]

-- ---- the conditions

-- What stands before pieces allows them.
abbrev First : LabelOf → List (List ℕ) → Type 0
First last [] = Unit {0}
First last (piece ∷ pieces) = (label : SheetLabelOf) → HasLabels piece label → Below last label.first

abbrev Stops : List ℕ → Type 0
Stops piece = has_stop piece ≡ true

abbrev Enters : Option LabelOf → List (List ℕ) → Type 0
Enters None pieces = Unit {0}
Enters (Some last) pieces = All Stops pieces × First last pieces

abbrev Labels : List ℕ → Type 0
Labels piece = has_stop piece ≡ true → (label : SheetLabelOf) × HasLabels piece label

abbrev InTurn : List ℕ → List ℕ → Type 0
InTurn one other = has_stop one ≡ true → has_stop other ≡ true

abbrev InOrder : List (List ℕ) → Type 0
InOrder pieces = (front : List (List ℕ)) (one next : List ℕ) (back : List (List ℕ)) → pieces ≡ front ++ one ∷ next ∷ back
    → (label other : SheetLabelOf) → HasLabels one label → HasLabels next other → Below label.last other.first

one-label : (piece : List ℕ) (label other : SheetLabelOf) → HasLabels piece label → HasLabels piece other → label ≡ other
one-label piece label other one two = let same : Some label ≡ Some other = sym one.spells ∙ two.spells in cc

no-order : InOrder []
no-order [] one next back is = absurd (let bad : ⊥ = cc (is) in bad)
no-order (x ∷ front) one next back is = absurd (let bad : ⊥ = cc (is) in bad)

cons-order : (piece : List ℕ) (pieces : List (List ℕ)) → ((label : SheetLabelOf) → HasLabels piece label → First label.last pieces) → InOrder pieces → InOrder (piece ∷ pieces)
cons-order piece [] first order [] one next back is label other has more = absurd (let bad : ⊥ = cc (is) in bad)
cons-order piece (x ∷ pieces) first order [] one next back is label other has more =
    let same : piece ≡ one = cc (is) in
    let then : x ≡ next = cc (is) in
    first label (subst (λ p. HasLabels p label) (sym same) has) other (subst (λ p. HasLabels p other) (sym then) more)
cons-order piece pieces first order (x ∷ front) one next back is label other has more =
    let rest : pieces ≡ front ++ one ∷ next ∷ back = cc (is) in
    order front one next back rest label other has more

runs-sheets : (before : Option LabelOf) (pieces : List (List ℕ)) → runs before pieces ≡ true → AreSheets pieces × Enters before pieces
runs-sheets before [] run = (
  record { lines = All-nil HasLine; titles = λ i j d low below. absurd (omega (arith, below)); labels = All-nil Labels; order = no-order },
  none before,
)
  where
    none : (before : Option LabelOf) → Enters before []
    none None = tt
    none (Some last) = (All-nil Stops, tt)
runs-sheets before (piece ∷ pieces) run = by (view piece) (λ last behind. runs-sheets last pieces behind)
  where
    parts : (fits before (kind_of piece) ≡ true) × (runs (after (kind_of piece)) pieces ≡ true)
    parts = and_parts (fits before (kind_of piece)) (runs (after (kind_of piece)) pieces) run

    fit : (kind : PieceKind) → kind_of piece ≡ kind → fits before kind ≡ true
    fit kind is = subst (λ kind. fits before kind ≡ true) is parts.0

    Again : Type 0
    Again = (last : Option LabelOf) → runs last pieces ≡ true → AreSheets pieces × Enters last pieces

    later : Again → (kind : PieceKind) → kind_of piece ≡ kind → AreSheets pieces × Enters (after kind) pieces
    later again kind is = again (after kind) (subst (λ kind. runs (after kind) pieces ≡ true) is parts.1)

    first-titled : (before : Option LabelOf) → is_first before ≡ true → Enters before (piece ∷ pieces)
    first-titled None h = tt
    first-titled (Some last) h = absurd (true≢false (sym h))

    first-labelled : (before : Option LabelOf) (label : SheetLabelOf) → HasLabels piece label → All Stops pieces → follows before label.first ≡ true → Enters before (piece ∷ pieces)
    first-labelled None label has stops h = tt
    first-labelled (Some last) label has stops h = (
      All-cons Stops piece pieces has.stop stops,
      λ other more. subst (λ (l : SheetLabelOf). Below last l.first) (one-label piece label other has more) (test-below last label.first h),
    )

    by : PieceView piece → Again → AreSheets (piece ∷ pieces) × Enters before (piece ∷ pieces)
    by (is_none is why) again = absurd (true≢false (sym (fit no_sheet is)))
    by (is_titled is line stop) again =
        let are = (later again title is).0 in (
          record {
            lines = All-cons HasLine piece pieces line are.lines;
            titles = AllPairs-cons InTurn piece pieces (λ k d h stops. absurd (true≢false (sym stops ∙ stop))) are.titles;
            labels = All-cons Labels piece pieces (λ stops. absurd (true≢false (sym stops ∙ stop))) are.labels;
            order = cons-order piece pieces (λ label has. absurd (true≢false (sym has.stop ∙ stop))) are.order;
          },
          first-titled before (fit title is),
        )
    by (is_labelled label is line has) again =
        let rest = later again (labelled label) is in
        let are = rest.0 in
        let enters = rest.1 in (
          record {
            lines = All-cons HasLine piece pieces line are.lines;
            titles = AllPairs-cons InTurn piece pieces (λ k d h stops. enters.0 k d h) are.titles;
            labels = All-cons Labels piece pieces (λ stops. (label, has)) are.labels;
            order = cons-order piece pieces (λ other more. subst (λ (l : SheetLabelOf). First l.last pieces) (one-label piece label other has more) enters.1) are.order;
          },
          first-labelled before label has enters.0 (fit (labelled label) is),
        )

sheets-runs : (before : Option LabelOf) (pieces : List (List ℕ)) → AreSheets pieces → Enters before pieces → runs before pieces ≡ true
sheets-runs before [] are enters = refl
sheets-runs before (piece ∷ pieces) are enters = by (view piece) (λ last behind. sheets-runs last pieces rest behind)
  where
    rest : AreSheets pieces
    rest = record {
      lines = All-tail HasLine piece pieces are.lines;
      titles = pairs-tail InTurn piece pieces are.titles;
      labels = All-tail Labels piece pieces are.labels;
      order = λ front one next back is. are.order (piece ∷ front) one next back (ap (λ (l : List (List ℕ)). piece ∷ l) is);
    }

    put : (kind : PieceKind) → kind_of piece ≡ kind → fits before kind ≡ true → runs (after kind) pieces ≡ true → runs before (piece ∷ pieces) ≡ true
    put kind is fit run = ap (λ kind. fits before kind && runs (after kind) pieces) is ∙ ap₂ (λ a b. a && b) fit run

    titled : (before : Option LabelOf) → Enters before (piece ∷ pieces) → has_stop piece ≡ false → is_first before ≡ true
    titled None enters stop = refl
    titled (Some last) enters stop = absurd (true≢false (sym (All-head Stops piece pieces enters.0) ∙ stop))

    with-labels : (before : Option LabelOf) → Enters before (piece ∷ pieces) → (label : SheetLabelOf) → HasLabels piece label → follows before label.first ≡ true
    with-labels None enters label has = refl
    with-labels (Some last) enters label has = below-test last label.first (enters.1 label has)

    next : (label : SheetLabelOf) → HasLabels piece label → (those : List (List ℕ)) → pieces ≡ those → First label.last those
    next label has [] is = tt
    next label has (x ∷ those) is = λ other more. are.order [] piece x those (ap (λ (l : List (List ℕ)). piece ∷ l) is) label other has more

    by : PieceView piece → ((last : Option LabelOf) → Enters last pieces → runs last pieces ≡ true) → runs before (piece ∷ pieces) ≡ true
    by (is_none is why) again =
        let no = why (All-head HasLine piece pieces are.lines) in
        let found = All-head Labels piece pieces are.labels no.0 in
        absurd (no.1 found.0 found.1)
    by (is_titled is line stop) again = put title is (titled before enters stop) (again None tt)
    by (is_labelled label is line has) again =
        put (labelled label) is (with-labels before enters label has)
        (again (Some label.last) ((λ k d h. pairs-head InTurn piece pieces are.titles k d h has.stop), next label has pieces refl))

-- ---- bytes

record Cut (bytes : List ℕ) : Type 0 where
  pieces : List (List ℕ)
  rest : List ℕ
  is : AreCut bytes pieces rest

last-of : (parts : List (List ℕ)) (first : List ℕ) (later : List (List ℕ)) → parts ≡ first ∷ later → (pieces : List (List ℕ)) × (rest : List ℕ) × (parts ≡ pieces ++ rest ∷ [])
last-of parts first [] is = ([], first, is)
last-of parts first (next ∷ later) is =
    let l = last-of (next ∷ later) next later refl in (first ∷ l.0, l.1, is ∙ ap (λ (those : List (List ℕ)). first ∷ those) l.2)

cut-of : (bytes : List ℕ) → Cut bytes
cut-of bytes =
    let has = has-first bytes in
    let l = last-of (slice_split is_sheet_end bytes) has.first has.later has.is in
    record { pieces = l.0; rest = l.1; is = l.2 }

not-empty : (rest : List ℕ) → (rest ≡ [] → ⊥) → (length rest == 0) ≡ false
not-empty [] some = absurd (some refl)
not-empty (x ∷ rest) some = ne_eqb (length (x ∷ rest)) 0 (λ e. omega (arith, e))

some-ended : (pieces : List (List ℕ)) (x : ℕ) (rest : List ℕ) → ended 0 pieces (x ∷ rest) ≡ broken (0 + length pieces)
some-ended pieces x rest = ap (λ b. cond b (sheets (list_of pieces)) (broken (0 + length pieces))) (not-empty (x ∷ rest) (λ h. (let bad : ⊥ = cc (h) in bad)))

-- Bytes that are a list of sheets are read as that list.
pub listed-read : (bytes : List ℕ) (list : SheetListOf) → AreListed bytes list → sheets_in bytes ≡ sheets list
listed-read bytes list it =
    ap (read_pieces 0 None) it.cut ∙ read-all 0 None it.pieces [] (sheets-runs None it.pieces it.are tt) ∙ ap sheets (sym it.all)

-- Others are told by the first sheet that breaks it.
pub breaks-read : (bytes : List ℕ) (k : ℕ) → BreaksFirst bytes k → sheets_in bytes ≡ broken k
breaks-read bytes k it =
    ap (read_pieces 0 None) it.cut
    ∙ elim it.breaks [
      | inl breaks ↦ elim (cases_Bool (runs None (take (suc k) it.pieces))) [
        | inl run ↦ absurd (breaks.1 (subst (λ n. AreSheets (take n it.pieces)) (let next : suc k ≡ k + 1 = omega arith in next) (runs-sheets None (take (suc k) it.pieces) run).0))
        | inr broke ↦ read-broken 0 None it.pieces it.rest k breaks.0 (sheets-runs None (take k it.pieces) it.before tt) broke ∙ ap broken (omega arith)
      ]
      | inr last ↦
          let all : take k it.pieces ≡ it.pieces = take_all k it.pieces (let n = last.0 in omega (arith, n)) in
          read-all 0 None it.pieces it.rest (sheets-runs None it.pieces (subst AreSheets all it.before) tt)
          ∙ ap (λ b. cond b (sheets (list_of it.pieces)) (broken (0 + length it.pieces))) (not-empty it.rest last.1) ∙ ap broken (let n = last.0 in omega (arith, n))
    ]

-- And back.
pub read-listed : (bytes : List ℕ) (list : SheetListOf) → sheets_in bytes ≡ sheets list → AreListed bytes list
read-listed bytes list is =
    let cut = cut-of bytes in
    let read : sheets_in bytes ≡ read_pieces 0 None (cut.pieces ++ cut.rest ∷ []) = ap (read_pieces 0 None) cut.is in
    elim (decide None cut.pieces) [
      | inl run ↦ by cut.pieces cut.rest cut.is run (sym (read ∙ read-all 0 None cut.pieces cut.rest run) ∙ is)
      | inr it ↦
          let bad : broken (0 + it.at) ≡ sheets list = sym (read ∙ read-broken 0 None cut.pieces cut.rest it.at it.inside it.run it.breaks) ∙ is in
          absurd (let no_way : ⊥ = cc (bad) in no_way)
    ]
  where
    by : (pieces : List (List ℕ)) (rest : List ℕ) → AreCut bytes pieces rest → runs None pieces ≡ true → ended 0 pieces rest ≡ sheets list → AreListed bytes list
    by pieces [] cut run is = record { pieces = pieces; cut = cut; are = (runs-sheets None pieces run).0; all = let same : list_of pieces ≡ list = cc (is) in sym same }
    by pieces (x ∷ rest) cut run is =
        let bad : broken (0 + length pieces) ≡ sheets list = sym (some-ended pieces x rest) ∙ is in
        absurd (let no_way : ⊥ = cc (bad) in no_way)

pub read-breaks : (bytes : List ℕ) (k : ℕ) → sheets_in bytes ≡ broken k → BreaksFirst bytes k
read-breaks bytes k is =
    let cut = cut-of bytes in
    let read : sheets_in bytes ≡ read_pieces 0 None (cut.pieces ++ cut.rest ∷ []) = ap (read_pieces 0 None) cut.is in
    elim (decide None cut.pieces) [
      | inl run ↦ by cut.pieces cut.rest cut.is run (sym (read ∙ read-all 0 None cut.pieces cut.rest run) ∙ is)
      | inr it ↦
          let both : broken (0 + it.at) ≡ broken k = sym (read ∙ read-broken 0 None cut.pieces cut.rest it.at it.inside it.run it.breaks) ∙ is in
          let same : it.at ≡ k = (let e : 0 + it.at ≡ k = cc (both) in omega (arith, e)) in
          record {
            pieces = cut.pieces;
            rest = cut.rest;
            cut = cut.is;
            before = subst (λ n. AreSheets (take n cut.pieces)) same (runs-sheets None (take it.at cut.pieces) it.run).0;
            breaks = inl (
              (let low = it.inside in omega (arith, low, same)),
              λ are.
                  let next : k + 1 ≡ suc it.at = omega (arith, same) in
                  true≢false (sym (sheets-runs None (take (suc it.at) cut.pieces) (subst (λ n. AreSheets (take n cut.pieces)) next are) tt) ∙ it.breaks),
            );
          }
    ]
  where
    by : (pieces : List (List ℕ)) (rest : List ℕ) → AreCut bytes pieces rest → runs None pieces ≡ true → ended 0 pieces rest ≡ broken k → BreaksFirst bytes k
    by pieces [] cut run is = absurd (let no_way : ⊥ = cc (is) in no_way)
    by pieces (x ∷ rest) cut run is =
        let both : broken (0 + length pieces) ≡ broken k = sym (some-ended pieces x rest) ∙ is in
        let same : 0 + length pieces ≡ k = cc (both) in
        let all : take k pieces ≡ pieces = take_all k pieces (omega (arith, same)) in
        record {
          pieces = pieces;
          rest = x ∷ rest;
          cut = cut;
          before = subst AreSheets (sym all) (runs-sheets None pieces run).0;
          breaks = inr (omega (arith, same), λ none. (let no_way : ⊥ = cc (none) in no_way));
        }
