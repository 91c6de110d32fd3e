-- A printed list of sheets is read back; so the collation of bytes is that of lists.
use Rattle.std.proofs.Common.{◌≡◌, inl, inr, ℕ, ◌+◌, Bool, true, false, cond, List, [], ◌∷◌, ◌++◌, refl, ap, sym, ◌∙◌, append_assoc}
use Rattle.std.specs.Prelude.{Option, Some, None}
use Rattle.std.specs.List.{flat_map, slice_split, onto_first}
use Rattle.std.proofs.lemmas.List.Splits.{slice_split_at}
use Rattle.spec_labels.specs.Labels.{LabelOf}
use Rattle.spec_packet.specs.SheetLists.{PrintedOf, SheetListOf, bytes_of, list_bytes, IsIn, InOrder, Before}
use Rattle.spec_packet.specs.SheetReadings.{is_sheet_end, PieceKind, title, labelled, sheets, broken, with_title, with_labelled, follows, read_piece, read_pieces, sheets_in}
use Rattle.spec_packet.specs.Pieces.{IsPiece, ArePieces}
use Rattle.spec_packet.proofs.LabelTests.{below-test}

-- A list that is cut has a first part.
pub record HasFirst (parts : List (List ℕ)) : Type 0 where
  pub first : List ℕ
  pub later : List (List ℕ)
  pub is : parts ≡ first ∷ later

pub has-first : (xs : List ℕ) → HasFirst (slice_split is_sheet_end xs)
has-first [] = record { first = []; later = []; is = refl }
has-first (x ∷ xs) = by (is_sheet_end x) (has-first xs)
  where
    by : (b : Bool) → HasFirst (slice_split is_sheet_end xs) → HasFirst (cond b ([] ∷ slice_split is_sheet_end xs) (onto_first x (slice_split is_sheet_end xs)))
    by true has = record { first = []; later = slice_split is_sheet_end xs; is = refl }
    by false has = record { first = x ∷ has.first; later = has.later; is = ap (onto_first x) has.is }

-- The first sheet of bytes, and those behind it.
read-first : (k : ℕ) (before : Option LabelOf) (kind : PieceKind) (bytes rest : List ℕ) (is : IsPiece kind bytes)
    → read_pieces k before (slice_split is_sheet_end (bytes ++ rest)) ≡ read_piece k before is.piece kind (λ last. read_pieces (k + 1) last (slice_split is_sheet_end rest))
read-first k before kind bytes rest is =
    let has = has-first rest in
    let cut : slice_split is_sheet_end (bytes ++ rest) ≡ is.piece ∷ slice_split is_sheet_end rest =
    ap (λ (b : List ℕ). slice_split is_sheet_end (b ++ rest)) is.is ∙ ap (slice_split is_sheet_end) (append_assoc is.piece (12 ∷ []) rest)
    ∙ slice_split_at is_sheet_end is.piece 12 rest is.whole refl in
    ap (read_pieces k before) (cut ∙ ap (λ (parts : List (List ℕ)). is.piece ∷ parts) has.is)
    ∙ ap (λ (kind : PieceKind). read_piece k before is.piece kind (λ last. read_pieces (k + 1) last (has.first ∷ has.later))) is.reads
    ∙ ap (λ (parts : List (List ℕ)). read_piece k before is.piece kind (λ last. read_pieces (k + 1) last parts)) (sym has.is)

-- The next sheet's label follows the last one.
abbrev Follows : Option LabelOf → List PrintedOf → Type 0
Follows before [] = Unit {0}
Follows before (sheet ∷ list) = follows before sheet.label.first ≡ true

read-labelled : (k : ℕ) (before : Option LabelOf) (list : List PrintedOf) → ((sheet : PrintedOf) → IsIn sheet list → IsPiece (labelled sheet.label) sheet.bytes)
    → InOrder Before list → Follows before list → read_pieces k before (slice_split is_sheet_end (flat_map bytes_of list)) ≡ sheets (record { titles = []; labelled = list })
read-labelled k before [] pieces order follow = refl
read-labelled k before (sheet ∷ list) pieces order follow =
    let here = pieces sheet (inl refl) in
    let later = λ (last : Option LabelOf). read_pieces (k + 1) last (slice_split is_sheet_end (flat_map bytes_of list)) in
    let rest : later (Some sheet.label.last) ≡ sheets (record { titles = []; labelled = list }) =
    read-labelled (k + 1) (Some sheet.label.last) list (λ one is. pieces one (inr is)) order.1 (next list (λ one is. order.0 one is)) in
    read-first k before (labelled sheet.label) sheet.bytes (flat_map bytes_of list) here
    ∙ ap (λ b. cond b (with_labelled sheet.label here.piece (later (Some sheet.label.last))) (broken k)) follow
    ∙ ap (with_labelled sheet.label here.piece) rest
    ∙ ap (λ (b : List ℕ). sheets (record { titles = []; labelled = record { label = sheet.label; bytes = b } ∷ list })) (sym here.is)
  where
    next : (list : List PrintedOf) → ((one : PrintedOf) → IsIn one list → Before sheet one) → Follows (Some sheet.label.last) list
    next [] behind = tt
    next (one ∷ list) behind = below-test sheet.label.last one.label.first (behind one (inl refl)).below

read-all : (k : ℕ) (titles : List (List ℕ)) (list : List PrintedOf) → ((bytes : List ℕ) → IsIn bytes titles → IsPiece title bytes)
    → ((sheet : PrintedOf) → IsIn sheet list → IsPiece (labelled sheet.label) sheet.bytes) → InOrder Before list
    → read_pieces k None (slice_split is_sheet_end (flat_map (λ (t : List ℕ). t) titles ++ flat_map bytes_of list)) ≡ sheets (record { titles = titles; labelled = list })
read-all k [] list heads pieces order = read-labelled k None list pieces order (first list)
  where
    first : (list : List PrintedOf) → Follows None list
    first [] = tt
    first (sheet ∷ list) = refl
read-all k (one ∷ titles) list heads pieces order =
    let here = heads one (inl refl) in
    let behind = flat_map (λ (t : List ℕ). t) titles ++ flat_map bytes_of list in
    ap (λ (b : List ℕ). read_pieces k None (slice_split is_sheet_end b)) (append_assoc one (flat_map (λ (t : List ℕ). t) titles) (flat_map bytes_of list))
    ∙ read-first k None title one behind here
    ∙ ap (with_title here.piece) (read-all (k + 1) titles list (λ b is. heads b (inr is)) pieces order)
    ∙ ap (λ (b : List ℕ). sheets (record { titles = b ∷ titles; labelled = list })) (sym here.is)

-- A printed list of sheets is a list of sheets, and is read as what was printed.
pub sheets-read : (list : SheetListOf) → ArePieces list → sheets_in (list_bytes list) ≡ sheets list
sheets-read list are = read-all 0 list.titles list.labelled are.titles are.sheets are.order
