-- A printed sheet is one piece, which is read as what it is.
use Rattle.std.proofs.Common.{◌≡◌, ℕ, zero, suc, ◌-◌, ◌<◌, max, Bool, true, false, not, ◌&&◌, cond, List, [], ◌∷◌, ◌++◌, length, take, refl, ap, sym, subst, ◌∙◌, append_assoc, append-nil, length-append, ne_eqb, arith}
use Rattle.std.specs.Prelude.{All, Some, None, codes, nat_lt, slice_index}
use Rattle.std.specs.List.{flat_map}
use Rattle.std.specs.Option.{option_and_then}
use Rattle.std.proofs.Math.Bool.{and-false}
use Rattle.std.proofs.lemmas.List.Elements.{All-nil, All-cons, All-append, All-weaker}
use Rattle.spec_script.specs.Letters.{ends}
use Rattle.spec_sheets.specs.Cells.{ShownCell, fixed_cell}
use Rattle.spec_sheets.specs.RowBytes.{ShownRow, cell_bytes, cells_bytes, columns_behind, gap, spaces, row_bytes, row_line}
use Rattle.spec_sheets.specs.Rounds.{round_name}
use Rattle.spec_sheets.specs.Sheets.{SheetLabelOf, sheet_label_text, ending_cell, round_cells, header_row, sheet_bytes}
use Rattle.spec_sheets.proofs.RoundBytes.{IsRoundByte}
use Rattle.spec_sheets.proofs.RoundBytes as names
use Rattle.spec_packet.specs.SheetReadings.{is_line_end, is_sheet_end, header_in, last_word, labels_in, header_labels, title, labelled, no_sheet, kind_by_labels, kind_of}
use Rattle.spec_packet.specs.Pieces.{IsPiece, IsPlain}
use Rattle.spec_packet.proofs.Words.{before-first, any-behind, is_space, last-word, ends-behind, ends-append, take-last}
use Rattle.spec_packet.proofs.HeaderLaws.{IsHeaderByte, IsNameByte, header-name, AreReadable, sheet-label-bytes, labels-back, gap-some, spaces-more, cell-text}

-- Neither the end of a line nor that of a sheet.
pub record Inner (byte : ℕ) : Type 0 where
  pub line : is_line_end byte ≡ false
  pub sheet : is_sheet_end byte ≡ false

-- The names of rounds have no ends of lines or sheets, and end in no full stop.
record IsName (text : List ℕ) : Type 0 where
  bytes : All IsNameByte text
  stop : ends 46 text ≡ false
  some : 0 < length text

round-name : (round : ℕ) → IsName (round_name round)
round-name round =
    let text = round_name round in
    let name = names.round-name round in
    let place = length text - 1 in
    let last = name.bytes place 0 (let some = name.some in omega (arith, some)) in
    record {
      bytes = All-weaker IsRoundByte IsNameByte (λ b is. record { low = is.low }) text name.bytes;
      stop = ap (λ t. nat_lt 0 (length text) && t) (ne_eqb (slice_index text place) 46 last.stop) ∙ and-false (nat_lt 0 (length text));
      some = name.some;
    }

name-inner : (text : List ℕ) → All IsNameByte text → All Inner text
name-inner text all = All-weaker IsNameByte Inner (λ b is. let l = is.low in record { line = ne_eqb b 10 (λ e. omega (arith, l, e)); sheet = ne_eqb b 12 (λ e. omega (arith, l, e)) }) text all

-- What a header begins with: nothing, or the name of its round.
pub record IsFront (bytes : List ℕ) : Type 0 where
  pub inner : All Inner bytes
  pub stop : ends 46 bytes ≡ false

spaces-inner : (n : ℕ) → All Inner (spaces n)
spaces-inner zero = All-nil Inner
spaces-inner (suc n) = All-cons Inner 32 (spaces n) (record { line = refl; sheet = refl }) (spaces-inner n)

round-front : (round : ℕ) → IsFront (cells_bytes 0 (round_cells round))
round-front round = by (nat_lt 0 round)
  where
    named : IsFront (cells_bytes 0 (fixed_cell 15 (round_name round) ∷ []))
    named =
        let name = round-name round in
        let text : cells_bytes 0 (fixed_cell 15 (round_name round) ∷ []) ≡ spaces (gap 15 0) ++ round_name round =
        append-nil (cell_bytes 0 (fixed_cell 15 (round_name round))) ∙ cell-text 15 0 (round_name round) name.some name.bytes in
        subst IsFront (sym text)
        (record {
          inner = All-append Inner (spaces (gap 15 0)) (round_name round) (spaces-inner (gap 15 0)) (name-inner (round_name round) name.bytes);
          stop = ends-append 46 (spaces (gap 15 0)) (round_name round) name.some ∙ name.stop;
        })

    by : (b : Bool) → IsFront (cells_bytes 0 (cond b (fixed_cell 15 (round_name round) ∷ []) []))
    by true = named
    by false = record { inner = All-nil Inner; stop = refl }

-- The last cell of a row stands behind the others.
cells-last : (columns : ℕ) (cells : List ShownCell) (last : ShownCell) → (m : ℕ) × (cells_bytes columns ((cells ++ last ∷ []) ++ []) ≡ cells_bytes columns cells ++ cell_bytes m last)
cells-last columns [] last = (columns, append-nil (cell_bytes columns last))
cells-last columns (cell ∷ cells) last =
    let (m, is) = cells-last (columns_behind columns cell) cells last in
    (m, ap (λ (t : List ℕ). cell_bytes columns cell ++ t) is ∙ sym (append_assoc (cell_bytes columns cell) (cells_bytes (columns_behind columns cell) cells) (cell_bytes m last)))

-- The header of a sheet with labels ends in a word: the labels and a full stop.
pub record HasWord (header text : List ℕ) : Type 0 where
  pub front : List ℕ
  pub is : header ≡ front ++ (32 ∷ (text ++ (46 ∷ [])))
  pub inner : All Inner front

header-inner : (bytes : List ℕ) → All IsHeaderByte bytes → All Inner bytes
header-inner bytes all = All-weaker IsHeaderByte Inner (λ b is. let l = is.low in record { line = ne_eqb b 10 (λ e. omega (arith, l, e)); sheet = ne_eqb b 12 (λ e. omega (arith, l, e)) }) bytes all

header-word : (round : ℕ) (it : SheetLabelOf) (rows : List ShownRow)
    → HasWord (row_bytes (header_row (record { label = Some it; round = round; rows = rows }))) (sheet_label_text it)
header-word round it rows =
    let text = sheet_label_text it in
    let word = text ++ codes "." in
    let column = max 15 (75 - length word) in
    let (m, is) = cells-last 0 (round_cells round) (ending_cell word) in
    let (n, some) = gap-some column m (omega arith) in
    let bytes : All IsHeaderByte word = All-append IsHeaderByte text (codes ".") (sheet-label-bytes it) (All-cons IsHeaderByte 46 [] (record { low = omega arith; high = omega arith }) (All-nil IsHeaderByte)) in
    let name = cells_bytes 0 (round_cells round) in
    let long : 0 < length word = (let l = length-append text (codes ".") in omega (arith, l)) in
    record {
      front = name ++ spaces n;
      is = is
          ∙ ap (λ (t : List ℕ). name ++ t)
          (cell-text column m word long (header-name word bytes) ∙ ap (λ k. spaces k ++ word) some ∙ ap (λ (t : List ℕ). t ++ word) (spaces-more n) ∙ append_assoc (spaces n) (32 ∷ []) word)
          ∙ sym (append_assoc name (spaces n) (32 ∷ word));
      inner = All-append Inner name (spaces n) (round-front round).inner (spaces-inner n);
    }

-- What is read behind a header.
piece-header : (header rest : List ℕ) → All Inner header → header_in (header ++ (10 ∷ rest)) ≡ header
piece-header header rest inner = before-first is_line_end header 10 rest (All-weaker Inner (λ b. is_line_end b ≡ false) (λ b is. is.line) header inner) refl

read-kind : (header rest : List ℕ) → All Inner header → kind_of (header ++ (10 ∷ rest)) ≡ cond (ends 46 header) (kind_by_labels (header_labels header)) title
read-kind header rest inner =
    ap (λ b. cond (not b) no_sheet (cond (ends 46 (header_in (header ++ (10 ∷ rest)))) (kind_by_labels (header_labels (header_in (header ++ (10 ∷ rest))))) title)) (any-behind is_line_end header 10 rest refl)
    ∙ ap (λ (h : List ℕ). cond (ends 46 h) (kind_by_labels (header_labels h)) title) (piece-header header rest inner)

-- A sheet is its piece and a form feed.
piece-bytes : (header body : List ℕ) → (header ++ (10 ∷ [])) ++ (10 ∷ (body ++ (12 ∷ []))) ≡ (header ++ (10 ∷ (10 ∷ body))) ++ (12 ∷ [])
piece-bytes header body = append_assoc header (10 ∷ []) (10 ∷ (body ++ (12 ∷ []))) ∙ sym (append_assoc header (10 ∷ (10 ∷ body)) (12 ∷ []))

piece-whole : (header body : List ℕ) → All Inner header → All (λ b. is_sheet_end b ≡ false) body → All (λ b. is_sheet_end b ≡ false) (header ++ (10 ∷ (10 ∷ body)))
piece-whole header body inner whole =
    let P : ℕ → Type 0 = λ b. is_sheet_end b ≡ false in
    All-append P header (10 ∷ (10 ∷ body)) (All-weaker Inner P (λ b is. is.sheet) header inner)
    (All-cons P 10 (10 ∷ body) refl (All-cons P 10 body refl whole))

-- A sheet with labels is read as one with these labels.
pub labelled-piece : (round : ℕ) (it : SheetLabelOf) (rows : List ShownRow) → IsPlain rows → AreReadable it
    → IsPiece (labelled it) (sheet_bytes (record { label = Some it; round = round; rows = rows }))
labelled-piece round it rows plain are =
    let text = sheet_label_text it in
    let header = row_bytes (header_row (record { label = Some it; round = round; rows = rows })) in
    let body = flat_map row_line rows in
    let has = header-word round it rows in
    let word : List ℕ = text ++ (46 ∷ []) in
    let header_bytes : All IsHeaderByte word = All-append IsHeaderByte text (46 ∷ []) (sheet-label-bytes it) (All-cons IsHeaderByte 46 [] (record { low = omega arith; high = omega arith }) (All-nil IsHeaderByte)) in
    let no_space : All (λ b. is_space b ≡ false) word = All-weaker IsHeaderByte (λ b. is_space b ≡ false) (λ b is. let l = is.low in ne_eqb b 32 (λ e. omega (arith, l, e))) word header_bytes in
    let inner : All Inner header = subst (All Inner) (sym has.is)
    (All-append Inner has.front (32 ∷ word) has.inner (All-cons Inner 32 word (record { line = refl; sheet = refl }) (header-inner word header_bytes))) in
    let stop : ends 46 header ≡ true = ap (ends 46) (has.is ∙ sym (append_assoc has.front (32 ∷ text) (46 ∷ []))) ∙ ends-behind 46 (has.front ++ (32 ∷ text)) in
    let labels : header_labels header ≡ Some it =
    ap (option_and_then (λ (w : List ℕ). labels_in (take (length w - 1) w))) (ap last_word has.is ∙ last-word has.front word no_space)
    ∙ ap labels_in (take-last text 46) ∙ labels-back it are in
    record {
      piece = header ++ (10 ∷ (10 ∷ body));
      is = piece-bytes header body;
      whole = piece-whole header body inner plain.whole;
      reads = read-kind header (10 ∷ body) inner ∙ ap (λ b. cond b (kind_by_labels (header_labels header)) title) stop ∙ ap kind_by_labels labels;
    }

-- A title sheet is read as one.
pub title-piece : (round : ℕ) (rows : List ShownRow) → IsPlain rows → IsPiece title (sheet_bytes (record { label = None; round = round; rows = rows }))
title-piece round rows plain =
    let header = row_bytes (header_row (record { label = None; round = round; rows = rows })) in
    let body = flat_map row_line rows in
    let name = round-front round in
    let same : header ≡ cells_bytes 0 (round_cells round) = ap (cells_bytes 0) (append-nil (round_cells round ++ []) ∙ append-nil (round_cells round)) in
    let inner : All Inner header = subst (All Inner) (sym same) name.inner in
    record {
      piece = header ++ (10 ∷ (10 ∷ body));
      is = piece-bytes header body;
      whole = piece-whole header body inner plain.whole;
      reads = read-kind header (10 ∷ body) inner ∙ ap (λ b. cond b (kind_by_labels (header_labels header)) title) (ap (ends 46) same ∙ name.stop);
    }
