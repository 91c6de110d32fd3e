-- The header of a printed sheet gives back its labels.
use Rattle.std.proofs.Common.{◌≡◌, inl, inr, ℕ, ◌+◌, ◌-◌, ◌<◌, ◌≤◌, Bool, true, false, cond, List, [], ◌∷◌, ◌++◌, length, refl, ap, ap₂, sym, subst, ◌∙◌, append_assoc, append-nil, ne_eqb, lt-ltb, le-ltb, arith, Ordering, Less, Equal, Greater}
use Rattle.std.specs.Prelude.{All, Some, None, codes, option_map}
use Rattle.std.specs.List.{before_first, after_first}
use Rattle.std.specs.Ordering.{is_eq}
use Rattle.std.proofs.lemmas.Bool.{cases_lt}
use Rattle.std.proofs.lemmas.List.Elements.{All-nil, All-cons, All-head, All-tail, All-append, All-weaker}
use Rattle.std.proofs.lemmas.Cmp.{tied_itself}
use Rattle.std.proofs.lemmas.List.{replicate-append-replicate}
use Rattle.std.proofs.lemmas.List.Folds.{list_any_none}
use Rattle.spec_labels.specs.Labels.{LabelOf, label_cmp, label_text, Below}
use Rattle.spec_labels.specs.LabelReading.{label_read}
use Rattle.spec_labels.proofs.LabelOrder.{label_cmp_total, label_cmp-Equal}
use Rattle.spec_labels.proofs.LabelBytes.{IsLabelByte, label-bytes}
use Rattle.spec_labels.proofs.LabelReadings.{label_read-IsReading, IsReading-unique}
use Rattle.spec_sheets.specs.Cells.{fixed_cell}
use Rattle.spec_sheets.specs.RowBytes.{cell_bytes, gap, spaces, untabbed}
use Rattle.spec_sheets.specs.Sheets.{SheetLabelOf, sheet_label_text}
use Rattle.spec_packet.specs.SheetLists.{UpTo}
use Rattle.spec_packet.specs.SheetReadings.{is_dash, one_label, two_labels, labels_in}
use Rattle.spec_packet.specs.Pieces.{IsReadable}
use Rattle.spec_packet.proofs.Words.{before-first, after-first, any-behind}
use Rattle.spec_packet.proofs.LabelTests.{below-test}

-- Both labels of a sheet are, and the first isn't behind the last.
pub record AreReadable (it : SheetLabelOf) : Type 0 where
  pub first : IsReadable it.first
  pub last : IsReadable it.last
  pub order : UpTo it.first it.last

read-back : (it : LabelOf) → IsReadable it → label_read (label_text it) ≡ Some it
read-back it is =
    IsReading-unique (label_text it) (label_read (label_text it)) (Some it) (label_read-IsReading (label_text it)) is

no-dash : (text : List ℕ) → All IsLabelByte text → All (λ b. is_dash b ≡ false) text
no-dash text all = All-weaker IsLabelByte (λ b. is_dash b ≡ false) (λ b is. ne_eqb b 45 is.dash) text all

-- The bytes of a sheet's label: those of labels and `-`.
pub record IsHeaderByte (byte : ℕ) : Type 0 where
  pub low : 33 ≤ byte
  pub high : byte ≤ 122

label-header : (text : List ℕ) → All IsLabelByte text → All IsHeaderByte text
label-header text all = All-weaker IsLabelByte IsHeaderByte (λ b is. let l = is.low in let h = is.high in record { low = omega (arith, l); high = omega (arith, h) }) text all

pub sheet-label-bytes : (it : SheetLabelOf) → All IsHeaderByte (sheet_label_text it)
sheet-label-bytes it = by (is_eq (label_cmp it.first it.last))
  where
    one : All IsHeaderByte (label_text it.first)
    one = label-header (label_text it.first) (label-bytes it.first)

    by : (b : Bool) → All IsHeaderByte (cond b (label_text it.first) (label_text it.first ++ codes "-" ++ label_text it.last))
    by true = one
    by false =
        All-append IsHeaderByte (label_text it.first ++ codes "-") (label_text it.last)
        (All-append IsHeaderByte (label_text it.first) (codes "-") one
        (All-cons IsHeaderByte 45 [] (record { low = omega arith; high = omega arith }) (All-nil IsHeaderByte)))
        (label-header (label_text it.last) (label-bytes it.last))

-- The written labels of a sheet are read back.
pub labels-back : (it : SheetLabelOf) → AreReadable it → labels_in (sheet_label_text it) ≡ Some it
labels-back it are = by (label_cmp it.first it.last) refl
  where
    one : List ℕ
    one = label_text it.first

    two : List ℕ
    two = label_text it.last

    alone : it.first ≡ it.last → labels_in one ≡ Some it
    alone same =
        ap (λ b. cond b (two_labels (label_read (before_first is_dash one)) (label_read (after_first is_dash one))) (option_map one_label (label_read one)))
        (list_any_none is_dash one (no-dash one (label-bytes it.first)))
        ∙ ap (option_map one_label) (read-back it.first are.first)
        ∙ ap (λ (last : LabelOf). Some (record { first = it.first; last = last })) same

    both : Below it.first it.last → labels_in (one ++ codes "-" ++ two) ≡ Some it
    both below =
        let none = no-dash one (label-bytes it.first) in
        let text : one ++ codes "-" ++ two ≡ one ++ (45 ∷ two) = append_assoc one (codes "-") two in
        ap labels_in text
        ∙ ap (λ b. cond b (two_labels (label_read (before_first is_dash (one ++ (45 ∷ two)))) (label_read (after_first is_dash (one ++ (45 ∷ two))))) (option_map one_label (label_read (one ++ (45 ∷ two)))))
        (any-behind is_dash one 45 two refl)
        ∙ ap₂ (λ a b. two_labels (label_read a) (label_read b)) (before-first is_dash one 45 two none refl) (after-first is_dash one 45 two none refl)
        ∙ ap₂ two_labels (read-back it.first are.first) (read-back it.last are.last)
        ∙ ap (λ b. cond b (Some it) None) (below-test it.first it.last below)

    by : (o : Ordering) → label_cmp it.first it.last ≡ o → labels_in (cond (is_eq o) one (one ++ codes "-" ++ two)) ≡ Some it
    by Less is = both (record { less = is })
    by Equal is = alone (label_cmp-Equal it.first it.last is)
    by Greater is = absurd (elim are.order [
      | inl same ↦
          let tied : label_cmp it.first it.last ≡ Equal = subst (λ l. label_cmp it.first l ≡ Equal) same (tied_itself label_cmp_total it.first) in
          let bad : Equal ≡ Greater = sym tied ∙ is in
          let no_way : ⊥ = cc in no_way
      | inr below ↦ let bad : Less ≡ Greater = sym below.less ∙ is in let no_way : ⊥ = cc in no_way
    ])

-- Spaces in front of a word end in one.
pub gap-some : (column columns : ℕ) → 0 < column → (n : ℕ) × (gap column columns ≡ n + 1)
gap-some column columns some = elim (cases_lt columns column) [
  | inl less ↦ (column - columns - 1, ap (λ b. cond b (column - columns) 1) (lt-ltb columns column less) ∙ omega (arith, less))
  | inr past ↦ (0, ap (λ b. cond b (column - columns) 1) (le-ltb columns column past))
]

pub spaces-more : (n : ℕ) → spaces (n + 1) ≡ spaces n ++ (32 ∷ [])
spaces-more n = sym (replicate-append-replicate n 1 32)

-- A text without tabs is written as it is.
pub record IsNameByte (byte : ℕ) : Type 0 where
  pub low : 32 ≤ byte

pub header-name : (text : List ℕ) → All IsHeaderByte text → All IsNameByte text
header-name text all = All-weaker IsHeaderByte IsNameByte (λ b is. let l = is.low in record { low = omega (arith, l) }) text all

pub untabbed-same : (text : List ℕ) → All IsNameByte text → untabbed text ≡ text
untabbed-same [] all = refl
untabbed-same (b ∷ text) all =
    let here = All-head IsNameByte b text all in
    ap₂ (λ (xs ys : List ℕ). xs ++ ys)
    (ap (λ t. cond t (spaces 4) (b ∷ [])) (ne_eqb b 9 (λ e. let l = here.low in omega (arith, l, e))))
    (untabbed-same text (All-tail IsNameByte b text all))

-- A cell with a text that isn't empty and has no tab.
pub cell-text : (column columns : ℕ) (text : List ℕ) → 0 < length text → All IsNameByte text → cell_bytes columns (fixed_cell column text) ≡ spaces (gap column columns) ++ text
cell-text column columns text some all =
    let long : length (text ++ []) ≡ length text = ap length (append-nil text) in
    ap (λ b. cond b [] (spaces (gap column columns) ++ (untabbed text ++ []))) (ne_eqb (length (text ++ [])) 0 (λ e. omega (arith, e, some, long)))
    ∙ ap (λ (t : List ℕ). spaces (gap column columns) ++ t) (append-nil (untabbed text) ∙ untabbed-same text all)
