-- Sheets that were read rise.
use Rattle.std.proofs.Common.{◌≡◌, inl, inr, ℕ, ◌+◌, ◌-◌, ◌==◌, Bool, true, false, not, cond, List, [], ◌∷◌, ◌++◌, length, take, refl, subst}
use Rattle.std.specs.Prelude.{Option, Some, None, option_map}
use Rattle.std.specs.List.{list_any, before_first, after_first, slice_split}
use Rattle.std.specs.Option.{option_and_then}
use Rattle.spec_script.specs.Letters.{ends}
use Rattle.spec_labels.specs.Labels.{LabelOf, Below}
use Rattle.spec_labels.specs.LabelReading.{label_read}
use Rattle.spec_labels.proofs.LabelOrder.{Below-transitive}
use Rattle.spec_sheets.specs.Sheets.{SheetLabelOf}
use Rattle.spec_packet.specs.SheetLists.{PrintedOf, SheetListOf, IsIn, UpTo, AreRising}
use Rattle.spec_packet.specs.SheetReadings.{is_below, is_line_end, is_dash, is_sheet_end, header_in, last_word, one_label, two_labels, labels_in, header_labels, PieceKind, title, labelled, no_sheet, kind_by_labels, kind_of, SheetsReading, sheets, broken, with_title, with_labelled, follows, is_first, read_piece, read_pieces, sheets_in}
use Rattle.spec_packet.proofs.LabelTests.{test-below, below-upto}

-- Labels that were read are in order.
abbrev SpanSome : Option SheetLabelOf → Type 0
SpanSome None = Unit {0}
SpanSome (Some label) = UpTo label.first label.last

two-span : (first last : Option LabelOf) → SpanSome (two_labels first last)
two-span None last = tt
two-span (Some first) None = tt
two-span (Some first) (Some last) = by (is_below first last) refl
  where
    by : (b : Bool) → is_below first last ≡ b → SpanSome (cond b (Some (record { first = first; last = last })) None)
    by true below = inr (test-below first last below)
    by false below = tt

one-span : (label : Option LabelOf) → SpanSome (option_map one_label label)
one-span None = tt
one-span (Some label) = inl refl

word-span : (word : List ℕ) → SpanSome (labels_in word)
word-span word = by (list_any is_dash word)
  where
    by : (b : Bool) → SpanSome (cond b (two_labels (label_read (before_first is_dash word)) (label_read (after_first is_dash word))) (option_map one_label (label_read word)))
    by true = two-span (label_read (before_first is_dash word)) (label_read (after_first is_dash word))
    by false = one-span (label_read word)

header-span : (header : List ℕ) → SpanSome (header_labels header)
header-span header = by (last_word header)
  where
    by : (word : Option (List ℕ)) → SpanSome (option_and_then (λ (w : List ℕ). labels_in (take (length w - 1) w)) word)
    by None = tt
    by (Some word) = word-span (take (length word - 1) word)

abbrev KindSpan : PieceKind → Type 0
KindSpan title = Unit {0}
KindSpan (labelled label) = UpTo label.first label.last
KindSpan no_sheet = Unit {0}

kind-span : (piece : List ℕ) → KindSpan (kind_of piece)
kind-span piece = by (list_any is_line_end piece) (ends 46 (header_in piece))
  where
    labels : (o : Option SheetLabelOf) → SpanSome o → KindSpan (kind_by_labels o)
    labels None span = tt
    labels (Some label) span = span

    by : (line stop : Bool) → KindSpan (cond (not line) no_sheet (cond stop (kind_by_labels (header_labels (header_in piece))) title))
    by false stop = tt
    by true true = labels (header_labels (header_in piece)) (header-span (header_in piece))
    by true false = tt

-- A sheet stands behind a label, where there is one.
abbrev Behind : Option LabelOf → PrintedOf → Type 0
Behind None sheet = Unit {0}
Behind (Some label) sheet = Below label sheet.label.first

record IsGood (before : Option LabelOf) (list : SheetListOf) : Type 0 where
  rising : AreRising list.labelled
  behind : (sheet : PrintedOf) → IsIn sheet list.labelled → Behind before sheet

nothing : (before : Option LabelOf) → IsGood before (record { titles = []; labelled = [] })
nothing before = record { rising = record { spans = λ sheet is. absurd is; order = tt }; behind = λ sheet is. absurd is }

read-good : (k : ℕ) (before : Option LabelOf) (pieces : List (List ℕ)) (list : SheetListOf) → read_pieces k before pieces ≡ sheets list → IsGood before list
read-good k before [] list is = let e : record { titles = []; labelled = [] } ≡ list = cc in subst (IsGood before) e (nothing before)
read-good k before (rest ∷ []) list is = by (length rest == 0) is
  where
    by : (b : Bool) → cond b (sheets (record { titles = []; labelled = [] })) (broken k) ≡ sheets list → IsGood before list
    by true is = let e : record { titles = []; labelled = [] } ≡ list = cc in subst (IsGood before) e (nothing before)
    by false is = absurd (let no_way : ⊥ = cc in no_way)
read-good k before (piece ∷ next ∷ pieces) list is =
    by-kind (kind_of piece) (kind-span piece) (λ last later e. read-good (k + 1) last (next ∷ pieces) later e) is
  where
    later : Option LabelOf → SheetsReading
    later last = read_pieces (k + 1) last (next ∷ pieces)

    put_title : (before : Option LabelOf) (r : SheetsReading) → with_title piece r ≡ sheets list → ((l : SheetListOf) → r ≡ sheets l → IsGood before l) → IsGood before list
    put_title before (broken place) e good = absurd (let no_way : ⊥ = cc in no_way)
    put_title before (sheets l) e good =
        let g = good l refl in
        let same : record { titles = (piece ++ (12 ∷ [])) ∷ l.titles; labelled = l.labelled } ≡ list = cc in
        subst (IsGood before) same (record { rising = g.rising; behind = g.behind })

    put_sheet : (before : Option LabelOf) (label : SheetLabelOf) (r : SheetsReading) → UpTo label.first label.last → follows before label.first ≡ true → with_labelled label piece r ≡ sheets list
        → ((l : SheetListOf) → r ≡ sheets l → IsGood (Some label.last) l) → IsGood before list
    put_sheet before label (broken place) span follow e good = absurd (let no_way : ⊥ = cc in no_way)
    put_sheet before label (sheets l) span follow e good =
        let g = good l refl in
        let sheet : PrintedOf = record { label = label; bytes = piece ++ (12 ∷ []) } in
        let same : record { titles = l.titles; labelled = sheet ∷ l.labelled } ≡ list = cc in
        subst (IsGood before) same
        (record {
          rising = record {
            spans = λ one there. elim there [ inl e ↦ subst (λ (s : PrintedOf). UpTo s.label.first s.label.last) e span | inr behind ↦ g.rising.spans one behind ];
            order = ((λ one there. record { below = g.behind one there }), g.rising.order);
          };
          behind = λ one there. elim there [
            | inl e ↦ subst (Behind before) e (own before follow)
            | inr after ↦ beyond before follow one (g.behind one after)
          ];
        })
      where
        own : (before : Option LabelOf) → follows before label.first ≡ true → Behind before (record { label = label; bytes = piece ++ (12 ∷ []) })
        own None follow = tt
        own (Some last) follow = test-below last label.first follow

        beyond : (before : Option LabelOf) → follows before label.first ≡ true → (one : PrintedOf) → Below label.last one.label.first → Behind before one
        beyond None follow one after = tt
        beyond (Some last) follow one after = Below-transitive (below-upto last label.first label.last (test-below last label.first follow) span) after

    by-kind : (kind : PieceKind) → KindSpan kind → ((last : Option LabelOf) (l : SheetListOf) → later last ≡ sheets l → IsGood last l) → read_piece k before piece kind later ≡ sheets list → IsGood before list
    by-kind no_sheet span good e = absurd (let no_way : ⊥ = cc in no_way)
    by-kind title span good e = first before e
      where
        first : (before : Option LabelOf) → cond (is_first before) (with_title piece (later None)) (broken k) ≡ sheets list → IsGood before list
        first None e = put_title None (later None) e (good None)
        first (Some last) e = absurd (let no_way : ⊥ = cc in no_way)
    by-kind (labelled label) span good e = step (follows before label.first) refl e
      where
        step : (b : Bool) → follows before label.first ≡ b → cond b (with_labelled label piece (later (Some label.last))) (broken k) ≡ sheets list → IsGood before list
        step true follow e = put_sheet before label (later (Some label.last)) span follow e (good (Some label.last))
        step false follow e = absurd (let no_way : ⊥ = cc in no_way)

-- The sheets that bytes are read as rise.
pub sheets_in-rising : (bytes : List ℕ) (list : SheetListOf) → sheets_in bytes ≡ sheets list → AreRising list.labelled
sheets_in-rising bytes list is = (read-good 0 None (slice_split is_sheet_end bytes) list is).rising
