-- The list of page records with new ones, and records that are carried to other lines and put back.
use Rattle.std.proofs.Common.{◌≡◌, ◌≢◌, ℕ, ◌+◌, ◌<◌, ◌≤◌, ◌==◌, ◌&&◌, Bool, true, false, not, cond, List, [], ◌∷◌, ◌++◌, length, map, get_or, ne_eqb, refl, ap, ap₂, sym, ◌∙◌, subst, length-append, eq-eqb, is_eq, arith}
use Rattle.std.specs.Prelude.{Option, Some, None, All, AllPairs, IsPermutation, filter}
use Rattle.std.proofs.lemmas.Bool.{and_parts}
use Rattle.std.proofs.lemmas.Cmp.{tied_itself}
use Rattle.std.proofs.lemmas.List.{length-map, get_or-map}
use Rattle.std.proofs.lemmas.List.Elements.{All-map, All-filter, All-append, filter_passes}
use Rattle.std.proofs.lemmas.List.Folds.{list_any_at}
use Rattle.std.proofs.lemmas.List.Kept.{AllPairs-cons, AllPairs-filter}
use Rattle.std.proofs.lemmas.List.Sorted.{All-permutation, length_permutation}
use Rattle.spec_text.specs.Lines.{LineState}
use Rattle.spec_text.proofs.ListLaws.{pairs-head, pairs-tail}
use Rattle.spec_labels.specs.declared.Moved.{Moved}
use Rattle.spec_labels.specs.declared.RowKey.{RowKey}
use Rattle.spec_labels.specs.Labels.{LabelOf, IsLabel, label_cmp, Below}
use Rattle.spec_labels.specs.Scenes.{record_number_limit}
use Rattle.spec_labels.specs.PageRecords.{ArePageRecords, PageRecordOf, SheetOf, RisingRecords, end_line, is_present, line_from, is_removed, carried, carried_records, moved_of, moved_from, moved_at, with_anchor, put_back_from, put_back_records, is_recorded, record_of_sheet, is_new, new_page_records, extended_page_records}
use Rattle.spec_labels.proofs.PlacedLaws.{all_placed_by-permutation, all_placed_by-rises}
use Rattle.spec_labels.proofs.LabelOrder.{label_cmp_total, Below-irreflexive}

-- Records in order, and records with labels of their own.
abbrev pub Before : PageRecordOf → PageRecordOf → Type 0
Before one other = Below one.label other.label

abbrev pub Differs : PageRecordOf → PageRecordOf → Type 0
Differs one other = one.label ≢ other.label

-- The extended list has the old records and the new ones, and no others.
pub extended_page_records-permutation : (records : List PageRecordOf) (sheets : List SheetOf) (keys : List RowKey)
    → IsPermutation (records ++ new_page_records records sheets keys) (extended_page_records records sheets keys)
extended_page_records-permutation records sheets keys = all_placed_by-permutation (λ (it : PageRecordOf). it.label) records (new_page_records records sheets keys)

pub length-extended_page_records : (records : List PageRecordOf) (sheets : List SheetOf) (keys : List RowKey)
    → length (extended_page_records records sheets keys) ≡ length records + length (new_page_records records sheets keys)
length-extended_page_records records sheets keys =
    length_permutation (records ++ new_page_records records sheets keys) (extended_page_records records sheets keys) (extended_page_records-permutation records sheets keys)
    ∙ length-append records (new_page_records records sheets keys)

-- A label that no record has differs from all of theirs.
pub not_recorded-differs : (records : List PageRecordOf) (label : LabelOf) → is_recorded records label ≡ false → All (λ (it : PageRecordOf). it.label ≢ label) records
not_recorded-differs records label none k d within same =
    let test = λ (it : PageRecordOf). is_eq (label_cmp it.label label) in
    let here : test (get_or records k d) ≡ true = ap (λ l. is_eq (label_cmp l label)) same ∙ ap is_eq (tied_itself label_cmp_total label) in
    let no_more : true ≡ false = sym (list_any_at test records k d within here) ∙ none in cc

-- What holds of the sheets that are made records holds of the new records.
new_records-All : (P : PageRecordOf → Type 0) (records : List PageRecordOf) (sheets : List SheetOf) (keys : List RowKey)
    → ((sheet : SheetOf) → is_new records sheet ≡ true → P (record_of_sheet keys sheet)) → All P (new_page_records records sheets keys)
new_records-All P records sheets keys each =
    All-map P (record_of_sheet keys) (filter (is_new records) sheets) (λ k d within. each (get_or (filter (is_new records) sheets) k d) (filter_passes (is_new records) sheets k d within))

-- New records have labels that no old one has.
pub new_records-differ : (records : List PageRecordOf) (sheets : List SheetOf) (keys : List RowKey) → All (λ new. All (λ it. Differs it new) records) (new_page_records records sheets keys)
new_records-differ records sheets keys =
    new_records-All (λ new. All (λ it. Differs it new) records) records sheets keys (λ sheet passes.
    not_recorded-differs records sheet.first (off (is_recorded records sheet.first) (and_parts _ _ passes).1))
  where
    off : (b : Bool) → not b ≡ true → b ≡ false
    off true h = cc
    off false h = refl

-- New records rise as the sheets do.
pub new_records-rise : (records : List PageRecordOf) (sheets : List SheetOf) (keys : List RowKey) → AllPairs (λ (one other : SheetOf). Below one.first other.first) sheets
    → RisingRecords (new_page_records records sheets keys)
new_records-rise records sheets keys rising = mapped (filter (is_new records) sheets) (AllPairs-filter (λ (one other : SheetOf). Below one.first other.first) (is_new records) sheets rising)
  where
    mapped : (all : List SheetOf) → AllPairs (λ (one other : SheetOf). Below one.first other.first) all → AllPairs Before (map (record_of_sheet keys) all)
    mapped [] pairs = λ i j d less within. absurd (omega (arith, less, within))
    mapped (sheet ∷ all) pairs =
        AllPairs-cons Before (record_of_sheet keys sheet) (map (record_of_sheet keys) all)
        (All-map (Before (record_of_sheet keys sheet)) (record_of_sheet keys) all (pairs-head (λ (one other : SheetOf). Below one.first other.first) sheet all pairs))
        (mapped all (pairs-tail (λ (one other : SheetOf). Below one.first other.first) sheet all pairs))

-- Records that rise have labels of their own.
pub rising-Differ : (records : List PageRecordOf) → RisingRecords records → AllPairs Differs records
rising-Differ records rising = λ i j d less within same.
    Below-irreflexive (get_or records j d).label (subst (λ l. Below l (get_or records j d).label) same (rising i j d less within))

-- After all sheets with rows are records the labels still rise strictly.
pub extended_page_records-rise : (records : List PageRecordOf) (sheets : List SheetOf) (keys : List RowKey) → RisingRecords records
    → AllPairs (λ (one other : SheetOf). Below one.first other.first) sheets → RisingRecords (extended_page_records records sheets keys)
extended_page_records-rise records sheets keys rising firsts =
    let news = new_page_records records sheets keys in
    all_placed_by-rises (λ (it : PageRecordOf). it.label) records news rising (rising-Differ news (new_records-rise records sheets keys firsts)) (new_records-differ records sheets keys)

-- A record whose line is in the text keeps its anchor.
pub carried-present : (lines : List LineState) (place : ℕ) (it : PageRecordOf) → is_present lines it.line ≡ true → carried lines place it ≡ it
carried-present lines place it present =
    by (not (it.line == end_line)) (is_present lines it.line) (record { label = it.label; line = line_from lines place; row = 0; changed = it.changed }) present
  where
    by : (b c : Bool) (new : PageRecordOf) → c ≡ true → cond (b && not c) new it ≡ it
    by true true new h = refl
    by true false new h = cc
    by false c new h = refl

-- A record that is carried keeps its label, and one that isn't removed keeps all.
pub carried-label : (lines : List LineState) (place : ℕ) (it : PageRecordOf) → (carried lines place it).label ≡ it.label
carried-label lines place it = by (is_removed lines it) (record { label = it.label; line = line_from lines place; row = 0; changed = it.changed }) refl
  where
    by : (b : Bool) (new : PageRecordOf) → new.label ≡ it.label → (cond b new it).label ≡ it.label
    by true new h = h
    by false new h = refl

pub carried-labels : (lines : List LineState) (place : ℕ) (records : List PageRecordOf)
    → map (λ (it : PageRecordOf). it.label) (carried_records lines place records) ≡ map (λ (it : PageRecordOf). it.label) records
carried-labels lines place [] = refl
carried-labels lines place (it ∷ records) = ap₂ (λ (l : LabelOf) (ls : List LabelOf). l ∷ ls) (carried-label lines place it) (carried-labels lines place records)

-- What is kept for records has their indices.
moved_from-below : (lines : List LineState) (index k : ℕ) (records : List PageRecordOf) → k < index → moved_at (moved_from lines index records) k ≡ None
moved_from-below lines index k [] less = refl
moved_from-below lines index k (it ∷ records) less =
    by (is_removed lines it) (moved_from-below lines (index + 1) k records (omega (arith, less)))
  where
    by : (b : Bool) → moved_at (moved_from lines (index + 1) records) k ≡ None
        → moved_at (cond b (moved_of index it ∷ moved_from lines (index + 1) records) (moved_from lines (index + 1) records)) k ≡ None
    by true rest = ap (λ (c : Bool). cond c (Some (moved_of index it)) (moved_at (moved_from lines (index + 1) records) k)) (ne_eqb index k (λ e. omega (arith, e, less))) ∙ rest
    by false rest = rest

-- What is kept for an index behind the first.
moved_from-later : (lines : List LineState) (index k : ℕ) (it : PageRecordOf) (records : List PageRecordOf) → index < k
    → moved_at (moved_from lines index (it ∷ records)) k ≡ moved_at (moved_from lines (index + 1) records) k
moved_from-later lines index k it records less = by (is_removed lines it)
  where
    by : (b : Bool) → moved_at (cond b (moved_of index it ∷ moved_from lines (index + 1) records) (moved_from lines (index + 1) records)) k ≡ moved_at (moved_from lines (index + 1) records) k
    by true = ap (λ (c : Bool). cond c (Some (moved_of index it)) (moved_at (moved_from lines (index + 1) records) k)) (ne_eqb index k (λ e. omega (arith, e, less)))
    by false = refl

-- A record that was carried gets back what was kept for it.
put_back-first : (lines : List LineState) (place index : ℕ) (it : PageRecordOf) (records : List PageRecordOf)
    → with_anchor (carried lines place it) (moved_at (moved_from lines index (it ∷ records)) index) ≡ it
put_back-first lines place index it records = by (is_removed lines it)
  where
    later : List Moved
    later = moved_from lines (index + 1) records

    by : (b : Bool) → with_anchor (cond b (record { label = it.label; line = line_from lines place; row = 0; changed = it.changed }) it) (moved_at (cond b (moved_of index it ∷ later) later) index) ≡ it
    by true =
        ap (λ (c : Bool). with_anchor (record { label = it.label; line = line_from lines place; row = 0; changed = it.changed }) (cond c (Some (moved_of index it)) (moved_at later index)))
        (eq-eqb index index refl)
    by false = ap (with_anchor it) (moved_from-below lines (index + 1) index records (omega arith))

put_back_from-carried : (lines : List LineState) (place index : ℕ) (records : List PageRecordOf) (moved : List Moved)
    → ((k : ℕ) → index ≤ k → moved_at moved k ≡ moved_at (moved_from lines index records) k) → put_back_from moved index (carried_records lines place records) ≡ records
put_back_from-carried lines place index [] moved same = refl
put_back_from-carried lines place index (it ∷ records) moved same =
    ap₂ (λ (one : PageRecordOf) (others : List PageRecordOf). one ∷ others)
    (ap (with_anchor (carried lines place it)) (same index (omega arith)) ∙ put_back-first lines place index it records)
    (put_back_from-carried lines place (index + 1) records moved (λ k upto. same k (omega (arith, upto)) ∙ moved_from-later lines index k it records (omega (arith, upto))))

-- To put back what was carried gives the old records.
pub put_back-carried : (lines : List LineState) (place : ℕ) (records : List PageRecordOf)
    → put_back_records (moved_from lines 0 records) (carried_records lines place records) ≡ records
put_back-carried lines place records = put_back_from-carried lines place 0 records (moved_from lines 0 records) (λ k upto. refl)

-- The labels of the extended list are labels.
pub extended_page_records-labels : (records : List PageRecordOf) (sheets : List SheetOf) (keys : List RowKey) → All (λ (it : PageRecordOf). IsLabel it.label) records
    → All (λ (sheet : SheetOf). IsLabel sheet.first) sheets → All (λ (it : PageRecordOf). IsLabel it.label) (extended_page_records records sheets keys)
extended_page_records-labels records sheets keys labels firsts =
    let P = λ (it : PageRecordOf). IsLabel it.label in
    let news = new_page_records records sheets keys in
    All-permutation P (records ++ news) (extended_page_records records sheets keys) (extended_page_records-permutation records sheets keys)
    (All-append P records news labels
    (All-map P (record_of_sheet keys) (filter (is_new records) sheets) (All-filter (is_new records) (λ (sheet : SheetOf). IsLabel sheet.first) sheets firsts)))

-- What records keep they keep by their labels alone.
same_labels : (ones others : List PageRecordOf) (k : ℕ) (d : PageRecordOf) → map (λ (it : PageRecordOf). it.label) ones ≡ map (λ (it : PageRecordOf). it.label) others → k < length ones
    → (k < length others) × ((get_or ones k d).label ≡ (get_or others k d).label)
same_labels ones others k d same within =
    let label = λ (it : PageRecordOf). it.label in
    let count : length ones ≡ length others = sym (length-map ones label) ∙ ap length same ∙ length-map others label in
    let within' : k < length others = omega (arith, within, count) in
    (within', sym (get_or-map label ones k d d.label within) ∙ ap (λ (ls : List LabelOf). get_or ls k d.label) same ∙ get_or-map label others k d d.label within')

pub same_labels-ArePageRecords : (ones others : List PageRecordOf) → map (λ (it : PageRecordOf). it.label) ones ≡ map (λ (it : PageRecordOf). it.label) others
    → ArePageRecords others → ArePageRecords ones
same_labels-ArePageRecords ones others same are =
    record {
      labels = λ k d within. let (there, here) = same_labels ones others k d same within in subst IsLabel (sym here) (are.labels k d there);
      low = λ k d within. let (there, here) = same_labels ones others k d same within in
          subst (λ (l : LabelOf). l.number ≤ record_number_limit) (sym here) (are.low k d there);
      rising = λ i j d less within.
          let (there, here) = same_labels ones others j d same within in
          let (there', here') = same_labels ones others i d same (omega (arith, less, within)) in
          subst (λ l. Below l (get_or ones j d).label) (sym here') (subst (λ l. Below (get_or others i d).label l) (sym here) (are.rising i j d less there));
    }

pub carried-ArePageRecords : (lines : List LineState) (place : ℕ) (records : List PageRecordOf) → ArePageRecords records → ArePageRecords (carried_records lines place records)
carried-ArePageRecords lines place records are = same_labels-ArePageRecords (carried_records lines place records) records (carried-labels lines place records) are

-- A record that gets an anchor back keeps its label.
pub put_back-labels : (moved : List Moved) (index : ℕ) (records : List PageRecordOf)
    → map (λ (it : PageRecordOf). it.label) (put_back_from moved index records) ≡ map (λ (it : PageRecordOf). it.label) records
put_back-labels moved index [] = refl
put_back-labels moved index (it ∷ records) =
    ap₂ (λ (l : LabelOf) (ls : List LabelOf). l ∷ ls) (by (moved_at moved index)) (put_back-labels moved (index + 1) records)
  where
    by : (o : Option Moved) → (with_anchor it o).label ≡ it.label
    by None = refl
    by (Some m) = refl

pub put_back-ArePageRecords : (moved : List Moved) (records : List PageRecordOf) → ArePageRecords records → ArePageRecords (put_back_records moved records)
put_back-ArePageRecords moved records are = same_labels-ArePageRecords (put_back_records moved records) records (put_back-labels moved 0 records) are
