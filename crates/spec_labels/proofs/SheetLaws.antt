-- The labels of the sheets of page records are labels, and rise strictly from sheet to sheet.
use Rattle.std.proofs.Common.{◌≡◌, ℕ, zero, suc, ◌+◌, ◌-◌, ◌<◌, ◌≤◌, ◌⊎◌, ◌&&◌, Bool, true, false, cond, List, [], ◌∷◌, ◌++◌, length, map, get_or, inl, inr, ⊎_elim, ne_eqb, refl, ap, sym, ◌∙◌, subst, nat_cmp, Ordering, Less, arith}
use Rattle.std.specs.Prelude.{Option, Some, None, All, AllPairs, IfSome, MatchOption, flat_map, slice_index_or}
use Rattle.std.specs.List.{list_all}
use Rattle.std.specs.Cmp.{nat_cmp_is}
use Rattle.std.specs.Cmp.Lexicographic.{slice_cmp}
use Rattle.std.specs.Ordering.{ordering_then}
use Rattle.std.proofs.lemmas.List.Elements.{All-nil, All-cons, All-head, All-tail, All-weaker, All-append, All-map}
use Rattle.std.proofs.lemmas.List.Kept.{AllPairs-cons}
use Rattle.spec_text.proofs.ListLaws.{pairs-head, pairs-tail, All-front, All-back, pairs-back, pairs-join}
use Rattle.spec_labels.specs.Labels.{LabelOf, plain_label, IsLabel, Below, between}
use Rattle.spec_labels.specs.PageRecords.{PageRecordOf, RisingRecords, SegmentOf, IsSegment, first_label, segments, is_empty, SheetOf, segment_pages, page_label, page_sheet, page_sheets, owner_of, omitted_sheet, onto_run, runs_of, run_sheets, sheets_of_records, AreSheets}
use Rattle.spec_labels.proofs.LabelOrder.{Below-transitive}
use Rattle.spec_labels.proofs.LabelsBetween.{between-above, between-below, between-rises, between-IsLabel, IsLabel-plain}

AllPairs-across : {X : Type 0} (R : X → X → Type 0) (xs ys : List X) → AllPairs R (xs ++ ys) → All (λ x. All (R x) ys) xs
AllPairs-across R [] ys pairs = All-nil (λ x. All (R x) ys)
AllPairs-across R (x ∷ xs) ys pairs =
    All-cons (λ z. All (R z) ys) x xs (All-back (R x) xs ys (pairs-head R x (xs ++ ys) pairs)) (AllPairs-across R xs ys (pairs-tail R x (xs ++ ys) pairs))

-- The segments of runs, one run after another.
abbrev pub in_runs : List (List SegmentOf) → List SegmentOf
in_runs runs = flat_map (λ (run : List SegmentOf). run) runs

-- The runs of segments hold all of them, in order.
pub runs_of-all : (all : List SegmentOf) → in_runs (runs_of all) ≡ all
runs_of-all [] = refl
runs_of-all (segment ∷ later) = onto (runs_of later) ∙ ap (λ (ss : List SegmentOf). segment ∷ ss) (runs_of-all later)
  where
    onto : (runs : List (List SegmentOf)) → in_runs (onto_run segment runs) ≡ segment ∷ in_runs runs
    onto [] = refl
    onto (run ∷ runs) = by (is_empty segment && list_all is_empty run)
      where
        by : (b : Bool) → in_runs (cond b ((segment ∷ run) ∷ runs) ((segment ∷ []) ∷ run ∷ runs)) ≡ segment ∷ (run ++ in_runs runs)
        by true = refl
        by false = refl

-- One label is another one or below it.
abbrev pub AtMost : LabelOf → LabelOf → Type 0
AtMost one other = (one ≡ other) ⊎ Below one other

Below-AtMost : (low middle high : LabelOf) → Below low middle → AtMost middle high → Below low high
Below-AtMost low middle high below upto =
    ⊎_elim (λ same. subst (Below low) same below) (λ less. Below-transitive below less) upto

-- A later segment's label is above a segment's own, and is the next record's or above it.
pub record Leads (one other : SegmentOf) : Type 0 where
  pub above : Below one.owner.label other.owner.label
  pub next : MatchOption one.next ⊥ (λ next. AtMost next other.owner.label)

-- The labels of a segment's pages.
pub page_label-later : (segment : SegmentOf) (m : ℕ) → 0 < m → page_label segment m ≡ between segment.owner.label segment.next m
page_label-later segment m some = ap (λ b. cond b segment.owner.label (between segment.owner.label segment.next m)) (ne_eqb m 0 (λ e. omega (arith, e, some)))

page_label-cases : (P : LabelOf → Type 0) (segment : SegmentOf) (m : ℕ) → P segment.owner.label → (0 < m → P (between segment.owner.label segment.next m)) → P (page_label segment m)
page_label-cases P segment zero first later = first
page_label-cases P segment (suc m) first later = subst P (sym (page_label-later segment (suc m) (omega arith))) (later (omega arith))

pub page_label-IsLabel : (segment : SegmentOf) (m : ℕ) → IsLabel segment.owner.label → IsLabel (page_label segment m)
page_label-IsLabel segment m label = page_label-cases IsLabel segment m label (λ some. between-IsLabel segment.owner.label segment.next m some)

page_label-AtMost : (segment : SegmentOf) (m : ℕ) → AtMost segment.owner.label (page_label segment m)
page_label-AtMost segment m = page_label-cases (AtMost segment.owner.label) segment m (inl refl) (λ some. inr (between-above segment.owner.label segment.next m some))

page_label-rises : (segment : SegmentOf) (m n : ℕ) → m < n → Below (page_label segment m) (page_label segment n)
page_label-rises segment m n less =
    subst (Below (page_label segment m)) (sym (page_label-later segment n (omega (arith, less))))
    (page_label-cases (λ l. Below l (between segment.owner.label segment.next n)) segment m
    (between-above segment.owner.label segment.next n (omega (arith, less)))
    (λ some. between-rises segment.owner.label segment.next m n less))

-- A page's label is below that of each later segment.
page_label-below : (segment other : SegmentOf) (m : ℕ) → IsSegment segment → Leads segment other → Below (page_label segment m) other.owner.label
page_label-below segment other m is leads =
    page_label-cases (λ l. Below l other.owner.label) segment m leads.above (λ some. by segment.next is.next leads.next)
  where
    by : (next : Option LabelOf) → IfSome next (λ n. Below segment.owner.label n × IsLabel n) → MatchOption next ⊥ (λ n. AtMost n other.owner.label)
        → Below (between segment.owner.label next m) other.owner.label
    by None known upto = absurd upto
    by (Some next) known upto = Below-AtMost (between segment.owner.label (Some next) m) next other.owner.label (between-below segment.owner.label next m known.0 known.1) upto

-- What the sheets of a run keep.
pub record Keeps (P : LabelOf → Type 0) (sheet : SheetOf) : Type 0 where
  pub first : P sheet.first
  pub last : P sheet.last

page_sheets-Keeps : (P : LabelOf → Type 0) (segment : SegmentOf) (m : ℕ) (pages : List ℕ) → ((k : ℕ) → m ≤ k → P (page_label segment k)) → All (Keeps P) (page_sheets segment m pages)
page_sheets-Keeps P segment m [] each = All-nil (Keeps P)
page_sheets-Keeps P segment m (page ∷ later) each =
    All-cons (Keeps P) (page_sheet segment m page later) (page_sheets segment (m + 1) later)
    (record { first = each m (omega arith); last = each m (omega arith) })
    (page_sheets-Keeps P segment (m + 1) later (λ k upto. each k (omega (arith, upto))))

-- The last of a run is one of it.
last-All : (P : PageRecordOf → Type 0) (segment : PageRecordOf) (others : List PageRecordOf) → All P (segment ∷ others) → P (slice_index_or others (length others - 1) segment)
last-All P segment [] all = All-head P segment [] all
last-All P segment (other ∷ others) all = All-tail P segment (other ∷ others) all (length (other ∷ others) - 1) segment (omega arith)

run_sheets-Keeps : (P : LabelOf → Type 0) (pages : List ℕ) (run : List SegmentOf) → All (λ (s : SegmentOf). (m : ℕ) → P (page_label s m)) run → All (Keeps P) (run_sheets pages run)
run_sheets-Keeps P pages [] all = All-nil (Keeps P)
run_sheets-Keeps P pages (segment ∷ others) all =
    by (is_empty segment)
  where
    Q : SegmentOf → Type 0
    Q s = (m : ℕ) → P (page_label s m)

    owners : (ss : List SegmentOf) → All Q ss → All (λ (it : PageRecordOf). P it.label) (map owner_of ss)
    owners ss each = All-map (λ (it : PageRecordOf). P it.label) owner_of ss (λ k d within. each k d within 0)

    by : (b : Bool) → All (Keeps P) (cond b (omitted_sheet segment.start segment.owner (map owner_of others) ∷ []) (page_sheets segment 0 (segment_pages segment pages)))
    by true =
        All-cons (Keeps P) (omitted_sheet segment.start segment.owner (map owner_of others)) []
        (record { first = All-head Q segment others all 0; last = last-All (λ (it : PageRecordOf). P it.label) segment.owner (map owner_of others) (owners (segment ∷ others) all) })
        (All-nil (Keeps P))
    by false = page_sheets-Keeps P segment 0 (segment_pages segment pages) (λ k upto. All-head Q segment others all k)

-- So do the sheets of all runs.
runs-Keep : (P : LabelOf → Type 0) (pages : List ℕ) (runs : List (List SegmentOf)) → All (λ (s : SegmentOf). (m : ℕ) → P (page_label s m)) (in_runs runs) → All (Keeps P) (flat_map (run_sheets pages) runs)
runs-Keep P pages [] all = All-nil (Keeps P)
runs-Keep P pages (run ∷ runs) all =
    let Q = λ (s : SegmentOf). (m : ℕ) → P (page_label s m) in
    All-append (Keeps P) (run_sheets pages run) (flat_map (run_sheets pages) runs)
    (run_sheets-Keeps P pages run (All-front Q run (in_runs runs) all))
    (runs-Keep P pages runs (All-back Q run (in_runs runs) all))

-- A sheet is behind another with all of its labels.
pub record Behind (one other : SheetOf) : Type 0 where
  pub last : Below one.last other.first
  pub first : Below one.first other.first

page_sheets-rise : (segment : SegmentOf) (m : ℕ) (pages : List ℕ) → AllPairs Behind (page_sheets segment m pages)
page_sheets-rise segment m [] = λ i j d less within. absurd (omega (arith, less, within))
page_sheets-rise segment m (page ∷ later) =
    let P = Below (page_label segment m) in
    AllPairs-cons Behind (page_sheet segment m page later) (page_sheets segment (m + 1) later)
    (All-weaker (Keeps P) (Behind (page_sheet segment m page later)) (λ sheet keeps. record { last = keeps.first; first = keeps.first }) (page_sheets segment (m + 1) later)
    (page_sheets-Keeps P segment (m + 1) later (λ k upto. page_label-rises segment m k (omega (arith, upto)))))
    (page_sheets-rise segment (m + 1) later)

run_sheets-rise : (pages : List ℕ) (run : List SegmentOf) → AllPairs Behind (run_sheets pages run)
run_sheets-rise pages [] = λ i j d less within. absurd (omega (arith, less, within))
run_sheets-rise pages (segment ∷ others) = by (is_empty segment)
  where
    by : (b : Bool) → AllPairs Behind (cond b (omitted_sheet segment.start segment.owner (map owner_of others) ∷ []) (page_sheets segment 0 (segment_pages segment pages)))
    by true = λ i j d less within. absurd (omega (arith, less, within))
    by false = page_sheets-rise segment 0 (segment_pages segment pages)

-- All labels of the sheets of a run are below a label that all labels of pages of its segments are below, and those of later sheets are above.
runs-rise : (pages : List ℕ) (runs : List (List SegmentOf)) → All IsSegment (in_runs runs) → AllPairs Leads (in_runs runs) → AllPairs Behind (flat_map (run_sheets pages) runs)
runs-rise pages [] all leads = λ i j d less within. absurd (omega (arith, less, within))
runs-rise pages (run ∷ runs) all leads =
    pairs-join Behind (run_sheets pages run) (flat_map (run_sheets pages) runs)
    (run_sheets-rise pages run)
    (runs-rise pages runs (All-back IsSegment run (in_runs runs) all) (pairs-back Leads run (in_runs runs) leads))
    (λ n f there k d within.
    let other = get_or (flat_map (run_sheets pages) runs) k d in
    All-weaker (Keeps (λ l. Below l other.first)) (λ one. Behind one other) (λ sheet keeps. record { last = keeps.last; first = keeps.first }) (run_sheets pages run)
    (run_sheets-Keeps (λ l. Below l other.first) pages run
    (λ i e inside m. (runs-Keep (Below (page_label (get_or run i e) m)) pages runs (above i e inside m) k d within).first)) n f there)
  where
    above : (i : ℕ) (e : SegmentOf) → i < length run → (m : ℕ) → All (λ (s : SegmentOf). (n : ℕ) → Below (page_label (get_or run i e) m) (page_label s n)) (in_runs runs)
    above i e inside m j f there n =
        let one = get_or run i e in
        let other = get_or (in_runs runs) j f in
        Below-AtMost (page_label one m) other.owner.label (page_label other n)
        (page_label-below one other m (All-front IsSegment run (in_runs runs) all i e inside) (AllPairs-across Leads run (in_runs runs) leads i e inside j f there))
        (page_label-AtMost other n)

-- What holds of the labels of records holds of those of their segments.
pub segments-All : (P : LabelOf → Type 0) (rows : ℕ) (records : List PageRecordOf) (starts : List ℕ) → All (λ (it : PageRecordOf). P it.label) records → All (λ (s : SegmentOf). P s.owner.label) (segments rows records starts)
segments-All P rows [] starts all = All-nil (λ (s : SegmentOf). P s.owner.label)
segments-All P rows (it ∷ records) [] all = All-nil (λ (s : SegmentOf). P s.owner.label)
segments-All P rows (it ∷ records) (start ∷ starts) all =
    All-cons (λ (s : SegmentOf). P s.owner.label)
    (record { owner = it; next = first_label records; start = start; end = slice_index_or starts 0 rows }) (segments rows records starts)
    (All-head (λ (r : PageRecordOf). P r.label) it records all)
    (segments-All P rows records starts (All-tail (λ (r : PageRecordOf). P r.label) it records all))

pub segments-IsSegment : (rows : ℕ) (records : List PageRecordOf) (starts : List ℕ) → All (λ (it : PageRecordOf). IsLabel it.label) records → RisingRecords records → All IsSegment (segments rows records starts)
segments-IsSegment rows [] starts all rising = All-nil IsSegment
segments-IsSegment rows (it ∷ records) [] all rising = All-nil IsSegment
segments-IsSegment rows (it ∷ records) (start ∷ starts) all rising =
    let P = λ (r : PageRecordOf). IsLabel r.label in
    let R = λ (one other : PageRecordOf). Below one.label other.label in
    All-cons IsSegment
    (record { owner = it; next = first_label records; start = start; end = slice_index_or starts 0 rows }) (segments rows records starts)
    (record { label = All-head P it records all; next = next records (All-tail P it records all) (pairs-head R it records rising) })
    (segments-IsSegment rows records starts (All-tail P it records all) (pairs-tail R it records rising))
  where
    next : (later : List PageRecordOf) → All (λ (r : PageRecordOf). IsLabel r.label) later → All (λ (r : PageRecordOf). Below it.label r.label) later
        → IfSome (first_label later) (λ n. Below it.label n × IsLabel n)
    next [] labels above = tt
    next (r ∷ later) labels above = (All-head (λ (x : PageRecordOf). Below it.label x.label) r later above, All-head (λ (x : PageRecordOf). IsLabel x.label) r later labels)

segments-Lead : (rows : ℕ) (records : List PageRecordOf) (starts : List ℕ) → RisingRecords records → AllPairs Leads (segments rows records starts)
segments-Lead rows [] starts rising = λ i j d less within. absurd (omega (arith, less, within))
segments-Lead rows (it ∷ records) [] rising = λ i j d less within. absurd (omega (arith, less, within))
segments-Lead rows (it ∷ records) (start ∷ starts) rising =
    let R = λ (one other : PageRecordOf). Below one.label other.label in
    let here : SegmentOf = record { owner = it; next = first_label records; start = start; end = slice_index_or starts 0 rows } in
    AllPairs-cons Leads here (segments rows records starts)
    (leads records (pairs-head R it records rising) (pairs-tail R it records rising))
    (segments-Lead rows records starts (pairs-tail R it records rising))
  where
    leads : (later : List PageRecordOf) → All (λ (r : PageRecordOf). Below it.label r.label) later → RisingRecords later
        → All (Leads (record { owner = it; next = first_label later; start = start; end = slice_index_or starts 0 rows })) (segments rows later starts)
    leads [] above rises = All-nil (Leads (record { owner = it; next = None; start = start; end = slice_index_or starts 0 rows }))
    leads (r ∷ later) above rises = λ k d within.
        record {
          above = segments-All (Below it.label) rows (r ∷ later) starts above k d within;
          next = segments-All (AtMost r.label) rows (r ∷ later) starts
              (All-cons (λ (x : PageRecordOf). AtMost r.label x.label) r later (inl refl)
              (All-weaker (λ (x : PageRecordOf). Below r.label x.label) (λ (x : PageRecordOf). AtMost r.label x.label) (λ x below. inr below) later
              (pairs-head (λ (one other : PageRecordOf). Below one.label other.label) r later rises)))
              k d within;
        }

-- The labels of sheets are labels and rise.
pub sheets-AreSheets : (rows : ℕ) (records : List PageRecordOf) (starts pages : List ℕ) → All (λ (it : PageRecordOf). IsLabel it.label) records → RisingRecords records
    → AreSheets (sheets_of_records rows records starts pages)
sheets-AreSheets rows records starts pages labels rising =
    let all = segments rows records starts in
    let sheets = sheets_of_records rows records starts pages in
    let same = sym (runs_of-all all) in
    let each : All IsSegment (in_runs (runs_of all)) = subst (All IsSegment) same (segments-IsSegment rows records starts labels rising) in
    let leads : AllPairs Leads (in_runs (runs_of all)) = subst (AllPairs Leads) same (segments-Lead rows records starts rising) in
    let kept : All (Keeps IsLabel) sheets = runs-Keep IsLabel pages (runs_of all) (λ k d within m. page_label-IsLabel (get_or (in_runs (runs_of all)) k d) m (each k d within).label) in
    let behind : AllPairs Behind sheets = runs-rise pages (runs_of all) each leads in
    record {
      first = λ k d within. (kept k d within).first;
      last = λ k d within. (kept k d within).last;
      rising = λ i j d less within. (behind i j d less within).last;
      firsts = λ i j d less within. (behind i j d less within).first;
    }

-- Sheets of a text without records: the k-th one has the number k + 1 and nothing more.
pub record AreNumbered (sheets : List SheetOf) : Type 0 where
  pub first : (k : ℕ) (d : SheetOf) → k < length sheets → (get_or sheets k d).first ≡ plain_label (k + 1)
  pub last : (k : ℕ) (d : SheetOf) → k < length sheets → (get_or sheets k d).last ≡ plain_label (k + 1)

plain-Below : (a b : ℕ) → a < b → Below (plain_label a) (plain_label b)
plain-Below a b less = record { less = ap (λ (o : Ordering). ordering_then o (slice_cmp nat_cmp [] [])) (sym (nat_cmp_is a b Less less)) }

-- Their labels rise too.
pub numbered-AreSheets : (sheets : List SheetOf) → AreNumbered sheets → AreSheets sheets
numbered-AreSheets sheets are =
    record {
      first = λ k d within. subst IsLabel (sym (are.first k d within)) (IsLabel-plain (k + 1));
      last = λ k d within. subst IsLabel (sym (are.last k d within)) (IsLabel-plain (k + 1));
      rising = λ i j d less within.
          subst (λ l. Below l (get_or sheets j d).first) (sym (are.last i d (omega (arith, less, within))))
          (subst (Below (plain_label (i + 1))) (sym (are.first j d within)) (plain-Below (i + 1) (j + 1) (omega (arith, less))));
      firsts = λ i j d less within.
          subst (λ l. Below l (get_or sheets j d).first) (sym (are.first i d (omega (arith, less, within))))
          (subst (Below (plain_label (i + 1))) (sym (are.first j d within)) (plain-Below (i + 1) (j + 1) (omega (arith, less))));
    }
