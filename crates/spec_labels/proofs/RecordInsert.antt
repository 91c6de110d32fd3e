-- The records of overflow pages go where their pages are.
use Rattle.std.proofs.Common.{◌≡◌, ℕ, ◌+◌, ◌<◌, Bool, true, false, cond, Ordering, Less, Equal, Greater, is_lt, List, [], ◌∷◌, ◌++◌, map, length, get_or, refl, sym, ap, subst, ◌∙◌, arith, append_assoc}
use Rattle.std.specs.Prelude.{IfSome, All, AllPairs, fold, flat_map, drop, slice_index_or}
use Rattle.std.proofs.lemmas.List.{map-append}
use Rattle.std.proofs.lemmas.List.Elements.{All-nil, All-cons, All-head, All-tail, All-append}
use Rattle.std.proofs.lemmas.List.Kept.{AllPairs-cons}
use Rattle.std.proofs.lemmas.List.Sums.{fold-append}
use Rattle.spec_text.proofs.ListLaws.{pairs-head, pairs-tail}
use Rattle.spec_labels.specs.declared.RowKey.{RowKey}
use Rattle.spec_labels.specs.Labels.{LabelOf, IsLabel, label_cmp, Below, between}
use Rattle.spec_labels.specs.PageRecords.{PageRecordOf, RisingRecords, SegmentOf, SheetOf, first_label, segments, is_empty, page_label, page_sheet, page_sheets, segment_pages, record_of_sheet, put_in}
use Rattle.spec_labels.proofs.LabelOrder.{Below-transitive, Below-asymmetric}
use Rattle.spec_labels.proofs.LabelsBetween.{between-above, between-below, between-rises}
use Rattle.spec_labels.proofs.SheetLaws.{page_label-later}
use Rattle.spec_labels.specs.OwnRecords.{overflow_sheets, all_records}

abbrev pub Before : PageRecordOf → PageRecordOf → Type 0
Before one other = Below one.label other.label

-- The label is below that of the first of some records.
abbrev pub Under : LabelOf → List PageRecordOf → Type 0
Under label records = IfSome (first_label records) (λ first. Below label first)

is_lt-yes : (one other : LabelOf) → Below one other → is_lt (label_cmp one other) ≡ true
is_lt-yes one other below = ap is_lt below.less

is_lt-no : (one other : LabelOf) → Below other one → is_lt (label_cmp one other) ≡ false
is_lt-no one other below = by (label_cmp one other) refl
  where
    by : (o : Ordering) → label_cmp one other ≡ o → is_lt o ≡ false
    by Less is = absurd (Below-asymmetric below (record { less = is }))
    by Equal is = refl
    by Greater is = refl

-- A record goes behind those below it, in front of the others.
pub put_in-middle : (front behind : List PageRecordOf) (new : PageRecordOf) → All (λ (it : PageRecordOf). Below it.label new.label) front → Under new.label behind
    → put_in (front ++ behind) new ≡ front ++ (new ∷ behind)
put_in-middle [] [] new all under = refl
put_in-middle [] (it ∷ behind) new all under = ap (λ b. cond b (it ∷ put_in behind new) (new ∷ it ∷ behind)) (is_lt-no it.label new.label under)
put_in-middle (it ∷ front) behind new all under =
    let P = λ (r : PageRecordOf). Below r.label new.label in
    ap (λ b. cond b (it ∷ put_in (front ++ behind) new) (new ∷ it ∷ (front ++ behind))) (is_lt-yes it.label new.label (All-head P it front all))
    ∙ ap (λ (rs : List PageRecordOf). it ∷ rs) (put_in-middle front behind new (All-tail P it front all) under)

-- A sheet has a label behind that of a record, and before a next one.
pub record Between (low : LabelOf) (records : List PageRecordOf) (sheet : SheetOf) : Type 0 where
  pub above : Below low sheet.first
  pub below : Under sheet.first records

abbrev pub Rise : List SheetOf → Type 0
Rise sheets = AllPairs (λ (one other : SheetOf). Below one.first other.first) sheets

-- The records of sheets, one after another.
pub sheets-put : (keys : List RowKey) (front behind : List PageRecordOf) (sheets : List SheetOf) → All (λ (sheet : SheetOf). All (λ (it : PageRecordOf). Below it.label sheet.first) front) sheets
    → Rise sheets → All (λ (sheet : SheetOf). Under sheet.first behind) sheets
    → fold put_in (front ++ behind) (map (record_of_sheet keys) sheets) ≡ front ++ (map (record_of_sheet keys) sheets ++ behind)
sheets-put keys front behind [] above rise below = refl
sheets-put keys front behind (sheet ∷ sheets) above rise below =
    let new = record_of_sheet keys sheet in
    let P = λ (s : SheetOf). All (λ (it : PageRecordOf). Below it.label s.first) front in
    let Q = λ (s : SheetOf). Under s.first behind in
    let R = λ (one other : SheetOf). Below one.first other.first in
    let later : All (λ (s : SheetOf). All (λ (it : PageRecordOf). Below it.label s.first) (front ++ (new ∷ []))) sheets = λ k d h.
    let s = get_or sheets k d in
    All-append (λ (it : PageRecordOf). Below it.label s.first) front (new ∷ []) (All-tail P sheet sheets above k d h)
    (All-cons (λ (it : PageRecordOf). Below it.label s.first) new [] (pairs-head R sheet sheets rise k d h) (All-nil (λ (it : PageRecordOf). Below it.label s.first))) in
    ap (λ (rs : List PageRecordOf). fold put_in rs (map (record_of_sheet keys) sheets)) (put_in-middle front behind new (All-head P sheet sheets above) (All-head Q sheet sheets below)
    ∙ sym (append_assoc front (new ∷ []) behind))
    ∙ sheets-put keys (front ++ (new ∷ [])) behind sheets later (pairs-tail R sheet sheets rise) (All-tail Q sheet sheets below)
    ∙ append_assoc front (new ∷ []) (map (record_of_sheet keys) sheets ++ behind)

pub record Stands (it : PageRecordOf) (records : List PageRecordOf) : Type 0 where
  pub above : Under it.label records
  pub labels : IfSome (first_label records) IsLabel

later-between : (it : PageRecordOf) (records : List PageRecordOf) (start end m : ℕ) → Stands it records → 0 < m
    → Below it.label (page_label (record { owner = it; next = first_label records; start = start; end = end }) m)
    × Under (page_label (record { owner = it; next = first_label records; start = start; end = end }) m) records
later-between it records start end m stands some =
    let own : SegmentOf = record { owner = it; next = first_label records; start = start; end = end } in
    let is = sym (page_label-later own m some) in
    (subst (Below it.label) is (between-above it.label (first_label records) m some), by records stands is)
  where
    by : (rs : List PageRecordOf) → Stands it rs → between it.label (first_label rs) m ≡ page_label (record { owner = it; next = first_label records; start = start; end = end }) m
        → Under (page_label (record { owner = it; next = first_label records; start = start; end = end }) m) rs
    by [] stands is = tt
    by (r ∷ rs) stands is = subst (λ l. Below l r.label) is (between-below it.label r.label m stands.above stands.labels)

page_sheets-Between : (it : PageRecordOf) (records : List PageRecordOf) (start end m : ℕ) (pages : List ℕ) → Stands it records → 0 < m
    → All (Between it.label records) (page_sheets (record { owner = it; next = first_label records; start = start; end = end }) m pages)
page_sheets-Between it records start end m [] stands some = All-nil (Between it.label records)
page_sheets-Between it records start end m (page ∷ later) stands some =
    let own : SegmentOf = record { owner = it; next = first_label records; start = start; end = end } in
    let here = later-between it records start end m stands some in
    All-cons (Between it.label records) (page_sheet own m page later) (page_sheets own (m + 1) later) (record { above = here.0; below = here.1 })
    (page_sheets-Between it records start end (m + 1) later stands (omega arith))

-- Labels of a segment's pages rise.
label-above : (segment : SegmentOf) (m : ℕ) (k : ℕ) (pages : List ℕ) → 0 < m → m < k → All (λ (sheet : SheetOf). Below (page_label segment m) sheet.first) (page_sheets segment k pages)
label-above segment m k [] some less = All-nil (λ (sheet : SheetOf). Below (page_label segment m) sheet.first)
label-above segment m k (page ∷ later) some less =
    All-cons (λ (sheet : SheetOf). Below (page_label segment m) sheet.first) (page_sheet segment k page later) (page_sheets segment (k + 1) later)
    (subst (λ l. Below l (page_label segment k)) (sym (page_label-later segment m some))
    (subst (Below (between segment.owner.label segment.next m)) (sym (page_label-later segment k (omega (arith, less)))) (between-rises segment.owner.label segment.next m k less)))
    (label-above segment m (k + 1) later some (omega (arith, less)))

page_sheets-Rise : (segment : SegmentOf) (m : ℕ) (pages : List ℕ) → 0 < m → Rise (page_sheets segment m pages)
page_sheets-Rise segment m [] some = λ i j d less within. absurd (omega (arith, less, within))
page_sheets-Rise segment m (page ∷ later) some =
    AllPairs-cons (λ (one other : SheetOf). Below one.first other.first) (page_sheet segment m page later) (page_sheets segment (m + 1) later)
    (label-above segment m (m + 1) later some (omega arith)) (page_sheets-Rise segment (m + 1) later (omega arith))

-- What overflow pages of a segment keep.
pub record Overflow (it : PageRecordOf) (records : List PageRecordOf) (sheets : List SheetOf) : Type 0 where
  pub each : All (Between it.label records) sheets
  pub rise : Rise sheets

pub overflow-keeps : (pages : List ℕ) (it : PageRecordOf) (records : List PageRecordOf) (start end : ℕ) → Stands it records
    → Overflow it records (overflow_sheets pages (record { owner = it; next = first_label records; start = start; end = end }))
overflow-keeps pages it records start end stands =
    let own : SegmentOf = record { owner = it; next = first_label records; start = start; end = end } in
    by (is_empty own) (segment_pages own pages)
  where
    none : Overflow it records []
    none = record { each = All-nil (Between it.label records); rise = λ i j d less within. absurd (omega (arith, less, within)) }

    by : (b : Bool) (ps : List ℕ) → Overflow it records (cond b [] (drop 1 (page_sheets (record { owner = it; next = first_label records; start = start; end = end }) 0 ps)))
    by true ps = none
    by false [] = none
    by false (p ∷ ps) = record {
      each = page_sheets-Between it records start end 1 ps stands (omega arith);
      rise = page_sheets-Rise (record { owner = it; next = first_label records; start = start; end = end }) 1 ps (omega arith);
    }

-- What rising records keep.
stands-first : (it : PageRecordOf) (records : List PageRecordOf) → All (λ (r : PageRecordOf). IsLabel r.label) records → RisingRecords (it ∷ records) → Stands it records
stands-first it [] labels rising = record { above = tt; labels = tt }
stands-first it (r ∷ records) labels rising = record {
  above = All-head (λ (x : PageRecordOf). Below it.label x.label) r records (pairs-head Before it (r ∷ records) rising);
  labels = All-head (λ (x : PageRecordOf). IsLabel x.label) r records labels;
}

-- Each new record, put in by its label, stands behind the record of its segment.
pub all-put : (pages : List ℕ) (rows : ℕ) (keys : List RowKey) (front records : List PageRecordOf) (starts : List ℕ) → length starts ≡ length records
    → All (λ (r : PageRecordOf). IsLabel r.label) records → RisingRecords records → All (λ (r : PageRecordOf). Under r.label records) front
    → fold put_in (front ++ records) (map (record_of_sheet keys) (flat_map (overflow_sheets pages) (segments rows records starts)))
    ≡ front ++ all_records keys pages (segments rows records starts)
all-put pages rows keys front [] [] count labels rising under = refl
all-put pages rows keys front [] (start ∷ starts) count labels rising under = absurd (omega (arith, count))
all-put pages rows keys front (it ∷ records) [] count labels rising under = absurd (omega (arith, count))
all-put pages rows keys front (it ∷ records) (start ∷ starts) count labels rising under =
    let later = segments rows records starts in
    let own : SegmentOf = record { owner = it; next = first_label records; start = start; end = slice_index_or starts 0 rows } in
    let sheets = overflow_sheets pages own in
    let rest = flat_map (overflow_sheets pages) later in
    let stands = stands-first it records (All-tail (λ (r : PageRecordOf). IsLabel r.label) it records labels) rising in
    let keeps = overflow-keeps pages it records start (slice_index_or starts 0 rows) stands in
    let mine = map (record_of_sheet keys) sheets in
    let near : (s : SheetOf) → Between it.label records s → All (λ (r : PageRecordOf). Below r.label s.first) (front ++ (it ∷ [])) = λ s is.
    All-append (λ (r : PageRecordOf). Below r.label s.first) front (it ∷ []) (λ k d h. Below-transitive (under k d h) is.above)
    (All-cons (λ (r : PageRecordOf). Below r.label s.first) it [] is.above (All-nil (λ (r : PageRecordOf). Below r.label s.first))) in
    let each = keeps.each in
    let here : fold put_in (front ++ (it ∷ records)) mine ≡ (front ++ (it ∷ mine)) ++ records =
    ap (λ (rs : List PageRecordOf). fold put_in rs mine) (sym (append_assoc front (it ∷ []) records))
    ∙ sheets-put keys (front ++ (it ∷ [])) records sheets (λ k d h. near (get_or sheets k d) (each k d h)) keeps.rise (λ k d h. (each k d h).below)
    ∙ append_assoc front (it ∷ []) (mine ++ records) ∙ sym (append_assoc front (it ∷ mine) records) in
    let next : All (λ (r : PageRecordOf). Under r.label records) (front ++ (it ∷ mine)) =
    All-append (λ (r : PageRecordOf). Under r.label records) front (it ∷ mine) (λ k d h. under-next (get_or front k d).label records stands.above (under k d h))
    (All-cons (λ (r : PageRecordOf). Under r.label records) it mine stands.above (mapped sheets (λ k d h. (each k d h).below))) in
    ap (fold put_in (front ++ (it ∷ records))) (map-append (record_of_sheet keys) sheets rest)
    ∙ fold-append put_in (front ++ (it ∷ records)) mine (map (record_of_sheet keys) rest)
    ∙ ap (λ (rs : List PageRecordOf). fold put_in rs (map (record_of_sheet keys) rest)) here
    ∙ all-put pages rows keys (front ++ (it ∷ mine)) records starts (omega (arith, count)) (All-tail (λ (r : PageRecordOf). IsLabel r.label) it records labels) (pairs-tail Before it records rising) next
    ∙ append_assoc front (it ∷ mine) (all_records keys pages later)
  where
    under-next : (l : LabelOf) (rs : List PageRecordOf) → Under it.label rs → Below l it.label → Under l rs
    under-next l [] above low = tt
    under-next l (r ∷ rs) above low = Below-transitive low above

    mapped : (ss : List SheetOf) → All (λ (s : SheetOf). Under s.first records) ss → All (λ (r : PageRecordOf). Under r.label records) (map (record_of_sheet keys) ss)
    mapped [] all = All-nil (λ (r : PageRecordOf). Under r.label records)
    mapped (s ∷ ss) all =
        All-cons (λ (r : PageRecordOf). Under r.label records) (record_of_sheet keys s) (map (record_of_sheet keys) ss) (All-head (λ (x : SheetOf). Under x.first records) s ss all)
        (mapped ss (All-tail (λ (x : SheetOf). Under x.first records) s ss all))
