-- Where every page of records is a record, the pages stay.
use Rattle.std.proofs.Common.{◌≡◌, ◌⊎◌, ℕ, ◌<◌, ◌≤◌, Bool, true, false, ◌&&◌, ◌||◌, cond, eqb, List, [], ◌∷◌, ◌++◌, length, inl, inr, refl, sym, ap, ap₂, ◌∙◌, arith}
use Rattle.std.specs.Prelude.{All, filter, slice_index_or}
use Rattle.std.proofs.lemmas.Bool.{cases_lt, cases_eq, lt-ltb, le-leb, lt-leb, eq-eqb, ne_eqb, eqb-true, or_cases, or_left, or_right}
use Rattle.std.proofs.lemmas.List.Elements.{All-nil, All-cons, All-head, All-tail}
use Rattle.spec_labels.specs.PageRecords.{PageRecordOf, SegmentOf, first_label, segments, is_empty, segment_pages}
use Rattle.spec_pages.specs.Heights.{Heights, starts_of}
use Rattle.spec_pages.specs.OwnPages.{is_among, lies_in}
use Rattle.spec_pages.proofs.StartLists.{among-append, among-first, among-front, among-back}
use Rattle.spec_pages.proofs.OpenedPages.{OneFits, starts-opened, stop-is-page}
use Rattle.spec_labels.specs.OwnRecords.{own_starts, all_starts}
use Rattle.spec_state.proofs.RecordsOpen.{Paged}

among-either : (xs ys : List ℕ) (t : ℕ) → is_among (xs ++ ys) t ≡ true → (is_among xs t ≡ true) ⊎ (is_among ys t ≡ true)
among-either xs ys t is = or_cases (is_among xs t) (is_among ys t) (sym (among-append xs ys t) ∙ is)

among-kept : (test : ℕ → Bool) (pages : List ℕ) (t : ℕ) → test t ≡ true → is_among pages t ≡ true → is_among (filter test pages) t ≡ true
among-kept test [] t yes_is is = is
among-kept test (page ∷ pages) t yes_is is = elim (cases_eq page t) [
  | inl same ↦
      ap (λ b. is_among (cond b (page ∷ filter test pages) (filter test pages)) t) (ap test same ∙ yes_is)
      ∙ or_left (eqb page t) (is_among (filter test pages) t) (eq-eqb page t same)
  | inr other ↦ by (test page) (among-kept test pages t yes_is (sym (ap (λ b. b || is_among pages t) (ne_eqb page t other)) ∙ is))
]
  where
    by : (b : Bool) → is_among (filter test pages) t ≡ true → is_among (cond b (page ∷ filter test pages) (filter test pages)) t ≡ true
    by true rest = or_right (eqb page t) (is_among (filter test pages) t) rest
    by false rest = rest

among-filter : (test : ℕ → Bool) (pages : List ℕ) (t : ℕ) → is_among (filter test pages) t ≡ true → is_among pages t ≡ true
among-filter test [] t is = is
among-filter test (page ∷ pages) t is = by (test page) (among-filter test pages t) is
  where
    by : (b : Bool) → (is_among (filter test pages) t ≡ true → is_among pages t ≡ true) → is_among (cond b (page ∷ filter test pages) (filter test pages)) t ≡ true → is_among (page ∷ pages) t ≡ true
    by false rest h = or_right (eqb page t) (is_among pages t) (rest h)
    by true rest h = elim (or_cases (eqb page t) (is_among (filter test pages) t) h) [
      | inl here ↦ or_left (eqb page t) (is_among pages t) here
      | inr there ↦ or_right (eqb page t) (is_among pages t) (rest there)
    ]

-- ---- segments

-- A segment begins at a start, and ends in the rows.
record Begins (whole : List ℕ) (rows : ℕ) (segment : SegmentOf) : Type 0 where
  start : is_among whole segment.start ≡ true
  end : segment.end ≤ rows

segments-begin : (whole : List ℕ) (rows : ℕ) (records : List PageRecordOf) (starts : List ℕ) → ((t : ℕ) → is_among starts t ≡ true → is_among whole t ≡ true) → All (λ start. start ≤ rows) starts
    → All (Begins whole rows) (segments rows records starts)
segments-begin whole rows [] starts inner low = All-nil (Begins whole rows)
segments-begin whole rows (it ∷ records) [] inner low = All-nil (Begins whole rows)
segments-begin whole rows (it ∷ records) (start ∷ starts) inner low =
    All-cons (Begins whole rows) (record { owner = it; next = first_label records; start = start; end = slice_index_or starts 0 rows }) (segments rows records starts)
    (record { start = inner start (among-first start starts); end = first starts (All-tail (λ s. s ≤ rows) start starts low) })
    (segments-begin whole rows records starts (λ t h. inner t (or_right (eqb start t) (is_among starts t) h)) (All-tail (λ s. s ≤ rows) start starts low))
  where
    first : (ss : List ℕ) → All (λ s. s ≤ rows) ss → slice_index_or ss 0 rows ≤ rows
    first [] all = omega arith
    first (s ∷ ss) all = All-head (λ x. x ≤ rows) s ss all

-- The starts of records are pages.
pub starts-paged : (limit : ℕ) (heights : Heights) (rows : ℕ) (breaks : List ℕ) (records : List PageRecordOf) (starts : List ℕ) → All (λ start. start ≤ rows) starts
    → All (Paged (starts_of limit heights rows (breaks ++ starts))) (segments rows records starts)
starts-paged limit heights rows breaks records starts low =
    let begins = segments-begin starts rows records starts (λ t h. h) low in
    λ k d h some. (let it = begins k d h in let end = it.end in
    stop-is-page limit heights rows (breaks ++ starts) _ (omega (arith, some, end)) (among-back breaks starts _ it.start))

-- A page lies in the segment that ends behind it.
lies-here : (pages : List ℕ) (own : SegmentOf) (later : List ℕ) (t : ℕ) → own.start ≤ t → t < own.end → is_among pages t ≡ true → is_among (own_starts pages own ++ later) t ≡ true
lies-here pages own later t low here is =
    among-front (own_starts pages own) later t
    (ap (λ b. is_among (cond b (own.start ∷ []) (segment_pages own pages)) t) (lt-leb own.end own.start (omega (arith, low, here)))
    ∙ among-kept (lies_in own.start own.end) pages t (ap₂ (λ a b. a && b) (le-leb own.start t low) (lt-ltb t own.end here)) is)

-- A page from the first start on lies in a segment.
covered : (pages : List ℕ) (rows : ℕ) (records : List PageRecordOf) (start : ℕ) (starts : List ℕ) (t : ℕ) → length (start ∷ starts) ≡ length records → start ≤ t → t < rows → is_among pages t ≡ true
    → is_among (all_starts pages (segments rows records (start ∷ starts))) t ≡ true
covered pages rows [] start starts t count low inside is = absurd (omega (arith, count))
covered pages rows (it ∷ records) start [] t count low inside is =
    lies-here pages (record { owner = it; next = first_label records; start = start; end = rows }) (all_starts pages (segments rows records [])) t low inside is
covered pages rows (it ∷ records) start (s ∷ starts) t count low inside is =
    let own : SegmentOf = record { owner = it; next = first_label records; start = start; end = s } in
    let later = all_starts pages (segments rows records (s ∷ starts)) in
    elim (cases_lt t s) [
      | inl here ↦ lies-here pages own later t low here is
      | inr behind ↦ among-back (own_starts pages own) later t (covered pages rows records s starts t (omega (arith, count)) behind inside is)
    ]

-- What is a start is a page.
own-page : (limit : ℕ) (heights : Heights) (rows : ℕ) (stops pages : List ℕ) (segs : List SegmentOf) (t : ℕ) → pages ≡ starts_of limit heights rows stops → t < rows
    → All (λ (s : SegmentOf). is_among stops s.start ≡ true) segs → is_among (all_starts pages segs) t ≡ true → is_among pages t ≡ true
own-page limit heights rows stops pages [] t same inside all is = absurd (let bad : ⊥ = cc in bad)
own-page limit heights rows stops pages (segment ∷ segs) t same inside all is =
    let P = λ (s : SegmentOf). is_among stops s.start ≡ true in
    elim (among-either (own_starts pages segment) (all_starts pages segs) t is) [
      | inl here ↦ by (is_empty segment) here
      | inr there ↦ own-page limit heights rows stops pages segs t same inside (All-tail P segment segs all) there
    ]
  where
    by : (b : Bool) → is_among (cond b (segment.start ∷ []) (segment_pages segment pages)) t ≡ true → is_among pages t ≡ true
    by false h = among-filter (lies_in segment.start segment.end) pages t h
    by true h = elim (or_cases (eqb segment.start t) false h) [
      | inl at ↦
          let e : segment.start ≡ t = eqb-true segment.start t at in
          ap (λ l. is_among l t) same
          ∙ stop-is-page limit heights rows stops t inside (ap (is_among stops) (sym e) ∙ All-head (λ (s : SegmentOf). is_among stops s.start ≡ true) segment segs all)
      | inr none ↦ absurd (let bad : ⊥ = cc in bad)
    ]

both : (a b : Bool) → (a ≡ true → b ≡ true) → (b ≡ true → a ≡ true) → a ≡ b
both true b to from = sym (to refl)
both false true to from = from refl
both false false to from = refl

-- The pages stay where all of them are stops by records.
pub pages-same : (limit : ℕ) (heights : Heights) (rows : ℕ) (breaks : List ℕ) (records : List PageRecordOf) (starts : List ℕ) → OneFits limit heights
    → length (0 ∷ starts) ≡ length records → All (λ start. start ≤ rows) (0 ∷ starts)
    → starts_of limit heights rows (breaks ++ all_starts (starts_of limit heights rows (breaks ++ (0 ∷ starts))) (segments rows records (0 ∷ starts)))
    ≡ starts_of limit heights rows (breaks ++ (0 ∷ starts))
pages-same limit heights rows breaks records starts one count low =
    let pages = starts_of limit heights rows (breaks ++ (0 ∷ starts)) in
    let segs = segments rows records (0 ∷ starts) in
    let begins = segments-begin (0 ∷ starts) rows records (0 ∷ starts) (λ t h. h) low in
    starts-opened limit heights rows (breaks ++ (0 ∷ starts)) (breaks ++ all_starts pages segs) one
    (λ t some inside. both (is_among (breaks ++ all_starts pages segs) t) (is_among pages t)
    (λ h. elim (among-either breaks (all_starts pages segs) t h) [
      | inl break ↦ stop-is-page limit heights rows (breaks ++ (0 ∷ starts)) t inside (among-front breaks (0 ∷ starts) t break)
      | inr start ↦ own-page limit heights rows (breaks ++ (0 ∷ starts)) pages segs t refl inside (λ k d g. among-back breaks (0 ∷ starts) _ (begins k d g).start) start
    ])
    (λ h. among-back breaks (all_starts pages segs) t (covered pages rows records 0 starts t count (omega arith) inside h)))
