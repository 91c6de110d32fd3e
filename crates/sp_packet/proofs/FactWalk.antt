-- The walk over the page records of a state, and over its sheets beside them.
use Rattle.std.proofs.Common.{◌≡◌, inl, inr, ℕ, zero, suc, ◌+◌, ◌-◌, ◌<◌, ◌≤◌, Bool, true, false, cond, Option, Some, None, List, [], ◌∷◌, ◌++◌, length, map, take, drop, refl, ap, ap₂, sym, subst, ◌∙◌, append_assoc, append-nil, length-append, arith, unwrap_or}
use Rattle.std.specs.Prelude.{All, is_some, slice_range}
use Rattle.std.specs.List.{flat_map, prefix_len}
use Rattle.std.proofs.Math.Seq.{drop-append_seam, take-append_seam}
use Rattle.std.proofs.lemmas.List.{at_drop_all, drop-drop, length-drop}
use Rattle.std.proofs.lemmas.List.Elements.{All-nil, All-cons, All-append}
use Rattle.std.proofs.lemmas.List.Folds.{length-prefix_len}
use Rattle.std.proofs.lemmas.List.Sums.{prefix_len-le-length}
use Rattle.spec_labels.specs.PageRecords.{PageRecordOf, SegmentOf, SheetOf, AreStarts, is_empty, omitted_sheet, owner_of, page_sheets, record_starts, run_sheets, runs_of, segment_pages, segments}
use Rattle.spec_sheets.specs.Shown.{shape_of}
use Rattle.spec_pages.specs.declared.Shape.{Shape}
use Rattle.spec_packet.specs.SheetLists.{IsIn}
use Rattle.spec_state.specs.State.{State}
use Rattle.spec_state.specs.Keeping.{IsWhole}
use Rattle.spec_state.specs.StateSheets.{body_sheets, keys_in, rows_in}
use Rattle.spec_state.proofs.StateLaws.{state-AreStarts, state-AreKeptPages}
use Rattle.spec_locked_pages.specs.Segments.{pages_of, records_in}
use Rattle.spec_packet.specs.SheetFacts.{SheetFactsOf, PlacesOf, laid_facts, page_facts, runs_facts}
use Rattle.spec_packet.specs.StatePackets.{laid_of}
use Rattle.spec_packet.proofs.StatePrinted.{body-laid}
use Rattle.sp_locks.proofs.SheetRuns.{drop-segments, length-segments, runs_of-page}
use Rattle.sp_packet.specs.Cues.{place_with, reach_row, row_goes_on, speech_row}
use Rattle.sp_packet.specs.Runs.{LieWithin, LiesBelow, empty_run, facts_by, starts_before}
use Rattle.sp_packet.proofs.CueLaws.{cue-places, place-low}
use Rattle.sp_packet.proofs.RunLaws.{empty-run, runs-first}
use Rattle.sp_packet.proofs.SegmentLaws.{Behind, behind, count-pages, left_from, left-more, length-pages, page-within, segment_from}

abbrev pub starts_in : State → List ℕ
starts_in state = record_starts state.lines (keys_in state) (records_in state)

abbrev pub left_in : State → ℕ → List SegmentOf
left_in state index = left_from (length (rows_in state)) (records_in state) (starts_in state) index

abbrev pub own_in : State → ℕ → SegmentOf
own_in state index = segment_from (length (rows_in state)) (records_in state) (starts_in state) index

abbrev later_in : State → ℕ → List SheetOf
later_in state index = flat_map (run_sheets (pages_of state)) (runs_of (left_in state index))

-- How far the walk has come: the facts of the sheets of the records before, and the sheets that are left.
pub record Walked (state : State) (index sheet : ℕ) (done : List SheetFactsOf) : Type 0 where
  pub inside : index ≤ length (records_in state)
  pub few : sheet ≤ length (body_sheets state)
  pub facts : done ++ runs_facts (laid_of state) index (runs_of (left_in state index)) ≡ laid_facts (laid_of state)
  pub sheets : drop sheet (body_sheets state) ≡ flat_map (run_sheets (pages_of state)) (runs_of (left_in state index))
  pub within : All (LieWithin (length (records_in state))) done

-- ---- of a state whose pages are locked

pub some-records : (state : State) → IsWhole state → is_some state.pages ≡ true → 0 < length (records_in state)
some-records state whole locked = by state.pages refl locked
  where
    by : (o : Option (List PageRecordOf)) → state.pages ≡ o → is_some o ≡ true → 0 < length (unwrap_or o [])
    by None is locked = absurd (let no_way : ⊥ = cc in no_way)
    by (Some records) is locked = (state-AreKeptPages state records whole is).some

pub are-starts : (state : State) → IsWhole state → is_some state.pages ≡ true → AreStarts (length (rows_in state)) (records_in state) (starts_in state)
are-starts state whole locked = by state.pages refl locked
  where
    by : (o : Option (List PageRecordOf)) → state.pages ≡ o → is_some o ≡ true → AreStarts (length (rows_in state)) (unwrap_or o []) (record_starts state.lines (keys_in state) (unwrap_or o []))
    by None is locked = absurd (let no_way : ⊥ = cc in no_way)
    by (Some records) is locked = state-AreStarts state records whole is

pub Walked-start : (state : State) → is_some state.pages ≡ true → Walked state 0 0 []
Walked-start state locked = record { inside = omega arith; few = omega arith; facts = refl; sheets = body-laid state locked; within = All-nil (LieWithin (length (records_in state))) }

pub Walked-end : (state : State) (index sheet : ℕ) (done : List SheetFactsOf) → length (records_in state) ≤ index → Walked state index sheet done → done ≡ laid_facts (laid_of state)
Walked-end state index sheet done all walked =
    sym (at_drop_all (λ (rs : List PageRecordOf). done ++ runs_facts (laid_of state) index (runs_of (segments (length (rows_in state)) rs (drop index (starts_in state))))) (records_in state) index all ∙ append-nil done)
    ∙ walked.facts

-- ---- records without rows

abbrev pub gone_facts : ℕ → ℕ → SheetFactsOf
gone_facts index run = record { records = record { first = index; last = index + (run - 1) }; pages = 0; cue = None }

pub record GoneStep (state : State) (index sheet run : ℕ) (done : List SheetFactsOf) : Type 0 where
  pub low : index + run ≤ length (records_in state)
  pub few : sheet < length (body_sheets state)
  pub next : Walked state (index + run) (sheet + 1) (done ++ gone_facts index run ∷ [])

first-empty : (own : SegmentOf) (rest : List SegmentOf) → 0 < prefix_len is_empty (own ∷ rest) → is_empty own ≡ true
first-empty own rest some = by (is_empty own) some
  where
    by : (b : Bool) → 0 < cond b (1 + prefix_len is_empty rest) 0 → b ≡ true
    by true some = refl
    by false some = absurd (omega (arith, some))

first-full : (own : SegmentOf) (rest : List SegmentOf) → prefix_len is_empty (own ∷ rest) ≡ 0 → is_empty own ≡ false
first-full own rest none = by (is_empty own) none
  where
    by : (b : Bool) → cond b (1 + prefix_len is_empty rest) 0 ≡ 0 → b ≡ false
    by true none = absurd (omega (arith, none))
    by false none = refl

module _ (state : State) (whole : IsWhole state) (locked : is_some state.pages ≡ true) (index sheet : ℕ) (done : List SheetFactsOf) (walked : Walked state index sheet done) (inside : index < length (records_in state)) where
  abbrev rows : ℕ
  rows = length (rows_in state)

  abbrev records : List PageRecordOf
  records = records_in state

  abbrev starts : List ℕ
  starts = starts_in state

  are : AreStarts (length (rows_in state)) (records_in state) (starts_in state)
  are = are-starts state whole locked

  abbrev own : SegmentOf
  own = own_in state index

  more : left_in state index ≡ own_in state index ∷ left_in state (index + 1)
  more = left-more rows records starts index are.count inside

  run-count : prefix_len is_empty (left_in state index) ≡ empty_run (length (rows_in state)) (drop index (starts_in state))
  run-count = empty-run rows (drop index records) (drop index starts) (let a = length-drop index records in let b = length-drop index starts in let c = are.count in omega (arith, a, b, c))

  gone : (m : ℕ) → empty_run (length (rows_in state)) (drop index (starts_in state)) ≡ suc m → GoneStep state index sheet (suc m) done
  gone m run = record {
    low = (let a = prefix-low in let b = length-left in omega (arith, a, b, counted, inside));
    few = few;
    next = record {
      inside = (let a = prefix-low in let b = length-left in omega (arith, a, b, counted, inside));
      few = omega (arith, few);
      facts = append_assoc done (fact ∷ []) rest ∙ ap (λ (l : List SheetFactsOf). done ++ l) (sym facts-here) ∙ walked.facts;
      sheets = sym (drop-drop 1 sheet (body_sheets state)) ∙ ap (drop 1) sheets-here;
      within = All-append (LieWithin (length records)) done (fact ∷ []) walked.within
          (All-cons (LieWithin (length records)) fact [] (record { records_are = (let a = prefix-low in let b = length-left in omega (arith, a, b, counted, inside)); cue_is = tt }) (All-nil (LieWithin (length records))));
    };
  }
    where
      fact : SheetFactsOf
      fact = gone_facts index (suc m)

      last : List SegmentOf
      last = left_in state (index + suc m)

      rest : List SheetFactsOf
      rest = runs_facts (laid_of state) (index + suc m) (runs_of last)

      others : List SegmentOf
      others = take m (left_in state (index + 1))

      counted : prefix_len is_empty (left_in state index) ≡ suc m
      counted = run-count ∙ run

      prefix-low : prefix_len is_empty (left_in state index) ≤ length (left_in state index)
      prefix-low = prefix_len-le-length is_empty (left_in state index)

      length-left : length (left_in state index) ≡ length records - index
      length-left = length-segments rows (drop index records) (drop index starts) (let a = length-drop index records in let b = length-drop index starts in let c = are.count in omega (arith, a, b, c)) ∙ length-drop index records

      front : take (suc m) (left_in state index) ≡ own ∷ others
      front = ap (take (suc m)) more

      long : suc (length others) ≡ suc m
      long = sym (ap length front) ∙ sym (ap (λ n. length (take n (left_in state index))) counted) ∙ length-prefix_len is_empty (left_in state index) ∙ counted

      runs : runs_of (left_in state index) ≡ (own ∷ others) ∷ runs_of last
      runs =
          runs-first (left_in state index) (omega (arith, counted))
          ∙ ap (λ n. take n (left_in state index) ∷ runs_of (drop n (left_in state index))) counted
          ∙ ap₂ (λ (a b : List SegmentOf). a ∷ runs_of b) front
          (drop-segments rows (suc m) (drop index records) (drop index starts) ∙ ap₂ (segments rows) (drop-drop (suc m) index records) (drop-drop (suc m) index starts))

      empty : is_empty own ≡ true
      empty = first-empty own (left_in state (index + 1)) (let some : 0 < prefix_len is_empty (left_in state index) = omega (arith, counted) in subst (λ (l : List SegmentOf). 0 < prefix_len is_empty l) more some)

      facts-here : runs_facts (laid_of state) index (runs_of (left_in state index)) ≡ (fact ∷ []) ++ rest
      facts-here =
          let count : length others ≡ suc m - 1 = omega (arith, long) in
          ap (runs_facts (laid_of state) index) runs
          ∙ ap₂ (λ b n. cond b (record { records = record { first = index; last = index + length others }; pages = 0; cue = None } ∷ []) (map (page_facts (laid_of state) index own) (page_sheets own 0 (segment_pages own (pages_of state))))
          ++ runs_facts (laid_of state) (index + n) (runs_of last)) empty long
          ∙ ap (λ n. (record { records = record { first = index; last = index + n }; pages = 0; cue = None } ∷ []) ++ rest) count

      sheets-here : drop sheet (body_sheets state) ≡ omitted_sheet own.start own.owner (map owner_of others) ∷ later_in state (index + suc m)
      sheets-here =
          walked.sheets ∙ ap (flat_map (run_sheets (pages_of state))) runs
          ∙ ap (λ b. cond b (omitted_sheet own.start own.owner (map owner_of others) ∷ []) (page_sheets own 0 (segment_pages own (pages_of state))) ++ later_in state (index + suc m)) empty

      few : sheet < length (body_sheets state)
      few = let a = length-drop sheet (body_sheets state) in let b = ap length sheets-here in omega (arith, a, b)

  pub Walked-gone : (run : ℕ) → run ≡ empty_run (length (rows_in state)) (drop index (starts_in state)) → 0 < run → GoneStep state index sheet run done
  Walked-gone zero is some = absurd (omega (arith, some))
  Walked-gone (suc m) is some = gone m (sym is)

  -- ---- the pages of one record

  abbrev pages : List ℕ
  pages = segment_pages (own_in state index) (pages_of state)

  full-own : empty_run (length (rows_in state)) (drop index (starts_in state)) ≡ 0 → is_empty (own_in state index) ≡ false
  full-own none = first-full own (left_in state (index + 1)) (ap (prefix_len is_empty) (sym more) ∙ run-count ∙ none)

  pages-here : is_empty (own_in state index) ≡ false → drop sheet (body_sheets state) ≡ page_sheets own 0 pages ++ later_in state (index + 1)
  pages-here full =
      walked.sheets ∙ ap (λ (l : List SegmentOf). flat_map (run_sheets (pages_of state)) (runs_of l)) more ∙ ap (flat_map (run_sheets (pages_of state))) (runs_of-page own (left_in state (index + 1)) full)
      ∙ ap (λ b. cond b (omitted_sheet own.start own.owner [] ∷ []) (page_sheets own 0 pages) ++ later_in state (index + 1)) full

  facts-pages : is_empty (own_in state index) ≡ false → runs_facts (laid_of state) index (runs_of (left_in state index)) ≡ map (page_facts (laid_of state) index own) (page_sheets own 0 pages) ++ runs_facts (laid_of state) (index + 1) (runs_of (left_in state (index + 1)))
  facts-pages full =
      ap (λ (l : List SegmentOf). runs_facts (laid_of state) index (runs_of l)) more ∙ ap (runs_facts (laid_of state) index) (runs_of-page own (left_in state (index + 1)) full)
      ∙ ap (λ b. cond b (record { records = record { first = index; last = index + 0 }; pages = 0; cue = None } ∷ []) (map (page_facts (laid_of state) index own) (page_sheets own 0 pages)) ++ runs_facts (laid_of state) (index + 1) (runs_of (left_in state (index + 1)))) full

  stands : Behind (length (rows_in state)) (records_in state) (starts_in state) (pages_of state) index
  stands = behind rows records starts (pages_of state) index are inside

  -- Each page begins with a row of the text.
  begins : (m : ℕ) (those : List ℕ) → ((page : ℕ) → IsIn page those → page < rows) → (it : SheetOf) → IsIn it (page_sheets own m those) → it.start < rows
  begins m [] low it is = absurd is
  begins m (page ∷ those) low it is = elim is [
    | inl same ↦ subst (λ (one : SheetOf). one.start < rows) same (low page (inl refl))
    | inr later ↦ begins (m + 1) those (λ one there. low one (inr there)) it later
  ]

  begun : (it : SheetOf) → IsIn it (page_sheets (own_in state index) 0 (segment_pages (own_in state index) (pages_of state))) → it.start < length (rows_in state)
  begun = begins 0 pages (λ page there. (let low = page-within own (pages_of state) page there in let most = stands.within in omega (arith, low, most)))

  all-of : (P : SheetOf → Type 0) (those : List SheetOf) → ((it : SheetOf) → IsIn it those → P it) → All P those
  all-of P [] each = All-nil P
  all-of P (it ∷ those) each = All-cons P it those (each it (inl refl)) (all-of P those (λ one is. each one (inr is)))

  -- The facts that the code makes of them.
  one-facts : (it : SheetOf) → it.start < length (rows_in state) → facts_by (starts_in state) (map shape_of (rows_in state)) index (length pages) it ≡ page_facts (laid_of state) index own it
  one-facts it low =
      let cue = cue-places (laid_of state) (rows_in state) records starts it.start refl refl are.count are.first (some-records state whole locked) low in
      ap (λ (places : Option PlacesOf). record { records = record { first = index; last = index }; pages = length pages; cue = places }) cue

  all-facts : (those : List SheetOf) → ((it : SheetOf) → IsIn it those → it.start < length (rows_in state))
      → map (facts_by (starts_in state) (map shape_of (rows_in state)) index (length pages)) those ≡ map (page_facts (laid_of state) index own) those
  all-facts [] low = refl
  all-facts (it ∷ those) low = ap₂ (λ (f : SheetFactsOf) (l : List SheetFactsOf). f ∷ l) (one-facts it (low it (inl refl))) (all-facts those (λ one is. low one (inr is)))

  one-within : (count : ℕ) (it : SheetOf) → LieWithin (length records) (facts_by starts (map shape_of (rows_in state)) index count it)
  one-within count it = record { records_are = inside; cue_is = by (row_goes_on shapes it.start) }
    where
      shapes : List Shape
      shapes = map shape_of (rows_in state)

      by : (b : Bool) → LiesBelow (length records) (cond b (Some (record { first = place_with starts (speech_row shapes it.start); last = place_with starts (reach_row shapes it.start) })) None)
      by true = let low = place-low starts (reach_row shapes it.start) (let a = some-records state whole locked in let b = are.count in omega (arith, a, b)) in let same = are.count in omega (arith, low, same)
      by false = tt

  all-within : (count : ℕ) (those : List SheetOf) → All (LieWithin (length records)) (map (facts_by starts (map shape_of (rows_in state)) index count) those)
  all-within count [] = All-nil (LieWithin (length records))
  all-within count (it ∷ those) =
      All-cons (LieWithin (length records)) (facts_by starts (map shape_of (rows_in state)) index count it) (map (facts_by starts (map shape_of (rows_in state)) index count) those) (one-within count it) (all-within count those)

  -- What the code takes of the sheets that are left.
  pub record PagesStep (count : ℕ) : Type 0 where
    pub few : sheet + count ≤ length (body_sheets state)
    pub rows_are : All (λ (it : SheetOf). it.start < length (rows_in state)) (slice_range (body_sheets state) sheet (sheet + count))
    pub next : Walked state (index + 1) (sheet + count)
        (done ++ map (facts_by (starts_in state) (map shape_of (rows_in state)) index (length (slice_range (body_sheets state) sheet (sheet + count)))) (slice_range (body_sheets state) sheet (sheet + count)))

  pub Walked-pages : (count : ℕ) → count ≡ prefix_len (starts_before (own_in state index).end) (drop sheet (body_sheets state)) → empty_run (length (rows_in state)) (drop index (starts_in state)) ≡ 0 → PagesStep count
  Walked-pages count is none = record {
    few = few;
    rows_are = subst (All (λ (it : SheetOf). it.start < length (rows_in state))) (sym taken) (all-of (λ (it : SheetOf). it.start < length (rows_in state)) those begun);
    next = record {
      inside = omega (arith, inside);
      few = few;
      facts =
          ap (λ (l : List SheetFactsOf). (done ++ l) ++ behind_facts) made
          ∙ append_assoc done (map (page_facts (laid_of state) index own) those) behind_facts ∙ ap (λ (l : List SheetFactsOf). done ++ l) (sym (facts-pages full)) ∙ walked.facts;
      sheets =
          sym (drop-drop count sheet (body_sheets state)) ∙ ap (drop count) (pages-here full) ∙ ap (λ n. drop n (those ++ later_in state (index + 1))) long ∙ drop-append_seam those (later_in state (index + 1));
      within = All-append (LieWithin (length records)) done _ walked.within (all-within (length (slice_range (body_sheets state) sheet (sheet + count))) (slice_range (body_sheets state) sheet (sheet + count)));
    };
  }
    where
      those : List SheetOf
      those = page_sheets own 0 pages

      behind_facts : List SheetFactsOf
      behind_facts = runs_facts (laid_of state) (index + 1) (runs_of (left_in state (index + 1)))

      full : is_empty (own_in state index) ≡ false
      full = full-own none

      count-is : count ≡ length pages
      count-is = is ∙ ap (prefix_len (starts_before own.end)) (pages-here full) ∙ count-pages own 0 pages own.end (later_in state (index + 1)) (λ page there. page-within own (pages_of state) page there) stands.later

      long : count ≡ length those
      long = count-is ∙ sym (length-pages own 0 pages)

      few : sheet + count ≤ length (body_sheets state)
      few =
          let a = length-drop sheet (body_sheets state) in
          let b = ap length (pages-here full) in
          let c = length-append those (later_in state (index + 1)) in
          let d = walked.few in
          omega (arith, a, b, c, d, long)

      taken : slice_range (body_sheets state) sheet (sheet + count) ≡ those
      taken =
          let width : sheet + count - sheet ≡ count = omega arith in
          ap (λ n. take n (drop sheet (body_sheets state))) (width ∙ long) ∙ ap (take (length those)) (pages-here full) ∙ take-append_seam those (later_in state (index + 1))

      made : map (facts_by (starts_in state) (map shape_of (rows_in state)) index (length (slice_range (body_sheets state) sheet (sheet + count)))) (slice_range (body_sheets state) sheet (sheet + count))
          ≡ map (page_facts (laid_of state) index own) those
      made =
          ap (λ (l : List SheetOf). map (facts_by (starts_in state) (map shape_of (rows_in state)) index (length l)) l) taken
          ∙ ap (λ n. map (facts_by (starts_in state) (map shape_of (rows_in state)) index n) those) (length-pages own 0 pages)
          ∙ all-facts those begun
