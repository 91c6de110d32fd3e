-- Records with the same labels have the same sheets but for their rounds.
use Rattle.std.proofs.Common.{◌≡◌, ℕ, zero, suc, ◌+◌, ◌-◌, ◌&&◌, Bool, true, false, cond, Option, List, [], ◌∷◌, ◌++◌, length, map, get_or, refl, ap, ap₂, sym, ◌∙◌}
use Rattle.std.specs.Prelude.{flat_map}
use Rattle.std.specs.List.{list_all}
use Rattle.std.proofs.lemmas.List.{map-append, length-map}
use Rattle.spec_labels.specs.Labels.{LabelOf}
use Rattle.spec_labels.specs.PageRecords.{PageRecordOf, SegmentOf, SheetOf, first_label, segments, is_empty, owner_of, segment_pages, page_label, page_sheets, omitted_sheet, onto_run, runs_of, run_sheets, sheets_of_records}
use Rattle.sp_locks.specs.Rounds.{AreButForRounds, in_round}

-- The label of a record.
abbrev pub label_of : PageRecordOf → LabelOf
label_of it = it.label

-- A record that has this label and else nothing.
abbrev labelled : LabelOf → PageRecordOf
labelled label = record { label = label; line = 0; row = 0; changed = 0 }

abbrev bare : PageRecordOf → PageRecordOf
bare it = labelled it.label

abbrev bare_segment : SegmentOf → SegmentOf
bare_segment s = record { owner = bare s.owner; next = s.next; start = s.start; end = s.end }

bare-first : (records : List PageRecordOf) → first_label (map bare records) ≡ first_label records
bare-first [] = refl
bare-first (it ∷ records) = refl

bare-segments : (rows : ℕ) (records : List PageRecordOf) (starts : List ℕ) → segments rows (map bare records) starts ≡ map bare_segment (segments rows records starts)
bare-segments rows [] starts = refl
bare-segments rows (it ∷ records) [] = refl
bare-segments rows (it ∷ records) (start ∷ starts) =
    ap₂ (λ (next : Option LabelOf) (later : List SegmentOf). record { owner = bare it; next = next; start = start; end = get_or starts 0 rows } ∷ later) (bare-first records) (bare-segments rows records starts)

bare-empty : (run : List SegmentOf) → list_all is_empty (map bare_segment run) ≡ list_all is_empty run
bare-empty [] = refl
bare-empty (segment ∷ run) = ap (λ b. is_empty segment && b) (bare-empty run)

bare-onto : (segment : SegmentOf) (runs : List (List SegmentOf)) → onto_run (bare_segment segment) (map (map bare_segment) runs) ≡ map (map bare_segment) (onto_run segment runs)
bare-onto segment [] = refl
bare-onto segment (run ∷ runs) =
    ap (λ b. cond (is_empty segment && b) ((bare_segment segment ∷ map bare_segment run) ∷ map (map bare_segment) runs) ((bare_segment segment ∷ []) ∷ map bare_segment run ∷ map (map bare_segment) runs)) (bare-empty run)
    ∙ by (is_empty segment && list_all is_empty run)
  where
    by : (b : Bool) → cond b ((bare_segment segment ∷ map bare_segment run) ∷ map (map bare_segment) runs) ((bare_segment segment ∷ []) ∷ map bare_segment run ∷ map (map bare_segment) runs)
        ≡ map (map bare_segment) (cond b ((segment ∷ run) ∷ runs) ((segment ∷ []) ∷ run ∷ runs))
    by true = refl
    by false = refl

bare-runs : (segments : List SegmentOf) → runs_of (map bare_segment segments) ≡ map (map bare_segment) (runs_of segments)
bare-runs [] = refl
bare-runs (segment ∷ later) = ap (onto_run (bare_segment segment)) (bare-runs later) ∙ bare-onto segment (runs_of later)

bare-owners : (run : List SegmentOf) → map owner_of (map bare_segment run) ≡ map bare (map owner_of run)
bare-owners [] = refl
bare-owners (segment ∷ run) = ap (λ (those : List PageRecordOf). bare segment.owner ∷ those) (bare-owners run)

bare-at : (records : List PageRecordOf) (i : ℕ) (it : PageRecordOf) → (get_or (map bare records) i (bare it)).label ≡ (get_or records i it).label
bare-at [] i it = refl
bare-at (one ∷ records) zero it = refl
bare-at (one ∷ records) (suc i) it = bare-at records i it

-- The sheet of records without rows.
bare-omitted : (start : ℕ) (it : PageRecordOf) (others : List PageRecordOf) → in_round 0 (omitted_sheet start it others) ≡ in_round 0 (omitted_sheet start (bare it) (map bare others))
bare-omitted start it others =
    let last : (get_or others (length others - 1) it).label ≡ (get_or (map bare others) (length (map bare others) - 1) (bare it)).label =
    sym (bare-at others (length others - 1) it) ∙ ap (λ n. (get_or (map bare others) (n - 1) (bare it)).label) (sym (length-map others bare)) in
    ap (λ (label : LabelOf). record { first = it.label; last = label; start = start; end = start; round = 0; omitted = true }) last

bare-pages : (segment : SegmentOf) (m : ℕ) (pages : List ℕ) → map (in_round 0) (page_sheets segment m pages) ≡ map (in_round 0) (page_sheets (bare_segment segment) m pages)
bare-pages segment m [] = refl
bare-pages segment m (page ∷ later) =
    let sheet : SheetOf = record { first = page_label segment m; last = page_label segment m; start = page; end = get_or later 0 segment.end; round = 0; omitted = false } in
    ap (λ (sheets : List SheetOf). sheet ∷ sheets) (bare-pages segment (m + 1) later)

bare-run : (pages : List ℕ) (run : List SegmentOf) → map (in_round 0) (run_sheets pages run) ≡ map (in_round 0) (run_sheets pages (map bare_segment run))
bare-run pages [] = refl
bare-run pages (segment ∷ others) = by (is_empty segment)
  where
    by : (b : Bool) → map (in_round 0) (cond b (omitted_sheet segment.start segment.owner (map owner_of others) ∷ []) (page_sheets segment 0 (segment_pages segment pages)))
        ≡ map (in_round 0) (cond b (omitted_sheet segment.start (bare segment.owner) (map owner_of (map bare_segment others)) ∷ []) (page_sheets (bare_segment segment) 0 (segment_pages segment pages)))
    by true =
        ap (λ (sheet : SheetOf). sheet ∷ []) (bare-omitted segment.start segment.owner (map owner_of others)
        ∙ ap (λ (those : List PageRecordOf). in_round 0 (omitted_sheet segment.start (bare segment.owner) those)) (sym (bare-owners others)))
    by false = bare-pages segment 0 (segment_pages segment pages)

bare-all : (pages : List ℕ) (runs : List (List SegmentOf)) → map (in_round 0) (flat_map (run_sheets pages) runs) ≡ map (in_round 0) (flat_map (run_sheets pages) (map (map bare_segment) runs))
bare-all pages [] = refl
bare-all pages (run ∷ runs) =
    map-append (in_round 0) (run_sheets pages run) (flat_map (run_sheets pages) runs)
    ∙ ap₂ (λ (ones others : List SheetOf). ones ++ others) (bare-run pages run) (bare-all pages runs)
    ∙ sym (map-append (in_round 0) (run_sheets pages (map bare_segment run)) (flat_map (run_sheets pages) (map (map bare_segment) runs)))

bare-sheets : (rows : ℕ) (records : List PageRecordOf) (starts pages : List ℕ) → map (in_round 0) (sheets_of_records rows records starts pages) ≡ map (in_round 0) (sheets_of_records rows (map bare records) starts pages)
bare-sheets rows records starts pages =
    bare-all pages (runs_of (segments rows records starts))
    ∙ ap (λ (runs : List (List SegmentOf)). map (in_round 0) (flat_map (run_sheets pages) runs)) (sym (bare-runs (segments rows records starts)))
    ∙ ap (λ (those : List SegmentOf). map (in_round 0) (flat_map (run_sheets pages) (runs_of those))) (sym (bare-segments rows records starts))

bare-labels : (records : List PageRecordOf) → map bare records ≡ map labelled (map label_of records)
bare-labels [] = refl
bare-labels (it ∷ records) = ap (λ (those : List PageRecordOf). bare it ∷ those) (bare-labels records)

pub but-for-rounds : (rows : ℕ) (olds records : List PageRecordOf) (starts pages : List ℕ) → map label_of olds ≡ map label_of records
    → AreButForRounds (sheets_of_records rows olds starts pages) (sheets_of_records rows records starts pages)
but-for-rounds rows olds records starts pages labels = record {
  same = bare-sheets rows olds starts pages
      ∙ ap (λ (those : List PageRecordOf). map (in_round 0) (sheets_of_records rows those starts pages)) (bare-labels olds ∙ ap (map labelled) labels ∙ sym (bare-labels records))
      ∙ sym (bare-sheets rows records starts pages);
}
