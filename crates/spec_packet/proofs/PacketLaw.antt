-- The law of packets, by records.
use Rattle.std.proofs.Common.{◌≡◌, inl, inr, ℕ, suc, ◌-◌, Bool, true, false, cond, List, [], ◌∷◌, ◌++◌, length, map, get_or, refl, ap, sym, subst, ◌∙◌, arith}
use Rattle.std.specs.List.{list_all, list_any}
use Rattle.std.proofs.lemmas.List.{get_or_default}
use Rattle.spec_script.specs.LongestRuns.{last_of}
use Rattle.spec_labels.specs.Labels.{LabelOf, Below}
use Rattle.spec_labels.specs.PageRecords.{PageRecordOf, SegmentOf, is_empty, owner_of, SheetOf, segment_pages, page_sheet, page_sheets, omitted_sheet, runs_of, run_sheets}
use Rattle.spec_labels.proofs.SheetLaws.{in_runs, runs_of-all}
use Rattle.spec_labels.proofs.RunLaws.{IsRun, AreApart, runs_of-IsRun, runs_of-AreApart}
use Rattle.spec_packet.specs.SheetLists.{PrintedOf, IsIn, InOrder, UpTo, AreRising}
use Rattle.spec_packet.specs.Collations.{Choice, sheet_of, packet_of, Covers, collated}
use Rattle.spec_packet.specs.Packets.{LaidOf, laid_sheets, printed_of, laid_printed, is_fresh, page_choice, omitted_choice, run_choices, first_fresh, runs_choices, laid_choices, Both, was_of, now_of, SameRecord, only_sheet, Starts, LabelsRise, Unchanged}
use Rattle.spec_packet.proofs.Lists.{in-map, map-in, order-back, order-front, in-left, in-right}
use Rattle.spec_packet.proofs.LabelTests.{upto-upto}
use Rattle.spec_packet.proofs.CollationLaws.{collation-present}
use Rattle.spec_packet.proofs.RunCuts.{Full, LastIs, FirstIs, run-empty, run-full, all-in, front-full, back-full}
use Rattle.spec_packet.proofs.ChoiceLaws.{cut-at, in-flat, flat-in, fresh_end, choice-in, in-choices, choices-present, fresh_end-all, Stale, last-stale, first-stale, all-stale, last-was, first-was, empty-was}
use Rattle.spec_packet.proofs.PacketLaws.{around, in-runs-middle, was-middle, empty-stays, page-stays, neither}

-- A sheet that the packet leaves out is one of the old sheets: the run of segments that it stands for, with those round it.
record RunOf (round : ℕ) (was now : LaidOf) (records us xs zs : List Both) (before behind : Bool) : Type 0 where
  in_run : (both : Both) → IsIn both us → IsIn both records
  in_front : (both : Both) → IsIn both xs → IsIn both records
  in_back : (both : Both) → IsIn both zs → IsIn both records
  parts : was.segments ≡ map was_of xs ++ (map was_of us ++ map was_of zs)
  is_run : IsRun (map now_of us)
  stale_front : before ≡ false → LastIs (Stale round) (map now_of xs)
  stale_back : behind ≡ false → FirstIs (Stale round) (map now_of zs)
  full_front : list_all is_empty (map now_of us) ≡ true → LastIs Full (map now_of xs)
  full_back : list_all is_empty (map now_of us) ≡ true → FirstIs Full (map now_of zs)

run-stays : (round : ℕ) (was now : LaidOf) (law : Unchanged round was now) (us xs zs : List Both) (before behind : Bool) → RunOf round was now law.records us xs zs before behind
    → (choice : Choice) → IsIn choice (run_choices round now before (map now_of us) behind) → choice.handed ≡ false → IsIn choice.sheet (laid_printed was)
run-stays round was now law [] xs zs before behind run choice is left = absurd is
run-stays round was now law (u ∷ us) xs zs before behind run choice is left = by (is_empty u.now) refl is
  where
    same : (both : Both) → IsIn both (u ∷ us) → SameRecord round both
    same both there = law.each both (run.in_run both there)

    by : (b : Bool) → is_empty u.now ≡ b
        → IsIn choice (cond b (omitted_choice round now before u.now (map now_of us) behind ∷ []) (map (page_choice round now u.now) (page_sheets u.now 0 (segment_pages u.now now.pages))))
        → IsIn choice.sheet (laid_printed was)
    by true empty here =
        let e : omitted_choice round now before u.now (map now_of us) behind ≡ choice = elim here [ inl e ↦ e | inr never ↦ absurd never ] in
        let n = neither (list_any (is_fresh round) (map now_of (u ∷ us))) before behind (ap (λ (c : Choice). c.handed) e ∙ left) in
        let all : list_all is_empty (map now_of (u ∷ us)) ≡ true = run-empty u.now (map now_of us) run.is_run empty in
        let stale : (both : Both) → IsIn both (u ∷ us) → Stale round both.now =
        λ both there. all-stale round (map now_of (u ∷ us)) n.first both.now (in-map now_of both (u ∷ us) there) in
        let front = last-was round xs (λ both there. law.each both (run.in_front both there)) (run.full_front all) (run.stale_front n.second) in
        let back = first-was round zs (λ both there. law.each both (run.in_back both there)) (run.full_back all) (run.stale_back n.third) in
        let old = empty-stays round was now u us xs zs law.omitted run.parts same stale (empty-was round (u ∷ us) same stale all) front back in
        subst (λ p. IsIn p (laid_printed was)) (ap sheet_of e) old
    by false full here = single us run (run-full u.now (map now_of us) run.is_run full)
      where
        single : (us : List Both) → RunOf round was now law.records (u ∷ us) xs zs before behind → map now_of us ≡ [] → IsIn choice.sheet (laid_printed was)
        single [] run none = page-stays round was now u xs zs law (run.in_run u (inl refl)) run.parts (law.each u (run.in_run u (inl refl))) full choice here left
        single (v ∷ vs) run none = absurd (let bad = none in let no_way : ⊥ = cc in no_way)

pub left-stays : (round : ℕ) (was now : LaidOf) → Unchanged round was now → (choice : Choice) → IsIn choice (laid_choices round now) → choice.handed ≡ false → IsIn choice.sheet (laid_printed was)
left-stays round was now law choice is left =
    let runs = runs_of now.segments in
    let c = choice-in round now false choice runs is in
    let parts : now.segments ≡ in_runs c.front ++ (c.run ++ in_runs c.back) = sym (runs_of-all now.segments) ∙ ap in_runs c.is ∙ in-runs-middle c.front c.run c.back in
    let a = around law.records (in_runs c.front) c.run (in_runs c.back) (sym law.are ∙ parts) in
    let each_run : (one : List SegmentOf) → IsIn one (c.front ++ (c.run ∷ c.back)) → IsRun one =
    λ one there. all-in IsRun one runs (runs_of-IsRun now.segments) (subst (IsIn one) (sym c.is) there) in
    let apart : AreApart (c.front ++ (c.run ∷ c.back)) = subst AreApart c.is (runs_of-AreApart now.segments) in
    let back_runs : (one : List SegmentOf) → IsIn one c.back → IsRun one = λ one there. each_run one (in-right one c.front (c.run ∷ c.back) (inr there)) in
    let front_runs : (one : List SegmentOf) → IsIn one c.front → IsRun one = λ one there. each_run one (in-left one c.front (c.run ∷ c.back) there) in
    let before = fresh_end round false c.front in
    let run : RunOf round was now law.records a.us a.xs a.zs before (first_fresh round c.back) = record {
      in_run = λ both there. subst (IsIn both) (sym a.is) (in-right both a.xs (a.us ++ a.zs) (in-left both a.us a.zs there));
      in_front = λ both there. subst (IsIn both) (sym a.is) (in-left both a.xs (a.us ++ a.zs) there);
      in_back = λ both there. subst (IsIn both) (sym a.is) (in-right both a.xs (a.us ++ a.zs) (in-right both a.us a.zs there));
      parts = law.were ∙ ap (map was_of) a.is ∙ was-middle a.xs a.us a.zs;
      is_run = subst IsRun (sym a.run_is) (each_run c.run (in-right c.run c.front (c.run ∷ c.back) (inl refl)));
      stale_front = λ none. subst (LastIs (Stale round)) (sym a.front_is) (last-stale round false (in_runs c.front) (sym (fresh_end-all round false c.front) ∙ none));
      stale_back = λ none. subst (FirstIs (Stale round)) (sym a.back_is) (first-stale round c.back back_runs none);
      full_front = λ all. subst (LastIs Full) (sym a.front_is) (front-full c.front c.run c.back apart front_runs (ap (list_all is_empty) (sym a.run_is) ∙ all));
      full_back = λ all. subst (FirstIs Full) (sym a.back_is) (back-full c.front c.run c.back apart back_runs (ap (list_all is_empty) (sym a.run_is) ∙ all));
    } in
    run-stays round was now law a.us a.xs a.zs before (first_fresh round c.back) run choice
    (subst (λ (r : List SegmentOf). IsIn choice (run_choices round now before r (first_fresh round c.back))) (sym a.run_is) c.there) left

-- The last record of a run.
pub last-owner : (segment : SegmentOf) (others : List SegmentOf) → get_or (map owner_of others) (length (map owner_of others) - 1) segment.owner ≡ (last_of segment others).owner
last-owner segment [] = refl
last-owner segment (other ∷ []) = refl
last-owner segment (other ∷ next ∷ others) =
    let owners = map owner_of others in
    let more : length (map owner_of (other ∷ next ∷ others)) - 1 ≡ suc (length owners) = omega arith in
    let fewer : length (map owner_of (next ∷ others)) - 1 ≡ length owners = omega arith in
    ap (λ n. get_or (other.owner ∷ next.owner ∷ owners) n segment.owner) more
    ∙ get_or_default (next.owner ∷ owners) (length owners) segment.owner other.owner (omega arith)
    ∙ ap (λ n. get_or (next.owner ∷ owners) n other.owner) (sym fewer)
    ∙ last-owner other (next ∷ others)

upto-last : (it segment : SegmentOf) (others : List SegmentOf) → InOrder LabelsRise (segment ∷ others) → IsIn it (segment ∷ others) → UpTo it.owner.label (last_of segment others).owner.label
upto-last it segment [] order is = elim is [ inl same ↦ inl (ap (λ (s : SegmentOf). s.owner.label) (sym same)) | inr never ↦ absurd never ]
upto-last it segment (other ∷ others) order is = elim is [
  | inl same ↦
      upto-upto it.owner.label other.owner.label (last_of other others).owner.label
      (inr (subst (λ (s : SegmentOf). Below s.owner.label other.owner.label) same (order.0 other (inl refl)).below))
      (upto-last other other others order.1 (inl refl))
  | inr later ↦ upto-last it other others order.1 later
]

pub omitted-last : (start : ℕ) (it segment : SegmentOf) (others : List SegmentOf) → InOrder LabelsRise (segment ∷ others) → IsIn it (segment ∷ others)
    → UpTo it.owner.label (omitted_sheet start segment.owner (map owner_of others)).last
omitted-last start it segment others order is = subst (λ (r : PageRecordOf). UpTo it.owner.label r.label) (sym (last-owner segment others)) (upto-last it segment others order is)

upto-first : (it segment : SegmentOf) (others : List SegmentOf) → InOrder LabelsRise (segment ∷ others) → IsIn it (segment ∷ others) → UpTo segment.owner.label it.owner.label
upto-first it segment others order is = elim is [ inl same ↦ inl (ap (λ (s : SegmentOf). s.owner.label) same) | inr later ↦ inr (order.0 it later).below ]

-- Each record's label is that of a present sheet.
record-covered : (round : ℕ) (now : LaidOf) (it : SegmentOf) → InOrder LabelsRise now.segments → ((segment : SegmentOf) → IsIn segment now.segments → Full segment → Starts segment now.pages)
    → IsIn it now.segments → Covers it.owner.label (laid_choices round now)
record-covered round now it order paged is =
    let runs = runs_of now.segments in
    let from = flat-in (λ (run : List SegmentOf). run) it runs (subst (IsIn it) (sym (runs_of-all now.segments)) is) in
    let cut = cut-at from.it runs from.there in
    let parts : now.segments ≡ in_runs cut.front ++ (from.it ++ in_runs cut.back) = sym (runs_of-all now.segments) ∙ ap in_runs cut.is ∙ in-runs-middle cut.front from.it cut.back in
    let own : InOrder LabelsRise from.it =
    order-front LabelsRise from.it (in_runs cut.back) (order-back LabelsRise (in_runs cut.front) (from.it ++ in_runs cut.back) (subst (InOrder LabelsRise) parts order)) in
    let within : (segment : SegmentOf) → IsIn segment from.it → IsIn segment now.segments =
    λ segment there. subst (IsIn segment) (sym parts) (in-right segment (in_runs cut.front) (from.it ++ in_runs cut.back) (in-left segment from.it (in_runs cut.back) there)) in
    let before = fresh_end round false cut.front in
    let behind = first_fresh round cut.back in
    let put : (choice : Choice) → IsIn choice (run_choices round now before from.it behind) → IsIn choice (laid_choices round now) =
    λ choice there. subst (λ (rs : List (List SegmentOf)). IsIn choice (runs_choices round now false rs)) (sym cut.is) (in-choices round now false choice cut.front from.it cut.back there) in
    by-run from.it before behind own from.here (all-in IsRun from.it runs (runs_of-IsRun now.segments) from.there) within put
  where
    by-run : (run : List SegmentOf) (before behind : Bool) → InOrder LabelsRise run → IsIn it run → IsRun run → ((segment : SegmentOf) → IsIn segment run → IsIn segment now.segments)
        → ((choice : Choice) → IsIn choice (run_choices round now before run behind) → IsIn choice (laid_choices round now)) → Covers it.owner.label (laid_choices round now)
    by-run [] before behind own here run within put = absurd here
    by-run (segment ∷ others) before behind own here run within put = by (is_empty segment) refl put
      where
        by : (b : Bool) → is_empty segment ≡ b
            → ((choice : Choice) → IsIn choice (cond b (omitted_choice round now before segment others behind ∷ []) (map (page_choice round now segment) (page_sheets segment 0 (segment_pages segment now.pages))))
            → IsIn choice (laid_choices round now)) → Covers it.owner.label (laid_choices round now)
        by true empty put =
            record {
              by = omitted_choice round now before segment others behind;
              there = put (omitted_choice round now before segment others behind) (inl refl);
              low = upto-first it segment others own here;
              high = omitted-last segment.start it segment others own here;
            }
        by false full put =
            let st = paged segment (within segment (inl refl)) full in
            let sheet = page_sheet segment 0 segment.start st.later in
            let choice = page_choice round now segment sheet in
            let there : IsIn choice (map (page_choice round now segment) (page_sheets segment 0 (segment_pages segment now.pages))) =
            in-map (page_choice round now segment) sheet (page_sheets segment 0 (segment_pages segment now.pages)) (subst (λ (ps : List ℕ). IsIn sheet (page_sheets segment 0 ps)) (sym st.is) (inl refl)) in
            let one : IsIn it (segment ∷ []) = subst (λ (ss : List SegmentOf). IsIn it (segment ∷ ss)) (run-full segment others run full) here in
            let label : segment.owner.label ≡ it.owner.label = elim one [ inl same ↦ ap (λ (s : SegmentOf). s.owner.label) same | inr never ↦ absurd never ] in
            record { by = choice; there = put choice there; low = inl label; high = inl (sym label) }

-- The first label of an old sheet is a record's.
record OwnedBy (label : LabelOf) (run : List SegmentOf) : Type 0 where
  it : SegmentOf
  there : IsIn it run
  is : it.owner.label ≡ label

first-owned : (was : LaidOf) (sheet : SheetOf) (run : List SegmentOf) → ((segment : SegmentOf) → IsIn segment run → Full segment → segment_pages segment was.pages ≡ segment.start ∷ [])
    → IsIn sheet (run_sheets was.pages run) → OwnedBy sheet.first run
first-owned was sheet [] opened is = absurd is
first-owned was sheet (segment ∷ others) opened is = by (is_empty segment) refl is
  where
    by : (b : Bool) → is_empty segment ≡ b → IsIn sheet (cond b (omitted_sheet segment.start segment.owner (map owner_of others) ∷ []) (page_sheets segment 0 (segment_pages segment was.pages))) → OwnedBy sheet.first (segment ∷ others)
    by true empty here = elim here [ inl same ↦ record { it = segment; there = inl refl; is = ap (λ (s : SheetOf). s.first) same } | inr never ↦ absurd never ]
    by false full here =
        let one : IsIn sheet (only_sheet segment ∷ []) = subst (λ (ps : List ℕ). IsIn sheet (page_sheets segment 0 ps)) (opened segment (inl refl) full) here in
        elim one [ inl same ↦ record { it = segment; there = inl refl; is = ap (λ (s : SheetOf). s.first) same } | inr never ↦ absurd never ]

pub old-covered : (round : ℕ) (was now : LaidOf) → Unchanged round was now → (sheet : PrintedOf) → IsIn sheet (laid_printed was) → Covers sheet.label.first (laid_choices round now)
old-covered round was now law sheet is =
    let from = map-in (printed_of was) sheet (laid_sheets was) is in
    let run = flat-in (run_sheets was.pages) from.it (runs_of was.segments) from.there in
    let all : (segment : SegmentOf) → IsIn segment run.it → IsIn segment was.segments =
    λ segment there. subst (IsIn segment) (runs_of-all was.segments) (in-flat (λ (r : List SegmentOf). r) run.it segment (runs_of was.segments) run.there there) in
    let owner = first-owned was from.it run.it (λ segment there full. law.opened segment (all segment there) full) run.here in
    let record_of = map-in was_of owner.it law.records (subst (IsIn owner.it) law.were (all owner.it owner.there)) in
    let both = record_of.it in
    let label : both.now.owner.label ≡ sheet.label.first =
    sym (law.each both record_of.there).label ∙ ap (λ (s : SegmentOf). s.owner.label) record_of.is ∙ owner.is ∙ ap (λ (p : PrintedOf). p.label.first) from.is in
    subst (λ l. Covers l (laid_choices round now)) label
    (record-covered round now both.now law.labels law.paged (subst (IsIn both.now) (sym law.are) (in-map now_of both law.records record_of.there)))

-- The old sheets, collated with the packet, are the present ones.
pub packet-law : (round : ℕ) (was now : LaidOf) → Unchanged round was now → AreRising (laid_printed was) → AreRising (laid_printed now)
    → collated (laid_printed was) (packet_of (laid_choices round now)) ≡ laid_printed now
packet-law round was now law old new =
    let present = choices-present round now in
    collation-present (laid_printed was) (laid_choices round now)
    (record { was = old; are = subst AreRising (sym present) new; stays = left-stays round was now law; covered = old-covered round was now law })
    ∙ present
