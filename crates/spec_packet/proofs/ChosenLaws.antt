-- The packet by the runs of records is the packet by the facts of its sheets.
use Rattle.std.proofs.Common.{◌≡◌, inl, inr, ℕ, zero, suc, ◌+◌, ◌-◌, ◌<◌, Bool, true, false, ◌||◌, cond, List, [], ◌∷◌, ◌++◌, length, map, take, drop, refl, ap, ap₂, sym, ◌∙◌, append_assoc, length-append, ne_eqb, arith}
use Rattle.std.specs.Prelude.{nat_lt, slice_range, None}
use Rattle.std.specs.List.{list_any}
use Rattle.std.proofs.Math.Seq.{drop-append_seam}
use Rattle.std.proofs.lemmas.List.{map-append, length-map}
use Rattle.spec_labels.specs.PageRecords.{SegmentOf, is_empty, SheetOf, segment_pages, page_sheets, runs_of}
use Rattle.spec_labels.proofs.SheetLaws.{in_runs, runs_of-all}
use Rattle.spec_labels.proofs.RunLaws.{IsRun, runs_of-IsRun}
use Rattle.spec_packet.specs.SheetLists.{IsIn, InOrder}
use Rattle.spec_packet.specs.Collations.{Choice, is_handed}
use Rattle.spec_packet.specs.Packets.{LaidOf, is_fresh, has_fresh_cue, page_choice, omitted_choice, run_choices, first_fresh, last_fresh, runs_choices, laid_choices}
use Rattle.spec_packet.specs.SheetFacts.{itself, some_fresh, cue_fresh, fresh_before, fresh_behind, is_chosen, cue_places, page_facts, run_facts, runs_facts, laid_facts}
use Rattle.spec_packet.proofs.RunCuts.{all-in, run-full}
use Rattle.spec_packet.proofs.ChoiceLaws.{last-fresh-append}
use Rattle.spec_packet.proofs.RecordLaw.{slice-middle}
use Rattle.spec_packet.proofs.FactLaws.{NotFalling, BeginsAtZero, any-map, cue-places}

-- The record before the ones at the front is the last of them.
before-is : (round : ℕ) (front : List SegmentOf) (rest : List Bool) → fresh_before (map (is_fresh round) front ++ rest) (length front) ≡ last_fresh round false front
before-is round [] rest = let e : zero - (zero - 1) ≡ zero = omega arith in ap (λ n. list_any itself (take n (drop (zero - 1) rest))) e
before-is round (x ∷ []) rest = or_false (is_fresh round x)
  where
    or_false : (b : Bool) → (b || false) ≡ b
    or_false true = refl
    or_false false = refl
before-is round (x ∷ y ∷ ys) rest =
    let L = map (is_fresh round) (y ∷ ys) ++ rest in
    let n = length ys in
    let width : suc (suc n) - (suc (suc n) - 1) ≡ suc n - (suc n - 1) = omega arith in
    let at : suc (suc n) - 1 ≡ suc (suc n - 1) = omega arith in
    ap₂ (λ k m. list_any itself (take k (drop m (is_fresh round x ∷ L)))) width at
    ∙ before-is round (y ∷ ys) rest

-- The record behind some is the first of the rest.
behind-is : (round : ℕ) (front : List Bool) (place : ℕ) (runs : List (List SegmentOf)) → place + 1 ≡ length front → ((run : List SegmentOf) → IsIn run runs → IsRun run)
    → fresh_behind (front ++ map (is_fresh round) (in_runs runs)) place ≡ first_fresh round runs
behind-is round front place runs at are =
    let one : place + 2 - (place + 1) ≡ 1 = omega arith in
    ap₂ (λ k m. list_any itself (take k (drop m (front ++ map (is_fresh round) (in_runs runs))))) one at
    ∙ ap (λ (l : List Bool). list_any itself (take 1 l)) (drop-append_seam front (map (is_fresh round) (in_runs runs)))
    ∙ first runs are
  where
    first : (runs : List (List SegmentOf)) → ((run : List SegmentOf) → IsIn run runs → IsRun run) → list_any itself (take 1 (map (is_fresh round) (in_runs runs))) ≡ first_fresh round runs
    first [] are = refl
    first ([] ∷ runs) are = absurd (let some = (are [] (inl refl)).some in omega (arith, some))
    first ((segment ∷ others) ∷ runs) are = or_false (is_fresh round segment)
      where
        or_false : (b : Bool) → (b || false) ≡ b
        or_false true = refl
        or_false false = refl

-- The records of a run, by their places.
run-is : (round : ℕ) (front run : List SegmentOf) (rest : List Bool) (last : ℕ) → last + 1 ≡ length front + length run
    → some_fresh (map (is_fresh round) front ++ (map (is_fresh round) run ++ rest)) (record { first = length front; last = last }) ≡ list_any (is_fresh round) run
run-is round front run rest last at =
    let f = is_fresh round in
    let one : length (map f front) ≡ length front = length-map front f in
    let two : length (map f run) ≡ length run = length-map run f in
    let end : last + 1 ≡ length (map f front) + length (map f run) = omega (arith, at, one, two) in
    ap₂ (λ a b. list_any itself (slice_range (map f front ++ (map f run ++ rest)) a b)) (sym one) end
    ∙ ap (list_any itself) (slice-middle (map f front) (map f run) rest)
    ∙ any-map f run

-- The choices of a run are those of its facts.
abbrev flags : List Choice → List Bool
flags choices = map is_handed choices

pages-chosen : (round : ℕ) (laid : LaidOf) (fresh : List Bool) (place : ℕ) (segment : SegmentOf) (sheets : List SheetOf) → 0 < length (segment_pages segment laid.pages)
    → some_fresh fresh (record { first = place; last = place }) ≡ is_fresh round segment
    → ((p : ℕ) → has_fresh_cue round laid p ≡ cue_fresh fresh (cue_places laid p))
    → flags (map (page_choice round laid segment) sheets) ≡ map (is_chosen fresh) (map (page_facts laid place segment) sheets)
pages-chosen round laid fresh place segment [] some own cue = refl
pages-chosen round laid fresh place segment (sheet ∷ sheets) some own cue =
    let n = length (segment_pages segment laid.pages) in
    let omitted = fresh_before fresh place || fresh_behind fresh place in
    ap₂ (λ (b : Bool) (l : List Bool). b ∷ l)
    (ap₂ (λ a b. a || (nat_lt 1 n || b)) (sym own) (cue sheet.start)
    ∙ ap (λ t. some_fresh fresh (record { first = place; last = place }) || cond t omitted (nat_lt 1 n || cue_fresh fresh (cue_places laid sheet.start))) (sym (ne_eqb n 0 (λ e. omega (arith, e, some)))))
    (pages-chosen round laid fresh place segment sheets some own cue)

run-chosen : (round : ℕ) (laid : LaidOf) (fresh : List Bool) (front run : List SegmentOf) (runs : List (List SegmentOf)) → IsRun run → ((one : List SegmentOf) → IsIn one runs → IsRun one)
    → fresh ≡ map (is_fresh round) front ++ (map (is_fresh round) run ++ map (is_fresh round) (in_runs runs))
    → ((p : ℕ) → has_fresh_cue round laid p ≡ cue_fresh fresh (cue_places laid p))
    → flags (run_choices round laid (last_fresh round false front) run (first_fresh round runs)) ≡ map (is_chosen fresh) (run_facts laid (length front) run)
run-chosen round laid fresh front [] runs is are all cue = refl
run-chosen round laid fresh front (segment ∷ others) runs is are all cue = by (is_empty segment) refl
  where
    f : SegmentOf → Bool
    f = is_fresh round

    rest : List Bool
    rest = map f (in_runs runs)

    last : ℕ
    last = length front + length others

    omitted : list_any f (segment ∷ others) || (last_fresh round false front || first_fresh round runs)
        ≡ some_fresh fresh (record { first = length front; last = last }) || (fresh_before fresh (length front) || fresh_behind fresh last)
    omitted =
        let before : fresh_before fresh (length front) ≡ last_fresh round false front =
        ap (λ (l : List Bool). fresh_before l (length front)) all ∙ before-is round front (map f (segment ∷ others) ++ rest) in
        let assoc : fresh ≡ (map f front ++ map f (segment ∷ others)) ++ rest = all ∙ sym (append_assoc (map f front) (map f (segment ∷ others)) rest) in
        let long : last + 1 ≡ length (map f front ++ map f (segment ∷ others)) =
        omega (arith, length-append (map f front) (map f (segment ∷ others)), length-map front f, length-map (segment ∷ others) f) in
        let behind : fresh_behind fresh last ≡ first_fresh round runs =
        ap (λ (l : List Bool). fresh_behind l last) assoc ∙ behind-is round (map f front ++ map f (segment ∷ others)) last runs long are in
        let own : some_fresh fresh (record { first = length front; last = last }) ≡ list_any f (segment ∷ others) =
        ap (λ (l : List Bool). some_fresh l (record { first = length front; last = last })) all ∙ run-is round front (segment ∷ others) rest last (omega arith) in
        ap₂ (λ a b. a || b) (sym own) (ap₂ (λ a b. a || b) (sym before) (sym behind))

    pages : is_empty segment ≡ false → (ps : List ℕ) → segment_pages segment laid.pages ≡ ps
        → flags (map (page_choice round laid segment) (page_sheets segment 0 ps)) ≡ map (is_chosen fresh) (map (page_facts laid (length front) segment) (page_sheets segment 0 ps))
    pages full [] same = refl
    pages full (p ∷ ps) same =
        let none = run-full segment others is full in
        let one : fresh ≡ map f front ++ (map f (segment ∷ []) ++ rest) = all ∙ ap (λ (l : List SegmentOf). map f front ++ (map f (segment ∷ l) ++ rest)) none in
        let own : some_fresh fresh (record { first = length front; last = length front }) ≡ f segment =
        ap (λ (l : List Bool). some_fresh l (record { first = length front; last = length front })) one
        ∙ run-is round front (segment ∷ []) rest (length front) refl ∙ or_false (f segment) in
        pages-chosen round laid fresh (length front) segment (page_sheets segment 0 (p ∷ ps)) (let long = ap length same in omega (arith, long)) own cue
      where
        or_false : (b : Bool) → (b || false) ≡ b
        or_false true = refl
        or_false false = refl

    by : (b : Bool) → is_empty segment ≡ b
        → flags (cond b (omitted_choice round laid (last_fresh round false front) segment others (first_fresh round runs) ∷ []) (map (page_choice round laid segment) (page_sheets segment 0 (segment_pages segment laid.pages))))
        ≡ map (is_chosen fresh) (cond b (record { records = record { first = length front; last = last }; pages = 0; cue = None } ∷ []) (map (page_facts laid (length front) segment) (page_sheets segment 0 (segment_pages segment laid.pages))))
    by true empty = ap (λ (c : Bool). c ∷ []) omitted
    by false full = pages full (segment_pages segment laid.pages) refl

runs-chosen : (round : ℕ) (laid : LaidOf) (fresh : List Bool) (front : List SegmentOf) (runs : List (List SegmentOf)) → ((run : List SegmentOf) → IsIn run runs → IsRun run)
    → fresh ≡ map (is_fresh round) (front ++ in_runs runs) → ((p : ℕ) → has_fresh_cue round laid p ≡ cue_fresh fresh (cue_places laid p))
    → flags (runs_choices round laid (last_fresh round false front) runs) ≡ map (is_chosen fresh) (runs_facts laid (length front) runs)
runs-chosen round laid fresh front [] are all cue = refl
runs-chosen round laid fresh front (run ∷ runs) are all cue =
    let f = is_fresh round in
    let before = last_fresh round false front in
    let parts : fresh ≡ map f front ++ (map f run ++ map f (in_runs runs)) = all ∙ map-append f front (run ++ in_runs runs) ∙ ap (λ (l : List Bool). map f front ++ l) (map-append f run (in_runs runs)) in
    let later : fresh ≡ map f ((front ++ run) ++ in_runs runs) = all ∙ ap (map f) (sym (append_assoc front run (in_runs runs))) in
    let ih = runs-chosen round laid fresh (front ++ run) runs (λ one is. are one (inr is)) later cue in
    map-append is_handed (run_choices round laid before run (first_fresh round runs)) (runs_choices round laid (last_fresh round before run) runs)
    ∙ ap₂ (λ (a b : List Bool). a ++ b)
    (run-chosen round laid fresh front run runs (are run (inl refl)) (λ one is. are one (inr is)) parts cue)
    (ap (λ b. flags (runs_choices round laid b runs)) (sym (last-fresh-append round false front run)) ∙ ih
    ∙ ap (λ n. map (is_chosen fresh) (runs_facts laid n runs)) (length-append front run))
    ∙ sym (map-append (is_chosen fresh) (run_facts laid (length front) run) (runs_facts laid (length front + length run) runs))

-- A sheet with labels is handed out just where it is by its facts and the rounds of the records.
pub chosen-by-facts : (round : ℕ) (laid : LaidOf) → InOrder NotFalling laid.segments → BeginsAtZero laid.segments
    → map is_handed (laid_choices round laid) ≡ map (is_chosen (map (is_fresh round) laid.segments)) (laid_facts laid)
chosen-by-facts round laid order begin =
    runs-chosen round laid (map (is_fresh round) laid.segments) [] (runs_of laid.segments)
    (λ run is. all-in IsRun run (runs_of laid.segments) (runs_of-IsRun laid.segments) is)
    (ap (map (is_fresh round)) (sym (runs_of-all laid.segments)))
    (λ p. cue-places round laid p order begin)
