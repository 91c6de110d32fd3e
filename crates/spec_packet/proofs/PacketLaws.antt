-- The packet of a text, by its records: the old sheets collated with it are the present ones.
use Rattle.std.proofs.Common.{◌≡◌, inl, inr, ℕ, zero, suc, ◌-◌, max, Bool, true, false, ◌||◌, cond, List, [], ◌∷◌, ◌++◌, length, map, get_or, refl, ap, sym, subst, ◌∙◌, append_assoc, arith, ltb-false}
use Rattle.std.specs.Prelude.{fold, nat_lt}
use Rattle.std.specs.List.{list_all}
use Rattle.std.proofs.lemmas.Bool.{and_parts}
use Rattle.spec_labels.specs.PageRecords.{PageRecordOf, SegmentOf, is_empty, owner_of, SheetOf, segment_pages, page_sheets, omitted_sheet, runs_of, run_sheets}
use Rattle.spec_labels.proofs.SheetLaws.{in_runs}
use Rattle.spec_packet.specs.SheetLists.{IsIn}
use Rattle.spec_packet.specs.Collations.{Choice, sheet_of}
use Rattle.spec_packet.specs.Packets.{LaidOf, laid_sheets, printed_of, laid_printed, is_fresh, has_fresh_cue, page_choice, Both, was_of, now_of, SameRecord, only_sheet, PrintsOmitted, Unchanged}
use Rattle.spec_packet.proofs.Lists.{in-map, map-in, in-right}
use Rattle.spec_packet.proofs.RunCuts.{Full, LastIs, FirstIs, runs_of-empty, runs_of-middle}
use Rattle.std.proofs.lemmas.List.{map-append}
use Rattle.spec_packet.proofs.ChoiceLaws.{in-flat, map-cut, Stale}

-- Records with the same labels and rounds give omitted sheets of the same labels and round.
length-both : (us : List Both) → length (map owner_of (map was_of us)) ≡ length (map owner_of (map now_of us))
length-both [] = refl
length-both (u ∷ us) = ap suc (length-both us)

label-at : (round : ℕ) (k : ℕ) (us : List Both) (one other : PageRecordOf) → ((both : Both) → IsIn both us → SameRecord round both) → one.label ≡ other.label
    → (get_or (map owner_of (map was_of us)) k one).label ≡ (get_or (map owner_of (map now_of us)) k other).label
label-at round k [] one other same start = start
label-at round zero (u ∷ us) one other same start = (same u (inl refl)).label
label-at round (suc k) (u ∷ us) one other same start = label-at round k us one other (λ b is. same b (inr is)) start

rounds-same : (round : ℕ) (a : ℕ) (us : List Both) → ((both : Both) → IsIn both us → SameRecord round both) → ((both : Both) → IsIn both us → Stale round both.now)
    → fold (λ round (other : PageRecordOf). max round other.changed) a (map owner_of (map was_of us)) ≡ fold (λ round (other : PageRecordOf). max round other.changed) a (map owner_of (map now_of us))
rounds-same round a [] same stale = refl
rounds-same round a (u ∷ us) same stale =
    ap (λ c. fold (λ round (other : PageRecordOf). max round other.changed) (max a c) (map owner_of (map was_of us))) ((same u (inl refl)).changed (stale u (inl refl)))
    ∙ rounds-same round (max a u.now.owner.changed) us (λ b is. same b (inr is)) (λ b is. stale b (inr is))

-- Segments of records on both sides of a run.
pub record Around (records : List Both) (front run back : List SegmentOf) : Type 0 where
  pub xs : List Both
  pub us : List Both
  pub zs : List Both
  pub is : records ≡ xs ++ (us ++ zs)
  pub front_is : map now_of xs ≡ front
  pub run_is : map now_of us ≡ run
  pub back_is : map now_of zs ≡ back

pub around : (records : List Both) (front run back : List SegmentOf) → map now_of records ≡ front ++ (run ++ back) → Around records front run back
around records front run back same =
    let one = map-cut now_of records front (run ++ back) same in
    let two = map-cut now_of one.back run back one.second in
    record {
      xs = one.front;
      us = two.front;
      zs = two.back;
      is = one.is ∙ ap (λ (l : List Both). one.front ++ l) two.is;
      front_is = one.first;
      run_is = two.first;
      back_is = two.second;
    }

pub in-runs-middle : (front : List (List SegmentOf)) (run : List SegmentOf) (back : List (List SegmentOf)) → in_runs (front ++ (run ∷ back)) ≡ in_runs front ++ (run ++ in_runs back)
in-runs-middle [] run back = refl
in-runs-middle (one ∷ front) run back = ap (λ (l : List SegmentOf). one ++ l) (in-runs-middle front run back) ∙ sym (append_assoc one (in_runs front) (run ++ in_runs back))

pub was-middle : (xs us zs : List Both) → map was_of (xs ++ (us ++ zs)) ≡ map was_of xs ++ (map was_of us ++ map was_of zs)
was-middle xs us zs = map-append was_of xs (us ++ zs) ∙ ap (λ (l : List SegmentOf). map was_of xs ++ l) (map-append was_of us zs)

in-middle : {X : Type 0} (x : X) (xs : List X) (ys : List X) → IsIn x (xs ++ (x ∷ ys))
in-middle x xs ys = in-right x xs (x ∷ ys) (inl refl)

-- A run that stays empty is one of the old runs, and its sheet one of the old sheets.
pub empty-stays : (round : ℕ) (was now : LaidOf) (u : Both) (us xs zs : List Both) → PrintsOmitted was now → was.segments ≡ map was_of xs ++ (map was_of (u ∷ us) ++ map was_of zs)
    → ((both : Both) → IsIn both (u ∷ us) → SameRecord round both) → ((both : Both) → IsIn both (u ∷ us) → Stale round both.now)
    → list_all is_empty (map was_of (u ∷ us)) ≡ true → LastIs Full (map was_of xs) → FirstIs Full (map was_of zs)
    → IsIn (printed_of now (omitted_sheet u.now.start u.now.owner (map owner_of (map now_of us)))) (laid_printed was)
empty-stays round was now u us xs zs omitted parts same stale empty front back =
    let run = map was_of (u ∷ us) in
    let X = omitted_sheet u.was.start u.was.owner (map owner_of (map was_of us)) in
    let Y = omitted_sheet u.now.start u.now.owner (map owner_of (map now_of us)) in
    let runs : runs_of was.segments ≡ runs_of (map was_of xs) ++ (run ∷ runs_of (map was_of zs)) =
    ap runs_of parts ∙ runs_of-middle (map was_of xs) run (map was_of zs) (runs_of-empty u.was (map was_of us) empty) (inl front) (inr back) in
    let there : IsIn run (runs_of was.segments) = subst (IsIn run) (sym runs) (in-middle run (runs_of (map was_of xs)) (runs_of (map was_of zs))) in
    let first_empty : is_empty u.was ≡ true = (and_parts (is_empty u.was) (list_all is_empty (map was_of us)) empty).0 in
    let here : IsIn X (run_sheets was.pages run) =
    subst (λ b. IsIn X (cond b (X ∷ []) (page_sheets u.was 0 (segment_pages u.was was.pages)))) (sym first_empty) (inl refl) in
    let sheet : IsIn X (laid_sheets was) = in-flat (run_sheets was.pages) run X (runs_of was.segments) there here in
    let label : u.was.owner.label ≡ u.now.owner.label = (same u (inl refl)).label in
    let others_same = λ (both : Both) (is : IsIn both us). same both (inr is) in
    let last : X.last ≡ Y.last =
    ap (λ n. (get_or (map owner_of (map was_of us)) (n - 1) u.was.owner).label) (length-both us)
    ∙ label-at round (length (map owner_of (map now_of us)) - 1) us u.was.owner u.now.owner others_same label in
    let rounds : X.round ≡ Y.round =
    ap (λ c. fold (λ round (other : PageRecordOf). max round other.changed) c (map owner_of (map was_of us))) ((same u (inl refl)).changed (stale u (inl refl)))
    ∙ rounds-same round u.now.owner.changed us others_same (λ both is. stale both (inr is)) in
    let bytes : was.print X ≡ now.print Y = omitted.same X Y refl refl label last rounds in
    let printed : printed_of was X ≡ printed_of now Y = λ i. record { label = record { first = label i; last = last i }; bytes = bytes i } in
    subst (λ p. IsIn p (laid_printed was)) printed (in-map (printed_of was) X (laid_sheets was) sheet)

-- A page that the packet leaves out is one of the old sheets.
pub record Neither (a b c : Bool) : Type 0 where
  pub first : a ≡ false
  pub second : b ≡ false
  pub third : c ≡ false

pub neither : (a b c : Bool) → (a || (b || c)) ≡ false → Neither a b c
neither true b c h = cc
neither false true c h = cc
neither false false c h = record { first = refl; second = refl; third = h }

one-alone : (p : ℕ) (later pages : List ℕ) → pages ≡ p ∷ later → nat_lt 1 (length pages) ≡ false → pages ≡ p ∷ []
one-alone p [] pages is few = is
one-alone p (q ∷ later) pages is few = absurd (let low = ltb-false 1 (length pages) few in let long = ap length is in omega (arith, low, long))

pub page-stays : (round : ℕ) (was now : LaidOf) (u : Both) (xs zs : List Both) → (law : Unchanged round was now) → IsIn u law.records
    → was.segments ≡ map was_of xs ++ (map was_of (u ∷ []) ++ map was_of zs) → SameRecord round u → is_empty u.now ≡ false
    → (choice : Choice) → IsIn choice (map (page_choice round now u.now) (page_sheets u.now 0 (segment_pages u.now now.pages))) → choice.handed ≡ false → IsIn choice.sheet (laid_printed was)
page-stays round was now u xs zs law inside parts same full choice is left =
    let from = map-in (page_choice round now u.now) choice (page_sheets u.now 0 (segment_pages u.now now.pages)) is in
    let pages = segment_pages u.now now.pages in
    let handed : (is_fresh round u.now || (nat_lt 1 (length pages) || has_fresh_cue round now from.it.start)) ≡ false = ap (λ (c : Choice). c.handed) from.is ∙ left in
    let n = neither (is_fresh round u.now) (nat_lt 1 (length pages)) (has_fresh_cue round now from.it.start) handed in
    let st = law.paged u.now (subst (IsIn u.now) (sym law.are) (in-map now_of u law.records inside)) full in
    let one : pages ≡ u.now.start ∷ [] = one-alone u.now.start st.later pages st.is n.second in
    let only : IsIn from.it (only_sheet u.now ∷ []) = subst (λ (ps : List ℕ). IsIn from.it (page_sheets u.now 0 ps)) one from.there in
    let same_sheet : only_sheet u.now ≡ from.it = elim only [ inl e ↦ e | inr never ↦ absurd never ] in
    let cue : has_fresh_cue round now u.now.start ≡ false = ap (λ (s : SheetOf). has_fresh_cue round now s.start) same_sheet ∙ n.third in
    let full_was : is_empty u.was ≡ false = same.empty n.first ∙ full in
    let run : List SegmentOf = u.was ∷ [] in
    let runs : runs_of was.segments ≡ runs_of (map was_of xs) ++ (run ∷ runs_of (map was_of zs)) =
    ap runs_of parts ∙ runs_of-middle (map was_of xs) run (map was_of zs) refl (inr full_was) (inl full_was) in
    let there : IsIn run (runs_of was.segments) = subst (IsIn run) (sym runs) (in-middle run (runs_of (map was_of xs)) (runs_of (map was_of zs))) in
    let were : IsIn u.was was.segments = subst (IsIn u.was) (sym law.were) (in-map was_of u law.records inside) in
    let here : IsIn (only_sheet u.was) (run_sheets was.pages run) =
    subst (λ b. IsIn (only_sheet u.was) (cond b (omitted_sheet u.was.start u.was.owner [] ∷ []) (page_sheets u.was 0 (segment_pages u.was was.pages)))) (sym full_was)
    (subst (λ (ps : List ℕ). IsIn (only_sheet u.was) (page_sheets u.was 0 ps)) (sym (law.opened u.was were full_was)) (inl refl)) in
    let sheet : IsIn (only_sheet u.was) (laid_sheets was) = in-flat (run_sheets was.pages) run (only_sheet u.was) (runs_of was.segments) there here in
    let label : u.was.owner.label ≡ u.now.owner.label = same.label in
    let bytes = law.page u inside full n.first cue one in
    let printed : printed_of was (only_sheet u.was) ≡ printed_of now (only_sheet u.now) = λ i. record { label = record { first = label i; last = label i }; bytes = bytes i } in
    let whole : printed_of was (only_sheet u.was) ≡ choice.sheet = printed ∙ ap (printed_of now) same_sheet ∙ ap sheet_of from.is in
    subst (λ p. IsIn p (laid_printed was)) whole (in-map (printed_of was) (only_sheet u.was) (laid_sheets was) sheet)
