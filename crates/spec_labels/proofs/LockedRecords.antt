-- The records that locking makes keep what records keep.
use Rattle.std.proofs.Common.{◌≡◌, ℕ, zero, suc, ◌+◌, ◌<◌, ◌≤◌, ◌==◌, ◌&&◌, Bool, true, false, cond, List, [], ◌∷◌, length, Less, nat_cmp, refl, ap, ap₂, sym, ◌∙◌, subst, arith}
use Rattle.std.specs.Prelude.{Option, Some, None, All, IfSome, OnSome, IsTrue, find, option_map, unwrap_or}
use Rattle.std.specs.Cmp.{nat_cmp_is}
use Rattle.std.specs.Cmp.Lexicographic.{slice_cmp}
use Rattle.std.specs.Ordering.{ordering_then}
use Rattle.std.specs.Option.{option_map_or}
use Rattle.std.proofs.lemmas.List.Elements.{All-nil, All-cons, All-head, All-tail}
use Rattle.spec_labels.specs.Labels.{LabelOf, IsLabel, plain_label, Below}
use Rattle.spec_labels.specs.Scenes.{HeadingOf, SceneRecordOf, IsSceneLabel, IsNumbered, AreHeadings, AreSceneRecords, is_unlockable, unlockable_place, disordered_place, numbers_after, unlocked_labels, locked_records}
use Rattle.spec_labels.specs.Scenes.{AreWithin}
use Rattle.spec_labels.proofs.Falls.{no-fall-rises, ordered-no-fall}
use Rattle.spec_labels.proofs.HeadingLabels.{own_label, unlocked_labels-IsLabel, length-unlocked_labels}
use Rattle.spec_labels.proofs.RecordsOf.{labels-All, labels-AllPairs, lines-distinct, length-records_of}

-- A label is above label 0 where its number or its path says so.
above-number : (label : LabelOf) → 0 < label.number → Below (plain_label 0) label
above-number label some = record { less = ap (λ o. ordering_then o (slice_cmp nat_cmp [] label.path)) (sym (nat_cmp_is 0 label.number Less some)) }

above-zero : (label : LabelOf) → ((label.number == 0) && (length label.path == 0)) ≡ false → Below (plain_label 0) label
above-zero label not_zero = by label.number label.path refl refl
  where
    by : (number : ℕ) (path : List ℕ) → label.number ≡ number → label.path ≡ path → Below (plain_label 0) label
    by zero [] number path =
        let zero_label : ((label.number == 0) && (length label.path == 0)) ≡ true = ap₂ (λ (n : ℕ) (p : List ℕ). (n == 0) && (length p == 0)) number path in
        let no_more : true ≡ false = sym zero_label ∙ not_zero in cc
    by zero (step ∷ path) number path_is = record { less = ap₂ (λ (n : ℕ) (p : List ℕ). ordering_then (nat_cmp 0 n) (slice_cmp nat_cmp [] p)) number path_is }
    by (suc n) path number path_is = above-number label (omega (arith, number))

-- So is the label of a heading that can be locked.
own-above : (before : ℕ) (heading : HeadingOf) (number : Option LabelOf) → OnSome number (IsTrue heading.written)
    → (heading.written && option_map_or (λ (it : LabelOf). (it.number == 0) && (length it.path == 0)) number true) ≡ false
    → Below (plain_label 0) (unwrap_or number (plain_label (before + 1)))
own-above before heading None written can = above-number (plain_label (before + 1)) (omega arith)
own-above before heading (Some label) written can =
    above-zero label (sym (ap (λ b. b && ((label.number == 0) && (length label.path == 0))) written) ∙ can)

-- Where the first heading that can't be locked is none, none is.
can_lock : (heading : HeadingOf) (later : List HeadingOf) → unlockable_place (heading ∷ later) ≡ None → (is_unlockable heading ≡ false) × (unlockable_place later ≡ None)
can_lock heading later none = by (is_unlockable heading) refl none
  where
    by : (b : Bool) → is_unlockable heading ≡ b → option_map (λ (it : HeadingOf). it.place) (cond b (Some heading) (find is_unlockable later)) ≡ None
        → (is_unlockable heading ≡ false) × (unlockable_place later ≡ None)
    by true is rest = cc
    by false is rest = (is, rest)

numbers_after-above : (before : ℕ) (headings : List HeadingOf) → All IsNumbered headings → unlockable_place headings ≡ None → All (Below (plain_label 0)) (numbers_after before headings)
numbers_after-above before [] all none = All-nil (Below (plain_label 0))
numbers_after-above before (heading ∷ later) all none =
    let own = own_label before heading in
    let (can, rest) = can_lock heading later none in
    All-cons (Below (plain_label 0)) own (numbers_after own.number later)
    (own-above before heading heading.number (All-head IsNumbered heading later all).is_written can)
    (numbers_after-above own.number later (All-tail IsNumbered heading later all) rest)

-- The numbers pass the greatest written one by no more than there are headings.
numbers_after-low : (before limit : ℕ) (headings : List HeadingOf) → All IsNumbered headings → before + length headings ≤ limit → 999999999 + length headings ≤ limit
    → All (λ (it : LabelOf). it.number ≤ limit) (numbers_after before headings)
numbers_after-low before limit [] all low few = All-nil (λ (it : LabelOf). it.number ≤ limit)
numbers_after-low before limit (heading ∷ later) all low few =
    let own = own_label before heading in
    let up : own.number + length later ≤ limit = by heading.number (All-head IsNumbered heading later all).is_label in
    All-cons (λ (it : LabelOf). it.number ≤ limit) own (numbers_after own.number later) (omega (arith, up))
    (numbers_after-low own.number limit later (All-tail IsNumbered heading later all) up (omega (arith, few)))
  where
    by : (number : Option LabelOf) → IfSome number IsSceneLabel → (unwrap_or number (plain_label (before + 1))).number + length later ≤ limit
    by None is = omega (arith, low)
    by (Some label) is = omega (arith, is.low, few)

-- The records of a lock.
pub locked_records-kept : (headings : List HeadingOf) → AreHeadings headings → unlockable_place headings ≡ None → disordered_place headings ≡ None → AreSceneRecords (locked_records headings)
locked_records-kept headings known form order =
    let labels = unlocked_labels headings in
    record {
      labels = labels-All IsLabel headings labels (unlocked_labels-IsLabel headings known.numbered);
      above = labels-All (Below (plain_label 0)) headings labels (numbers_after-above 0 headings known.numbered form);
      low =
          let few : length headings ≤ 200000 = known.few in
          labels-All (λ (it : LabelOf). it.number ≤ 2000000000) headings labels (numbers_after-low 0 2000000000 headings known.numbered (omega (arith, few)) (omega (arith, few)));
      rising = labels-AllPairs Below headings labels (no-fall-rises labels (ordered-no-fall headings order));
      distinct = lines-distinct headings labels known.distinct;
    }

pub locked_records-within : (headings : List HeadingOf) → AreHeadings headings → AreWithin 999999999 (locked_records headings)
locked_records-within headings known =
    let labels = unlocked_labels headings in
    let limit : ℕ = 999999999 + length headings in
    record {
      low =
          subst (λ n. All (λ (it : SceneRecordOf). it.label.number ≤ 999999999 + n) (locked_records headings))
          (sym (length-records_of headings labels (length-unlocked_labels headings)))
          (labels-All (λ (it : LabelOf). it.number ≤ limit) headings labels (numbers_after-low 0 limit headings known.numbered (omega arith) (omega arith)));
    }
