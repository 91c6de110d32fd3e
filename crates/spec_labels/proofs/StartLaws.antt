-- Starts of records whose anchors stand in order never fall.
use Rattle.std.proofs.Common.{◌≡◌, ◌≢◌, ℕ, suc, ◌+◌, ◌<◌, ◌≤◌, ◌⊎◌, ◌==◌, Bool, true, false, not, cond, List, [], ◌∷◌, ◌&&◌, ◌||◌, length, map, drop, get_or, inl, inr, ⊎_elim, eqb-true, eq-eqb, lt-ltb, ltb-true, ltb-false, refl, ap, ap₂, sym, ◌∙◌, subst, arith}
use Rattle.std.specs.Prelude.{All, AllPairs, IfOk, Result, Ok, Err, nat_lt}
use Rattle.std.specs.List.{position_or_len}
use Rattle.std.proofs.lemmas.Bool.{cases_Bool, and_parts}
use Rattle.std.proofs.lemmas.List.{length-map}
use Rattle.std.proofs.lemmas.List.Elements.{All-nil, All-cons, All-map}
use Rattle.std.proofs.lemmas.List.Kept.{AllPairs-cons}
use Rattle.std.proofs.lemmas.List.Sums.{fails_before_first, passes_at_first}
use Rattle.spec_text.specs.Lines.{LineState}
use Rattle.spec_text.proofs.ListLaws.{pairs-head, pairs-tail}
use Rattle.spec_labels.specs.declared.RowKey.{RowKey}
use Rattle.spec_labels.specs.PageRecords.{PageRecordOf, AreStarts, InOrder, end_line, line_at, is_before, anchor_of, record_start, record_starts}

-- What it says that one pair of numbers is before another.
pub before-tells : (p q r s : ℕ) → (nat_lt p q || ((p == q) && nat_lt r s)) ≡ true → (p < q) ⊎ ((p ≡ q) × (r < s))
before-tells p q r s h = ⊎_elim
    (λ less. inl (ltb-true p q less))
    (λ past. inr (let rest : ((p == q) && nat_lt r s) ≡ true = ap (λ b. b || ((p == q) && nat_lt r s)) (sym past) ∙ h in
    let (same, lower) = and_parts _ _ rest in (eqb-true p q same, ltb-true r s lower)))
    (cases_Bool (nat_lt p q))

pub before-is : (p q r s : ℕ) → (p < q) ⊎ ((p ≡ q) × (r < s)) → (nat_lt p q || ((p == q) && nat_lt r s)) ≡ true
before-is p q r s h = ⊎_elim
    (λ less. ap (λ b. b || ((p == q) && nat_lt r s)) (lt-ltb p q less))
    (λ both. or-true (nat_lt p q) ((p == q) && nat_lt r s) (ap₂ (λ a b. a && b) (eq-eqb p q both.0) (lt-ltb r s both.1)))
    h
  where
    or-true : (a b : Bool) → b ≡ true → (a || b) ≡ true
    or-true true b h = refl
    or-true false b h = h

-- A key before an anchor is before each anchor that isn't before that one.
before-later : (lines : List LineState) (key one other : RowKey) → is_before lines key one ≡ true → is_before lines other one ≡ false → is_before lines key other ≡ true
before-later lines key one other before order =
    before-is k b key.row other.row (⊎_elim
    (λ (less : k < a). ⊎_elim (λ (low : a < b). inl (omega (arith, less, low))) (λ same. inl (omega (arith, less, same.0))) later)
    (λ both. ⊎_elim (λ (low : a < b). inl (omega (arith, both.0, low))) (λ same. inr (both.0 ∙ same.0, omega (arith, both.1, same.1))) later)
    (before-tells k a key.row one.row before))
  where
    k : ℕ
    k = line_at lines key.line

    a : ℕ
    a = line_at lines one.line

    b : ℕ
    b = line_at lines other.line

    never : (b < a) ⊎ ((b ≡ a) × (other.row < one.row)) → ⊥
    never h = let no_more : true ≡ false = sym (before-is b a other.row one.row h) ∙ order in cc

    later : (a < b) ⊎ ((a ≡ b) × (one.row ≤ other.row))
    later = ⊎_elim
        (λ less. inl (ltb-true a b less))
        (λ past. ⊎_elim
        (λ under. absurd (never (inl (ltb-true b a under))))
        (λ over. let same : a ≡ b = omega (arith, ltb-false a b past, ltb-false b a over) in
        inr (same, ⊎_elim (λ lower. absurd (never (inr (sym same, ltb-true other.row one.row lower)))) (λ upto. ltb-false other.row one.row upto) (cases_Bool (nat_lt other.row one.row))))
        (cases_Bool (nat_lt b a)))
        (cases_Bool (nat_lt a b))

position-low : {X : Type 0} (p : X → Bool) (xs : List X) → position_or_len p xs ≤ length xs
position-low p [] = omega arith
position-low p (x ∷ xs) = by (not (p x)) (position-low p xs)
  where
    by : (b : Bool) → position_or_len p xs ≤ length xs → cond b (1 + position_or_len p xs) 0 ≤ length (x ∷ xs)
    by true low = omega (arith, low)
    by false low = omega arith

pub record_start-low : (lines : List LineState) (rows : List RowKey) (it : PageRecordOf) → record_start lines rows it ≤ length rows
record_start-low lines rows it = by (it.line == end_line)
  where
    by : (b : Bool) → cond b (length rows) (position_or_len (λ (key : RowKey). not (is_before lines key (anchor_of it))) rows) ≤ length rows
    by true = omega arith
    by false = position-low (λ (key : RowKey). not (is_before lines key (anchor_of it))) rows

-- Of two records in order the first starts no later.
record_start-order : (lines : List LineState) (rows : List RowKey) (one other : PageRecordOf) → InOrder lines one other → record_start lines rows one ≤ record_start lines rows other
record_start-order lines rows one other order = ⊎_elim
    (λ end. omega (arith, record_start-low lines rows one, ap (λ b. cond b (length rows) second) end))
    (λ inside.
    let apart : other.line ≢ end_line = λ e. (let no_more : true ≡ false = sym (eq-eqb other.line end_line e) ∙ inside in cc) in
    let here : (one.line == end_line) ≡ false = ⊎_elim (λ yes. absurd (order.inside apart (eqb-true one.line end_line yes))) (λ no_more. no_more) (cases_Bool (one.line == end_line)) in
    omega (arith, ap (λ b. cond b (length rows) second) inside, ap (λ b. cond b (length rows) first) here, upto apart))
    (cases_Bool (other.line == end_line))
  where
    p : RowKey → Bool
    p key = not (is_before lines key (anchor_of one))

    q : RowKey → Bool
    q key = not (is_before lines key (anchor_of other))

    first : ℕ
    first = position_or_len (λ (key : RowKey). not (is_before lines key (anchor_of one))) rows

    second : ℕ
    second = position_or_len (λ (key : RowKey). not (is_before lines key (anchor_of other))) rows

    upto : other.line ≢ end_line → first ≤ second
    upto apart = ⊎_elim
        (λ (less : nat_lt second first ≡ true).
        let d : RowKey = record { line = 0; row = 0 } in
        let low : second < first = ltb-true second first less in
        let before = not-false (is_before lines (get_or rows second d) (anchor_of one)) (fails_before_first (λ (key : RowKey). not (is_before lines key (anchor_of one))) rows second d low) in
        let passes = passes_at_first (λ (key : RowKey). not (is_before lines key (anchor_of other))) rows d (omega (arith, low, position-low (λ (key : RowKey). not (is_before lines key (anchor_of one))) rows)) in
        let later = before-later lines (get_or rows second d) (anchor_of one) (anchor_of other) before (order.never apart) in
        absurd (let no_more : false ≡ true = sym (ap not later) ∙ passes in cc))
        (λ past. ltb-false second first past)
        (cases_Bool (nat_lt second first))
      where
        not-false : (b : Bool) → not b ≡ false → b ≡ true
        not-false true h = refl
        not-false false h = cc

pub record_starts-low : (lines : List LineState) (rows : List RowKey) (records : List PageRecordOf) → All (λ start. start ≤ length rows) (record_starts lines rows records)
record_starts-low lines rows [] = All-nil (λ start. start ≤ length rows)
record_starts-low lines rows (it ∷ records) =
    All-cons (λ start. start ≤ length rows) 0 (map (record_start lines rows) records) (omega arith)
    (All-map (λ start. start ≤ length rows) (record_start lines rows) records (λ k d h. record_start-low lines rows (get_or records k d)))

mapped-order : (lines : List LineState) (rows : List RowKey) (records : List PageRecordOf) → AllPairs (InOrder lines) records → AllPairs (λ one other. one ≤ other) (map (record_start lines rows) records)
mapped-order lines rows [] order = λ i j d less within. absurd (omega (arith, less, within))
mapped-order lines rows (it ∷ records) order =
    AllPairs-cons (λ one other. one ≤ other) (record_start lines rows it) (map (record_start lines rows) records)
    (All-map (λ n. record_start lines rows it ≤ n) (record_start lines rows) records
    (λ k d within. record_start-order lines rows it (get_or records k d) (pairs-head (InOrder lines) it records order k d within)))
    (mapped-order lines rows records (pairs-tail (InOrder lines) it records order))

-- So they are starts.
pub record_starts-AreStarts : (lines : List LineState) (rows : List RowKey) (records : List PageRecordOf) → AllPairs (InOrder lines) (drop 1 records) → AreStarts (length rows) records (record_starts lines rows records)
record_starts-AreStarts lines rows [] order =
    record { count = refl; first = refl; order = λ i j d less within. absurd (omega (arith, less, within)); within = All-nil (λ start. start ≤ length rows) }
record_starts-AreStarts lines rows (it ∷ records) order =
    let starts = map (record_start lines rows) records in
    record {
      count = ap (λ n. suc n) (length-map records (record_start lines rows));
      first = refl;
      order = AllPairs-cons (λ one other. one ≤ other) 0 starts (λ k d within. omega arith) (mapped-order lines rows records order);
      within = record_starts-low lines rows (it ∷ records);
    }

pub started-order : {T E : Type 0} (items : T → List ℕ) (lines : List LineState) (rows : List RowKey) (records : List PageRecordOf) (result : Result T E)
    → IfOk result (λ it. items it ≡ record_starts lines rows records) → AllPairs (InOrder lines) (drop 1 records) → IfOk result (λ it. AreStarts (length rows) records (items it))
started-order items lines rows records (Ok it) is order = subst (AreStarts (length rows) records) (sym is) (record_starts-AreStarts lines rows records order)
started-order items lines rows records (Err e) is order = is
