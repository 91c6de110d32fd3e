-- Where no record is fresh from a speech's first row to the row behind its cue, the cue is repeated as it was.
use Rattle.std.proofs.Common.{◌≡◌, inl, inr, ℕ, zero, suc, ◌+◌, ◌-◌, ◌<◌, ◌≤◌, min, Bool, true, false, ◌&&◌, ◌==◌, cond, List, [], ◌∷◌, ◌++◌, length, map, take, drop, refl, ap, ap₂, sym, subst, ◌∙◌, length-append, lt-ltb, le-leb, arith}
use Rattle.std.specs.Prelude.{nat_lt, nat_le}
use Rattle.std.specs.List.{list_any, prefix_len}
use Rattle.std.proofs.Math.Seq.{drop-append-add}
use Rattle.std.proofs.lemmas.Bool.{cases_lt, or_parts}
use Rattle.std.proofs.lemmas.List.{take-take, length-drop}
use Rattle.spec_packet.specs.SheetLists.{IsIn}
use Rattle.spec_state.specs.SameRows.{BareRow}
use Rattle.spec_packet.specs.Packets.{is_cue_row, cue_len, cue_reach, is_fresh_between}
use Rattle.spec_packet.specs.RecordRows.{all_rows, segments_from, RowsBoth, were_of, are_of, StaysStale}

pub take-both : {X : Type 0} (m : ℕ) (xs ys : List X) → take m (xs ++ ys) ≡ take m xs ++ take (m - length xs) ys
take-both zero [] ys = refl
take-both {X} zero (x ∷ xs) ys = let e : zero ≡ zero - suc (length xs) = omega arith in ap (λ n. take n ys) e
take-both {X} (suc m) [] ys = let e : suc m ≡ suc m - zero = omega arith in ap (λ n. take n ys) e
take-both {X} (suc m) (x ∷ xs) ys =
    let e : m - length xs ≡ suc m - suc (length xs) = omega arith in
    ap (λ (l : List X). x ∷ l) (take-both m xs ys ∙ ap (λ n. take m xs ++ take n ys) e)

-- The rows of records now, and at the opening.
abbrev pub rows_now : List RowsBoth → List BareRow
rows_now records = all_rows (map are_of records)

abbrev pub rows_were : List RowsBoth → List BareRow
rows_were records = all_rows (map were_of records)

-- The records whose segments lie between two rows have the rows that they had; so many rows stand before them.
abbrev pub SameBetween : ℕ → ℕ → ℕ → List RowsBoth → Type 0
SameBetween first last before [] = Unit {0}
SameBetween first last before (it ∷ records) =
    (first < before + length it.now.rows → before ≤ last → it.was.rows ≡ it.now.rows) × SameBetween first last (before + length it.now.rows) records

pub none-fresh : (round first last : ℕ) (before : List BareRow) (records : List RowsBoth) → ((both : RowsBoth) → IsIn both records → StaysStale round both)
    → list_any (is_fresh_between round first last) (segments_from before (map are_of records)) ≡ false → SameBetween first last (length before) records
none-fresh round first last before [] stays none = tt
none-fresh round first last before (it ∷ records) stays none =
    let fresh = it.now.owner.changed == round in
    let (here, later) = or_parts (fresh && (nat_lt first (length before + length it.now.rows) && nat_le (length before) last))
    (list_any (is_fresh_between round first last) (segments_from (before ++ it.now.rows) (map are_of records))) none in
    let same : first < length before + length it.now.rows → length before ≤ last → it.was.rows ≡ it.now.rows =
    λ low high. (stays it (inl refl)).rows
    (other fresh (nat_lt first (length before + length it.now.rows)) (nat_le (length before) last) here (lt-ltb first (length before + length it.now.rows) low) (le-leb (length before) last high)) in
    (same, subst (λ n. SameBetween first last n records) (length-append before it.now.rows) (none-fresh round first last (before ++ it.now.rows) records (λ both is. stays both (inr is)) later))
  where
    other : (f a b : Bool) → (f && (a && b)) ≡ false → a ≡ true → b ≡ true → f ≡ false
    other true true true h e g = cc
    other true true false h e g = cc
    other true false b h e g = cc
    other false a b h e g = refl

pub between-append : (first last before : ℕ) (xs ys : List RowsBoth) → SameBetween first last before (xs ++ ys)
    → SameBetween first last before xs × SameBetween first last (before + length (rows_now xs)) ys
between-append first last before [] ys same = (tt, (let e : before ≡ before + zero = omega arith in subst (λ n. SameBetween first last n ys) e same))
between-append first last before (x ∷ xs) ys same =
    let (front, back) = between-append first last (before + length x.now.rows) xs ys same.1 in
    let e : before + length x.now.rows + length (rows_now xs) ≡ before + length (x.now.rows ++ rows_now xs) = omega (arith, length-append x.now.rows (rows_now xs)) in
    ((same.0, front), subst (λ n. SameBetween first last n ys) e back)

-- Behind the first row all records have the rows that they had.
all-same : (first last before : ℕ) (records : List RowsBoth) → SameBetween first last before records → first < before → before + length (rows_now records) ≤ last → rows_were records ≡ rows_now records
all-same first last before [] same low high = refl
all-same first last before (it ∷ records) same low high =
    let long = length-append it.now.rows (rows_now records) in
    ap₂ (λ (a b : List BareRow). a ++ b) (same.0 (omega (arith, low)) (omega (arith, high, long)))
    (all-same first last (before + length it.now.rows) records same.1 (omega (arith, low)) (omega (arith, high, long)))

-- The last d rows of records.
pub suffix-same : (first last before d : ℕ) (records : List RowsBoth) → SameBetween first last before records → d ≤ length (rows_now records)
    → first ≡ before + length (rows_now records) - d → before + length (rows_now records) ≤ last
    → drop (length (rows_were records) - d) (rows_were records) ≡ drop (length (rows_now records) - d) (rows_now records)
suffix-same first last before d [] same low is high = refl
suffix-same first last before d (it ∷ records) same low is high =
    let rows = it.now.rows in
    let later = rows_now records in
    let old = it.was.rows in
    let old_later = rows_were records in
    let long = length-append rows later in
    let old_long = length-append old old_later in
    elim (cases_lt (length later) d) [
      | inl over ↦
          let behind : old_later ≡ later = all-same first last (before + length rows) records same.1 (omega (arith, is, over, low, long)) (omega (arith, high, long)) in
          let here : old ≡ rows = same.0 (omega (arith, is, over, low, long)) (omega (arith, high, long)) in
          ap (λ (l : List BareRow). drop (length l - d) l) (ap₂ (λ (a b : List BareRow). a ++ b) here behind)
      | inr within ↦
          let ih : drop (length old_later - d) old_later ≡ drop (length later - d) later =
          suffix-same first last (before + length rows) d records same.1 within (omega (arith, is, long)) (omega (arith, high, long)) in
          let left : length (drop (length old_later - d) old_later) ≡ length (drop (length later - d) later) = ap length ih in
          let one : length (drop (length old_later - d) old_later) ≡ length old_later - (length old_later - d) = length-drop (length old_later - d) old_later in
          let two : length (drop (length later - d) later) ≡ length later - (length later - d) = length-drop (length later - d) later in
          let enough : d ≤ length old_later = omega (arith, left, one, two, within) in
          let at : length (rows ++ later) - d ≡ length rows + (length later - d) = omega (arith, long, within) in
          let old_at : length (old ++ old_later) - d ≡ length old + (length old_later - d) = omega (arith, old_long, enough) in
          ap (λ n. drop n (old ++ old_later)) old_at ∙ drop-append-add old old_later (length old_later - d)
          ∙ ih ∙ sym (ap (λ n. drop n (rows ++ later)) at ∙ drop-append-add rows later (length later - d))
    ]

-- The first m rows of records.
pub prefix-same : (first last before m : ℕ) (records : List RowsBoth) → SameBetween first last before records → first < before → (0 < m → before + m ≤ last + 1)
    → take m (rows_were records) ≡ take m (rows_now records)
prefix-same first last before m [] same low high = refl
prefix-same first last before zero (it ∷ records) same low high = refl
prefix-same first last before (suc m) (it ∷ records) same low high =
    let rows = it.now.rows in
    let reach = high (omega arith) in
    let here : it.was.rows ≡ rows = same.0 (omega (arith, low)) (omega (arith, reach)) in
    let rest = suc m - length rows in
    let later : take rest (rows_were records) ≡ take rest (rows_now records) =
    prefix-same first last (before + length rows) rest records same.1 (omega (arith, low)) (λ some. omega (arith, reach, some)) in
    ap (λ (l : List BareRow). take (suc m) (l ++ rows_were records)) here
    ∙ take-both (suc m) rows (rows_were records)
    ∙ ap (λ (l : List BareRow). take (suc m) rows ++ l) later
    ∙ sym (take-both (suc m) rows (rows_now records))

-- The cue of rows is told by its rows and the one behind them.
pub prefix-low : (p : BareRow → Bool) (n : ℕ) (rows : List BareRow) → prefix_len p (take n rows) ≤ n
prefix-low p zero rows = omega arith
prefix-low p (suc n) [] = omega arith
prefix-low p (suc n) (row ∷ rows) = by (p row) (prefix-low p n rows)
  where
    by : (b : Bool) → prefix_len p (take n rows) ≤ n → cond b (1 + prefix_len p (take n rows)) 0 ≤ suc n
    by true low = omega (arith, low)
    by false low = omega arith

-- Two lists with the same first m elements: both are empty, or begin alike.
prefix-of : (p : BareRow → Bool) (n m : ℕ) (xs ys : List BareRow) → take m xs ≡ take m ys → (0 < n → min (prefix_len p (take n xs)) (n - 1) + 1 ≤ m)
    → prefix_len p (take n ys) ≡ prefix_len p (take n xs)
prefix-of p zero m xs ys same reach = refl
prefix-of p (suc n) zero xs ys same reach = absurd (let bad = reach (omega arith) in omega (arith, bad))
prefix-of p (suc n) (suc m) [] [] same reach = refl
prefix-of p (suc n) (suc m) [] (y ∷ ys) same reach = absurd (let bad = same in let no_way : ⊥ = cc in no_way)
prefix-of p (suc n) (suc m) (x ∷ xs) [] same reach = absurd (let bad = same in let no_way : ⊥ = cc in no_way)
prefix-of p (suc n) (suc m) (x ∷ xs) (y ∷ ys) same reach =
    let head : x ≡ y = cc in
    let tail : take m xs ≡ take m ys = cc in
    ap (λ (z : BareRow). cond (p z) (1 + prefix_len p (take n ys)) 0) (sym head)
    ∙ by (p x) (reach (omega arith)) (λ more. prefix-of p n m xs ys tail more)
  where
    by : (b : Bool) → min (cond b (1 + prefix_len p (take n xs)) 0) (suc n - 1) + 1 ≤ suc m
        → ((0 < n → min (prefix_len p (take n xs)) (n - 1) + 1 ≤ m) → prefix_len p (take n ys) ≡ prefix_len p (take n xs))
        → cond b (1 + prefix_len p (take n ys)) 0 ≡ cond b (1 + prefix_len p (take n xs)) 0
    by true low later = ap (λ k. 1 + k) (later (λ some. omega (arith, low, some)))
    by false low later = refl

pub cue-same : (m : ℕ) (xs ys : List BareRow) → take m xs ≡ take m ys → cue_reach xs + 1 ≤ m → take (cue_len ys) ys ≡ take (cue_len xs) xs
cue-same zero xs ys same reach = absurd (omega (arith, reach))
cue-same (suc m) [] [] same reach = refl
cue-same (suc m) [] (y ∷ ys) same reach = absurd (let bad = same in let no_way : ⊥ = cc in no_way)
cue-same (suc m) (x ∷ xs) [] same reach = absurd (let bad = same in let no_way : ⊥ = cc in no_way)
cue-same (suc m) (x ∷ xs) (y ∷ ys) same reach =
    let head : x ≡ y = cc in
    let rest = x.shape.rest in
    let len = cue_len (x ∷ xs) in
    let low : len ≤ rest + 1 = prefix-low is_cue_row (rest + 1) (x ∷ xs) in
    let lens : cue_len (y ∷ ys) ≡ len =
    ap (λ (z : BareRow). prefix_len is_cue_row (take (z.shape.rest + 1) (y ∷ ys))) (sym head)
    ∙ prefix-of is_cue_row (rest + 1) (suc m) (x ∷ xs) (y ∷ ys) same (λ some. omega (arith, reach)) in
    let few : len ≤ suc m = omega (arith, low, reach) in
    ap (λ n. take n (y ∷ ys)) lens
    ∙ sym (take-take len (suc m) (y ∷ ys) few) ∙ ap (take len) (sym same) ∙ take-take len (suc m) (x ∷ xs) few
