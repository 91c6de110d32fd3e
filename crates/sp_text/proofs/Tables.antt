-- The paths of ids through a table, and what stays a table.
use Rattle.std.proofs.Common.{◌≡◌, ℕ, suc, ◌+◌, ◌-◌, ◌*◌, ◌<◌, ◌≤◌, ◌≢◌, Bool, true, false, cond, List, [], ◌∷◌, length, get_or, set, replicate, refl, sym, ap, ◌∙◌, subst, inl, inr, arith}
use Rattle.std.proofs.lemmas.Bool.{cases_lt, cases_eq, lt-ltb, le-ltb}
use Rattle.std.proofs.lemmas.List.{get_or-map, length-map, length-set, get_or-set_same, get_or-set_other, set-get_or, map-set, get_or_past, length-replicate, get_or-replicate, get_or_default}
use Rattle.std.proofs.lemmas.List.Folds.{sum_by-replicate}
use Rattle.std.proofs.lemmas.List.Sums.{sum_by-cons, sum_by-set}
use Rattle.sp_text.specs.declared.index.Kind.TheVariants.{Held}
use Rattle.sp_text.specs.declared.index.Entry.{Entry}
use Rattle.sp_text.specs.Index.{is_used, entry_ids, entry_uses, use_count, home_of, path, IsTable, IsIndex, HasId, IsAbsent, IsOpen, IsFull, HoldsNone, IsPut}

path-low : (len first step : ℕ) → first + step < len → path len first step ≡ first + step
path-low len first step low = ap (λ b. cond b (first + step) (first + step - len)) (lt-ltb (first + step) len low)

path-high : (len first step : ℕ) → len ≤ first + step → path len first step ≡ first + step - len
path-high len first step high = ap (λ b. cond b (first + step) (first + step - len)) (le-ltb (first + step) len high)

pub path-within : (len first step : ℕ) → first < len → step ≤ len → path len first step < len
path-within len first step low within =
    elim (cases_lt (first + step) len) [
      | inl below ↦ omega (arith, path-low len first step below)
      | inr past ↦ omega (arith, path-high len first step past)
    ]

-- The path of an id comes to every place.
pub path-onto : (len first place : ℕ) → first < len → place < len → (step : ℕ) × (step < len) × (path len first step ≡ place)
path-onto len first place low inside =
    elim (cases_lt place first) [
      | inl before ↦ let step : ℕ = place + len - first in (step, omega arith, omega (arith, path-high len first step (omega arith)))
      | inr behind ↦ let step : ℕ = place - first in (step, omega arith, omega (arith, path-low len first step (omega arith)))
    ]

-- It comes to a place once.
path-once : (len first one other : ℕ) → one < len → other < len → path len first one ≡ path len first other → one ≡ other
path-once len first one other low also same =
    elim (cases_lt (first + one) len) [
      | inl below ↦ elim (cases_lt (first + other) len) [
        | inl under ↦ omega (arith, path-low len first one below, path-low len first other under, same)
        | inr over ↦ omega (arith, path-low len first one below, path-high len first other over, same)
      ]
      | inr past ↦ elim (cases_lt (first + other) len) [
        | inl under ↦ omega (arith, path-high len first one past, path-low len first other under, same)
        | inr over ↦ omega (arith, path-high len first one past, path-high len first other over, same)
      ]
    ]

-- The first so many places of an id's path are used, by other ids.
pub record IsPassed (index : List Entry) (id step : ℕ) : Type 0 where
  pub used : (earlier : ℕ) → earlier < step → get_or (entry_uses index) (path (length index) (home_of id (length index)) earlier) false ≡ true
  pub differs : (earlier : ℕ) → earlier < step → get_or (entry_ids index) (path (length index) (home_of id (length index)) earlier) 0 ≢ id

pub use-at : (index : List Entry) (place : ℕ) (d : Entry) → place < length index → get_or (entry_uses index) place false ≡ is_used (get_or index place d).kind
use-at index place d inside = get_or-map (λ (entry : Entry). is_used entry.kind) index place d false inside

pub id-at : (index : List Entry) (place : ℕ) (d : Entry) → place < length index → (get_or index place d).id ≡ get_or (entry_ids index) place 0
id-at index place d inside = sym (get_or-map (λ (entry : Entry). entry.id) index place d 0 inside)

pub length-entry_ids : (index : List Entry) → length (entry_ids index) ≡ length index
length-entry_ids index = length-map index (λ (entry : Entry). entry.id)

length-entry_uses : (index : List Entry) → length (entry_uses index) ≡ length index
length-entry_uses index = length-map index (λ (entry : Entry). is_used entry.kind)

used-inside : (uses : List Bool) (place : ℕ) → get_or uses place false ≡ true → place < length uses
used-inside uses place used =
    elim (cases_lt place (length uses)) [
      | inl below ↦ below
      | inr past ↦ let none = get_or_past uses place false past in let e : false ≡ true = sym none ∙ used in absurd (cc)
    ]

module _ (index : List Entry) (table : IsIndex index) (id step : ℕ) (low : home_of id (length index) < length index) (passed : IsPassed index id step) where
  -- An id that has no place among those is in none where the next one is free.
  absent-before : (place : ℕ) → place ≡ path (length index) (home_of id (length index)) step → step < length index → get_or (entry_uses index) place false ≡ false → (other : ℕ) → get_or (entry_uses index) other false ≡ true → get_or (entry_ids index) other 0 ≢ id
  absent-before place is within free other used same =
      let first = home_of id (length index) in
      let inside : other < length index = omega (arith, used-inside (entry_uses index) other used, length-entry_uses index) in
      let (far, far_low, far_at) = path-onto (length index) first other low inside in
      elim (cases_lt far step) [
        | inl below ↦ passed.differs far below (ap (λ n. get_or (entry_ids index) n 0) far_at ∙ same)
        | inr past ↦ elim (cases_eq far step) [
          | inl here ↦
              let there : other ≡ place = sym far_at ∙ ap (λ n. path (length index) first n) here ∙ sym is in
              let e : true ≡ false = sym used ∙ ap (λ n. get_or (entry_uses index) n false) there ∙ free in
              absurd (cc)
          | inr later ↦
              let P : ℕ → Type 0 = λ n. path (length index) (home_of n (length index)) far ≡ other in
              let Q : ℕ → Type 0 = λ n. get_or (entry_uses index) (path (length index) (home_of n (length index)) step) false ≡ true in
              let less : step < far = elim (cases_lt step far) [ inl yes_ ↦ yes_ | inr no_ ↦ absurd (later (omega arith)) ] in
              let before = subst Q same (table.reached other far step used far_low (subst P (sym same) far_at) less) in
              let e : true ≡ false = sym before ∙ ap (λ n. get_or (entry_uses index) n false) (sym is) ∙ free in
              absurd (cc)
        ]
      ]

  pub IsOpen-passed : (place : ℕ) (d : Entry) → place ≡ path (length index) (home_of id (length index)) step → place < length index → step < length index → is_used (get_or index place d).kind ≡ false → IsOpen index id place
  IsOpen-passed place d is inside within unused =
      let free = use-at index place d inside ∙ unused in
      record { inside = inside; free = free; absent = record { differs = absent-before place is within free }; step = step; low = within; at = sym is; before = passed.used }

  pub IsFull-passed : length index ≤ step → IsFull index id
  IsFull-passed all =
      let first = home_of id (length index) in
      record {
        absent = record {
          differs = λ other used same.
              let inside : other < length index = omega (arith, used-inside (entry_uses index) other used, length-entry_uses index) in
              let (far, far_low, far_at) = path-onto (length index) first other low inside in
              passed.differs far (omega arith) (ap (λ n. get_or (entry_ids index) n 0) far_at ∙ same);
        };
        used = λ place inside.
            let (far, far_low, far_at) = path-onto (length index) first place low inside in
            ap (λ n. get_or (entry_uses index) n false) (sym far_at) ∙ passed.used far (omega arith);
      }

-- An id has one place.
pub only-place : (index : List Entry) → IsIndex index → (id place other : ℕ) → HasId index place id → HasId index other id → place ≡ other
only-place index table id place other here there = table.apart place other here.used there.used (here.is ∙ sym there.is)

-- An entry in the place of one with its id leaves a table.
pub IsIndex-told : (index : List Entry) (place : ℕ) (entry : Entry) → IsIndex index → HasId index place entry.id → is_used entry.kind ≡ true → IsIndex (set index place entry)
IsIndex-told index place entry table has used =
    let same_ids : entry_ids (set index place entry) ≡ entry_ids index = map-set (λ (e : Entry). e.id) index place entry ∙ ap (λ v. set (entry_ids index) place v) (sym has.is) ∙ set-get_or (entry_ids index) place 0 in
    let same_uses : entry_uses (set index place entry) ≡ entry_uses index =
    map-set (λ (e : Entry). is_used e.kind) index place entry ∙ ap (λ v. set (entry_uses index) place v) (used ∙ sym has.used) ∙ set-get_or (entry_uses index) place false
    in
    let P : ℕ → Type 0 = λ n. IsTable n (entry_ids (set index place entry)) (entry_uses (set index place entry)) in
    let Q : List ℕ → Type 0 = λ ids. IsTable (length index) ids (entry_uses (set index place entry)) in
    let R : List Bool → Type 0 = λ uses. IsTable (length index) (entry_ids index) uses in
    subst P (sym (length-set index place entry)) (subst Q (sym same_ids) (subst R (sym same_uses) table))

used-more : (uses : List Bool) (place k : ℕ) → place < length uses → get_or uses k false ≡ true → get_or (set uses place true) k false ≡ true
used-more uses place k inside used =
    elim (cases_eq k place) [
      | inl same ↦ ap (λ n. get_or (set uses place true) n false) same ∙ get_or-set_same uses place true false inside
      | inr differs ↦ get_or-set_other uses place k true false differs ∙ used
    ]

-- An id at the first free place of its path leaves a table.
IsTable-set : (len : ℕ) (ids : List ℕ) (uses : List Bool) (id place step : ℕ) → IsTable len ids uses → place < len → ((k : ℕ) → get_or uses k false ≡ true → get_or ids k 0 ≢ id) → step < len → path len (home_of id len) step ≡ place → ((k : ℕ) → k < step → get_or uses (path len (home_of id len) k) false ≡ true) → IsTable len (set ids place id) (set uses place true)
IsTable-set len ids uses id place step table inside absent low at before =
    let in_uses : place < length uses = omega (arith, table.uses_many) in
    let in_ids : place < length ids = omega (arith, table.ids_many) in
    let own : get_or (set ids place id) place 0 ≡ id = get_or-set_same ids place id 0 in_ids in
    let old_use = λ (k : ℕ) (differs : k ≢ place) (used : get_or (set uses place true) k false ≡ true). sym (get_or-set_other uses place k true false differs) ∙ used in
    let old_id = λ (k : ℕ) (differs : k ≢ place). get_or-set_other ids place k id 0 differs in
    let at_place = λ (k : ℕ) (same : k ≡ place). ap (λ n. get_or (set ids place id) n 0) same ∙ own in
    record {
      ids_many = length-set ids place id ∙ table.ids_many;
      uses_many = length-set uses place true ∙ table.uses_many;
      few = table.few;
      apart = λ one other used also same. elim (cases_eq one place) [
        | inl here ↦ elim (cases_eq other place) [
          | inl there ↦ here ∙ sym there
          | inr elsewhere ↦ absurd (absent other (old_use other elsewhere also) (sym (old_id other elsewhere) ∙ sym same ∙ at_place one here))
        ]
        | inr away ↦ elim (cases_eq other place) [
          | inl there ↦ absurd (absent one (old_use one away used) (sym (old_id one away) ∙ same ∙ at_place other there))
          | inr elsewhere ↦ table.apart one other (old_use one away used) (old_use other elsewhere also) (sym (old_id one away) ∙ same ∙ old_id other elsewhere)
        ]
      ];
      reached = λ spot far earlier used far_low far_at less. elim (cases_eq spot place) [
        | inl here ↦
            let P : ℕ → Type 0 = λ n. path len (home_of n len) far ≡ spot in
            let Q : ℕ → Type 0 = λ n. get_or (set uses place true) (path len (home_of n len) earlier) false ≡ true in
            let same : far ≡ step = path-once len (home_of id len) far step far_low low (subst P (at_place spot here) far_at ∙ here ∙ sym at) in
            subst Q (sym (at_place spot here)) (used-more uses place (path len (home_of id len) earlier) in_uses (before earlier (omega arith)))
        | inr away ↦
            let P : ℕ → Type 0 = λ n. path len (home_of n len) far ≡ spot in
            let Q : ℕ → Type 0 = λ n. get_or (set uses place true) (path len (home_of n len) earlier) false ≡ true in
            let old = table.reached spot far earlier (old_use spot away used) far_low (subst P (old_id spot away) far_at) less in
            subst Q (sym (old_id spot away)) (used-more uses place (path len (home_of (get_or ids spot 0) len) earlier) in_uses old)
      ];
    }

pub IsIndex-opened : (index : List Entry) (place : ℕ) (entry : Entry) → IsIndex index → IsOpen index entry.id place → is_used entry.kind ≡ true → IsIndex (set index place entry)
IsIndex-opened index place entry table it used =
    let made = IsTable-set (length index) (entry_ids index) (entry_uses index) entry.id place it.step table it.inside it.absent.differs it.low it.at it.before in
    let same_ids : entry_ids (set index place entry) ≡ set (entry_ids index) place entry.id = map-set (λ (e : Entry). e.id) index place entry in
    let same_uses : entry_uses (set index place entry) ≡ set (entry_uses index) place true = map-set (λ (e : Entry). is_used e.kind) index place entry ∙ ap (λ v. set (entry_uses index) place v) used in
    let P : ℕ → Type 0 = λ n. IsTable n (entry_ids (set index place entry)) (entry_uses (set index place entry)) in
    let Q : List ℕ → Type 0 = λ ids. IsTable (length index) ids (entry_uses (set index place entry)) in
    let R : List Bool → Type 0 = λ uses. IsTable (length index) (set (entry_ids index) place entry.id) uses in
    subst P (sym (length-set index place entry)) (subst Q (sym same_ids) (subst R (sym same_uses) made))

-- A table where nothing is.
pub IsIndex-free : (len : ℕ) (entry : Entry) → is_used entry.kind ≡ false → len < 4294967296 → IsIndex (replicate len entry)
IsIndex-free len entry unused few =
    let index = replicate len entry in
    let many = length-replicate len entry in
    let none = λ (k : ℕ) (used : get_or (entry_uses index) k false ≡ true).
    let low : k < length index = omega (arith, used-inside (entry_uses index) k used, length-entry_uses index) in
    let e : false ≡ true = sym unused ∙ ap (λ (x : Entry). is_used x.kind) (sym (get_or-replicate len k entry entry (omega arith))) ∙ sym (use-at index k entry low) ∙ used in
    e
    in
    record {
      ids_many = length-entry_ids index;
      uses_many = length-entry_uses index;
      few = omega (arith, many);
      apart = λ one other used also same. let e : false ≡ true = none one used in absurd (cc);
      reached = λ place step earlier used low at less. let e : false ≡ true = none place used in cc;
    }

abbrev weight : Entry → ℕ
weight entry = cond (is_used entry.kind) 1 0

pub use_count-free : (len : ℕ) (entry : Entry) → is_used entry.kind ≡ false → use_count (replicate len entry) ≡ 0
use_count-free len entry unused =
    let none : weight entry ≡ 0 = ap (λ b. cond b 1 0) unused in
    let all = sum_by-replicate weight len entry in
    all ∙ ap (λ n. len * n) none ∙ omega arith

weight-used : (entry : Entry) → is_used entry.kind ≡ true → weight entry ≡ 1
weight-used entry used = ap (λ b. cond b 1 0) used

pub use_count-told : (index : List Entry) (place : ℕ) (entry : Entry) → place < length index → get_or (entry_uses index) place false ≡ true → is_used entry.kind ≡ true → use_count (set index place entry) ≡ use_count index
use_count-told index place entry inside was is =
    let sums = sum_by-set weight index place entry entry inside in
    let old = weight-used (get_or index place entry) (sym (use-at index place entry inside) ∙ was) in
    let new = weight-used entry is in
    omega (arith, sums, old, new)

pub use_count-opened : (index : List Entry) (place : ℕ) (entry : Entry) → place < length index → get_or (entry_uses index) place false ≡ false → is_used entry.kind ≡ true → use_count (set index place entry) ≡ use_count index + 1
use_count-opened index place entry inside was is =
    let sums = sum_by-set weight index place entry entry inside in
    let old : weight (get_or index place entry) ≡ 0 = ap (λ b. cond b 1 0) (sym (use-at index place entry inside) ∙ was) in
    let new = weight-used entry is in
    omega (arith, sums, old, new)

count-all : (index : List Entry) → ((place : ℕ) → place < length index → get_or (entry_uses index) place false ≡ true) → use_count index ≡ length index
count-all [] all = omega arith
count-all (entry ∷ index) all =
    let here = weight-used entry (all 0 (omega arith)) in
    let rest = count-all index (λ place low. all (suc place) (omega arith)) in
    let e : weight entry + use_count index ≡ suc (length index) = omega (arith, here, rest) in
    sum_by-cons weight entry index ∙ e

-- Where no place is free, all are used.
pub use_count-full : (index : List Entry) (id : ℕ) → IsFull index id → use_count index ≡ length index
use_count-full index id full = count-all index full.used

-- Where the entry of an id tells of no line, and where it has none, none does.
pub HoldsNone-at : (index : List Entry) (id place : ℕ) (none : Entry) → IsIndex index → HasId index place id → ((get_or index place none).kind ≡ Held → ⊥) → HoldsNone index id
HoldsNone-at index id place none table has loose k d low held same =
    let here : HasId index k id = record { inside = low; used = use-at index k d low ∙ ap is_used held; is = sym (id-at index k d low) ∙ same } in
    let at = only-place index table id k place here has in
    loose (ap (λ n. (get_or index n none).kind) (sym at) ∙ ap (λ (e : Entry). e.kind) (sym (get_or_default index k d none low)) ∙ held)

pub HoldsNone-absent : (index : List Entry) (id : ℕ) → IsAbsent index id → HoldsNone index id
HoldsNone-absent index id absent k d low held same = absent.differs k (use-at index k d low ∙ ap is_used held) (sym (id-at index k d low) ∙ same)

pub IsPut-told : (index : List Entry) (place : ℕ) (entry : Entry) → IsIndex index → HoldsNone index entry.id → HasId index place entry.id → is_used entry.kind ≡ true → IsPut index entry (set index place entry)
IsPut-told index place entry table new has used = record {
  place = place;
  inside = has.inside;
  loose = λ d held. new place d has.inside held (id-at index place d has.inside ∙ has.is);
  is = refl;
  table = IsIndex-told index place entry table has used;
}

pub IsPut-opened : (index : List Entry) (place : ℕ) (entry : Entry) → IsIndex index → IsOpen index entry.id place → is_used entry.kind ≡ true → IsPut index entry (set index place entry)
IsPut-opened index place entry table it used = record {
  place = place;
  inside = it.inside;
  loose = λ d held. let e : true ≡ false = sym (use-at index place d it.inside ∙ ap is_used held) ∙ it.free in absurd (cc);
  is = refl;
  table = IsIndex-opened index place entry table it used;
}
