-- Elements before a line.
use Rattle.std.proofs.Common.{◌≡◌, ℕ, ◌-◌, ◌<◌, ◌≤◌, true, false, ltb, List, [], ◌++◌, length, inl, inr, refl, sym, subst, ◌∙◌, arith, length-append, All}
use Rattle.std.proofs.lemmas.Bool.{cases_lt, ltb-true, ltb-false, lt-ltb, le-ltb, true≢false}
use Rattle.std.proofs.lemmas.List.{get_or_append_left, get_or-append_right}
use Rattle.std.specs.List.Sorted.{IsPartitionedBy, IsPartitionPoint}
use Rattle.spec_pages.specs.Rows.{ElementOf}
use Rattle.sp_layout.specs.Places.{ArePartedAt, CountsBefore}

-- They are found by halves.
pub are-parted : (elements : List ElementOf) (line : ℕ) → ArePartedAt elements line → IsPartitionedBy (λ (element : ElementOf). ltb element.first line) elements
are-parted elements line parted i j d order inside low = elim (cases_lt j parted.count) [
  | inl below ↦ lt-ltb _ line (parted.is.before i d (omega (arith, order, below)))
  | inr above ↦ absurd (true≢false (sym low ∙ le-ltb _ line (parted.is.from j d above inside)))
]

pub counts-found : (elements : List ElementOf) (line count : ℕ) → count ≤ length elements
    → IsPartitionPoint (λ (element : ElementOf). ltb element.first line ≡ true) (λ (element : ElementOf). ltb element.first line ≡ false) elements count → CountsBefore elements line count
counts-found elements line count within point = record {
  within = within;
  before = λ i d low. ltb-true _ line (point.0 i d (omega arith) low);
  from = λ i d above inside. ltb-false _ line (point.1 i d above inside);
}

-- Where those that begin before the line come first, they are these.
pub counts-parts : (line : ℕ) (xs ys : List ElementOf) → All (λ (e : ElementOf). e.first < line) xs → All (λ (e : ElementOf). line ≤ e.first) ys → CountsBefore (xs ++ ys) line (length xs)
counts-parts line xs ys one other = record {
  within = omega (arith, length-append xs ys);
  before = λ i d low. subst (λ (e : ElementOf). e.first < line) (sym (get_or_append_left xs ys d i low)) (one i d low);
  from = λ i d above inside.
      subst (λ (e : ElementOf). line ≤ e.first) (sym (get_or-append_right xs ys (length xs) i d refl above)) (other (i - length xs) d (omega (arith, length-append xs ys, above, inside)));
}

-- No two counts are right.
pub counts-one : (elements : List ElementOf) (line m n : ℕ) → CountsBefore elements line m → CountsBefore elements line n → m ≡ n
counts-one elements line m n one other = elim (cases_lt m n) [
  | inl less ↦
      let low = other.within in
      let x = one.from m none (omega arith) (omega (arith, less, low)) in
      let y = other.before m none less in
      absurd (omega (arith, x, y))
  | inr more ↦ elim (cases_lt n m) [
    | inl less ↦
        let low = one.within in
        let x = other.from n none (omega arith) (omega (arith, less, low)) in
        let y = one.before n none less in
        absurd (omega (arith, x, y))
    | inr same ↦ omega (arith, more, same)
  ]
]
  where
    none : ElementOf
    none = record { first = 0; rows = [] }
