-- Places that never fall, looked at by halves.
use Rattle.std.proofs.Common.{ℕ, ◌+◌, ◌-◌, ◌<◌, ◌≤◌, List, length, inl, inr, ap, arith}
use Rattle.std.specs.Prelude.{AllPairs, slice_index}
use Rattle.std.proofs.lemmas.Bool.{cases_lt, cases_eq}
use Rattle.sp_layout.specs.Places.{CountsBelow, IsLastStart}

-- The places before one are below a bound, and those from another on aren't.
pub record AreHalved (places : List ℕ) (bound from to : ℕ) : Type 0 where
  pub order : from ≤ to
  pub within : to ≤ length places
  pub below : (i : ℕ) → i < from → slice_index places i < bound
  pub above : (i : ℕ) → to ≤ i → i < length places → bound ≤ slice_index places i

pub halved-behind : (places : List ℕ) (bound from to middle : ℕ) → AllPairs (λ one other. one ≤ other) places → AreHalved places bound from to → middle < to → slice_index places middle < bound → AreHalved places bound (middle + 1) to
halved-behind places bound from to middle rise are inside low = record {
  order = omega (arith, inside);
  within = are.within;
  below = λ i before. elim (cases_eq i middle) [
    | inl same ↦ omega (arith, ap (slice_index places) same, low)
    | inr other ↦ (let step = rise i middle 0 (omega (arith, before, other)) (omega (arith, inside, are.within)) in omega (arith, step, low))
  ];
  above = are.above;
}

pub halved-before : (places : List ℕ) (bound from to middle : ℕ) → AllPairs (λ one other. one ≤ other) places → AreHalved places bound from to → from ≤ middle → middle < to → bound ≤ slice_index places middle → AreHalved places bound from middle
halved-before places bound from to middle rise are order inside high = record {
  order = order;
  within = omega (arith, inside, are.within);
  below = are.below;
  above = λ i behind within. elim (cases_eq i middle) [
    | inl same ↦ omega (arith, ap (slice_index places) same, high)
    | inr other ↦ (let step = rise middle i 0 (omega (arith, behind, other)) within in omega (arith, step, high))
  ];
}

pub halved-found : (places : List ℕ) (bound from to : ℕ) → AreHalved places bound from to → to ≤ from → CountsBelow places bound from
halved-found places bound from to are end = record {
  within = omega (arith, are.order, are.within);
  below = are.below;
  above = λ i behind inside. are.above i (omega (arith, behind, end)) inside;
}

-- The place before the first start behind a place.
pub record IsFound (starts : List ℕ) (place count : ℕ) : Type 0 where
  pub some : 1 ≤ count
  pub last : IsLastStart starts place (count - 1)

pub last-found : (starts : List ℕ) (place count : ℕ) → CountsBelow starts (place + 1) count → 0 < length starts → slice_index starts 0 ≤ place → IsFound starts place count
last-found starts place count is some first =
    let above : 1 ≤ count = elim (cases_lt 0 count) [
      | inl more ↦ more
      | inr none ↦ (let past = is.above 0 none some in absurd (omega (arith, past, first)))
    ] in
    record {
      some = above;
      last = record {
        inside = omega (arith, is.within, above);
        from = (let low = is.below (count - 1) (omega (arith, above)) in omega (arith, low));
        to = λ i high inside. (let past = is.above i (omega (arith, high, above)) inside in omega (arith, past));
      };
    }
