-- Sorted numbers never fall.
use Rattle.std.proofs.Common.{ℕ, ◌≤◌, List, AllPairs, get_or, is_lt, nat_cmp, arith}
use Rattle.std.specs.Prelude.{IsSorted}
use Rattle.std.proofs.lemmas.Cmp.{nat_cmp_total}
use Rattle.std.proofs.lemmas.List.MinMax.{ranks_by}
use Rattle.std.proofs.lemmas.List.Sorted.{sorted_far}
use Rattle.std.proofs.lemmas.Map.Keys.{ge_from_not_lt}

pub sorted-rises : (xs : List ℕ) → IsSorted nat_cmp xs → AllPairs (λ one other. one ≤ other) xs
sorted-rises xs sorted i j d less within =
    ge_from_not_lt (get_or xs j d) (get_or xs i d) (sorted_far (λ a b. is_lt (nat_cmp a b)) (ranks_by nat_cmp_total (λ (n : ℕ). n)) xs sorted i j d (omega (arith, less)) within)
