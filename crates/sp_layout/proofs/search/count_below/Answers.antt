use Rattle.std.proofs.Common.{rules, ltb, arith}
use Rattle.std.proofs.lemmas.Bool.{ltb-true, ltb-false}
use Rattle.std.proofs.lemmas.List.Sorted.{IsPartitionPoint-from_clause, IsPartitionedBy-ltb}
use Rattle.sp_layout.proofs.Places.{non_decreasing}
use Rattle.sp_layout.proofs.search.count_below.Goals as goal

pub returns : goal.returns
returns c =
    let bound = c.args.bound in
    let parted = IsPartitionedBy-ltb (λ x. x) c.args.places.now bound (non_decreasing c.args.places.now c.requires) in
    let point = IsPartitionPoint-from_clause (λ place. ltb place bound) _ _ c.partition_point.ensures.partitioned parted (λ a r q k. search rules) in
    record {
      within = c.partition_point.ensures.bound;
      below = λ i low. ltb-true _ bound (point.0 i 0 (omega arith) low);
      above = λ i high inside. ltb-false _ bound (point.1 i 0 high inside);
    }
