use Rattle.std.proofs.Common.{rules, ltb}
use Rattle.std.proofs.lemmas.List.Sorted.{IsPartitionPoint-from_clause}
use Rattle.spec_pages.specs.Rows.{ElementOf}
use Rattle.sp_layout.proofs.ElementCounts.{are-parted, counts-found}
use Rattle.sp_layout.proofs.search.elements_before.Goals as goal

pub returns : goal.returns
returns c =
    let line = c.args.line in
    let elements = c.args.elements.now in
    let parted = are-parted elements line c.requires in
    let point = IsPartitionPoint-from_clause (λ (element : ElementOf). ltb element.first line) _ _ c.partition_point.ensures.partitioned parted (λ a r q k. search rules) in
    counts-found elements line c.partition_point.result c.partition_point.ensures.bound point
