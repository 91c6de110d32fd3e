use Rattle.std.proofs.Common.{leb, rules}
use Rattle.std.proofs.lemmas.List.Sorted.{IsPartitionPoint-from_clause, IsPartitionedBy-leb}
use Rattle.spec_labels.specs.PageRecords.{SheetOf}
use Rattle.sp_contents.proofs.SheetFinds.{ends-rise, ends-before}
use Rattle.sp_contents.proofs.heading_sheets.sheets_before.Goals as goal

pub returns : goal.returns
returns c =
    let row = c.args.row in
    let sheets = c.args.sheets.now in
    let parted = IsPartitionedBy-leb (λ (sheet : SheetOf). sheet.end) sheets row (ends-rise sheets c.requires) in
    let point = IsPartitionPoint-from_clause (λ (sheet : SheetOf). leb sheet.end row) _ _ c.partition_point.ensures.partitioned parted (λ a r q k. search rules) in
    ends-before sheets row c.partition_point.result c.partition_point.ensures.bound point
