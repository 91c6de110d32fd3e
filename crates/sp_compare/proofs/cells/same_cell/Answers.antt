use Rattle.std.proofs.Common.{rules}
use Rattle.sp_compare.proofs.cells.same_cell.Goals as goal

pub same_parts-requires-clause-olds : goal.same_parts-requires-clause-olds
same_parts-requires-clause-olds c = search rules
