use Rattle.std.proofs.Common.{arith}
use Rattle.sp_sheets.proofs.LaidHeadings.{rows-of-run}
use Rattle.sp_sheets.proofs.heading_rows.rows_of_run.Goals as goal

pub returns-clause-order : goal.returns-clause-order
returns-clause-order c = let of = rows-of-run c.args.body.now.elements c.args.from c.args.to c.requires.order c.requires.within in omega (arith, of.count)

pub returns-clause-within : goal.returns-clause-within
returns-clause-within c = let of = rows-of-run c.args.body.now.elements c.args.from c.args.to c.requires.order c.requires.within in omega (arith, of.within)
