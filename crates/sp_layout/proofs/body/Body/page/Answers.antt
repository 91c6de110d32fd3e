use Rattle.std.proofs.Common.{arith}
use Rattle.sp_layout.proofs.Places.{page-shows}
use Rattle.sp_layout.proofs.body.Body.page.Goals as goal

pub returns-clause-shows : goal.returns-clause-shows
returns-clause-shows c = page-shows c.args.self.now.elements c.args.from c.args.to _ (omega (arith, c.requires.order)) c.page_part.ensures
