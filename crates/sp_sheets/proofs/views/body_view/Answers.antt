use Rattle.std.proofs.Common.{rules}
use Rattle.sp_sheets.proofs.views.body_view.Goals as goal

pub returns : goal.returns
returns c = search rules
