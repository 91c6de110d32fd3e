use Rattle.std.proofs.Common.{sym, ◌∙◌}
use Rattle.sp_print.proofs.Spacing.{no_position}
use Rattle.sp_print.proofs.spaces.first_tab.Goals as goal

pub returns-then-not-contains-clause-place : goal.returns-then-not-contains-clause-place
returns-then-not-contains-clause-place c = no_position c.args.text.now (sym c.contains.ensures.value ∙ c.if-not-contains.true)
