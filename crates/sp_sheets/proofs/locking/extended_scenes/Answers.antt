use Rattle.std.proofs.Common.{sym, subst}
use Rattle.spec_labels.specs.Scenes.{AreHeadings}
use Rattle.sp_sheets.proofs.locking.extended_scenes.Goals as goal

pub extended-requires-clause-headings : goal.extended-requires-clause-headings
extended-requires-clause-headings c =
    subst AreHeadings (sym c.deref-in-Some.ensures.value) c.in_ok-headings-in-Some.ensures.are
