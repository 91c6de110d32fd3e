use Rattle.std.proofs.Common.{sym, ap, ◌∙◌}
use Rattle.spec_pages.specs.Clusters.{width_of}
use Rattle.spec_pages.proofs.PrintableLaws.{width_of-printable}
use Rattle.sp_measure.proofs.clusters.width_of.Goals as goal

pub returns-in-Some-clause-value : goal.returns-in-Some-clause-value
returns-in-Some-clause-value c =
    sym (ap width_of c.in-Some.ensures ∙ width_of-printable c.in-Some.byte (sym c.is_printable_byte.ensures ∙ c.if-is_printable_byte.true))
