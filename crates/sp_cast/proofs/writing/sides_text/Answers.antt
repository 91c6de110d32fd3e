use Rattle.std.proofs.Common.{◌++◌, ap₂, ◌∙◌}
use Rattle.std.specs.List.{flat_map}
use Rattle.spec_cast.specs.Groups.{side_of_group}
use Rattle.spec_cast.proofs.Groups.{sides-grouped}
use Rattle.sp_cast.proofs.writing.sides_text.Goals as goal

pub returns : goal.returns
returns c =
    c.in_ok-write_sides.ensures ∙ ap₂ (λ front groups. front ++ flat_map side_of_group groups) c.new-text.ensures.bytes (c.deref.ensures.value ∙ c.in_ok-groups.ensures) ∙ sides-grouped c.args.said.now
