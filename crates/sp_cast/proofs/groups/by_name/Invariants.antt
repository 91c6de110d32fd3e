use Rattle.std.proofs.Common.{take}
use Rattle.std.specs.Prelude.{bytes_eq}
use Rattle.spec_cast.specs.Sides.{name_of}
use Rattle.sp_cast.specs.Keys.{lent_text}
use Rattle.sp_cast.proofs.KeyLaws.{Gathered}
use Rattle.sp_cast.proofs.groups.by_name.Given as goal

abbrev pub invariant-loop-said : goal.invariant-loop-said
invariant-loop-said l = Gathered lent_text bytes_eq name_of (take l.said-index l.all) l.names.keys l.groups.items
