-- The ranges that changes stand for.
use Rattle.std.specs.Prelude.{List, map}
use Rattle.spec_text.specs.Ranges.{RangeOf}
use Rattle.sp_room.specs.declared.change.Change.{Change}

abbrev pub range_of : Change → RangeOf
range_of change = record { first = change.first; old = change.taken; new = change.put }

abbrev pub ranges : List Change → List RangeOf
ranges changes = map range_of changes
