use Rattle.std.proofs.Common.{◌≡◌, ℕ, take}
use Rattle.std.specs.Prelude.{slice_range}
use Rattle.sp_sheets.specs.HeadingIds.{IsHeadingFrom, heading_ids}
use Rattle.sp_sheets.proofs.SameHeadings.{AreLeft, ids_left}
use Rattle.sp_sheets.proofs.compared_headings.same_headings.Given as goal

abbrev pub invariant-loop-place : goal.invariant-loop-place
invariant-loop-place l =
    ((start : ℕ) × IsHeadingFrom l.others.items start l.next)
    × AreLeft (heading_ids (slice_range l.shapes.items l.from l.to) (slice_range l.keys.items l.from l.to) ≡ heading_ids l.others.items l.other_keys.items) (ids_left (take l.to l.shapes.items) (take l.to l.keys.items) l.place)
    (ids_left l.others.items l.other_keys.items l.next)
