use Rattle.std.proofs.Common.{◌≡◌, ◌++◌, length, map, take}
use Rattle.sp_packet.specs.Runs.{facts_by}
use Rattle.sp_packet.proofs.facts.add_pages.Given as goal

abbrev pub invariant-loop-page : goal.invariant-loop-page
invariant-loop-page l = l.facts.items ≡ l.initial.facts.items ++ map (facts_by l.starts l.shapes.items l.place (length l.pages)) (take l.page-index l.pages)
