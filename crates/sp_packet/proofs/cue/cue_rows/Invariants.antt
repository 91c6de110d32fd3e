use Rattle.std.proofs.Common.{◌≡◌, ◌+◌, ◌-◌}
use Rattle.sp_packet.proofs.CueRows.{cues_from}
use Rattle.sp_packet.proofs.cue.cue_rows.Given as goal

abbrev pub invariant-loop-count : goal.invariant-loop-count
invariant-loop-count l = cues_from l.shapes.items l.from l.most ≡ l.count + cues_from l.shapes.items (l.from + l.count) (l.rows - l.count)
