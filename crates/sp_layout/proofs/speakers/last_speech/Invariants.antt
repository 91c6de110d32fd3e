use Rattle.std.proofs.Common.{◌≤◌, ℕ, List, length, drop}
use Rattle.sp_layout.proofs.LastSpeakers.{IsQuiet}
use Rattle.sp_layout.proofs.speakers.last_speech.Given as goal

-- Behind the blocks that were passed the last speaker is that before them.
abbrev pub invariant-loop-count : goal.invariant-loop-count
invariant-loop-count l = record {
  within : l.count ≤ length l.blocks;
  quiet : (texts : List (List ℕ)) → IsQuiet texts (drop l.count l.blocks);
}

abbrev pub decreases-loop-count : goal.decreases-loop-count
decreases-loop-count l = l.count
