use Rattle.std.proofs.Common.{◌≡◌, ◌<◌, length}
use Rattle.sp_text.specs.Index.{home_of, path}
use Rattle.sp_text.proofs.Tables.{IsPassed}
use Rattle.sp_text.proofs.index.look.Given as goal

abbrev pub invariant-loop-step : goal.invariant-loop-step
invariant-loop-step l =
    (l.place ≡ path l.len (home_of l.id l.len) l.step) × (l.place < l.len) × (l.len ≡ length l.entries) × (home_of l.id l.len < l.len) × IsPassed l.entries l.id l.step
