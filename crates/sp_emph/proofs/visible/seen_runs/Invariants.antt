use Rattle.std.proofs.Common.{◌≡◌, ◌≤◌, length, drop}
use Rattle.std.specs.List.{sum_by}
use Rattle.spec_script.specs.Spans.{span_len}
use Rattle.spec_script.specs.Emphasis.{byte_runs_in, joined}
use Rattle.sp_emph.specs.Joining.{joined_with}
use Rattle.sp_emph.proofs.visible.seen_runs.Given as goal

abbrev pub invariant-loop-span : goal.invariant-loop-span
invariant-loop-span l = record {
  left : sum_by span_len (drop l.span-index l.kept) ≤ length l.rest;
  added : joined_with l.runs (byte_runs_in (drop l.span-index l.kept) l.rest) ≡ joined (byte_runs_in l.kept l.looks);
}
