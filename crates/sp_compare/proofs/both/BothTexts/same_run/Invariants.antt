use Rattle.std.proofs.Common.{◌≡◌, ◌+◌}
use Rattle.spec_state.specs.SameRows.{same_list}
use Rattle.sp_compare.specs.BareRows.{bare_rows}
use Rattle.sp_compare.proofs.both.BothTexts.same_run.Given as goal

abbrev pub invariant-loop-k : goal.invariant-loop-k
invariant-loop-k l =
    same_list (bare_rows l.self.old l.self.olds (l.from + l.k) (l.from + l.count)) (bare_rows l.self.new l.self.news (l.start + l.k) (l.start + l.count))
    ≡ same_list (bare_rows l.self.old l.self.olds l.from (l.from + l.count)) (bare_rows l.self.new l.self.news l.start (l.start + l.count))
