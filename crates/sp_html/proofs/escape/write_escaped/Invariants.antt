use Rattle.std.proofs.Common.{◌≡◌, ℕ, List, ◌++◌, length}
use Rattle.std.specs.Prelude.{Ok}
use Rattle.sp_kit.specs.declared.outside.Failed.{Failed}
use Rattle.sp_kit.specs.Outside.{Writes}
use Rattle.sp_html.proofs.EscapeLaws.{written_text}
use Rattle.sp_html.proofs.escape.write_escaped.Given as goal

-- Some bytes are written, and with the rest they are all.
abbrev pub invariant-loop-at : goal.invariant-loop-at
invariant-loop-at g l =
    (done : List ℕ) × (done ++ written_text l.rest ≡ written_text l.text) × Writes {T = Unit {0}} {E = Failed} (g.O.Sink.state l.fn.sink) (g.O.Sink.state l.sink) done (Ok tt)

abbrev pub decreases-loop-at : goal.decreases-loop-at
decreases-loop-at g l = length l.rest
