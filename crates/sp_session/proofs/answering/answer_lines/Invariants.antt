use Rattle.std.proofs.Common.{ℕ, ◌+◌, ◌-◌, ◌≤◌, List}
use Rattle.spec_session.specs.CommandLines.{command_count_limit}
use Rattle.spec_session.specs.Runs.{at_shelf, counts_of}
use Rattle.sp_session.proofs.HandedLaws.{Handed}
use Rattle.sp_session.proofs.SessionLaws.{Answering}
use Rattle.sp_session.proofs.answering.answer_lines.Given as goal

-- Some lines were handed out, and all of them answered; the others that there may be can be answered.
abbrev pub invariant-loop-responder : goal.invariant-loop-responder
invariant-loop-responder g l =
    (lines : List (List ℕ)) × Handed (g.I.Source.state l.fn.input) (g.I.Source.state l.input) lines l.lines
    × Answering g.R.Responder.answers (g.O.Sink.state l.fn.output) (g.O.Sink.state l.output) (at_shelf l.fn.responder (g.F.Shelf.state l.fn.shelf) (counts_of (g.S.Steps.reads l.fn.steps) (g.S.Steps.fills l.fn.steps))) (at_shelf l.responder (g.F.Shelf.state l.shelf) (counts_of (g.S.Steps.reads l.steps) (g.S.Steps.fills l.steps))) lines
    × (command_count_limit ≤ g.R.Responder.lasts l.responder + l.lines.count)

abbrev pub decreases-loop-responder : goal.decreases-loop-responder
decreases-loop-responder g l = command_count_limit - l.lines.count
