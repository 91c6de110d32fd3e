use Rattle.std.proofs.Common.{◌≡◌, ◌∙◌, false, sym}
use Rattle.std.specs.Prelude.{All}
use Rattle.std.proofs.lemmas.Bool.{OnFalse_from}
use Rattle.spec_labels.specs.PageRecords.{PageRecordOf, is_removed}
use Rattle.sp_locks.proofs.Removals.{none-removed}
use Rattle.sp_locks.proofs.moves.any_removed.Goals as goal

pub returns-then-displaced-le-FEW_LINES : goal.returns-then-displaced-le-FEW_LINES
returns-then-displaced-le-FEW_LINES c =
    OnFalse_from c.any_at_removed.result (All (λ (it : PageRecordOf). is_removed c.args.lines.now.lines it ≡ false) c.args.records.now) (λ none.
    none-removed c.args.lines.now.lines c.args.displaced.now c.args.records.now c.requires (sym c.any_at_removed.ensures ∙ none))
