use Rattle.std.proofs.Common.{ap, sym, ◌∙◌}
use Rattle.spec_state.specs.State.{State}
use Rattle.spec_state.specs.Keeping.{state_of}
use Rattle.spec_state.specs.StateSheets.{locked_starts, rows_in}
use Rattle.sp_text.specs.Gap.{text_of}
use Rattle.sp_sheets.specs.Firsts.{first_rows}
use Rattle.sp_sheets.specs.Made.{MadeOf}
use Rattle.sp_sheets.proofs.MadePages.{locked-keys, shows-same}
use Rattle.sp_sheets.proofs.made.made_starts.Goals as goal

pub laid_firsts-requires-clause-laid : goal.laid_firsts-requires-clause-laid
laid_firsts-requires-clause-laid c = ap (λ (m : MadeOf). m.layout) c.made.view_is ∙ c.requires.made.layout

pub returns : goal.returns
returns c =
    let state : State = state_of (text_of c.args.lines.now) c.args.records.now in
    shows-same (λ starts. starts.items) c.laid_firsts.result (first_rows state) (locked_starts state.lines (rows_in state) state.pages) (sym (locked-keys state state.pages)) c.laid_firsts.ensures
