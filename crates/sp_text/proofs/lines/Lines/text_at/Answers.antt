use Rattle.std.proofs.Common.{ap, sym, ◌∙◌, subst}
use Rattle.spec_text.specs.Lines.{LineState, IsClean}
use Rattle.spec_text.specs.Edits.{text_at}
use Rattle.sp_text.specs.Gap.{LinesState, lines_state, text_of}
use Rattle.sp_text.proofs.Splices.{clean-at, text_at-line}
use Rattle.sp_text.proofs.lines.Lines.text_at.Goals as goal

pub returns-clause-text : goal.returns-clause-text
returns-clause-text c =
    c.as_str.ensures.value ∙ ap (λ (l : LineState). l.text) c.behind-self.view_is ∙ sym (text_at-line c.self.inside.gap.lines c.args.place c.at.result.now c.at.ensures) ∙ ap (λ (l : LinesState). text_at l.lines c.args.place) c.self.view_is

pub returns-clause-clean : goal.returns-clause-clean
returns-clause-clean c =
    subst IsClean (sym (c.as_str.ensures.value ∙ ap (λ (l : LineState). l.text) c.behind-self.view_is)) (clean-at (text_of (lines_state c.self.inside.gap c.self.inside.next)) c.args.place c.at.result.now c.self.invariant.0 c.at.ensures)
