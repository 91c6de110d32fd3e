use Rattle.std.proofs.Common.{◌≡◌, rules, List, ap, sym, ◌∙◌}
use Rattle.std.specs.Prelude.{IfOk, Ok, Err}
use Rattle.std.specs.declared.result.Result.{Result}
use Rattle.spec_text.specs.Lines.{LineState, TextState, line_texts}
use Rattle.spec_script.specs.Stanzas.{blocks_from, blocks_of}
use Rattle.spec_state.specs.State.{State}
use Rattle.spec_cast.specs.Sides.{SaidOf}
use Rattle.spec_cast.specs.Said.{said_of}
use Rattle.sp_text.specs.Gap.{text_of}
use Rattle.sp_contents.proofs.SaidLaws.{walk-finds}
use Rattle.sp_contents.proofs.SceneFacts.{lie-in}
use Rattle.sp_contents.proofs.speeches.said.Goals as goal

pub said_among-requires : goal.said_among-requires
said_among-requires c =
    let same = ap (λ (it : TextState). it.lines) c.lines-lines.ensures in
    lie-in (text_of c.lines-lines.result.now) c.deref-4.result.now c.len-count.ensures.keeps
    (c.deref-4.ensures.value ∙ c.in_ok-blocks.ensures ∙ ap (blocks_from 0) c.stanzas.ensures ∙ ap (λ (those : List LineState). blocks_of (line_texts those)) (sym same))

-- What was made by the walks is what they find.
if-found : {T E : Type 0} (r : Result T E) (items : T → List SaidOf) (state : State) (those : List SaidOf) → those ≡ said_of state → IfOk r (λ it. items it ≡ those) → IfOk r (λ it. items it ≡ said_of state)
if-found (Ok x) items state those finds it = it ∙ finds
if-found (Err e) items state those finds it = tt

pub returns : goal.returns
returns c = if-found c.said_among.result (λ said. said.items) c.args.view.now _ (walk-finds c.args.view.now c.body_sheets-sheets.ensures.whole) (search rules)
