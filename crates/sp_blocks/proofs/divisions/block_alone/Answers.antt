use Rattle.std.proofs.Common.{sym, ap, ◌∙◌}
use Rattle.std.proofs.lemmas.Result.{IfOk-weaker}
use Rattle.spec_script.specs.declared.Kind.TheVariants as kinds
use Rattle.spec_script.specs.Left.{text_block}
use Rattle.sp_blocks.proofs.Groups.{alone-heading, alone-transition, alone-group}
use Rattle.sp_blocks.proofs.divisions.block_alone.Goals as goal

pub returns-then-is_heading : goal.returns-then-is_heading
returns-then-is_heading c =
    let line = c.index-lines-0.result in
    let opens = sym c.is_heading.ensures ∙ c.if-is_heading.true in
    IfOk-weaker c.heading.result _ _ (λ b made. alone-heading c.args.lines.now line b c.requires c.index-lines-0.is opens made) c.heading.ensures

pub returns-then-is_transition : goal.returns-then-is_transition
returns-then-is_transition c =
    let line = c.index-lines-0.result in
    let plain = sym c.is_heading.ensures ∙ c.if-is_heading.false in
    let ends = sym c.is_transition.ensures ∙ c.if-is_transition.true in
    IfOk-weaker c.text_block.result _ _ (λ b made. alone-transition c.args.lines.now line b c.requires c.index-lines-0.is plain ends (made ∙ ap (text_block kinds.Transition line) c.whole.ensures.value)) c.text_block.ensures

pub returns-else-is_transition : goal.returns-else-is_transition
returns-else-is_transition c =
    let line = c.index-lines-0.result in
    let plain = sym c.is_heading.ensures ∙ c.if-is_heading.false in
    let goes = sym c.is_transition.ensures ∙ c.if-is_transition.false in
    IfOk-weaker c.group.result _ _ (λ b made. alone-group c.args.lines.now line b c.requires c.index-lines-0.is plain goes made) c.group.ensures
