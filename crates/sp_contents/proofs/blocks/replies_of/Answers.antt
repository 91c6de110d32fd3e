use Rattle.std.proofs.Common.{◌++◌, List, sym, ap, ◌∙◌, arith}
use Rattle.std.proofs.lemmas.List.{append-nil, drop_all}
use Rattle.spec_text.specs.Lines.{line_texts}
use Rattle.spec_script.specs.Stanzas.{PlacedBlock}
use Rattle.sp_contents.proofs.Paired.{replies_behind, paired-replies}
use Rattle.sp_contents.proofs.blocks.replies_of.Goals as goal

pub returns : goal.returns
returns c =
    let texts = line_texts c.args.lines.now.lines in
    let blocks = c.args.blocks.now in
    let replies = c.loop-placed.replies.items in
    let none = drop_all c.loop-placed.placed-index blocks (omega arith) in
    sym (append-nil replies)
    ∙ sym (ap (λ (left : List PlacedBlock). replies ++ replies_behind texts c.loop-placed.opened left) none)
    ∙ c.loop-placed.invariant
    ∙ sym (paired-replies texts blocks)
