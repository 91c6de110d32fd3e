-- The kept parts have no more bytes than the line, and each of their bytes has a look.
use Rattle.std.proofs.Common.{length, ap, ◌∙◌, arith}
use Rattle.spec_script.proofs.SpanLaws.{length-text_in}
use Rattle.spec_script.proofs.RunLaws.{sum_by-span_len, length-looks_of}
use Rattle.sp_emph.proofs.visible.marked_runs.Goals as goal

pub looks_of-requires : goal.looks_of-requires
looks_of-requires c =
    let line = ap length (c.deref.ensures.value ∙ c.in_ok-line.ensures) in
    let short = length-text_in c.args.text.now c.args.kept.now 0 (omega arith) c.requires.parts in
    omega arith

pub seen_runs-requires : goal.seen_runs-requires
seen_runs-requires c =
    let line = ap length (c.deref.ensures.value ∙ c.in_ok-line.ensures) in
    let looks = ap length (c.deref-2.ensures.value ∙ c.in_ok-looks.ensures) ∙ length-looks_of c.deref.result.now in
    let size = sum_by-span_len c.args.text.now c.args.kept.now 0 c.requires.parts in
    omega arith
