-- A part ends where one such character ends and another begins, or at the end of the text.
use Rattle.std.proofs.Common.{◌≡◌, ◌+◌, ◌-◌, ◌<◌, ◌≤◌, ◌++◌, true, drop, length, slice_index, slice_range, sym, ap, ◌∙◌, arith}
use Rattle.unicode_segmentation.specs.Grapheme.{graphemes}
use Rattle.sp_measure.specs.Plain.{plain_length}
use Rattle.sp_measure.proofs.Plain.{graphemes-part, graphemes-last}
use Rattle.sp_measure.proofs.parts.part_end.Goals as goal

pub returns-then-last-gt0-clause-parts : goal.returns-then-last-gt0-clause-parts
returns-then-last-gt0-clause-parts c =
    let text = c.args.text.now in
    let same = c.as_bytes-bytes.ensures.value in
    let at = c.args.at in
    let end = c.loop-end.end in
    let last = c.loop-end.last in
    let order : at ≤ end - last = omega (arith, c.loop-end.invariant.order) in
    let inside : end < length text = omega (arith, c.loop-end-test.true, ap length same) in
    let before : plain_length (slice_index text (end - last)) ≡ last =
    ap (λ bytes. plain_length (slice_index bytes (end - last))) (sym same) ∙ c.loop-end.invariant.before c.if-last-gt0.true in
    let some : 0 < plain_length (slice_index text (end - last)) = omega (arith, before, c.if-last-gt0.true) in
    let to : end - last + plain_length (slice_index text (end - last)) ≡ end = omega (arith, before, c.loop-end.invariant.order) in
    let next : plain_length (slice_index text end) ≡ c.plain_length-size.result =
    ap (λ bytes. plain_length (slice_index bytes end)) (sym same) ∙ sym c.plain_length-size.ensures in
    graphemes-part text at (end - last) end c.utf8.text c.requires.start order inside some to (omega (arith, next, c.if-size-gt0.true))

pub returns-clause-parts : goal.returns-clause-parts
returns-clause-parts c =
    let text = c.args.text.now in
    let at = c.args.at in
    graphemes-last text at
    ∙ ap (λ n. graphemes true (slice_range text at n) ++ graphemes true (drop n text)) (sym (ap length c.as_bytes-bytes.ensures.value))
