use Rattle.std.proofs.Common.{◌≡◌, suc, ◌+◌, length, ap, ◌∙◌, arith}
use Rattle.std.proofs.lemmas.Grind.{common_steps}
use Rattle.spec_pages.specs.declared.Shape.{Shape}
use Rattle.spec_sheets.specs.PageRows.{height_above, page_height}
use Rattle.sp_print.proofs.SlotLaws.{height-first, height-next, height_from}
use Rattle.sp_print.proofs.slots.page_height.Goals as goal

pub loop-row-init : goal.loop-row-init
loop-row-init c =
    let first = c.in-Some.first in
    let later = c.next.new.self in
    let all : page_height c.args.rows ≡ height_above first + 1 + height_from first.shape later = ap page_height c.in-Some.ensures ∙ height-first first later in
    let from : height_from c.shape-last.result later ≡ height_from first.shape later = ap (λ (s : Shape). height_from s later) c.shape-last.ensures in
    let size : length c.args.rows ≡ suc (length later) = ap length c.in-Some.ensures in
    record { count = omega (arith, all, from, c.height_above-count.ensures.value); low = omega (arith, size, c.requires, c.height_above-count.ensures.bound) }

pub loop-row-preserved : goal.loop-row-preserved
loop-row-preserved c = grind (arith, common_steps, height-next)
