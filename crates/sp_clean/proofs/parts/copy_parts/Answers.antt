use Rattle.std.proofs.Common.{◌∙◌, refl, arith}
use Rattle.spec_text.proofs.PartsLaws.{Parts-Lies}
use Rattle.spec_script.proofs.SpanLaws.{length-text_in}
use Rattle.sp_clean.proofs.Copies.{copied-more}
use Rattle.sp_clean.proofs.parts.copy_parts.Goals as goal

pub loop-span-init : goal.loop-span-init
loop-span-init c =
    let long = c.requires.long in
    let fits = length-text_in c.args.text.now c.args.kept.now 0 (omega arith) c.requires.kept in
    record { full = omega arith; fits = omega arith; copied = refl }

pub part_of-requires : goal.part_of-requires
part_of-requires c = Parts-Lies _ _ _ _ c.requires.kept c.loop-span-test.true

pub loop-span-preserved : goal.loop-span-preserved
loop-span-preserved c =
    copied-more _ _ _ _ _ _ _ _ c.loop-span.invariant c.loop-span-test.true (c.as_bytes-part.ensures.value ∙ c.part_of.ensures) c.copy_from_slice.ensures.after
