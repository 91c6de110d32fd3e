use Rattle.std.proofs.Common.{◌+◌, ℕ, sym, ap₂, subst, arith}
use Rattle.sp_layout.specs.Bodies.{KeyedElements, keyed_elements}
use Rattle.sp_compare.specs.BareRows.{AreLaid, AreSameAround}
use Rattle.sp_compare.proofs.AroundLaws.{outside-around}
use Rattle.sp_compare.proofs.OldRowLaws.{count-old}
use Rattle.sp_compare.proofs.both.BothTexts.exchanged.Goals as goal

pub overflow_add-old_from : goal.overflow_add-old_from
overflow_add-old_from c =
    let count = count-old (keyed_elements c.args.news.now) (keyed_elements c.args.gone.now) c.args.others c.args.at c.requires.others in
    omega (arith, count, c.requires.few, c.rows_before-same_to.ensures, c.rows.ensures)

pub invariant_of-result : goal.invariant_of-result
invariant_of-result c =
    let same_to = c.rows_before-same_to.result in
    let others = c.rows_of_others-others_from.result in
    let around = outside-around c.args.old c.args.new.now.lines (keyed_elements c.args.news.now) (keyed_elements c.args.gone.now) c.args.others c.args.at
    same_to (same_to + c.rows.result) c.rows_before-new_from.result others.0 others.1 c.requires.order c.requires.others c.requires.outside
    c.rows_before-same_to.ensures (ap₂ (λ (n m : ℕ). n + m) c.rows_before-same_to.ensures c.rows.ensures) c.rows_before-new_from.ensures
    c.rows_of_others-others_from.ensures.from c.rows_of_others-others_from.ensures.to in (
      subst (AreLaid c.args.old) (sym c.new-olds.ensures) c.requires.olds,
      c.requires.news,
      subst (λ (k : KeyedElements). AreSameAround c.args.old k.elements c.args.new.now.lines c.args.news.now.elements same_to (same_to + c.rows.result) c.rows_before-new_from.result others.0 others.1) (sym c.new-olds.ensures) around,
    )
