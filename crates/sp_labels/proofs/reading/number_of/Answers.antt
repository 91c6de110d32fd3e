use Rattle.std.proofs.Common.{◌+◌, ◌*◌, ◌<◌, Some, None, cond, ap, sym, arith}
use Rattle.std.specs.Str.Parse.{digits_value}
use Rattle.std.proofs.lemmas.Str.Parse.{digit_at}
use Rattle.sp_labels.proofs.Digits.{value-step, value-past}
use Rattle.sp_labels.proofs.reading.number_of.Goals as goal

pub overflow_sub-digit : goal.overflow_sub-digit
overflow_sub-digit c = (digit_at c.args.digits.now c.loop-digit.digit-index c.requires c.loop-digit-test.true).0

pub returns-then-number-from : goal.returns-then-number-from
returns-then-number-from c =
    let past : c.args.limit < c.loop-digit.number * 10 + c.from.result = omega arith in
    let sofar = value-step c.from.result c.from.ensures c.requires c.loop-digit-test.true c.loop-digit.invariant.value in
    ap (λ b. cond b (Some (digits_value 10 c.args.digits.now)) None) (sym (value-past c.args.limit sofar past))

pub loop-digit-preserved : goal.loop-digit-preserved
loop-digit-preserved c = record {
  low = omega arith;
  value = value-step c.from.result c.from.ensures c.requires c.loop-digit-test.true c.loop-digit.invariant.value;
}
