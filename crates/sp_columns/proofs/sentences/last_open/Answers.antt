use Rattle.std.proofs.Common.{◌≡◌, ◌+◌, ◌-◌, length, get_or, ap, sym, ◌∙◌, arith}
use Rattle.std.proofs.lemmas.Bool.{eqb-false}
use Rattle.sp_columns.proofs.SentenceLaws.{ends-open}
use Rattle.sp_columns.proofs.sentences.last_open.Goals as goal

pub returns : goal.returns
returns c = λ before.
    let bytes = c.as_bytes-bytes.result.now in
    let same : bytes ≡ c.args.text.now = c.as_bytes-bytes.ensures.value in
    let some = eqb-false (length bytes) 0 (sym c.is_empty.ensures ∙ c.if-is_empty.false) in
    let whole : length bytes - 1 + 1 ≡ length c.args.text.now = omega (arith, some, ap length same) in
    ends-open c.args.text.now (length bytes - 1) (get_or bytes (length bytes - 1) 0) before c.utf8.text whole (ap (λ t. get_or t (length bytes - 1) 0) same) c.if-last-ge128.false
    (sym c.is_closing.ensures ∙ c.if-is_closing.false)
