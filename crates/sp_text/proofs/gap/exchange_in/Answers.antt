use Rattle.std.proofs.Common.{◌≡◌, ◌+◌, ◌-◌, drop, take, ap, ◌∙◌, arith}
use Rattle.sp_text.proofs.gap.exchange_in.Goals as goal

pub returns-clause-out : goal.returns-clause-out
returns-clause-out c =
    let a = c.args in
    c.exchange_items.ensures.items ∙ ap (λ n. take n (drop a.first a.ring.now.items)) (let same : a.first + a.stands - a.first ≡ a.stands = omega arith in same)
