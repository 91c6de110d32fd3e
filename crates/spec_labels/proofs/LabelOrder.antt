-- The order of labels is a strict total order.
use Rattle.std.proofs.Common.{◌≡◌, ◌⊎◌, inl, inr, ap, sym, ◌∙◌, nat_cmp, Ordering, Less, Equal, Greater}
use Rattle.std.specs.Cmp.{IsTotalOrder}
use Rattle.std.specs.Cmp.Lexicographic.{slice_cmp}
use Rattle.std.specs.Ordering.{ordering_then, ordering_reverse}
use Rattle.std.proofs.lemmas.Cmp.{then_total, on_total, nat_cmp_total, nat_list_cmp_total, tied_itself}
use Rattle.std.proofs.lemmas.Map.Lookups.{exact_unsigned, exact_bytes}
use Rattle.spec_labels.specs.Labels.{LabelOf, label_cmp, Below}

-- What std asks of an order.
pub label_cmp_total : IsTotalOrder label_cmp
label_cmp_total = then_total (on_total (λ (it : LabelOf). it.number) nat_cmp_total) (on_total (λ (it : LabelOf). it.path) nat_list_cmp_total)

-- Two orders one after the other tell nothing apart only where neither does.
both_equal : (first second : Ordering) → ordering_then first second ≡ Equal → (first ≡ Equal) × (second ≡ Equal)
both_equal Less second h = cc
both_equal Equal second h = (refl-of Equal, h)
  where
    refl-of : (o : Ordering) → o ≡ o
    refl-of o = λ i. o
both_equal Greater second h = cc

-- Labels of the same number and path are the same.
pub same-label : (one other : LabelOf) → one.number ≡ other.number → one.path ≡ other.path → one ≡ other
same-label one other number path = λ i. record { number = number i; path = path i }

-- Labels that the order doesn't tell apart are the same.
pub label_cmp-Equal : (one other : LabelOf) → label_cmp one other ≡ Equal → one ≡ other
label_cmp-Equal one other h =
    let (number, path) = both_equal (nat_cmp one.number other.number) (slice_cmp nat_cmp one.path other.path) h in
    same-label one other (exact_unsigned one.number other.number number) (exact_bytes one.path other.path path)

-- No label is below itself.
pub Below-irreflexive : (it : LabelOf) → Below it it → ⊥
Below-irreflexive it below = let e : Equal ≡ Less = sym (tied_itself label_cmp_total it) ∙ below.less in cc

pub Below-transitive : {low middle high : LabelOf} → Below low middle → Below middle high → Below low high
Below-transitive {low} {middle} {high} first second = record { less = label_cmp_total.trans low middle high first.less second.less }

-- Of two labels one is below the other, and not the other way round.
pub Below-asymmetric : {low high : LabelOf} → Below low high → Below high low → ⊥
Below-asymmetric {low} {high} first second = Below-irreflexive low (Below-transitive first second)

-- Of two labels one is below the other, or they are the same.
pub Below-total : (one other : LabelOf) → Below one other ⊎ (one ≡ other) ⊎ Below other one
Below-total one other = by (label_cmp one other) (λ i. label_cmp one other)
  where
    by : (o : Ordering) → label_cmp one other ≡ o → Below one other ⊎ (one ≡ other) ⊎ Below other one
    by Less h = inl (record { less = h })
    by Equal h = inr (inl (label_cmp-Equal one other h))
    by Greater h = inr (inr (record { less = label_cmp_total.antisymm other one ∙ ap ordering_reverse h }))
